pub mod Pbu
pub mod Pbus
pub mod GivesPbu
pub mod Reach
pub mod AuInfo
pub mod Strict
