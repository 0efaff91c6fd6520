pub mod ViewLists
pub mod Prefixes
pub mod Many
pub mod Reading
pub mod Untold
