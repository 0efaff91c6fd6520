pub mod Laws
pub mod Lanes
pub mod Line
pub mod Pass
pub mod Sample
