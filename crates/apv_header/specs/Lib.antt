pub mod Read
pub mod Tiles
pub mod Words
pub mod Walks
pub mod Fields
pub mod Info
pub mod Parts
