pub mod Halves
mod TileWalk
mod Entries
mod Parts
mod Frames
mod Pieces
mod Samples
mod Coded
mod Rebuilt
mod RunParts
mod Counted
pub mod LeastLemmas
mod Written
mod PlacedLemmas
mod PutTiles
mod SomeLevelsLemmas
