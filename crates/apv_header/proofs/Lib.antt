pub mod FrameWalks
pub mod LengthLemmas
pub mod SpellLemmas
pub mod WriteLemmas
pub mod NumbersLemmas
pub mod TileHeaderLemmas
pub mod TileLemmas
pub mod TileWriteLemmas
mod FieldLemmas
mod HeaderLemmas
mod InfoLemmas
mod PartLemmas
mod MatrixLemmas
