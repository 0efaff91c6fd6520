pub mod Laws
pub mod Buffer
pub mod Strip
pub mod Pad
pub mod Piece
