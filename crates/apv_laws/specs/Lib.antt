pub mod Decoding
pub mod Fits
