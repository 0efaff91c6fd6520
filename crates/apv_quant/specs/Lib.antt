pub mod Laws
pub mod Quotient
pub mod Reaching
pub mod Scale
