pub mod BlockLemmas
pub mod TransformLemmas
pub mod DecodeLemmas
mod LeastLemmas
pub mod WriteLemmas
