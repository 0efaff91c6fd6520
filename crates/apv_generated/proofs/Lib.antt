pub mod ListLemmas
pub mod SampleLemmas
mod ByteLemmas
