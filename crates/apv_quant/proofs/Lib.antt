mod LawLemmas
mod NearestLemmas
mod ReachingLemmas
mod ScaledLemmas
mod ShortLemmas
pub mod SomeLevelLemmas
mod StepLemmas
