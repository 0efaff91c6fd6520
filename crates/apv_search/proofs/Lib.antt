mod SearchLemmas
mod SizeLemmas
mod SkippedLemmas
