pub mod DecodeLemmas
pub mod ReadingLemmas
pub mod WritingLemmas
