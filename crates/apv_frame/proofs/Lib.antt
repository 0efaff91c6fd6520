pub mod ReadLemmas
mod UnitLemmas
pub mod PictureLemmas
pub mod CodedLemmas
mod FillLemmas
