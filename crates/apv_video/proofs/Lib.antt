mod TextLemmas
mod SampleLemmas
mod WriteLemmas
mod TokenLemmas
mod HeaderLemmas
mod ReadLemmas
mod FrameLineLemmas
mod FrameLemmas
