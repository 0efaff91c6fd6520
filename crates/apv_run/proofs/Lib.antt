pub mod KnownLemmas
pub mod WrittenLemmas
pub mod SlotLemmas
pub mod ViewLemmas
pub mod OpenLemmas
pub mod CauseLemmas
pub mod ToldLemmas
pub mod ThreeSlotsLemmas
