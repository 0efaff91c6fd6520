mod Breaks
mod AuInfoLemmas
mod AuEntryLemmas
mod AuInfoWriteLemmas
pub mod PbusLemmas
pub mod PbusWalk
mod StrictWalk
mod StrictGroups
mod StrictRules
mod StrictLists
