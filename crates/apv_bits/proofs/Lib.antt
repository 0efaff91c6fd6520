mod ByteLemmas
pub mod FieldLemmas
pub mod PackedLemmas
pub mod ReaderLemmas
pub mod WindowLemmas
pub mod WriterLemmas
