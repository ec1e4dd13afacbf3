pub mod BackingLemmas
pub mod LeadsLemmas
pub mod SelectionLemmas
