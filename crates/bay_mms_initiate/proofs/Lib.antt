pub mod AgreedLemmas
pub mod InitiateLemmas
