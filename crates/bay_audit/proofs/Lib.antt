pub mod CaseLemmas
pub mod EarlyLemmas
pub mod ListLemmas
pub mod TruthSetLemmas
pub mod ReleaseLemmas
pub mod RuleLemmas
pub mod SearchLemmas
pub mod ToldLemmas
