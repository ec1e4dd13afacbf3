pub mod CaseLemmas
pub mod CountLemmas
pub mod ReleaseLemmas
