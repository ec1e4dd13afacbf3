pub mod JobLemmas
pub mod OptionLemmas
