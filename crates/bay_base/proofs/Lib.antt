pub mod DecimalLemmas
pub mod ListLemmas
pub mod NameLemmas
pub mod WordLemmas
