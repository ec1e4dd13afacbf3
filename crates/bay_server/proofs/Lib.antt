pub mod ChangeLemmas
pub mod ClockLemmas
pub mod CycleLemmas
pub mod LineCountLemmas
pub mod LogLemmas
pub mod ServeLemmas
pub mod TurnLemmas
