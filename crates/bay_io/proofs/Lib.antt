pub mod AskedLemmas
pub mod MomentLemmas
pub mod ReadLemmas
pub mod SentLemmas
