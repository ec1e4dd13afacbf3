pub mod CuttingLemmas
pub mod FeedingLemmas
pub mod HearingLemmas
pub mod GoingLemmas
