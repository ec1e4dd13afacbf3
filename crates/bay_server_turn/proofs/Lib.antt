pub mod OfferLemmas
pub mod PartLemmas
pub mod RecordingLemmas
pub mod RoomLemmas
pub mod StepLemmas
pub mod SupervisedLemmas
pub mod TalkLemmas
pub mod WriteLemmas
