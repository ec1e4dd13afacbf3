pub mod AssemblyLemmas
pub mod FeedingLemmas
pub mod FrameLemmas
pub mod ParameterLemmas
pub mod RequestLemmas
pub mod RunLemmas
pub mod SizeLemmas
pub mod WrapLemmas
