pub mod FrontLemmas
pub mod PutLemmas
pub mod ShownLemmas
