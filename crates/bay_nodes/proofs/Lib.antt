pub mod NodeLemmas
pub mod NumberLemmas
pub mod PathLemmas
pub mod SmallBay
pub mod TreeLemmas
