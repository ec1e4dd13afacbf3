pub mod Fits
pub mod LoadLemmas
