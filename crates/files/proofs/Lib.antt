pub mod Fields
pub mod Numerals
pub mod Outcomes
pub mod ReadSteps
pub mod Records
pub mod Typed
pub mod WholeFiles
pub mod WriteSteps
