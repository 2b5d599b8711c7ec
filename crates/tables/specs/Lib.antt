-- to be read in this order
pub mod Parts
pub mod Taking
pub mod Answers
