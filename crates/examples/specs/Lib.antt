-- to be read in this order
pub mod Samples
pub mod Worked
