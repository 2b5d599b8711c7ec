-- to be read in this order
pub mod Rows
pub mod Index
