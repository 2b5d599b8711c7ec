-- to be read in this order
pub mod Numbers
pub mod Formats
pub mod Contents
pub mod Reading
pub mod Cursors
pub mod Exact
pub mod Parts
pub mod Outcome
pub mod Writing
