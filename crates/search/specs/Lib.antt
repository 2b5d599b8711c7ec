-- to be read in this order: what a search promises, and then how it goes on
pub mod Faults
pub mod Answers
pub mod Entries
pub mod Ways
pub mod Searching
pub mod Solved
