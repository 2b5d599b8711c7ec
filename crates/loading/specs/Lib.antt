-- to be read in this order
pub mod Contents
pub mod Meanings
pub mod Loading
pub mod Faults
