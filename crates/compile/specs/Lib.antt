-- to be read in this order
pub mod Compiled
pub mod Faults
pub mod Questions
pub mod Accepting
pub mod Outcome
pub mod Law
