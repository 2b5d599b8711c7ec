-- to be read in this order: what a ranking promises, and then how it is made
pub mod Faults
pub mod Ranking
pub mod Standings
pub mod Order
pub mod Steps
