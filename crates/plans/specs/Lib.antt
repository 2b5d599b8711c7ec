-- to be read in this order
pub mod Plans
pub mod Logs
pub mod Verdicts
pub mod Reachable
pub mod Counting
pub mod Watched
pub mod Laws
pub mod Stacks
