pub mod Nodes
pub mod WaitingLists
pub mod Reaching
pub mod Paths
pub mod Settling
pub mod Exploring
pub mod Writing
pub mod Answering
mod Cheapest
