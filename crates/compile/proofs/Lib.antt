mod Accepting
mod CardLimits
mod Costs
mod Counts
mod Down
mod Meeting
mod Shape
pub mod Standing
mod Steps
mod Unions
mod Up
mod Values
