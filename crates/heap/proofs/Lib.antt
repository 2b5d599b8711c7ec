pub mod Orders
pub mod Tracking
mod Notes
mod Fronts
mod Pushes
mod Takes
mod Lowers
