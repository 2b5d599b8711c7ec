pub mod Carrying
pub mod Judging
pub mod LeastCosts
pub mod Marks
pub mod Pigeonhole
pub mod Running
pub mod Stacking
pub mod Watching
