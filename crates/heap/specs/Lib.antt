pub mod Order
pub mod Tracking
pub mod Pushing
pub mod Taking
pub mod Lowering
pub mod Sifting
