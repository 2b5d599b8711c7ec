pub mod Held
pub mod Noting
