pub mod CostsToGo
pub mod Lines
pub mod Listed
