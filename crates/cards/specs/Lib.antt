-- to be read in this order
pub mod Limits
pub mod ActionRecords
pub mod Conversions
pub mod Contents
pub mod Cards
pub mod CardFiles
pub mod Laws
