-- to be read in this order
pub mod Limits
pub mod MapRecords
pub mod Conversions
pub mod Contents
pub mod Maps
pub mod MapFiles
pub mod Laws
