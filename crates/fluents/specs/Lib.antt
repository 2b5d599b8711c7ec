pub mod Fluents
pub mod SetRecords
