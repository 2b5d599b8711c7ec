pub mod Laws
pub mod Listing
pub mod Reporting
pub mod Stepping
