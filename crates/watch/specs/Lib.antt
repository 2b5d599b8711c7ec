-- to be read in this order: what a watch keeps, what a call answers, what a run of calls comes to, and how one call carries it on
pub mod Kept
pub mod Faults
pub mod Calls
pub mod Book
pub mod Reports
pub mod Reporting
pub mod Runs
pub mod Lists
