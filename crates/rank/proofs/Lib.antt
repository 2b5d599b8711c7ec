mod Entries
mod Taking
mod Orders
mod Unique
mod Rankings
