mod Logging
mod Places
mod Running
