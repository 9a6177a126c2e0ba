pub mod Checks
pub mod Halves
pub mod Places
pub mod Ticks
pub mod Turns
