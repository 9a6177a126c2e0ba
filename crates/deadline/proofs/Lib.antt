pub mod Bounds
pub mod Computed
pub mod Exacts
pub mod Judged
pub mod Lates
