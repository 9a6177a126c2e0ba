pub mod Bands
pub mod Seen
