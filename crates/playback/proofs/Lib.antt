pub mod Runs
pub mod Showings
