pub mod Agree
pub mod Numbered
