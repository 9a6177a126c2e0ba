pub mod Keyed
pub mod Law
pub mod Rows
pub mod Said
