pub mod Entry
pub mod Frame
pub mod Gives
pub mod Refusal
pub mod Ring
pub mod Script
