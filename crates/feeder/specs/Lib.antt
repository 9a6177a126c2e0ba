pub mod Feed
pub mod Law
pub mod Lent
pub mod Model
pub mod Panel
pub mod Refusal
pub mod Step
