pub mod Help
pub mod Messages
pub mod Parts
pub mod Reasons
pub mod Replies
