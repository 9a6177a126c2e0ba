pub mod Frame
pub mod Good
pub mod Row
pub mod Scan
