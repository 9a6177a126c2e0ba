pub mod Least
pub mod Rule
pub mod Tight
pub mod Verdict
pub mod Worked
