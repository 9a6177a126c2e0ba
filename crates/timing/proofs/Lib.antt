pub mod Curves
pub mod Dues
pub mod Goods
pub mod Ranges
pub mod Rows
pub mod Whens
