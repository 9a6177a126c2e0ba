pub mod Cuts
pub mod Found
pub mod Lines
pub mod Numerals
pub mod Printed
pub mod Table
