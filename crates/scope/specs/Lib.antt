pub mod Fill
pub mod Late
