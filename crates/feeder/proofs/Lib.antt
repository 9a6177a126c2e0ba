pub mod Frames
pub mod Laws
pub mod Lents
pub mod Moves
pub mod Plans
pub mod Reach
pub mod Worst
