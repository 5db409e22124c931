pub mod Filled
pub mod Seating
pub mod Sizes
pub mod Worths
pub mod Joints
pub mod Settled
