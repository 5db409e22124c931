pub mod Bit
pub mod Order
pub mod Near
pub mod Merges
pub mod Stops
