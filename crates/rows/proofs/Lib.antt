pub mod Prices
pub mod Gives
pub mod Lines
pub mod Turns
