pub mod Feeders
pub mod Lines
pub mod Tallies
