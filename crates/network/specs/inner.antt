pub mod Positions
pub mod Feeders
pub mod Laid
pub mod Sets
pub mod Parts
pub mod Walks
