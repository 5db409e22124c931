pub mod Outcome
pub mod Promise
pub mod Starred
pub mod inner
