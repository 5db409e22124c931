pub mod Agree
pub mod Solved
pub mod Refused
pub mod One
pub mod Allowed
pub mod Fractions
pub mod Starred
pub mod Shams
