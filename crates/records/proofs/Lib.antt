pub mod Entries
pub mod Pairs
pub mod Rules
pub mod Allowed
pub mod Written
