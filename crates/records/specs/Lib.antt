pub mod Records
pub mod Refusals
pub mod Market
pub mod Answer
pub mod inner
