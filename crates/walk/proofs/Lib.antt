pub mod Boxing
pub mod Holding
pub mod Bounds
pub mod Counts
pub mod Fresh
pub mod Known
pub mod Numbers
pub mod Steps
