pub mod Keeping
pub mod Walking
