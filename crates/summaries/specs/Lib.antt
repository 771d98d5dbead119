pub mod Contained
pub mod Parts
