pub mod Adds
pub mod Laid
pub mod Number
pub mod Text
