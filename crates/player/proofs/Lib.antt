pub mod Laws
pub mod Calls
pub mod Sizes
pub mod Worked
