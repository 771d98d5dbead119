pub mod Laws
pub mod Filling
pub mod Accepted
