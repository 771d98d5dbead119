pub mod Laws
pub mod Library
pub mod Search
