pub mod Same
pub mod Characters
pub mod Headers
