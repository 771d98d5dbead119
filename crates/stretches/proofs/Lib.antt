pub mod Readings
pub mod Entries
pub mod Parts
pub mod Mdri
pub mod Seeking
pub mod Rights
