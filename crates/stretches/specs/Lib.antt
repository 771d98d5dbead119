pub mod Given
pub mod Content
pub mod Header
pub mod Rights
