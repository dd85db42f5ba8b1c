pub mod Reading
pub mod Putting
pub mod Source
pub mod Shelf
pub mod Files
pub mod MemoryStore
