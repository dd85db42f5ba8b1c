pub mod Known
pub mod Stack
pub mod Slots
pub mod Reading
pub mod Room
pub mod Standing
