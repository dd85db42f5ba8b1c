pub mod FieldReading
pub mod Decoding
