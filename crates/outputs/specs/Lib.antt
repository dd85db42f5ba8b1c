pub mod Refusals
pub mod Output
pub mod Pieces
pub mod Holding
pub mod ShortWriter
pub mod Stream
