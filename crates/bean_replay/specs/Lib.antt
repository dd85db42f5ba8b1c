pub mod Method
pub mod Draft
pub mod Stand
pub mod Watched
pub mod Booker
pub mod Booked
pub mod BookCause
pub mod Small
mod Written
