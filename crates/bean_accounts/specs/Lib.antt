pub mod Currencies
pub mod Life
pub mod Method
pub mod Methods
pub mod Faults
pub mod Kept
pub mod Log
