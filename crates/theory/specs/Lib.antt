pub mod Form
pub mod LongestFront
pub mod Arrangement
pub mod Cut
pub mod Joined
pub mod Once
