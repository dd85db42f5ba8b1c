pub mod EachPush
pub mod Alike
