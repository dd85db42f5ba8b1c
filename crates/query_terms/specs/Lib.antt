pub mod Column
pub mod WideCount
pub mod Wide
