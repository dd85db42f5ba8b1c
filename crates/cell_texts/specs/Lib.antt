pub mod Cell
pub mod CellText
pub mod Width
