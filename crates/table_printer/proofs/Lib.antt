pub mod LayoutFacts
pub mod TableFacts
pub mod InColumn
mod HeadingFacts
pub mod OpenFacts
pub mod FrontFacts
mod GrowingFacts
pub mod PrintingFacts
mod TextFacts
