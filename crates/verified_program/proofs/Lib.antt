pub mod SectionLengths
