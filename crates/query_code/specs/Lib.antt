pub mod ByteForm
pub mod InstructionForm
pub mod TextForm
pub mod QueryFile
pub mod Listing
pub mod FileCause
pub mod Upgrade
