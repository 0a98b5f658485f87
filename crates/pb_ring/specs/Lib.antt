pub mod AddressSets
pub mod Gap
pub mod Las
pub mod SameWords
pub mod Words
pub mod LasList
pub mod Laws
pub mod Worked
