pub mod Lone
pub mod Here
pub mod Judged
pub mod Told
pub mod Uniform
pub mod NoneRaised
pub mod OneByOne
