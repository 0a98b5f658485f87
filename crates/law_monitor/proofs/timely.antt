pub mod Folds
pub mod Alike
pub mod Spoken
pub mod Runs
pub mod Fillers
