pub mod ParamRules
pub mod ParamViews
pub mod ParamWords
pub mod Timers
