pub mod Range
pub mod Count
pub mod Fitting
