pub mod Unique
pub mod Certificate
