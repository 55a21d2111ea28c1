pub mod Mirror
pub mod Rules
