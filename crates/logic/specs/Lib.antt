pub mod Logic
pub mod Laws
