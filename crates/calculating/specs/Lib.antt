pub mod Calculate
