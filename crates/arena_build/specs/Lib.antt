pub mod Build
pub mod Lists
