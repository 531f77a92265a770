-- What the functions that put projections say, bottom up.
pub mod Lists
pub mod Tops
