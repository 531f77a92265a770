-- A plan that can be walked, and the rewritten plan on its way to the output.
pub mod Delivery
