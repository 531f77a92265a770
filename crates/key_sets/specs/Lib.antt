-- Keys as sets in a lent array.
pub mod Slots
