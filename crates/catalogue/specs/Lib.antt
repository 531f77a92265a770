-- What the readers of a catalogue answer and store.
pub mod Tables
pub mod Keys
