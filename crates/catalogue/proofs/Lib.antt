-- What is proved of the readers of a catalogue.
pub mod Names
pub mod Keys
