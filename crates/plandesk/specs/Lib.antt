-- What the program promises of its state.
pub mod Session
