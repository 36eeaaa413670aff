-- The laws of fields, each file after those it leans on: numbers, and their signs; what is read of the fields behind a field.
pub mod Numbers
pub mod Behind
pub mod SoFar
pub mod Signs
