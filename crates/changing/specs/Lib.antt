-- What the functions beneath the records promise; the records themselves promise what slots' Works.antt says.
pub mod Filling
pub mod Operands
