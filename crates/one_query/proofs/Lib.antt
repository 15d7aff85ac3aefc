pub mod Operands
pub mod OperandsInFile
pub mod Values
