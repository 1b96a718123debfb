pub mod ZeroRegisters
