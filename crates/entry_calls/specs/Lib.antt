pub mod Calls
pub mod Effects
pub use Rattle.rv_exec.specs.Registers
