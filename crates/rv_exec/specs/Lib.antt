pub mod Effects
pub mod Faults
pub mod Registers
pub mod Words
pub mod Meaning
pub use Rattle.rv_decode.specs.Table
