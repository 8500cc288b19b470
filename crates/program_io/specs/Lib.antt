-- Hex: bytes as the programs print them.
pub mod Hex
