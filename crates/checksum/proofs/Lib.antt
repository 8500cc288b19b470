-- What the proofs share, the lowest first.
-- Xor: exclusive or of numbers.
pub mod Xor
-- Steps: so many bits of the checksum.
pub mod Steps
-- Laws: what a caller may use of the checksum.
pub mod Laws
-- Parts: bytes in a loop, and bytes as a number.
pub mod Parts
-- Chunks: a table of rows, and bytes as arrays of four and of eight.
pub mod Chunks
-- Sparse: four bits for one.
pub mod Sparse
-- Queue: lanes that wait for their bytes.
pub mod Queue
