-- The checksum of document 01, in reading order.
-- Checksum: the rule, bit by bit.
pub mod Checksum
-- Marked: the checksums that 01 marks, and the one claim over them.
pub mod Marked
-- Inside: what the private functions say of their tables and lanes; no public promise needs it.
pub mod Inside
