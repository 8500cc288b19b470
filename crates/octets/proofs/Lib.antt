-- What the proofs share, the lowest first.
-- Numbers: a number and its bytes give each other back.
pub mod Numbers
-- Parts: a part of some bytes.
pub mod Parts
-- Searching: choices, the first number that passes a test.
pub mod Searching
-- Multiples: multiples of a unit.
pub mod Multiples
-- Table: one computed test over a whole table is the rule at each entry.
pub mod Table
-- AlikeLaws: what the comparisons say, byte by byte and of all.
pub mod AlikeLaws
-- StoreLaws: bytes stored from a place on, one after the other, and into a part that was lent.
pub mod StoreLaws
-- HexLaws: the text of some bytes, stored one byte after the other.
pub mod HexLaws
-- DecimalLaws: a number's digits, one by one, without the zeros before them, and read again.
pub mod DecimalLaws
