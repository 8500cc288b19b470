-- What is right, in reading order; each definition of a rule names its sentence of T-11.
-- Examining: which images are refused, which are left as they are, and which are damaged.
pub mod Examining
-- Mending: what a damaged image becomes, and how many bytes that changes.
pub mod Mending
