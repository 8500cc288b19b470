-- Parts: the numbers of a part, and what they must be for the theorems.
pub mod Parts
