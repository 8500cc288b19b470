-- What is right, in reading order; each definition of a rule names its sentence of document 01.
-- Form: which scripts keep the form, and what is in them.
pub mod Form
-- Text: characters as bytes.
pub mod Text
-- Writing: the line, and what writing one leaves.
pub mod Writing
-- EndLine: the end line, as text; each definition of a rule names its sentence of document 01.
pub mod EndLine
