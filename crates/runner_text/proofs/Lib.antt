-- What the proofs share, the lowest first.
-- LineLaws: the sizes of lines, and that their pieces join.
pub mod LineLaws
