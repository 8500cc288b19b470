-- HexLaws: one byte more is printed.
pub mod HexLaws
