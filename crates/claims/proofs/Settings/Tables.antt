-- The table of a settings image.
-- Pairs: numbers of two bytes each.
pub mod Pairs
-- TableRule: a table that was put is found, and one that is found was put.
pub mod TableRule
