-- What the proofs share, the lowest first.
-- PlaceLaws: lists changed place by place, and runs of places.
pub mod PlaceLaws
-- ProtectionLaws: every change keeps protected places.
pub mod ProtectionLaws
-- KeptLaws: the first protected place of a run, and the sectors of a range.
pub mod KeptLaws
-- ErasingLaws: what an erase leaves.
pub mod ErasingLaws
-- ProgrammingLaws: what a program leaves, for sectors of any size and any protection bytes.
pub mod ProgrammingLaws
-- WordLaws: words that are looked at byte by byte, and what a program leaves where all are blank.
pub mod WordLaws
-- RegionLaws: what an answer of the range check says of the range, and how many bytes a range has.
pub mod RegionLaws
