-- T-12, the question over restarts: a person who returns.
-- SameBoard: one board, lent two reply areas.
pub mod SameBoard
-- CutLaws: what a cut of the power leaves.
pub mod CutLaws
-- Twins: images that are alike, whatever became of MAIN.
pub mod Twins
-- Pairs: two boards that are alike, from move to move.
pub mod Pairs
-- Struck: the session in which the alert strikes ends.
pub mod Struck
-- Restarts: the theorems, for histories and for persons.
pub mod Restarts
-- BytesStay: the settings flash stays bytes.
pub mod BytesStay
-- RestartsFromC: the theorems as C sees them.
pub mod RestartsFromC
-- Trials: boards and histories that there are.
pub mod Trials
