-- What is claimed of the definitions of the crates below, in words that a theorem can cite.
-- Held: which values a struct of the code can hold.
pub mod Held
-- MadeScript: a script made of entries, and the entries of a script.
pub mod MadeScript
-- TwoBoards: demand 3, sentence by sentence.
pub mod TwoBoards
-- TwoBoardsFromC: the same, as C sees it.
pub mod TwoBoardsFromC
-- Visits: the same for a person who chooses each wait and packet by the replies so far.
pub mod Visits
-- VerifyLimit: Verify with the test that it had.
pub mod VerifyLimit
-- Trials: boards and packets on which it is tried.
pub mod Trials
-- MendedSettings: what a mended image says.
pub mod MendedSettings
