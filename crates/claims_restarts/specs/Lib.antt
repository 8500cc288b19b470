-- T-12, the question over restarts: a person who returns, in words that a theorem can cite.
-- Moves: what such a person can do, and a history of it.
pub mod Moves
-- Cuts: what a cut of the power within the strike's erase leaves.
pub mod Cuts
-- Boards: two boards through a history, by value.
pub mod Boards
-- Returning: what is asked of boards and histories, and what is claimed.
pub mod Returning
-- FromC: the same, as C sees it.
pub mod FromC
-- Trials: boards and histories on which it is tried.
pub mod Trials
