-- The theorems, in reading order.
-- Settings: the settings image and its fields: read and written by one rule.
pub mod Settings
-- Answers: each promise has one answer only.
pub mod Answers
-- Sessions: what holds of every start, call, record and script.
pub mod Sessions
-- Secrecy: demand 3: two boards that nobody without a password can tell apart.
pub mod Secrecy
-- Trials: demand 3 speaks of boards and sessions that there are.
pub mod Trials
