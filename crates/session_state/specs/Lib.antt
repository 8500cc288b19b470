-- What is right, in reading order; each definition of a rule names its sentence of document 01.
-- Phases: how a session stands at start, and which standings are valid.
pub mod Phases
-- Rates: the rates of the line, by their ids.
pub mod Rates
-- Waits: how time passes; each definition of a rule names its sentence of document 01.
pub mod Waits
