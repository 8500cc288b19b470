-- What is right, in reading order; each definition of a rule names its sentence of document 01.
-- StartAnswers: 01's number for each answer, and what goes with it.
pub mod StartAnswers
-- Starting: which boards start, and in which session.
pub mod Starting
-- Records: which session records are valid.
pub mod Records
-- CallAnswers: 01's number for each answer, and what goes with it.
pub mod CallAnswers
-- Calling: what a call leaves.
pub mod Calling
