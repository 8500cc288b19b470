-- What is right, in reading order; each definition of a rule names its sentence of document 01.
-- Judgement: what is decided of a packet.
pub mod Judgement
-- Unlocking: what a right and what a wrong password do.
pub mod Unlocking
-- Obeying: the commands, locked and unlocked.
pub mod Obeying
-- Hearing: waits, the empty packet, detect, and the acknowledgement.
pub mod Hearing
-- Tries: which packets are a wrong password.
pub mod Tries
