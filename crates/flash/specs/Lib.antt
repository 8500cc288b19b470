-- What is right, in reading order; each definition of a rule names its sentence of document 01.
-- Places: a list changed place by place, and a run of places.
pub mod Places
-- Protection: which sectors are protected, what that does to every change, and the first protected place of a run.
pub mod Protection
-- Regions: the sizes of MAIN, which region holds a range, and whether a place of it is protected.
pub mod Regions
-- Memory: the two images and the SRAM window, and the bytes of a range.
pub mod Memory
-- Erasing: what an erase leaves.
pub mod Erasing
-- Programming: what a program leaves; its definition names the sentence of document 01.
pub mod Programming
-- Words: whether a word of a range is written already.
pub mod Words
