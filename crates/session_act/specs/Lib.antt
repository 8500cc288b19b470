-- What is right, in reading order; each definition of a rule names its sentence of document 01.
-- Info: what anybody is told of the board.
pub mod Info
-- Board: what the settings let be done to a board, what an act leaves of it, and the numbers of the part.
pub mod Board
-- Orders: all that can be done to memory, and what it leaves.
pub mod Orders
-- Plans: an answer, and the order that goes with it.
pub mod Plans
-- Erasing: Range erase, Mass erase, Factory reset, and the alert's reset.
pub mod Erasing
-- Programming: Program and its silent twin.
pub mod Programming
-- Showing: Read back and Verify.
pub mod Showing
-- Acting: all of them, by what was decided; and the plan carried out.
pub mod Acting
