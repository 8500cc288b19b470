-- What is right, in reading order; each definition of a rule names its sentence of document 01.
-- Held: the two sizes of settings, and what an image holds.
pub mod Held
-- Values: the values that are allowed, and the contents of a blank image.
pub mod Values
-- Layout: the offsets and the table of each form, from the lengths of its bodies.
pub mod Layout
-- Forms: the numbers that name a form.
pub mod Forms
-- Table: the tables line by line, which the layouts give.
pub mod Table
-- Entries: which entry of an image differs from the table.
pub mod Entries
-- Bodies: the bodies of some contents, and what the bodies of an image say.
pub mod Bodies
-- Sound: what is used of a layout, and that each has it.
pub mod Sound
-- Fields: the six bodies by themselves, as a record keeps them.
pub mod Fields
-- Kept: what a session keeps of the settings, and as which bytes.
pub mod Kept
-- Image: the image of some contents.
pub mod Image
-- Answers: 01's number for each answer.
pub mod Answers
-- Reader: which image is refused, and what an accepted one says.
pub mod Reader
-- Layouts: what is found of an image in any of the layouts, and what is written in it.
pub mod Layouts
-- Writer: what is written, and where.
pub mod Writer
-- Moves: from one form to the other.
pub mod Moves
