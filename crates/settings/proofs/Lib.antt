-- What the proofs share, the lowest first.
-- LayoutLaws: how many entries a form has.
pub mod LayoutLaws
-- TableLaws: how long the table is.
pub mod TableLaws
-- BodyLaws: the bodies joined piece by piece, and found where an image has them.
pub mod BodyLaws
-- AgainLaws: of the settings that some fields say, the same fields are made again.
pub mod AgainLaws
-- KeptLaws: what a session keeps, read body by body.
pub mod KeptLaws
-- WriterLaws: written piece by piece, the pieces make the image.
pub mod WriterLaws
-- ReaderLaws: what the reader tells beside its number.
pub mod ReaderLaws
-- CheckLaws: what is found of an image in the layout of its form.
pub mod CheckLaws
-- PassingLaws: what an image has passed that is found to be written.
pub mod PassingLaws
-- MoveLaws: an image that is moved is what the writer would make.
pub mod MoveLaws
