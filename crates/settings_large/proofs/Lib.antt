-- What the proofs share.
-- LargeLaws: the bodies found where an image has them, and the image made of its pieces.
pub mod LargeLaws
-- PassingLaws: what an image has passed that is found to be written.
pub mod PassingLaws
