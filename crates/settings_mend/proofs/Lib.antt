-- What the proofs share.
-- MendLaws: what is put right where it lies is the mended image; and how many bytes can have changed.
pub mod MendLaws
