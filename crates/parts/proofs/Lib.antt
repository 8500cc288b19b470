-- PartLaws: each part is sound.
pub mod PartLaws
