-- AnsweringLaws: what silent commands get, that silence sends nothing, and that every answer fits.
pub mod AnsweringLaws
