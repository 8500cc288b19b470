-- What the proofs share, the lowest first.
-- RecordLaws: stored piece by piece, the pieces make a record.
pub mod RecordLaws
-- RecordAgain: of the session that an area says, the same bytes are made again.
pub mod RecordAgain
-- FieldsLaws: stored piece by piece, the pieces make the fields of a settings image.
pub mod FieldsLaws
-- CountsLaws: the counts of a mended image stored, beside the answers of the tool.
pub mod CountsLaws
-- ServedLaws: what the session's call leaves, told to C.
pub mod ServedLaws
