-- What the proofs share, the lowest first.
-- RecordLaws: what a valid record is, clause by clause.
pub mod RecordLaws
-- StartLaws: what holds of every start.
pub mod StartLaws
-- ToldLaws: what was done is told whole.
pub mod ToldLaws
-- CallLaws: what holds of every call.
pub mod CallLaws
