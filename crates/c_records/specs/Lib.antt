-- What is right, in reading order; each definition of a rule names its sentence of document 01.
-- OneNumber: one number comes back.
pub mod OneNumber
-- Stored: an answer beside the area that something was to be stored into.
pub mod Stored
-- Records: a session as bytes, and bytes as a session.
pub mod Records
-- Boundary: what each function leaves.
pub mod Boundary
-- FieldsArea: the contents of a settings image as bytes, and bytes as contents.
pub mod FieldsArea
-- SettingsFromC: what the settings reader, the writer and the moves leave.
pub mod SettingsFromC
-- LargeFromC: the same of the larger part.
pub mod LargeFromC
-- MendFromC: what mending a settings image leaves.
pub mod MendFromC
