-- The settings image and its fields: read and written by one rule.
-- Tables: the table of an image.
pub mod Tables
-- Bodies: the bodies of some settings, read and made again.
pub mod Bodies
-- FieldsRule: the fields of some settings are read and made by one rule.
pub mod FieldsRule
-- KeptRule: what a session keeps is read and made by one rule, on either part.
pub mod KeptRule
-- Written: a written image, part by part.
pub mod Written
-- Accepted: an accepted image, part by part.
pub mod Accepted
-- SettingsRule: the settings image is read and written by one rule.
pub mod SettingsRule
-- HeldSettings: settings that are read of bytes can be held.
pub mod HeldSettings
-- MovesRule: from one form to the other, and back.
pub mod MovesRule
-- BothForms: boards start from both forms.
pub mod BothForms
-- AreaRule: the fields area of C is read and made by one rule.
pub mod AreaRule
-- SettingsRuleFromC: from C too, the settings image is read and written by one rule.
pub mod SettingsRuleFromC
-- MendRule: a damaged image is mended to one that the reader accepts, and an accepted one stays as it is.
pub mod MendRule
-- Larger: the image of the larger part.
pub mod Larger
