-- The settings image of the larger part.
-- LargeImage: an image, part by part.
pub mod LargeImage
-- LargeRule: it is read and written by one rule.
pub mod LargeRule
-- LargeRuleFromC: so it is from C.
pub mod LargeRuleFromC
