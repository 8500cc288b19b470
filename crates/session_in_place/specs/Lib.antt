-- A session record that is updated in place. A call leaves what the loader says that it leaves.
-- Starting: what start leaves.
pub mod Starting
-- Calling: what a call answers.
pub mod Calling
