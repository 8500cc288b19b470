-- What holds of every start, call, record and script.
-- CallRules: what holds of every start and of every call.
pub mod CallRules
-- ExactConnect: which eight bytes are answered in detect.
pub mod ExactConnect
-- BitsBeyondMain: protection bits for sectors that MAIN does not have do nothing.
pub mod BitsBeyondMain
-- NumberRule: every call has an answer, and which numbers of 01 it can have.
pub mod NumberRule
-- HeldSessions: a valid session whose settings can be held can be held itself.
pub mod HeldSessions
-- RecordRule: a session record is encoded and decoded by one rule.
pub mod RecordRule
-- BoundaryRule: from C, a refused call changes nothing.
pub mod BoundaryRule
-- ScriptRule: a script keeps the form exactly where it is made of entries.
pub mod ScriptRule
-- TriesRule: what the total of wrong passwords counts.
pub mod TriesRule
-- VerifyRule: a test that Verify had changed no reply.
pub mod VerifyRule
-- ProtectedRule: Range erase and Program are refused where they would touch a protected place, and Range erase nowhere else.
pub mod ProtectedRule
-- WrittenRule: Program is refused exactly where a word is written already, and leaves its data where none is.
pub mod WrittenRule
-- WindowRule: what Program, Read back, Verify and the erases do in the SRAM window.
pub mod WindowRule
