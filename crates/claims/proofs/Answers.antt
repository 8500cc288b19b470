-- Each promise has one answer only.
-- OneAnswer: what it is that a promise has one answer, and the law that shows it.
pub mod OneAnswer
-- NumberedAnswers: 01's numbers tell every two answers apart.
pub mod NumberedAnswers
-- Promises: the promise of each public function has one answer.
pub mod Promises
