-- 01, Numbers of refused calls: what a call answers, where the record is lent.
use Rattle.std.specs.Prelude.{Result, Ok, Err}
use Rattle.session.specs.declared.CallError.{CallError}
use Rattle.session.specs.CallAnswers.{CallTold, call_told, call_numbered}
use Rattle.session_in_place.specs.declared.Done.{Done}

abbrev pub done_told : Result Done CallError → CallTold
done_told (Ok done) = call_told 0 done.size done.burn
done_told (Err error) = call_numbered error
