-- `line::replies::write_core_reply` meets its contract: the tests of the definition, by the size of what follows the code.
use Prim.Native.Nat.{◌+◌}
use native.Mathlib.Omega.{arith}
use borrow.Author.Tests.{lt-ltb, le-ltb}
use lib.ListN.{length}
use Rattle.octets.specs.Choice.{pick}
use Rattle.line.specs.Replies.{sent_of}
use Rattle.line.proofs.ReplyLaws.{length-core_reply}
use Rattle.line.proofs.replies.write_core_reply.Goals as goal

pub returns-then-count : goal.returns-then-count
unfolding sent_of pick
returns-then-count c =
    let a = c.args in
    rw (length-core_reply a.code a.rest.now, lt-ltb 1729 (length a.rest.now + 9) (omega arith))

pub returns-then-area-count : goal.returns-then-area-count
unfolding sent_of pick
returns-then-area-count c =
    let a = c.args in
    rw (length-core_reply a.code a.rest.now, le-ltb 1729 (length a.rest.now + 9) (omega arith), lt-ltb _ _ c.if-area-count.true)

pub returns : goal.returns
unfolding sent_of pick
returns c =
    let a = c.args in
    rw (length-core_reply a.code a.rest.now, le-ltb 1729 (length a.rest.now + 9) (omega arith), le-ltb _ _ c.if-area-count.false, c.put_core_reply.ensures)
