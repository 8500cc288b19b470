-- `c_records::sessions::call_record` meets its contract: what the session's call leaves is told to C.
use mathlib.Core.Path.{sym, ap, ◌∙◌}
use borrow.Author.Rules.{rules}
use Rattle.flash.specs.Memory.{memory}
use Rattle.session.specs.CallAnswers.{call_left}
use Rattle.c_records.proofs.ServedLaws.{served_is_small, served_is_told, refused_is_told, past_the_tests}
use Rattle.c_records.proofs.sessions.call_record.Goals as goal

pub store_called-requires : goal.store_called-requires
store_called-requires c =
    let a = c.args in
    let n = c.call-call.new in
    served_is_small a.part c.session_in.result (memory a.main.now a.settings.now a.window.now) (memory n.main n.image n.window) a.wait a.packet.now a.reply.now n.area c.in-Ok.called
    (ap (λ r. call_left c.session_in.result r (memory n.main n.image n.window) n.area) (sym c.in-Ok.is) ∙ c.call-call.ensures)

pub returns-in-Ok : goal.returns-in-Ok
returns-in-Ok c =
    let a = c.args in
    let n = c.call-call.new in
    let valid = sym c.is_record_area.ensures ∙ c.if-not-is_record_area.false in
    rw (c.store_called.ensures.0, c.store_called.ensures.1)
    (served_is_told a.part c.session_in.result (memory a.main.now a.settings.now a.window.now) (memory n.main n.image n.window) a.wait a.packet.now a.reply.now n.area a.area.now c.session_in.ensures c.in-Ok.called
    (ap (λ r. call_left c.session_in.result r (memory n.main n.image n.window) n.area) (sym c.in-Ok.is) ∙ c.call-call.ensures)
    (λ k. search rules) valid
    ∙ past_the_tests a.part a.area.now (memory a.main.now a.settings.now a.window.now) a.wait a.packet.now a.reply.now (search rules) (search rules) valid)

pub returns-in-Err : goal.returns-in-Err
returns-in-Err c =
    let a = c.args in
    let n = c.call-call.new in
    rw c.from.ensures
    (refused_is_told a.part c.session_in.result (memory a.main.now a.settings.now a.window.now) (memory n.main n.image n.window) a.wait a.packet.now a.reply.now n.area a.area.now c.session_in.ensures c.in-Err.error
    (ap (λ r. call_left c.session_in.result r (memory n.main n.image n.window) n.area) (sym c.in-Err.is) ∙ c.call-call.ensures)
    ∙ past_the_tests a.part a.area.now (memory a.main.now a.settings.now a.window.now) a.wait a.packet.now a.reply.now (search rules) (search rules) (sym c.is_record_area.ensures ∙ c.if-not-is_record_area.false))
