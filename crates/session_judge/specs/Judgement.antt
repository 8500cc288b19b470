-- What is decided of a packet: how the session stands then, what is to be done, and whether the board burns its fuse.
use Rattle.std.specs.Prelude.{false}
use Rattle.line.specs.declared.Reply.{Reply}
use Rattle.session_state.specs.declared.Standing.{Standing}
use Rattle.session_judge.specs.declared.Effect.{Effect}
use Rattle.session_judge.specs.declared.Effect.TheVariants.{Say}
use Rattle.session_judge.specs.declared.Judged.{Judged}

-- 01, Commands, 0x21 Unlock: "the answer of that call, and of no other, tells the board to burn its fuse": nothing that is decided so burns it
abbrev pub judged : Standing → Effect → Judged
judged standing effect = record { standing = standing; effect = effect; burn = false }

-- a reply, and memory is kept
abbrev pub says : Standing → Reply → Judged
says standing reply = judged standing (Say reply)
