-- The packets of these histories carry no password of the boards on which T-12 is tried, and there is room for every reply.
use mathlib.Core.Path.{◌≡◌, ap}
use mathlib.Core.List.{List, [], ◌∷◌}
use Prim.Native.Nat.{ℕ, ◌≤◌}
use native.Mathlib.Omega.{arith}
use lib.ListN.{length, get_or}
use Rattle.octets.specs.Number.{bytes_of}
use Rattle.parts.specs.Parts.{mspm0}
use Rattle.line.specs.Codes.{length_limit, unlock}
use Rattle.settings.specs.Held.{Settings}
use Rattle.claims.specs.TwoBoards.{Images}
use Rattle.claims.specs.Trials.{packet_of, sends, connects, unlocks, two_guesses, three_guesses}
use Rattle.claims.proofs.Trials.Framing.{core_there}
use Rattle.claims.proofs.Trials.SomeBoards.{Good}
use Rattle.claims.proofs.Trials.SomeSessions.{room, not_carried, connect_is_strange, unlock_is_strange}
use Rattle.claims_restarts.specs.Moves.{Move, Throughout}
use Rattle.claims_restarts.specs.Returning.{NoPassword, Without, Room, Roomy}
use Rattle.claims_restarts.specs.Trials.{starts, session, programs, reads, opening, until_struck, after_struck}
use Rattle.claims_restarts.proofs.Trials.Opening.{program_core, core_size, read_core}

-- ---- room

connect_roomy : Room connects
connect_roomy = record { one = room 0; other = room 0xFF }

pub unlock_roomy : (byte : ℕ) → Room (unlocks byte)
unlock_roomy byte = record { one = room 0; other = room 0xFF }

programs_roomy : Room programs
unfolding programs
programs_roomy = record { one = room 0; other = room 0xFF }

reads_roomy : Room reads
reads_roomy = record { one = room 0; other = room 0xFF }

pub guesses_roomy : (earlier : List Move) → Throughout Roomy earlier → Throughout Roomy (session three_guesses earlier)
guesses_roomy earlier so = (unlock_roomy 0x33, (unlock_roomy 0x33, (unlock_roomy 0x33, (connect_roomy, (tt, so)))))

pub until_roomy : Throughout Roomy until_struck
until_roomy = guesses_roomy (starts 1 ∷ session two_guesses []) (tt, (unlock_roomy 0x33, (unlock_roomy 0x33, (connect_roomy, (tt, tt)))))

pub after_roomy : Throughout Roomy after_struck
after_roomy = (unlock_roomy 0xFF, (unlock_roomy 0x11, (connect_roomy, (tt, until_roomy))))

pub opening_roomy : (earlier : List Move) → Throughout Roomy earlier → Throughout Roomy (opening earlier)
opening_roomy earlier so = (reads_roomy, (unlock_roomy 0xFF, (connect_roomy, (tt, (programs_roomy, (unlock_roomy 0xFF, (connect_roomy, (tt, so))))))))

-- ---- passwords

module _ (one other : Images) (one_settings other_settings : Settings) (one_good : Good one one_settings) (other_good : Good other other_settings) where
  pub connect_without : NoPassword mspm0 one other connects
  connect_without = record { not_one = connect_is_strange one one_settings one_good; not_other = connect_is_strange other other_settings other_good }

  -- a password of one byte all through, with which neither board's begins
  pub unlock_without : (byte : ℕ) → (byte ≡ get_or one_settings.password 0 0 → ⊥) → (byte ≡ get_or other_settings.password 0 0 → ⊥) → NoPassword mspm0 one other (unlocks byte)
  unlock_without byte not_one not_other =
      record { not_one = unlock_is_strange one one_settings one_good byte not_one; not_other = unlock_is_strange other other_settings other_good byte not_other }

  -- another command than Unlock
  other_without : (core : List ℕ) → 1 ≤ length core → length core ≤ length_limit → (get_or core 0 0 ≡ unlock → ⊥) → NoPassword mspm0 one other (sends core)
  other_without core some small code = record {
    not_one = not_carried one one_settings one_good (packet_of core) core (core_there core some small) (λ e. code (ap (λ (bytes : List ℕ). get_or bytes 0 0) e));
    not_other = not_carried other other_settings other_good (packet_of core) core (core_there core some small) (λ e. code (ap (λ (bytes : List ℕ). get_or bytes 0 0) e));
  }

  programs_without : NoPassword mspm0 one other programs
  unfolding programs
  programs_without = other_without program_core (omega arith) (omega (arith, core_size)) (λ e. omega arith)

  reads_without : NoPassword mspm0 one other reads
  unfolding bytes_of
  reads_without = other_without (read_core 0) (omega arith) (omega arith) (λ e. omega arith)

  -- whole histories, where neither password begins with 0x33 or 0xFF
  module _ (one_guess : 0x33 ≡ get_or one_settings.password 0 0 → ⊥) (other_guess : 0x33 ≡ get_or other_settings.password 0 0 → ⊥) where
    pub until_without : Throughout (Without mspm0 one other) until_struck
    until_without =
        let guess = unlock_without 0x33 one_guess other_guess in
        (guess, (guess, (guess, (connect_without, (tt, (tt, (guess, (guess, (connect_without, (tt, tt))))))))))

  module _ (one_ff : 0xFF ≡ get_or one_settings.password 0 0 → ⊥) (other_ff : 0xFF ≡ get_or other_settings.password 0 0 → ⊥) where
    pub opening_without : (earlier : List Move) → Throughout (Without mspm0 one other) earlier → Throughout (Without mspm0 one other) (opening earlier)
    opening_without earlier without =
        let blank = unlock_without 0xFF one_ff other_ff in
        (reads_without, (blank, (connect_without, (tt, (programs_without, (blank, (connect_without, (tt, without))))))))
