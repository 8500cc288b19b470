-- The session in which the alert strikes ends: where nothing is protected, both boards are then one and the same.
use mathlib.Core.Path.{◌≡◌, refl, sym, ap, ap₂, ◌∙◌}
use mathlib.Core.Logic.{⊎_elim}
use mathlib.Core.Bool.{Bool, true, false, true≢false}
use mathlib.Core.List.{List}
use Prim.Native.Nat.{ℕ, ◌+◌, ◌/◌, ◌%◌, ◌≤◌, ◌<◌}
use native.Mathlib.Omega.{arith}
use lib.ListN.{length, replicate}
use Rattle.octets.specs.Choice.{pick}
use Rattle.parts.specs.declared.Part.{Part}
use Rattle.parts.specs.Parts.{version_size, Sound}
use Rattle.settings.specs.declared.Shown.{Shown}
use Rattle.session_state.specs.declared.Standing.{Standing}
use Rattle.flash.specs.Memory.{Memory, memory}
use Rattle.flash.specs.Protection.{is_protected}
use Rattle.flash.proofs.ErasingLaws.{erase_all_of_open}
use Rattle.claims.specs.TwoBoards.{Images, Running, is_struck}
use Rattle.claims.proofs.Secrecy.LockedBoard.{image_then, alert_of, memory_then, later}
use Rattle.claims.proofs.Secrecy.ToldApart.{Together}
use Rattle.claims.proofs.Trials.SomeSessions.{none_protected}
use Rattle.claims_restarts.specs.Moves.{Move, start, send, cut, ends_session, Now, off, on, of_start, moved, sight}
use Rattle.claims_restarts.specs.Cuts.{cut_in_main}
use Rattle.claims_restarts.specs.Boards.{fresh, begun, started_by, port_one, port_other, has_struck}
use Rattle.claims_restarts.specs.Returning.{Without, OpenSectors, OpenSettings}
use Rattle.claims_restarts.proofs.Twins.{Twins, settings_size_lem}
use Rattle.claims_restarts.proofs.Pairs.{Pair, strikes, cut_on, one_is_cut, other_is_cut}

-- a sector that holds a version has bytes
sectors_have_bytes : (long : Bool) (size : ℕ) → (0 % version_size long ≡ 0 → 0 % size + version_size long ≤ size) → 0 < size
sectors_have_bytes false size fits = omega (arith, fits refl)
sectors_have_bytes true size fits = omega (arith, fits refl)

module _ (part : Part) (sound : Sound part) where
  -- where nothing is protected, all is erased
  struck_is_ff : (images : Images) → OpenSectors part images → OpenSettings images → memory_then part images true ≡ memory (replicate (length images.main) 0xFF) (replicate (length images.settings) 0xFF) images.window
  unfolding image_then pick
  struck_is_ff images sectors bit =
      let sized : 0 < part.sector_size = sectors_have_bytes part.long_version part.sector_size (sound.version 0) in
      ap₂ (λ (main settings : List ℕ). memory main settings images.window) (erase_all_of_open _ _ images.main sized sectors)
      (erase_all_of_open _ _ images.settings sized (λ place there. rw bit (none_protected 1 (place / part.sector_size))))

  module _ (one other : Images)
      (sectors : OpenSectors part one)
      (open_settings : OpenSettings one)
    where
      module _ (a b : Images) (twins : Twins part sound one other a b) (windows : a.window ≡ b.window) where
        one_is_ff : memory_then part a true ≡ memory (replicate (length one.main) 0xFF) (replicate part.settings_size 0xFF) a.window
        one_is_ff =
            struck_is_ff a (λ place there. rw twins.one_settings (sectors place (omega (arith, twins.size)))) (rw twins.one_settings open_settings)
            ∙ ap₂ (λ (main settings : ℕ). memory (replicate main 0xFF) (replicate settings 0xFF) a.window) twins.size (settings_size_lem part a twins.alike.one_starts)

        other_is_ff : memory_then part b true ≡ memory (replicate (length one.main) 0xFF) (replicate part.settings_size 0xFF) b.window
        other_is_ff =
            let size = sym twins.alike.size ∙ twins.size in
            struck_is_ff b
            (λ place there. ap (λ (bits : List ℕ). is_protected bits (place / part.sector_size)) (sym twins.alike.protection) ∙ rw twins.one_settings (sectors place (omega (arith, size))))
            (ap (λ (shown : Shown). shown.settings_protected) (sym twins.alike.shown) ∙ rw twins.one_settings open_settings)
            ∙ ap₂ (λ (main settings : ℕ). memory (replicate main 0xFF) (replicate settings 0xFF) b.window) size (settings_size_lem part b twins.alike.other_starts)

        same_once_struck : (standing : Standing) → is_struck (alert_of a) standing.wrong ≡ true → (later part a standing).memory ≡ (later part b standing).memory
        same_once_struck standing struck =
            ap (memory_then part a) struck ∙ one_is_ff
            ∙ ap (memory (replicate (length one.main) 0xFF) (replicate part.settings_size 0xFF)) windows ∙ sym other_is_ff
            ∙ ap (memory_then part b) (sym struck ∙ ap (λ (shown : Shown). is_struck shown.alert standing.wrong) twins.alike.shown)

        -- the session ends by a start or by a cut
        on_ends : (standing : Standing) → Together part sound a b standing → is_struck (alert_of a) standing.wrong ≡ true
            → (move : Move) → Without part one other move → ends_session move ≡ true
            → (sight (port_one part) (on (later part a standing)) move ≡ sight (port_other part) (on (later part b standing)) move)
            × (moved (port_one part) (on (later part a standing)) move ≡ moved (port_other part) (on (later part b standing)) move)
        unfolding cut_on
        on_ends standing together struck (send sending) without ends = absurd (true≢false (sym ends))
        on_ends standing together struck (start starting) without ends =
            let same = same_once_struck standing struck in
            (ap (λ (images : Memory). of_start (begun part starting (fresh part images)).answer) same, ap (λ (images : Memory). started_by (begun part starting (fresh part images)) (fresh part images)) same)
        on_ends standing together struck (cut sending erased) without ends = (
          refl,
          ap (λ (images : Memory). off images)
              (one_is_cut part sound one other a b standing twins together windows sending erased without
              ∙ ap₂ (λ (bits : List ℕ) (before : Memory). pick (strikes part sound one other a b standing twins together windows sending erased without) (cut_in_main part bits erased before) before)
              twins.alike.protection (same_once_struck standing struck)
              ∙ sym (other_is_cut part sound one other a b standing twins together windows sending erased without)),
        )

      -- from then on they are the same
      pub strike_ends_same : (one_now other_now : Now Running) → Pair part sound one other one_now other_now → has_struck one_now ≡ true
          → (move : Move) → Without part one other move → ends_session move ≡ true
          → (sight (port_one part) one_now move ≡ sight (port_other part) other_now move) × (moved (port_one part) one_now move ≡ moved (port_other part) other_now move)
      strike_ends_same one_now other_now pair struck move without ends =
          ⊎_elim
          (λ p. absurd (true≢false (sym struck ∙ ap has_struck p.one_is)))
          (λ p. rw (p.one_is, p.other_is) (on_ends p.a p.b p.twins p.windows p.standing p.together (sym (ap has_struck p.one_is) ∙ struck) move without ends))
          pair
