-- Two boards whose images are alike, whatever became of MAIN: the settings are as at first, and the published version is the same.
use mathlib.Core.Path.{◌≡◌, refl, sym, ap, ap₂, ◌∙◌}
use mathlib.Core.Bool.{Bool, true, false}
use mathlib.Core.List.{List, [], ◌∷◌}
use Prim.Native.Nat.{ℕ, ◌/◌, ◌≤◌, ◌<◌}
use native.Mathlib.Nat.{div-eq_of_lt}
use native.Mathlib.Omega.{arith}
use lib.ListN.{length, length-replicate}
use Rattle.octets.specs.Choice.{pick}
use Rattle.parts.specs.declared.Part.{Part}
use Rattle.parts.specs.Parts.{Sound}
use Rattle.settings.specs.declared.Shown.{Shown}
use Rattle.flash.specs.Protection.{is_protected}
use Rattle.flash.proofs.ErasingLaws.{erase_all_keeps_length, erase_all_of_protected}
use Rattle.session_act.specs.Board.{settings_protection}
use Rattle.session_act.specs.Info.{version_of}
use Rattle.session.specs.StartAnswers.{StartTold}
use Rattle.session.specs.Starting.{start_of}
use Rattle.claims.specs.TwoBoards.{Images, settings_of, AlikeBoards}
use Rattle.claims.proofs.Sessions.CallRules.{started_has_window, started_has_settings}
use Rattle.claims.proofs.Secrecy.LockedBoard.{image_then, versions_stay_alike, memory_then}
use Rattle.claims_restarts.specs.Cuts.{some_erased, cut_in_main}
use Rattle.claims_restarts.specs.Boards.{zeros, fresh}
use Rattle.claims_restarts.proofs.CutLaws.{cut_keeps_length, cut_versions_alike}

-- ---- images that are alike by what MAIN became

pub zeros_size : (part : Part) → length (zeros part) ≡ part.window_size
unfolding zeros
zeros_size part = length-replicate {A = ℕ} part.window_size 0

-- two boards are handed the same window
pub windows_are_same : (part : Part) (one other : Images) → (fresh part one).window ≡ (fresh part other).window
windows_are_same part one other = refl

-- what a board holds now beside what it held: the settings are as before, and MAIN and the window have their sizes
pub record Became (before now : Images) : Type 0 where
  pub settings : now.settings ≡ before.settings
  pub main : length now.main ≡ length before.main
  pub window : length now.window ≡ length before.window

-- a start sees of MAIN and of the window their sizes alone
starts_by_size : (part : Part) (before now : Images) → Became before now
    → start_of part false now.main now.settings now.window ≡ start_of part false before.main before.settings before.window
unfolding start_of
starts_by_size part before now became = rw (became.settings, became.main, became.window)

-- whatever became of MAIN: while the settings are as before and the published version is the same, the boards are alike
alike_by_main : (part : Part) (a b c d : Images) → AlikeBoards part a b → Became a c → Became b d
    → version_of part (settings_of a).shown c.main ≡ version_of part (settings_of b).shown d.main
    → AlikeBoards part c d
alike_by_main part a b c d alike one other version =
    record {
      one_starts = ap (λ (told : StartTold). told.answer.number) (starts_by_size part a c one) ∙ alike.one_starts;
      other_starts = ap (λ (told : StartTold). told.answer.number) (starts_by_size part b d other) ∙ alike.other_starts;
      size = one.main ∙ alike.size ∙ sym other.main;
      shown = rw (one.settings, other.settings) alike.shown;
      protection = rw (one.settings, other.settings) alike.protection;
      version = rw (one.settings, other.settings) version;
    }

-- what was not struck is kept
not_struck_is_kept : (part : Part) (images : Images) → memory_then part images false ≡ images
unfolding image_then pick
not_struck_is_kept part images = refl

-- the settings of a board that starts have their size
pub settings_size_lem : (part : Part) (images : Images) → (start_of part false images.main images.settings images.window).answer.number ≡ 0
    → length images.settings ≡ part.settings_size
settings_size_lem part images starts = started_has_settings part false images.main images.settings images.window starts

-- the settings' one sector
in_first_sector : (sector_size place : ℕ) → place < sector_size → place / sector_size ≡ 0
in_first_sector sector_size place there = div-eq_of_lt there

one_is_protected : is_protected (1 ∷ []) 0 ≡ true
unfolding is_protected
one_is_protected = refl

module _ (part : Part) (sound : Sound part) (one other : Images) where
  -- the settings outlast a strike: they are protected, and are one sector
  pub record KeepsSettings : Type 0 where
    pub bit : (settings_of one).shown.settings_protected ≡ 1
    pub one_sector : part.settings_size ≤ part.sector_size

  -- two boards that are alike, and have what the first two had but for the bytes of MAIN
  pub record Twins (a b : Images) : Type 0 where
    pub alike : AlikeBoards part a b
    pub size : length a.main ≡ length one.main
    pub one_settings : a.settings ≡ one.settings
    pub other_settings : b.settings ≡ other.settings

  pub first_twins : AlikeBoards part one other → Twins one other
  first_twins alike = record { alike = alike; size = refl; one_settings = refl; other_settings = refl }

  -- MAIN became something else
  twins_by_main : (a b c d : Images) → Twins a b → Became a c → Became b d
      → version_of part (settings_of a).shown c.main ≡ version_of part (settings_of b).shown d.main
      → Twins c d
  twins_by_main a b c d twins one_now other_now version = record {
    alike = alike_by_main part a b c d twins.alike one_now other_now version;
    size = one_now.main ∙ twins.size;
    one_settings = one_now.settings ∙ twins.one_settings;
    other_settings = other_now.settings ∙ twins.other_settings;
  }

  module _ (a b : Images) (twins : Twins a b) where
    -- one version pointer and one protection for both
    same_version : version_of part (settings_of a).shown a.main ≡ version_of part (settings_of a).shown b.main
    same_version = twins.alike.version ∙ ap (λ (shown : Shown). version_of part shown b.main) (sym twins.alike.shown)

    -- the windows are handed over as zeros
    pub fresh_twins : Twins (fresh part a) (fresh part b)
    fresh_twins =
        twins_by_main a b _ _ twins (handed a twins.alike.one_starts) (handed b twins.alike.other_starts) twins.alike.version
      where
        handed : (images : Images) → (start_of part false images.main images.settings images.window).answer.number ≡ 0 → Became images (fresh part images)
        handed images starts = record {
          settings = refl;
          main = refl;
          window = zeros_size part ∙ sym (started_has_window part false images.main images.settings images.window starts);
        }

    -- the same sectors were erased on both when the power went
    pub cut_twins : (erased : ℕ → Bool) → Twins (cut_in_main part (settings_of a).protection erased a) (cut_in_main part (settings_of b).protection erased b)
    cut_twins erased =
        twins_by_main a b _ _ twins
        (record { settings = refl; main = cut_keeps_length _ _ erased a.main; window = refl }) (record { settings = refl; main = cut_keeps_length _ _ erased b.main; window = refl })
        (cut_versions_alike part sound (settings_of a).protection erased (settings_of a).shown a.main b.main twins.alike.size same_version
        ∙ ap₂ (λ (shown : Shown) (protection : List ℕ). version_of part shown (some_erased part.sector_size protection erased b.main))
        twins.alike.shown twins.alike.protection)

    -- where the alert has struck and the settings were protected, MAIN alone was erased
    struck_twins : KeepsSettings → Twins (memory_then part a true) (memory_then part b true)
    unfolding image_then pick
    struck_twins kept =
        twins_by_main a b _ _ twins
        (record { settings = settings_kept a twins.alike.one_starts bit; main = erase_all_keeps_length _ _ 0 0 a.main; window = refl })
        (record {
          settings = settings_kept b twins.alike.other_starts (ap (λ (shown : Shown). shown.settings_protected) (sym twins.alike.shown) ∙ bit);
          main = erase_all_keeps_length _ _ 0 0 b.main;
          window = refl;
        })
        (versions_stay_alike part sound (settings_of a).shown (settings_of a).protection a.main b.main twins.alike.size same_version true
        ∙ ap₂ (λ (shown : Shown) (protection : List ℕ). version_of part shown (image_then part.sector_size true protection b.main))
        twins.alike.shown twins.alike.protection)
      where
        bit : (settings_of a).shown.settings_protected ≡ 1
        bit = rw twins.one_settings kept.bit

        -- the settings flash is one sector
        settings_kept : (images : Images) → (start_of part false images.main images.settings images.window).answer.number ≡ 0 → (settings_of images).shown.settings_protected ≡ 1
            → image_then part.sector_size true (settings_protection (settings_of images).shown) images.settings ≡ images.settings
        settings_kept images starts bit =
            erase_all_of_protected _ _ images.settings
            (λ place there. rw (bit, in_first_sector part.sector_size place (omega (arith, kept.one_sector, settings_size_lem part images starts))) one_is_protected)

    -- a session that ends leaves twins, unless it was struck and its settings were not protected
    pub memory_twins : (struck : Bool) → (struck ≡ true → KeepsSettings)
        → Twins (memory_then part a struck) (memory_then part b struck)
    unfolding image_then pick
    memory_twins true kept = struck_twins (kept refl)
    memory_twins false kept = twins
