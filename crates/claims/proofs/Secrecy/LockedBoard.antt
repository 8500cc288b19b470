-- A locked board in its session: all of it follows from its start and from how it stands.
use mathlib.Core.Path.{◌≡◌, refl, sym, ap, ap₂, subst}
use mathlib.Core.Bool.{Bool, true, false}
use mathlib.Core.List.{List}
use Prim.Native.Nat.{ℕ}
use lib.Dec.{eqb}
use lib.ListN.{length}
use Rattle.octets.specs.Choice.{pick}
use Rattle.octets.proofs.Searching.{pick_true, pick_false, by_test}
use Rattle.parts.specs.declared.Part.{Part}
use Rattle.parts.specs.Parts.{Sound}
use Rattle.session_state.specs.declared.Standing.{Standing}
use Rattle.session_state.specs.Phases.{at_start, is_unlocked}
use Rattle.settings.specs.declared.Shown.{Shown}
use Rattle.flash.specs.Memory.{Memory, memory}
use Rattle.flash.specs.Erasing.{erase_all_of}
use Rattle.flash.proofs.ErasingLaws.{erase_all_keeps_length, erase_all_at, erase_all_twice}
use Rattle.session_judge.specs.Unlocking.{alert_reset}
use Rattle.session_act.specs.Board.{Board, board, settings_protection}
use Rattle.session_act.specs.declared.Order.TheVariants.{EraseBoth}
use Rattle.session_act.specs.Orders.{carried_out}
use Rattle.session_act.specs.Info.{version_of}
use Rattle.session_act.proofs.LockedLaws.{erased_versions_alike}
use Rattle.session.specs.declared.Session.{Session}
use Rattle.session.specs.Records.{is_record}
use Rattle.session.specs.Starting.{start_of}
use Rattle.claims.specs.TwoBoards.{Images, Running, settings_of, started, is_struck, AsClaimed, Flash}
use Rattle.claims.proofs.Sessions.CallRules.{started_session, started_has_window, started_is_valid}

-- ---- an image, before the alert has struck and after

-- all that may change is erased by a strike, and only by it; its sectors may have any size
unfoldable pub image_then : ℕ → Bool → List ℕ → List ℕ → List ℕ
image_then size struck protection image = pick struck (erase_all_of size protection image) image

module _ (size : ℕ) (protection image : List ℕ) where
  image_keeps_length : (struck : Bool) → length (image_then size struck protection image) ≡ length image
  unfolding image_then pick
  image_keeps_length true = erase_all_keeps_length size protection 0 0 image
  image_keeps_length false = refl

  -- where it was struck, what is unprotected is 0xFF, and all else is as at the start
  image_is_as_claimed : (struck : Bool) → AsClaimed size struck protection image (image_then size struck protection image)
  unfolding image_then pick
  image_is_as_claimed true place there = erase_all_at size protection image place there
  image_is_as_claimed false place there = refl

  -- a second strike finds nothing to erase
  struck_again : (struck : Bool) → erase_all_of size protection (image_then size struck protection image) ≡ image_then size true protection image
  unfolding image_then pick
  struck_again true = erase_all_twice size protection image
  struck_again false = refl

-- images of one length that publish the same version do so before and after
pub versions_stay_alike : (part : Part) → Sound part → (shown : Shown) (protection one other : List ℕ) → length one ≡ length other → version_of part shown one ≡ version_of part shown other
    → (struck : Bool) → version_of part shown (image_then part.sector_size struck protection one) ≡ version_of part shown (image_then part.sector_size struck protection other)
unfolding image_then pick
versions_stay_alike part sound shown protection one other size same true = erased_versions_alike part sound shown.version_pointer protection one other size same
versions_stay_alike part sound shown protection one other size same false = same

-- ---- a board, by its start and by how it stands

abbrev pub alert_of : Images → ℕ
alert_of images = (settings_of images).shown.alert

-- its session
abbrev pub session_then : Images → Standing → Session
session_then images standing = record { standing = standing; main_size = length images.main; settings = settings_of images }

module _ (part : Part) where
  -- what its settings let be done
  abbrev pub lets : Images → Board
  lets images = board part (length images.main) (settings_of images).shown (settings_of images).protection

  -- its images and its window, and all of it
  abbrev pub memory_then : Images → Bool → Memory
  memory_then images struck =
      memory (image_then part.sector_size struck (settings_of images).protection images.main)
      (image_then part.sector_size struck (settings_protection (settings_of images).shown) images.settings)
      images.window

  abbrev pub later : Images → Standing → Running
  later images standing =
      record { session = session_then images standing; memory = memory_then images (is_struck (alert_of images) standing.wrong) }

  -- the record is valid beside the images
  abbrev pub HasRecord : Running → Type 0
  HasRecord board = is_record part board.session (length board.memory.main) (length board.memory.settings) ≡ true

  -- a window of the part's size is beside them
  abbrev pub HasWindow : Running → Type 0
  HasWindow board = length board.memory.window ≡ part.window_size

  -- a board that stands locked, in a valid record
  pub record Locked (images : Images) (standing : Standing) : Type 0 where
    pub valid : HasRecord (later images standing)
    pub window : HasWindow (later images standing)
    pub shut : is_unlocked standing.phase ≡ false

  module _ (images : Images) where
    -- a strike erases both images, whether it is the first or not, and leaves the window
    pub strike_erases : (packet : List ℕ) (struck : Bool)
        → carried_out part (settings_of images).shown (settings_of images).protection packet (memory_then images struck) EraseBoth ≡ memory_then images true
    strike_erases packet struck =
        ap₂ (λ (main settings : List ℕ). memory main settings images.window) (struck_again _ _ _ struck) (struck_again _ _ _ struck)

    -- what is claimed of a board's flash after a call, and of its window; T-05: "the window may differ between the boards, and it stays unchanged there."
    pub flash_is_as_claimed : (standing : Standing) → Flash part images standing.wrong (later images standing).memory
    flash_is_as_claimed standing =
        record {
          main_size = image_keeps_length _ _ _ _;
          main = image_is_as_claimed _ _ _ _;
          settings_size = image_keeps_length _ _ _ _;
          settings = image_is_as_claimed _ _ _ _;
          window = refl;
        }

    -- a session that starts has counted no wrong password
    not_struck_at_start : is_struck (alert_of images) at_start.wrong ≡ false
    unfolding is_struck at_start
    not_struck_at_start = by_test (eqb (alert_of images) alert_reset) (λ y. pick_true _ _ y) (λ n. pick_false _ _ n)

    module _ (starts : (start_of part false images.main images.settings images.window).answer.number ≡ 0) where
      -- it is as at the start, locked and in a valid record
      pub started_is_later : started part images ≡ later images at_start
      unfolding image_then pick
      started_is_later =
          ap₂ (λ (session : Session) (images : Memory). record { session = session; memory = images })
          (started_session part false images.main images.settings images.window starts)
          (ap (memory_then images) (sym not_struck_at_start))

      pub started_is_locked : Locked images at_start
      unfolding at_start
      started_is_locked =
          record {
            valid = subst HasRecord started_is_later (started_is_valid part false images.main images.settings images.window starts);
            window = started_has_window part false images.main images.settings images.window starts;
            shut = refl;
          }
