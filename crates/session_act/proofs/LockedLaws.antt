-- What is planned, done and answered where no protected command is performed: all that a locked board can do.
use mathlib.Core.Path.{◌≡◌, refl, sym, ap, ap₂, subst, ◌∙◌}
use mathlib.Core.Bool.{Bool, true, false, true≢false}
use mathlib.Core.List.{List}
use Prim.Native.Nat.{ℕ, ◌+◌, ◌%◌, ◌≤◌}
use native.Mathlib.Omega.{arith}
use borrow.Author.Tests.{eqb-true, leb-true}
use lib.Dec.{eqb, leb}
use lib.ListN.{length, drop, replicate}
use lib.Seq.{take-nil, take-take}
use Rattle.octets.specs.Choice.{pick}
use Rattle.octets.specs.Number.{number_of, number_at}
use Rattle.octets.proofs.Searching.{pick_true, pick_false, by_pick, by_test}
use Rattle.line.specs.declared.Reply.{Reply}
use Rattle.parts.specs.declared.Part.{Part}
use Rattle.parts.specs.Parts.{version_size, Sound}
use Rattle.settings.specs.declared.Shown.{Shown}
use Rattle.flash.specs.Memory.{Memory}
use Rattle.flash.specs.Protection.{may_change}
use Rattle.flash.specs.Erasing.{erase_all_of}
use Rattle.flash.proofs.ErasingLaws.{erase_all_keeps_length, erase_all_in_one_sector}
use Rattle.session_judge.specs.declared.Effect.{Effect}
use Rattle.session_judge.specs.declared.Effect.TheVariants.{Say, TellInfo, Strike, Perform}
use Rattle.session_judge.proofs.EffectTests.{is_performed}
use Rattle.session_act.specs.Info.{version_at, with_version}
use Rattle.session_act.specs.Board.{Board}
use Rattle.session_act.specs.declared.Planned.{Planned}
use Rattle.session_act.specs.declared.Order.{Order}
use Rattle.session_act.specs.declared.Order.TheVariants.{Keep, EraseBoth}
use Rattle.session_act.specs.Orders.{carried_out}
use Rattle.session_act.specs.Acting.{plan_of, act_of}
use Rattle.session_act.proofs.PlanLaws.{bytes_beside}

-- ---- orders

abbrev pub is_strike : Effect → Bool
is_strike (Say reply) = false
is_strike TellInfo = false
is_strike Strike = true
is_strike (Perform task) = false

-- Info is only told
info_keeps : (size pointer main_size : ℕ) (reply : Reply) → (with_version size pointer main_size reply).order ≡ Keep
unfolding with_version
info_keeps size pointer main_size reply =
    by_pick (λ (planned : Planned). planned.order ≡ Keep) (eqb (pointer % size) 0) _ _
    (λ y. by_pick (λ (planned : Planned). planned.order ≡ Keep) (leb (pointer + size) main_size) _ _ (λ t. refl) (λ n. refl))
    (λ n. refl)

module _ (part : Part) (main_size : ℕ) (shown : Shown) (protection : List ℕ) (right : Bool) (before : Memory) where
  -- all that a locked board can be told to do to memory: nothing, or the strike's erase of both regions
  pub locked_orders : (effect : Effect) → is_performed effect ≡ false
      → (plan_of part main_size shown protection right before effect).order ≡ pick (is_strike effect) EraseBoth Keep
  unfolding pick
  locked_orders (Say reply) h = refl
  locked_orders TellInfo h = info_keeps (version_size part.long_version) _ _ _
  locked_orders Strike h = refl
  locked_orders (Perform task) h = absurd (true≢false h)

-- ---- memory

module _ (board : Board) (right : Bool) (packet : List ℕ) (before : Memory) where
  -- all is erased by a strike, and nothing is changed without one
  pub only_strikes_change : (P : Memory → Type 0) (effect : Effect) → is_performed effect ≡ false
      → (effect ≡ Strike → P (carried_out board.part board.shown board.protection packet before EraseBoth)) → ((effect ≡ Strike → ⊥) → P before)
      → P (act_of board right packet before effect).memory
  only_strikes_change P (Say reply) h struck kept = kept (λ e. let z : ◌≡◌ {A = ℕ} 0 1 = cc in omega arith)
  only_strikes_change P TellInfo h struck kept =
      subst (λ (order : Order). P (carried_out board.part board.shown board.protection packet before order))
      (sym (info_keeps (version_size board.part.long_version) _ _ _)) (kept (λ e. let z : ◌≡◌ {A = ℕ} 0 1 = cc in omega arith))
  only_strikes_change P Strike h struck kept = struck refl
  only_strikes_change P (Perform task) h struck kept = absurd (true≢false h)

-- ---- the version that is told

module _ (size pointer : ℕ) (reply : Reply) where
  -- the answer is the one that is given, and the number of what stands beside it is the version
  pub with_version_says : (main_size : ℕ) → (with_version size pointer main_size reply).reply ≡ reply
  unfolding with_version
  with_version_says main_size =
      by_pick (λ (planned : Planned). planned.reply ≡ reply) (eqb (pointer % size) 0) _ _
      (λ y. by_pick (λ (planned : Planned). planned.reply ≡ reply) (leb (pointer + size) main_size) _ _ (λ t. refl) (λ n. refl))
      (λ n. refl)

  pub version_is_beside : (memory : Memory)
      → number_at 0 size (bytes_beside memory (with_version size pointer (length memory.main) reply)) ≡ version_at size pointer memory.main
  unfolding with_version version_at pick number_of
  version_is_beside memory =
      by_test (eqb (pointer % size) 0)
      (λ aligned.
      by_test (leb (pointer + size) (length memory.main))
      (λ there. rw (aligned, there) (ap number_of (take-take size size (drop pointer memory.main) (omega arith))))
      (λ beyond. rw (aligned, beyond) (ap number_of (take-nil size))))
      (λ odd. rw odd (ap number_of (take-nil size)))

-- ---- the version of what was erased

-- for sectors of any size that hold each version whole
module _ (sector_size size pointer : ℕ) (fits : pointer % size ≡ 0 → pointer % sector_size + size ≤ sector_size) (protection : List ℕ) where
  -- its bytes stand in one sector: all of them are erased, or none
  erased_version : (main : List ℕ) → pointer % size ≡ 0 → pointer + size ≤ length main
      → number_at pointer size (erase_all_of sector_size protection main)
      ≡ pick (may_change sector_size protection pointer) (number_of (replicate size 0xFF)) (number_at pointer size main)
  erased_version main aligned there =
      let bytes = erase_all_in_one_sector sector_size protection main pointer size (fits aligned) there in
      by_test (may_change sector_size protection pointer)
      (λ y. ap number_of (bytes ∙ pick_true _ _ y) ∙ sym (pick_true _ _ y))
      (λ n. ap number_of (bytes ∙ pick_false _ _ n) ∙ sym (pick_false _ _ n))

  -- so it hangs on the version before, and on no other byte
  version_left : ℕ → ℕ → ℕ
  version_left main_size version =
      pick (eqb (pointer % size) 0)
      (pick (leb (pointer + size) main_size) (pick (may_change sector_size protection pointer) (number_of (replicate size 0xFF)) version) 0) 0

  version_left_lem : (main : List ℕ) → version_at size pointer (erase_all_of sector_size protection main) ≡ version_left (length main) (version_at size pointer main)
  unfolding version_at version_left pick
  version_left_lem main =
      by_test (eqb (pointer % size) 0)
      (λ aligned.
      by_test (leb (pointer + size) (length main))
      (λ there. rw (aligned, erase_all_keeps_length sector_size protection 0 0 main, there) (erased_version main (eqb-true _ _ aligned) (leb-true _ _ there)))
      (λ beyond. rw (aligned, erase_all_keeps_length sector_size protection 0 0 main, beyond)))
      (λ odd. rw odd)

  erased_alike : (one other : List ℕ) → length one ≡ length other → version_at size pointer one ≡ version_at size pointer other
      → version_at size pointer (erase_all_of sector_size protection one) ≡ version_at size pointer (erase_all_of sector_size protection other)
  erased_alike one other same version = version_left_lem one ∙ ap₂ version_left same version ∙ sym (version_left_lem other)

-- boards of one part and one size that publish the same version do so too once all is erased
pub erased_versions_alike : (part : Part) → Sound part → (pointer : ℕ) (protection one other : List ℕ) → length one ≡ length other
    → version_at (version_size part.long_version) pointer one ≡ version_at (version_size part.long_version) pointer other
    → version_at (version_size part.long_version) pointer (erase_all_of part.sector_size protection one)
    ≡ version_at (version_size part.long_version) pointer (erase_all_of part.sector_size protection other)
erased_versions_alike part sound pointer protection =
    erased_alike part.sector_size (version_size part.long_version) pointer (sound.version pointer) protection
