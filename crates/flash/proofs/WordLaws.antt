-- Words that are looked at byte by byte, and what a program leaves where all are blank.
use mathlib.Core.Path.{◌≡◌, refl, sym, ap, ap₂, ◌∙◌}
use mathlib.Core.Bool.{Bool, true, false, not}
use mathlib.Core.List.{List, [], ◌∷◌, ◌++◌, append_assoc}
use Prim.Native.Nat.{ℕ, zero, suc, ◌+◌, ◌*◌, ◌/◌, ◌≤◌, ◌<◌}
use native.Mathlib.Nat.{le-div_iff_mul-le, div-zero, suc-mul, zero-mul, mod-eq_of_lt, add-sub_cancel_left}
use native.Mathlib.Decide.{dec_lt}
use native.Mathlib.Omega.{arith}
use mathlib.Core.Logic.{by_cases}
use lib.Dec.{eqb}
use lib.Bits.{bit_and, and_comm, and_mask}
use lib.ListN.{length, get_or, take, drop, replicate}
use lib.Seq.{sets, sets-eq, drop-drop}
use borrow.Rule.Slice.PartMut.{put_mid}
use Rattle.octets.specs.Alike.{all_are}
use Rattle.octets.specs.Choice.{pick}
use Rattle.octets.specs.Number.{part, is_multiple}
use Rattle.octets.specs.Search.{search_from, some_from}
use Rattle.octets.proofs.AlikeLaws.{all_join, all_are_replicate}
use Rattle.octets.proofs.Multiples.{multiple_has_unit, multiple_is_whole}
use Rattle.octets.proofs.Parts.{length_part, parts_join}
use Rattle.octets.proofs.Searching.{pick_true, pick_false, search_alike}
use Rattle.flash.specs.Places.{by_place}
use Rattle.flash.specs.Protection.{is_protected, may_change, first_kept}
use Rattle.flash.specs.Programming.{program_of}
use Rattle.flash.specs.Words.{is_written, some_written}
use Rattle.flash.proofs.PlaceLaws.{in_run, before_run, after_run}
use Rattle.flash.proofs.KeptLaws.{none_is_kept}
use Rattle.flash.proofs.ProtectionLaws.{changed_part}

-- ---- words and bytes

-- one of two is written where not both are blank
one_written : (blank others : Bool) → pick (not blank) true (not others) ≡ not (pick blank others false)
unfolding pick
one_written true others = refl
one_written false others = refl

module _ (sector_size : ℕ) (protection : List ℕ) (word_size : ℕ) (memory : List ℕ) (at : ℕ) where
  abbrev written : ℕ → Bool
  written number = is_written sector_size protection word_size memory (at + number * word_size)

  -- words that may change, looked at one after the other: one is written where not every byte of them is 0xFF
  words_are_bytes : (from count : ℕ) → ((k : ℕ) → from ≤ k → k < from + count → may_change sector_size protection (at + k * word_size) ≡ true)
      → some_from written from count ≡ not (all_are 0xFF (part (at + from * word_size) (count * word_size) memory))
  unfolding search_from is_written all_are
  words_are_bytes from zero opened = rw (zero-mul word_size) refl
  words_are_bytes from (suc count) opened =
      let here = at + from * word_size in
      let more : suc count * word_size ≡ word_size + count * word_size = omega (arith, suc-mul count word_size) in
      let next : at + suc from * word_size ≡ here + word_size = omega (arith, suc-mul from word_size) in
      let bytes : all_are 0xFF (part here (suc count * word_size) memory)
      ≡ pick (all_are 0xFF (part here word_size memory)) (all_are 0xFF (part (here + word_size) (count * word_size) memory)) false =
      ap (λ (n : ℕ). all_are 0xFF (part here n memory)) more
      ∙ ap (all_are 0xFF) (sym (parts_join here word_size (count * word_size) memory))
      ∙ all_join 0xFF (part here word_size memory) (part (here + word_size) (count * word_size) memory) in
      ap₂ (λ (one : Bool) (others : Bool). pick one true others)
      (pick_true _ false (opened from (omega arith) (omega arith)))
      (words_are_bytes (suc from) count (λ k l u. opened k (omega arith) (omega arith))
      ∙ ap (λ (place : ℕ). not (all_are 0xFF (part place (count * word_size) memory))) next)
      ∙ one_written _ _
      ∙ sym (ap not bytes)

  module _ (size : ℕ) (whole : is_multiple size word_size ≡ true) (opened : at + size ≤ first_kept sector_size protection at (at + size)) where
    -- T-02: "Words in protected places are not looked at." Since T-04 no such word is reached: where no place of the range is protected, none of its words is.
    pub open_range_has_open_words : (number : ℕ) → number < size / word_size → may_change sector_size protection (at + number * word_size) ≡ true
    open_range_has_open_words number h =
        let sized = multiple_has_unit size word_size whole in
        let there : suc number * word_size ≤ size = (le-div_iff_mul-le sized).0 h in
        none_is_kept sector_size protection at (at + size) opened (at + number * word_size) (omega arith) (omega (arith, suc-mul number word_size))

    -- "each word it would touch is all 0xFF" says of a range of whole words what "each byte of it is" says
    pub words_of_open_range : some_written sector_size protection word_size at size memory ≡ not (all_are 0xFF (part at size memory))
    unfolding some_written
    words_of_open_range =
        let first : at + 0 * word_size ≡ at = omega (arith, zero-mul word_size) in
        words_are_bytes 0 (size / word_size) (λ k l u. open_range_has_open_words k (omega arith))
        ∙ ap₂ (λ (place n : ℕ). not (all_are 0xFF (part place n memory))) first (multiple_is_whole size word_size whole)

-- protection bytes that agree on the sectors of a range see the same words
pub words_alike : (sector_size : ℕ) (p q : List ℕ) (word_size at size : ℕ) (memory : List ℕ)
    → ((place : ℕ) → place < at + size → is_protected p (place / sector_size) ≡ is_protected q (place / sector_size))
    → some_written sector_size p word_size at size memory ≡ some_written sector_size q word_size at size memory
unfolding some_written is_written may_change
words_alike sector_size p q word_size at size memory alike =
    search_alike _ false (written sector_size p word_size memory at) (written sector_size q word_size memory at) 0 (size / word_size)
    (λ k l u. ap (λ (bit : Bool). pick (pick (eqb sector_size 0) false (not bit)) (not (all_are 0xFF (part (at + k * word_size) word_size memory))) false)
    (alike (at + k * word_size) (within k (omega arith))))
  where
    within : (k : ℕ) → k < size / word_size → at + k * word_size < at + size
    within k u =
        by_cases (dec_lt 0 word_size)
        (λ sized. let there : suc k * word_size ≤ size = (le-div_iff_mul-le sized).0 u in omega (arith, suc-mul k word_size))
        (λ none. let zero_word : word_size ≡ 0 = omega arith in absurd (omega (arith, u, ap (λ (word : ℕ). size / word) zero_word ∙ div-zero size)))

-- ---- "Each byte becomes old AND new": on 0xFF that is the new one

and_with_blank : (byte : ℕ) → byte < 256 → bit_and 0xFF byte ≡ byte
and_with_blank byte small = and_comm 0xFF byte ∙ and_mask byte 8 ∙ mod-eq_of_lt small

blank_becomes : (bytes : List ℕ) → ((k : ℕ) → get_or bytes k 0 < 256) → by_place (λ k old. bit_and old (get_or bytes k 0)) (replicate (length bytes) 0xFF) ≡ bytes
blank_becomes [] small = refl
blank_becomes (byte ∷ bytes) small =
    ap₂ (λ (b : ℕ) (bs : List ℕ). b ∷ bs) (and_with_blank byte (small 0)) (blank_becomes bytes (λ k. small (suc k)))

-- T-02: a range that may be programmed at all holds its data afterwards: every place of it may change, and every byte is 0xFF
module _ (sector_size : ℕ) (protection : List ℕ) (at : ℕ) (bytes memory : List ℕ) where
  pub program_on_blank : at + length bytes ≤ length memory → ((k : ℕ) → get_or bytes k 0 < 256)
      → ((place : ℕ) → at ≤ place → place < at + length bytes → may_change sector_size protection place ≡ true)
      → all_are 0xFF (part at (length bytes) memory) ≡ true
      → program_of sector_size protection at bytes memory ≡ sets memory at bytes
  unfolding program_of
  program_on_blank there small opened blank =
      let n = length_part at (length bytes) memory there in
      let all : part at (length bytes) memory ≡ replicate (length bytes) 0xFF =
      all_are_replicate 0xFF (part at (length bytes) memory) blank ∙ ap (λ (count : ℕ). replicate count 0xFF) n in
      sym (changed_part sector_size protection (λ k old. bit_and old (get_or bytes k 0)) _ at (length bytes) memory
      (λ j h. opened (at + j) (omega arith) (omega arith))
      (λ j x h. ap (λ (i : ℕ). bit_and x (get_or bytes i 0)) (sym (add-sub_cancel_left at j)) ∙ sym (pick_true _ x (in_run at (at + length bytes) (at + j) (omega arith) (omega arith))))
      (λ k x h. pick_false _ x (before_run at (at + length bytes) k h))
      (λ k x l h. pick_false _ x (after_run at (at + length bytes) k l)))
      ∙ ap (put_mid at (length bytes) memory) (ap (by_place (λ k old. bit_and old (get_or bytes k 0))) all ∙ blank_becomes bytes small)
      ∙ ap (λ (after : List ℕ). take at memory ++ (bytes ++ after)) (drop-drop (length bytes) at memory)
      ∙ sym (append_assoc (take at memory) bytes (drop (at + length bytes) memory))
      ∙ sym (sets-eq bytes memory at there)
