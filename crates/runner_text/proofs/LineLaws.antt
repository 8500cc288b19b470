-- Lines: their sizes, and that their pieces join.
use mathlib.Core.Path.{◌≡◌, sym, ◌∙◌}
use mathlib.Core.List.{List, ◌++◌}
use mathlib.Core.Logic.{by_cases}
use Prim.Native.Nat.{ℕ, ◌+◌, ◌-◌, ◌*◌, ◌/◌}
use native.Mathlib.Decide.{dec_lt}
use native.Mathlib.Omega.{arith}
use borrow.Author.Tests.{lt-ltb, le-ltb}
use lib.Dec.{ltb, eqb}
use lib.ListN.{length, length-append}
use lib.Seq.{sets}
use Rattle.octets.proofs.Searching.{pick_true, pick_false, by_pick}
use Rattle.octets.proofs.StoreLaws.{sets_join}
use Rattle.octets.proofs.HexLaws.{length_hex}
use Rattle.octets.specs.Decimal.{digits_in, decimal_of}
use Rattle.octets.proofs.DecimalLaws.{length_digits}
use Rattle.runner_text.specs.Text.{text}
use Rattle.runner_text.specs.Writing.{reply_text, text_size, line_of}

pub length_decimal : (number : ℕ) → length (decimal_of number) ≡ digits_in number
length_decimal number = length_digits (digits_in number) number

pub length_text : (reply : List ℕ) → length (reply_text reply) ≡ text_size (length reply)
unfolding reply_text
length_text reply =
    by_pick (λ (shown : List ℕ). length shown ≡ text_size (length reply)) (eqb (length reply) 0) _ _
    (λ y. sym (pick_true _ _ y)) (λ n. length_hex reply ∙ sym (pick_false _ _ n))

-- room for three bytes each, counted by a division
pub room_for_bytes : (size digits count : ℕ) → (count ≡ 0 → ⊥)
    → ltb ((size - (digits + 1)) / 3) count ≡ ltb size (digits + 3 * count + 1)
room_for_bytes size digits count some =
    by_cases (dec_lt ((size - (digits + 1)) / 3) count)
    (λ l. lt-ltb _ _ l ∙ sym (lt-ltb size (digits + 3 * count + 1) (omega arith)))
    (λ n. le-ltb ((size - (digits + 1)) / 3) count (omega arith) ∙ sym (le-ltb size (digits + 3 * count + 1) (omega arith)))

module _ (number : ℕ) (reply : List ℕ) where
  pub length_line : length (line_of number reply) ≡ digits_in number + text_size (length reply) + 1
  unfolding line_of
  length_line =
      omega (
        arith,
        length-append (decimal_of number) (reply_text reply ++ (text "\n")),
        length-append (reply_text reply) (text "\n"),
        length_decimal number,
        length_text reply,
      )

  pub line_made : (area : List ℕ)
      → sets (sets (sets area 0 (decimal_of number)) (digits_in number) (reply_text reply)) (digits_in number + text_size (length reply)) (text "\n")
      ≡ sets area 0 (line_of number reply)
  unfolding line_of
  line_made area =
      sets_join (sets area 0 (decimal_of number)) (digits_in number) (digits_in number + text_size (length reply)) (reply_text reply) (text "\n")
      (omega (arith, length_text reply))
      ∙ sets_join area 0 (digits_in number) (decimal_of number) (reply_text reply ++ (text "\n")) (omega (arith, length_decimal number))

-- a line that ends with a number
module _ (start : List ℕ) (number : ℕ) where
  pub length_numbered : length (start ++ (decimal_of number ++ text "\n")) ≡ length start + digits_in number + 1
  length_numbered =
      omega (
        arith,
        length-append start (decimal_of number ++ text "\n"),
        length-append (decimal_of number) (text "\n"),
        length_decimal number,
      )

  pub numbered_made : (area : List ℕ)
      → sets (sets (sets area 0 start) (length start) (decimal_of number)) (length start + digits_in number) (text "\n")
      ≡ sets area 0 (start ++ (decimal_of number ++ text "\n"))
  numbered_made area =
      sets_join (sets area 0 start) (length start) (length start + digits_in number) (decimal_of number) (text "\n") (omega (arith, length_decimal number))
      ∙ sets_join area 0 (length start) start (decimal_of number ++ text "\n") (omega arith)
