-- `checksum::short::by_words` meets its contract: what the sum makes of the bytes left is what it made of all.
use mathlib.Core.Path.{◌≡◌, sym, ap, ◌∙◌}
use mathlib.Core.List.{List, []}
use Prim.Native.Nat.{ℕ, ◌+◌, ◌*◌, ◌/◌, ◌≤◌, ◌<◌}
use native.Mathlib.Omega.{arith}
use lib.ListN.{length, get_or, drop}
use Rattle.octets.specs.Number.{number_of, part, number_at}
use Rattle.octets.proofs.Parts.{length_part}
use Rattle.checksum.specs.Checksum.{checksum_from}
use Rattle.checksum.proofs.Parts.{word_turn}
use Rattle.checksum.proofs.Chunks.{chunk_at, four_read}
use Rattle.checksum.proofs.short.by_words.Goals as goal

pub loop-word-preserved : goal.loop-word-preserved
loop-word-preserved c =
    let bytes = c.args.bytes.now in
    let i = c.loop-word.word-index in
    let there : i < length bytes / 4 = omega (arith, c.loop-word-test.true, c.as_chunks.ensures.front_len) in
    let whole : 4 * i + 4 ≤ length bytes = omega arith in
    let next : 4 * (i + 1) ≡ 4 * i + 4 = omega arith in
    let four = get_or c.as_chunks.result.0.now i [] in
    let item : four ≡ part (4 * i) 4 bytes = ap (λ (words : List (List ℕ)). get_or words i []) c.as_chunks.ensures.front ∙ chunk_at 4 (length bytes / 4) bytes i [] there in
    let number : c.from_le_bytes.result ≡ number_at (4 * i) 4 bytes =
    c.from_le_bytes.ensures ∙ four_read four (rw (item, length_part (4 * i) 4 bytes whole) (omega arith)) ∙ ap number_of item in
    rw (next, c.word_bits-sum.ensures, number)
    (sym (word_turn bytes (λ k. (c.type_inv.bytes k).fits) c.loop-word.sum (4 * i) whole) ∙ c.loop-word.invariant)

pub returns : goal.returns
returns c =
    let bytes = c.args.bytes.now in
    let end : length bytes / 4 * 4 ≡ 4 * c.loop-word.word-index = omega (arith, c.loop-word-test.false, c.as_chunks.ensures.front_len) in
    c.by_bytes.ensures
    ∙ ap (checksum_from c.loop-word.sum) (c.as_chunks.ensures.back ∙ ap (λ (at : ℕ). drop at bytes) end)
    ∙ c.loop-word.invariant
