-- `program_io::read_full` meets its contract: what a turn has read follows what was read before it.
use Rattle.std.proofs.Common.{rules, ◌≡◌, ◌≤◌, ◌+◌, ℕ, List, ◌++◌, length, take, drop, sym, ap, ◌∙◌, subst, le_refl, drop_at, length-take-le}
use Rattle.std.proofs.lemmas.Slice.{take-put_mid_below}
use Rattle.std.proofs.KnownBytes.{Consumes-trans}
use Rattle.std.specs.Io.KnownBytes.{Consumes}
use borrow.Rule.Slice.PartMut.{put_mid, post_of}
use lib.Seq.{take-add, take-append-le}
use Rattle.program_io.proofs.read_full.Goals as goal

-- the front of an area, part of which is replaced from a place on, up to within that part
take-put_mid : (a k n : ℕ) (xs ys : List ℕ) → a ≤ length xs → n ≤ length ys → take (a + n) (put_mid a k xs ys) ≡ take a xs ++ take n ys
take-put_mid a k n xs ys within fits =
    let after = post_of a k xs in
    take-add a n (put_mid a k xs ys)
    ∙ ap (λ (front : List ℕ). front ++ take n (drop a (put_mid a k xs ys))) (take-put_mid_below _ _ _ _ _ (le_refl _) within)
    ∙ ap (λ (rest : List ℕ). take a xs ++ take n rest) (drop_at (take a xs) (ys ++ after) a (length-take-le a xs within))
    ∙ ap (λ (more : List ℕ). take a xs ++ more) (take-append-le n ys after fits)

pub loop-size-preserved : goal.loop-size-preserved
loop-size-preserved g c =
    let l = c.loop-size in (
      search rules,
      search rules,
      subst (Consumes _ _) (sym (take-put_mid l.size _ c.in_ok-count.count l.area c.read.new.buf (search rules) (search rules)))
          (Consumes-trans _ _ _ _ _ l.invariant.2 c.in_ok-count.ensures.bytes.0),
    )
