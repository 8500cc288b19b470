-- What is used of a layout, whichever, and that both forms and the larger part's have it.
use Rattle.std.specs.Prelude.{◌≡◌, refl, ℕ, ◌+◌, ◌-◌, ◌*◌, ◌<◌, ◌≤◌, List, get_or}
use Rattle.std.proofs.Common.{lit≤}
use Rattle.octets.specs.Number.{part, number_of, bytes_of, number_at}
use Rattle.octets.proofs.Table.{equal_at}
use Rattle.settings.specs.Layout.{Layout, form1, form2, large, checksum_at, count_of, table_end, bodies_end, table_of, entries_from, offset_of, sum_of, pairs_of}
use Rattle.settings.specs.Bodies.{body_in}

pub record Sound (layout : Layout) : Type 0 where
  -- there is an entry, and the number of each has one byte
  pub some : 1 ≤ count_of layout
  pub few : count_of layout ≤ 7
  -- the bodies end before the checksum, and where the last entry says
  pub fits : bodies_end layout ≤ checksum_at
  pub ends : bodies_end layout ≡ get_or (table_of layout) (4 * count_of layout - 1) 0 + get_or (table_of layout) (4 * count_of layout) 0
  -- body 3 stands where it does in form 1, counted from the table's end
  pub values : (image : List ℕ) → part (table_end layout + 48) 6 image ≡ body_in layout 3 image
  -- the numbers of the table have two bytes
  pub numbers : (place : ℕ) → place < 2 + 4 * count_of layout → get_or (table_of layout) place 0 ≡ number_at (2 * place) 2 (pairs_of (table_of layout))

pub first_sound : Sound form1
unfolding table_of entries_from offset_of sum_of number_of bytes_of pairs_of
first_sound = record {
  some = lit≤ tt;
  few = lit≤ tt;
  fits = lit≤ tt;
  ends = refl;
  values = λ image. refl;
  numbers = equal_at (λ place. number_at (2 * place) 2 (pairs_of (table_of form1))) (table_of form1) tt;
}

pub second_sound : Sound form2
unfolding table_of entries_from offset_of sum_of number_of bytes_of pairs_of
second_sound = record {
  some = lit≤ tt;
  few = lit≤ tt;
  fits = lit≤ tt;
  ends = refl;
  values = λ image. refl;
  numbers = equal_at (λ place. number_at (2 * place) 2 (pairs_of (table_of form2))) (table_of form2) tt;
}

pub larger_sound : Sound large
unfolding table_of entries_from offset_of sum_of number_of bytes_of pairs_of
larger_sound = record {
  some = lit≤ tt;
  few = lit≤ tt;
  fits = lit≤ tt;
  ends = refl;
  values = λ image. refl;
  numbers = equal_at (λ place. number_at (2 * place) 2 (pairs_of (table_of large))) (table_of large) tt;
}
