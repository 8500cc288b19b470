-- 01, Commands, 0x23 Range erase and 0x15 Mass erase.
use Rattle.std.specs.Prelude.{ℕ, ◌+◌, ◌/◌, List}
use Rattle.octets.specs.Choice.{pick}
use Rattle.flash.specs.Places.{is_between}
use Rattle.flash.specs.Protection.{changed}

-- "Every sector from start's to end's becomes 0xFF", as far as the memory reaches
unfoldable pub erase_of : ℕ → List ℕ → ℕ → ℕ → List ℕ → List ℕ
erase_of sector_size protection first last memory =
    changed sector_size protection (λ place old. pick (is_between first (last + 1) (place / sector_size)) 0xFF old) memory

-- "all MAIN"
unfoldable pub erase_all_of : ℕ → List ℕ → List ℕ → List ℕ
erase_all_of sector_size protection memory = changed sector_size protection (λ place old. 0xFF) memory
