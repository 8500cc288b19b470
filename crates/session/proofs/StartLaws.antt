-- What holds of every start.
use mathlib.Core.Path.{◌≡◌, refl}
use mathlib.Core.Bool.{false}
use lib.Dec.{eqb}
use Rattle.settings.proofs.ReaderLaws.{refuses}
use Rattle.session.specs.declared.StartError.{StartError}
use Rattle.session.specs.declared.StartError.TheVariants as start
use Rattle.session.specs.StartAnswers.{start_numbered}

-- every error has a number
pub errs : (error : StartError) → eqb (start_numbered error).number 0 ≡ false
errs start.FuseSet = refl
errs start.MainSizeWrong = refl
errs start.WindowSizeWrong = refl
errs (start.Image refusal) = refuses refusal
