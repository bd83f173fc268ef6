-- `format::find_sized` meets its contract. A field has one length.
use mathlib.Core.Path.{sym, ap, ◌∙◌}
use lib.ListN.{length}
use Rattle.format.proofs.Bytes.{same_field}
use Rattle.format.proofs.find_sized.Goals as goal

pub returns-in_err-as_array : goal.returns-in_err-as_array
returns-in_err-as_array g c =
    rw c.from_residual-in_err-as_array.ensures
    (λ content rest l f. c.in_err-as_array.ensures.cases (ap length (same_field _ _ _ _ _ _ (sym c.in_ok-content.ensures.0 ∙ f)).1 ∙ l))
