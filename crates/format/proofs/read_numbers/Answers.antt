-- `format::read_numbers` meets its contract.
use mathlib.Core.Path.{refl}
use Rattle.format.proofs.Reading.{code_first, p_first, begins_given, begins_absent}
use Rattle.format.proofs.read_numbers.Goals as goal
use Rattle.format.proofs.read_numbers.Goals.{in-Some, in-None}

pub returns-in_err-code : goal.returns-in_err-code
returns-in_err-code c = rw c.from_residual.ensures (λ j e. c.in_err-code.ensures _ _ refl (code_first _ j e))

pub returns-in_err-p : goal.returns-in_err-p
returns-in_err-p c = rw c.from_residual-in_err-p.ensures (λ j e. c.in_err-p.ensures _ _ refl (p_first _ j e _ _ c.in_ok-code.ensures.0))

pub returns : goal.returns
returns c =
    let first = c.in_ok-code.ensures in
    let second = c.in_ok-p.ensures in
    elim c.match-find_sized.branch [
      | in-Some w ↦ rw w.cell-is (rw c.from.ensures (rw c.from-2.ensures (begins_given _ _ _ _ _ first.0 second.0 first.1 second.1 _ _ w.in-Some.ensures.0 _ w.two_bytes.ensures.0)))
      | in-None w ↦ rw w.cell-is (rw c.from.ensures (rw c.from-2.ensures (begins_absent _ _ _ _ _ first.0 second.0 first.1 second.1 w.in-None.ensures)))
    ]
