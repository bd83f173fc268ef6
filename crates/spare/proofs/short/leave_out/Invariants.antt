-- `spare::short::leave_out` meets its contract. The loop's invariant: among the first j places the last one stands in for the lost cell's.
use Rattle.spare.specs.Places.{OthersPut}
use Rattle.spare.proofs.short.leave_out.Given as goal

abbrev pub invariant-loop-j : goal.invariant-loop-j
invariant-loop-j l = OthersPut l.j l.own l.last l.initial.places l.places
