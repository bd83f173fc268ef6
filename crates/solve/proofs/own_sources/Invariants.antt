-- `solve::own_sources` meets its contract. The loop's invariant: the first q masks are done.
use Rattle.solve.specs.Masked.{Own}
use Rattle.solve.proofs.own_sources.Given as goal

abbrev pub invariant-loop-q : goal.invariant-loop-q
invariant-loop-q l = Own l.q l.sources
