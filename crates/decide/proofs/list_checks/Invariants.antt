-- `decide::list_checks` meets its contract. The loop's invariant: the sources of the members that are not still to come are listed.
use Rattle.decide.proofs.Lists.{ChecksTo}
use Rattle.decide.proofs.list_checks.Given as goal

abbrev pub invariant-loop-q : goal.invariant-loop-q
invariant-loop-q l = ChecksTo l.unused l.sources l.v l.q-iterator.rest l.checks
