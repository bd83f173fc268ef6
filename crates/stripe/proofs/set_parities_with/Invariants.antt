-- `stripe::set_parities_with` meets its contract. The loop's invariant: the parity cells of the first q equations are set, one after the other.
use Rattle.stripe.proofs.Encoding.{Settled}
use Rattle.stripe.proofs.set_parities_with.Given as goal

abbrev pub invariant-loop-q : goal.invariant-loop-q
invariant-loop-q l = Settled l.shape l.q l.initial.stripe l.stripe
