-- `plan::rule_rows` meets its contract. Each mask is the plan by the rule.
use Prim.Native.Nat.{◌-◌}
use native.Mathlib.Omega.{arith}
use Rattle.codes.proofs.Shapes.{low, high}
use Rattle.plan.proofs.Rule.{some_power, rule_all, rule_low, rule_out}
use Rattle.plan.proofs.rule_rows.Goals as goal

pub overflow_sub-n : goal.overflow_sub-n
overflow_sub-n c = omega (arith, low c.args.shape c.requires.formed)

pub one_bit-requires : goal.one_bit-requires
one_bit-requires c = omega (arith, high c.args.shape c.requires.formed)

pub overflow_sub-result : goal.overflow_sub-result
overflow_sub-result c = some_power _ _ c.one_bit.ensures

pub returns-then-n-k : goal.returns-then-n-k
returns-then-n-k c = rule_all c.args.shape c.args.k c.requires _ c.if-n-k.true c.one_bit.ensures

pub one_bit-requires-then-left_out-half : goal.one_bit-requires-then-left_out-half
one_bit-requires-then-left_out-half c = omega (arith, high c.args.shape c.requires.formed)

pub overflow_sub-result-then-left_out-half : goal.overflow_sub-result-then-left_out-half
overflow_sub-result-then-left_out-half c = some_power _ _ c.one_bit-then-left_out-half.ensures

pub one_bit-requires-then-left_out-half-2 : goal.one_bit-requires-then-left_out-half-2
one_bit-requires-then-left_out-half-2 c = omega (arith, high c.args.shape c.requires.formed)

pub returns-then-left_out-half : goal.returns-then-left_out-half
returns-then-left_out-half c = rule_out c.args.shape c.args.k c.requires (omega arith) (c.args.shape.p - 1 - c.args.k) (omega arith) _ _ (omega arith) c.one_bit-then-left_out-half.ensures c.one_bit-then-left_out-half-2.ensures

pub one_bit-requires-2 : goal.one_bit-requires-2
one_bit-requires-2 c = omega (arith, high c.args.shape c.requires.formed)

pub overflow_sub-result-2 : goal.overflow_sub-result-2
overflow_sub-result-2 c = some_power _ _ c.one_bit-2.ensures

pub returns : goal.returns
returns c = rule_low c.args.shape c.args.k c.requires (omega arith) (c.args.shape.p - 1 - c.args.k) (omega arith) _ (omega arith) c.one_bit-2.ensures
