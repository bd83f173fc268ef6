-- `stripe::count_failing` meets its contract. What the closure keeps of the equations are those that fail.
use mathlib.Core.Path.{◌≡◌, refl, ap, ◌∙◌}
use Rattle.std.proofs.Common.{arith, rules, tests}
use Rattle.std.proofs.lemmas.Iterator.{YieldsList-from_range}
use Rattle.std.proofs.lemmas.Iterator.Consumers.{YieldsList-at, YieldsList-from_filter, count_from_yields_List}
use Rattle.xor.specs.Sets.{count}
use Rattle.codes.specs.Shape.{equations}
use Rattle.equation.specs.InWindow.{is_failing}
use Rattle.stripe.proofs.BrokenFacts.{kept_counted}
use Rattle.stripe.proofs.count_failing.Goals as goal

pub returns : goal.returns
returns c =
    let w = c.args.window.now in
    let counted : c.count.result ≡ count (equations w.shape) (is_failing w) =
    count_from_yields_List c.filter.result c.count.result c.count.ensures.ran
    (YieldsList-from_filter _ (is_failing w) (YieldsList-at c.filter.ensures.source (YieldsList-from_range 0 _ c.equation_count-n.result refl (omega arith))) c.filter.ensures.closure (λ x b q k. search (rules, tests)))
    ∙ kept_counted c.equation_count-n.result (is_failing w)
    ∙ ap (λ n. count n (is_failing w)) c.equation_count-n.ensures in
    omega (arith, counted)
