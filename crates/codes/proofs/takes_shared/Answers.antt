-- `codes::takes_shared` meets its contract. All equations after the rows, where some share.
use mathlib.Core.Path.{sym, ◌∙◌}
use Rattle.codes.proofs.Shared.{unshared_takes, shared_takes}
use Rattle.codes.proofs.takes_shared.Goals as goal

pub returns-then-shares : goal.returns-then-shares
returns-then-shares c = shared_takes c.args.shape _ _ (sym c.shares.ensures ∙ c.if-shares.true) c.row_count.ensures

pub returns-else-shares : goal.returns-else-shares
returns-else-shares c = c.if-shares.false ∙ unshared_takes c.args.shape _ (sym c.shares.ensures ∙ c.if-shares.false)
