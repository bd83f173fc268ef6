-- `refusals::parity_at` meets its contract. The column that lies there is looked at.
use mathlib.Core.Path.{sym, ap, ◌∙◌, subst}
use Prim.Native.Nat.{ℕ, ◌<◌}
use Rattle.codes.specs.Shape.{columns, cell_number}
use Rattle.codes.specs.Encoded.{is_parity}
use Rattle.codes.proofs.Geometry.{column_there}
use Rattle.refusals.proofs.parity_at.Goals as goal

pub column_of-requires : goal.column_of-requires
column_of-requires c = (c.requires.0, c.requires.2)

pub is_parity-requires : goal.is_parity-requires
is_parity-requires c = (c.requires.0, c.requires.1, subst (λ (j : ℕ). j < columns c.args.shape) (sym c.column_of.ensures) (column_there c.args.shape c.requires.0 c.args.d c.requires.2))

pub returns : goal.returns
returns c =
    let a = c.args in
    c.is_parity.ensures ∙ ap (λ (j : ℕ). is_parity a.shape (cell_number a.shape a.row j)) c.column_of.ensures
