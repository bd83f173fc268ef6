-- `codes::cells_of` meets its contract. The parity cell's place stands behind those of the cells that the equation sums by itself.
use Rattle.codes.proofs.Walked.{holding}
use Rattle.codes.proofs.cells_of.Goals as goal

pub returns : goal.returns
returns c = holding c.args.shape c.requires.0 _ c.requires.1 _ _ c.sources_of-to.ensures
