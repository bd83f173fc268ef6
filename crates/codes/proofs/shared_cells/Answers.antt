-- `codes::shared_cells` meets its contract. The shared cells are those that their line covers.
use Rattle.codes.proofs.Shared.{evenodd_shares}
use Rattle.codes.proofs.Walked.{listing}
use Rattle.codes.proofs.shared_cells.Goals as goal

pub shared-requires : goal.shared-requires
shared-requires c = (c.requires.0, evenodd_shares c.args.shape c.requires.1)

pub returns : goal.returns
returns c = listing c.args.shape c.requires.0 _ _ c.shared.ensures _ _ c.place_line.ensures
