-- `jobs::put_field` meets its contract. The tag and the length are stored first, and the content after them.
use Rattle.jobs.proofs.Storing.{head_is, stored_field}
use Rattle.jobs.proofs.put_field.Goals as goal

pub returns : goal.returns
returns c = stored_field c.args.output.now _ _ c.args.content.now _ c.args.at _ (head_is _ _ _ _ c.from.ensures c.to_be_bytes.ensures c.requires.0) c.put_run.ensures c.put_run-2.ensures
