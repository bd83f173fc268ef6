-- `format::find_field` meets its contract. The head there says which tag and length a field would have.
use mathlib.Core.Path.{sym, ◌∙◌}
use native.Mathlib.Omega.{arith}
use lib.ListN.{length}
use Rattle.std.proofs.lemmas.Slice.{between_to_end}
use Rattle.format.proofs.Bytes.{same_two}
use Rattle.format.proofs.Parts.{head_there, field_split}
use Rattle.format.proofs.find_field.Goals as goal

pub returns-in_default : goal.returns-in_default
returns-in_default c = λ content rest l f. omega (arith, (head_there _ _ content rest f).long)

pub returns-then-found-from : goal.returns-then-found-from
returns-then-found-from c = λ content rest l f.
    let h = head_there _ _ content rest f in
    let same = same_two (length content) c.two_bytes-size.result (h.size_is ∙ sym c.two_bytes-size.ensures.0) in
    omega arith

pub returns : goal.returns
returns c =
    let bytes = c.args.bytes.now in
    field_split bytes _ _ _ _
    (record { long = c.in-len3-up.len_at_least; tag_is = omega arith; size_is = c.two_bytes-size.ensures.0; after_is = sym (between_to_end bytes 3 (length bytes) (omega arith)) })
    (omega arith) _ c.split_at_checked.ensures.cases
