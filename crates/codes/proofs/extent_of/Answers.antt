-- `codes::extent_of` meets its contract. By the table of document 01, and request 03.
use native.Mathlib.Omega.{arith}
use Rattle.xor.proofs.Cases.{by_equal}
use Rattle.codes.specs.Equations.{rdp, hcode, xcode, evenodd}
use Rattle.codes.proofs.Shapes.{rdp_is, hcode_is, xcode_is, evenodd_is, extents}
use Rattle.codes.proofs.extent_of.Goals as goal

pub returns-then-shape : goal.returns-then-shape
returns-then-shape c = let s = c.args.shape in extents s (xcode s.p) (xcode_is s c.if-shape.true)

pub returns-then-shape-2 : goal.returns-then-shape-2
returns-then-shape-2 c = let s = c.args.shape in extents s (evenodd s.p) (evenodd_is s c.if-shape-2.true)

pub returns : goal.returns
returns c =
    let s = c.args.shape in
    by_equal s.code 1 (λ e. extents s (rdp s.p) (rdp_is s e))
    (λ n. extents s (hcode s.p) (hcode_is s (omega (arith, c.requires.code_low, c.requires.code_high, c.if-shape.false, c.if-shape-2.false))))
