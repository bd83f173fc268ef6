-- What is said of a window, a struct of the code: as in Window of its shape, its stripe, where it begins and how many bytes it has.
use Rattle.std.specs.Prelude.{◌≡◌, List, Bool, true, ℕ, ◌+◌, ◌<◌, Option, MatchOption}
use Rattle.bits.specs.Bit.{IsLowest}
use Rattle.codes.specs.declared.Shape.{Shape}
use Rattle.codes.specs.Shape.{equations}
use Rattle.codes.specs.Lines.{shares, shared_sum}
use Rattle.equation.specs.declared.Window.{Window}
use Rattle.equation.specs.Window.{bytes_at, Shares, fails_in}

-- byte i of each cell in it
abbrev pub bytes_in : Window → ℕ → ℕ → ℕ
bytes_in w i = bytes_at w.shape w.stripe.now (w.at + i)

-- it is the whole of each cell
pub record IsWhole (w : Window) (s : Shape) (stripe : List ℕ) : Type 0 where
  pub shape : w.shape ≡ s
  pub bytes : w.stripe.now ≡ stripe
  pub at : w.at ≡ 0
  pub n : w.n ≡ s.cell

-- `shared` has its bytes of the XOR of the shared cells, where there are such cells
abbrev pub SharesIn : Window → List ℕ → Type 0
SharesIn w shared = Shares w.shape w.stripe.now w.at w.n shared

-- x is byte i of them
abbrev pub SharedByte : Window → ℕ → ℕ → Type 0
SharedByte w i x = shares w.shape ≡ true → x ≡ shared_sum w.shape (bytes_in w i)

-- whether equation q fails in it
abbrev pub is_failing : Window → ℕ → Bool
is_failing w q = fails_in w.shape w.stripe.now q w.at w.n

-- r is the first equation that fails in it, or none where none does
abbrev pub FirstFailing : Window → Option ℕ → Type 0
FirstFailing w r = MatchOption r (IsLowest (equations w.shape) (is_failing w) (equations w.shape)) (λ q. (q < equations w.shape) × IsLowest (equations w.shape) (is_failing w) q)
