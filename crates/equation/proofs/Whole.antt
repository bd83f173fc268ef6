-- A window that is the whole of each cell: what is proved of it is so of the stripe.
use mathlib.Core.Path.{◌≡◌, refl, ◌∙◌, subst}
use mathlib.Core.List.{List}
use Prim.Native.Nat.{ℕ}
use Rattle.codes.specs.declared.Shape.{Shape}
use Rattle.codes.specs.Encoded.{fails}
use Rattle.equation.specs.declared.Window.{Window}
use Rattle.equation.specs.Window.{Shares, fails_in}
use Rattle.equation.specs.InWindow.{IsWhole, SharesIn, is_failing}
use Rattle.equation.proofs.Windows.{fails_whole}

module _ (w : Window) (s : Shape) (stripe : List ℕ) (h : IsWhole w s stripe) where
  pub of_whole : (P : Shape → List ℕ → ℕ → ℕ → Type 0) → P w.shape w.stripe.now w.at w.n → P s stripe 0 s.cell
  of_whole P x = subst (P s stripe 0) h.n (subst (λ (a : ℕ). P s stripe a w.n) h.at (subst (λ (b : List ℕ). P s b w.at w.n) h.bytes (subst (λ (z : Shape). P z w.stripe.now w.at w.n) h.shape x)))

  pub whole_shares : (shared : List ℕ) → SharesIn w shared → Shares s stripe 0 s.cell shared
  whole_shares shared = of_whole (λ z b a n. Shares z b a n shared)

  -- an equation fails in it where it fails in the stripe
  pub whole_fails : (q : ℕ) → is_failing w q ≡ fails s stripe q
  whole_fails q = of_whole (λ z b a n. is_failing w q ≡ fails_in z b q a n) refl ∙ fails_whole s stripe q
