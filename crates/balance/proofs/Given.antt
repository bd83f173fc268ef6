-- What the balanced plan's call gives: a plan with an even load, by which no run is refused, and one over all rows leaves the lost column in the spare. What
-- a run does was proved for every accepted plan. And m = p-1 is the same as no m.
use mathlib.Core.Path.{◌≡◌, refl, sym, ap, ◌∙◌, subst}
use mathlib.Core.Logic.{◌↔◌, ◌≢◌}
use mathlib.Core.List.{List, []}
use mathlib.Core.Bool.{true, not}
use Prim.Native.Nat.{ℕ, ◌+◌, ◌-◌, ◌*◌, ◌/◌, ◌<◌, min}
use native.Mathlib.Omega.{arith}
use lib.Count.{ones}
use lib.ListN.{length, take, drop}
use borrow.Author.Tests.{eq-eqb, ne_eqb, le-leb, lt-leb, lt-ltb, le-ltb}
use Rattle.std.specs.declared.option.Option.{Option}
use Rattle.std.specs.declared.option.Option.TheVariants.{None, Some}
use Rattle.xor.proofs.Cases.{by_test, and_both, or_left}
use Rattle.codes.specs.declared.Shape.{Shape}
use Rattle.std.specs.Prelude.{Result, Ok, Err}
use Rattle.refusals.specs.declared.reason.Refusal.{Refusal}
use Rattle.refusals.proofs.Answer.{not_none}
use Rattle.codes.specs.Shape.{listed, rows, missing, disks, stripe_length}
use Rattle.codes.specs.Geometry.{column_of, cell_at, place}
use Rattle.codes.specs.Encoded.{Encoded}
use Rattle.codes.specs.Agree.{Agree, callers_columns}
use Rattle.refusals.specs.Refusals.{order, applies, first_of, refusal}
use Rattle.refusals.proofs.Order.{miss, right}
use Rattle.codes.proofs.Geometry.{column_all}
use Rattle.codes.proofs.Lines.{rdp_columns}
use Rattle.codes.proofs.Shapes.{prime_low, disks_is}
use Rattle.plan.specs.declared.ReadPlan.{ReadPlan}
use Rattle.plan.specs.Plan.{column_reads, cells_read, TakesRows, is_accepted}
use Rattle.plan.specs.Refusals.{rdp_faults}
use Rattle.plan.proofs.Refused.{rdp_after}
use Rattle.plan.proofs.Planning.{plan_given}
use Rattle.spare.specs.Refusals.{spare_faults, run_faults}
use Rattle.spare.specs.Run.{takes_row, rows_run, RunsByPlan}
use Rattle.spare.specs.Runs.{Turn, covers}
use Rattle.spare.proofs.Refused.{spare_after, run_after}
use Rattle.spare.proofs.Covered.{column_comes_back}
use Rattle.balance.specs.Balance.{by_balance}
use Rattle.balance.specs.Right.{Balanceable}
use Rattle.balance.specs.Refusals.{balance_faults}
use Rattle.balance.specs.Balances.{Balances}
use Rattle.balance.proofs.Refused.{balance_after, balance_accepted}
use Rattle.balance.proofs.BalanceFacts.{balanced_accepted, balanced_ones, balanced_surviving, balanced_last, balanced_reads}

module _ (s : Shape) (k : ℕ) (plan : ReadPlan) (given : Balances s k (Ok plan)) where
  pub asked : Balanceable s k
  asked = balance_accepted s k (sym given.0)

  -- what is given goes by the rule
  pub given_takes : TakesRows s (by_balance s k) plan.rows
  given_takes = subst (λ (x : ℕ). TakesRows s (by_balance s x) plan.rows) (column_all s asked.full k) given.1.taken

  -- so it takes half of the rows by diagonal, reads as many cells of each surviving column below p, and so many of column p and in all
  pub given_ones : ones plan.rows ≡ (s.p - 1) / 2
  given_ones = balanced_ones s k asked plan.rows given_takes

  pub given_surviving : (j : ℕ) → j < s.p → j ≢ k → column_reads s k plan.rows j ≡ (3 * s.p - 5) / 4
  given_surviving = balanced_surviving s k asked plan.rows given_takes

  pub given_last : column_reads s k plan.rows s.p ≡ (s.p - 1) / 2
  given_last = balanced_last s k asked plan.rows given_takes

  pub given_reads : plan.reads ≡ 3 * ((s.p - 1) * (s.p - 1)) / 4
  given_reads =
      given.1.reads ∙ ap (λ (x : ℕ). cells_read s x plan.rows) (column_all s asked.full k) ∙ balanced_reads s k asked plan.rows given_takes

  -- it is accepted
  pub given_accepted : is_accepted s (column_of s k) plan.rows ≡ true
  given_accepted = ap (λ (x : ℕ). is_accepted s x plan.rows) (column_all s asked.full k) ∙ balanced_accepted s k asked plan.rows given_takes

  -- no run by it on a stripe and a spare of the right lengths, from a row inside, is refused
  module _ (bytes spare first : ℕ) (long : bytes ≡ stripe_length s) (whole : spare ≡ rows s * s.cell) (inside : first < s.p) where
    pub run_allowed : refusal (run_faults s bytes spare k plan.rows first) ≡ 0
    run_allowed = sym ((run_after s bytes spare k plan.rows first).own (sym lent) (miss (lt-leb (disks s) k there) (miss (lt-leb s.p first inside) (miss (ap not given_accepted) right))))
      where
        shape : 0 ≡ refusal (rdp_faults s)
        shape = let n = (balance_after s k).none (sym given.0) in (rdp_after s).own n.0 (miss n.1.1.0 (miss n.1.1.1.1.0 (miss n.1.1.1.1.1.0 right)))

        lent : 0 ≡ refusal (spare_faults s bytes spare)
        lent = (spare_after s bytes spare).own (sym shape) (miss (ap not (eq-eqb bytes (stripe_length s) long)) (miss (ap not (eq-eqb spare (rows s * s.cell) whole)) right))

        there : k < disks s
        there = omega (arith, asked.below, asked.full, disks_is s asked.formed, rdp_columns s asked.formed asked.rdp)

  -- one over all rows, from a stripe that agrees with an encoded one beside the lost column, leaves that column in the spare
  module _ (x stripe old new : List ℕ) (encoded : Encoded s x) (long : length x ≡ stripe_length s) (lent : length stripe ≡ stripe_length s)
      (agree : Agree s (callers_columns s k k) stripe x) (whole : length old ≡ rows s * s.cell) where
    pub balanced_rebuilds : (answer : Result ℕ Refusal) → RunsByPlan s k plan.rows 0 (rows s) stripe old new answer
        → (answer ≡ Ok (rows s)) × (new ≡ take (rows s * s.cell) (drop (place s (cell_at s 0 k)) x))
    unfolding rows_run takes_row covers
    balanced_rebuilds (Err why) h = absurd (not_none why (h.0 ∙ run_allowed (length stripe) (length old) 0 lent whole (omega (arith, asked.below))))
    balanced_rebuilds (Ok n) h = (
      ap Ok (h.1.0 ∙ all),
      column_comes_back s k x encoded turn [] old new long (agree, tt) (new, record { count = n; runs = h }, refl) (λ i li. or_left _ (and_both (le-leb 0 i (omega arith)) (lt-ltb i (0 + rows s) (omega arith)))),
    )
      where
        all : min (rows s) (rows s - 0) ≡ rows s
        all = omega arith

        turn : Turn
        turn = record { stripe = stripe; plan = plan.rows; first = 0; budget = rows s }

-- ---- m = p-1 and no m

module _ (p cell k : ℕ) where
  -- RDP with so many data columns
  abbrev rdp_of : Option ℕ → Shape
  rdp_of width = record { code = 1; p = p; cell = cell; width = width }

  -- the refusals are the same
  same_refusal : refusal (balance_faults (rdp_of (Some (p - 1))) k) ≡ refusal (balance_faults (rdp_of None) k)
  unfolding balance_faults refusal first_of order applies missing
  same_refusal =
      by_test (listed p)
      (λ h. rw (h, ne_eqb (p - 1) 0 (λ z. omega (arith, prime_low p h)), lt-leb p (p - 1) (omega (arith, prime_low p h)), le-ltb 0 (p - 1 - (p - 1)) (omega arith)) refl)
      (λ h. rw h refl)

  -- what is given for one width is given for another that is refused alike
  carried : (v w : Option ℕ) → refusal (balance_faults (rdp_of v) k) ≡ refusal (balance_faults (rdp_of w) k) → (answer : Result ReadPlan Refusal) → Balances (rdp_of v) k answer → Balances (rdp_of w) k answer
  unfolding rows by_balance
  carried v w same (Err why) h = h ∙ same
  carried v w same (Ok plan) h =
      let none = sym (h.0 ∙ same) in
      let b = balance_accepted (rdp_of w) k none in
      let taken = given_takes (rdp_of v) k plan h in
      let ruled : TakesRows (rdp_of w) (by_balance (rdp_of w) k) plan.rows = record { low = taken.low; rule = taken.rule } in
      plan_given (rdp_of w) k (by_balance (rdp_of w)) (balance_faults (rdp_of w) k) k plan.rows plan.reads none (sym (column_all (rdp_of w) b.full k)) ruled
      (given_reads (rdp_of v) k plan h ∙ sym (balanced_reads (rdp_of w) k b plan.rows ruled))

  -- with m = p-1 the call answers what it does without m, and nothing else
  pub balance_as_absent : (answer : Result ReadPlan Refusal) → Balances (rdp_of (Some (p - 1))) k answer ↔ Balances (rdp_of None) k answer
  balance_as_absent answer = (carried (Some (p - 1)) None same_refusal answer, carried None (Some (p - 1)) (sym same_refusal) answer)
