-- Every row of the table holds: one test that antt computes over the whole table, and a law that turns the test into each row's claim.
use mathlib.Core.Path.{◌≡◌, refl, sym, ap, ◌∙◌, subst}
use mathlib.Core.Logic.{◌≢◌}
use mathlib.Core.List.{List, [], ◌∷◌}
use mathlib.Core.Bool.{Bool, true, false, not, ◌&&◌, xor}
use Prim.Native.Nat.{ℕ, ◌^◌, ◌≤◌, ◌<◌}
use native.Mathlib.Omega.{arith}
use lib.Dec.{eqb, ltb}
use lib.ListN.{length, get_or, get_or-eq_default}
use borrow.Author.Tests.{eqb-true, eq-eqb, ltb-true, not-false, not-true}
use Rattle.std.specs.declared.option.Option.{Option}
use Rattle.std.specs.declared.option.Option.TheVariants.{None, Some}
use Rattle.xor.specs.Xor.{◌⊕◌, xors}
use Rattle.xor.specs.Sets.{any, count}
use Rattle.xor.proofs.Cases.{by_less, clash, and_left, and_right, not_xor}
use Rattle.xor.proofs.Sets.{any_none, any_some}
use Rattle.bits.specs.Bit.{bit, lowest}
use Rattle.elimination.specs.Solution.{syndrome}
use Rattle.elimination.specs.Method.{run}
use Rattle.codes.specs.declared.Shape.{Shape}
use Rattle.codes.specs.Shape.{last_code, listed, rows, columns, missing, disks, existing, equations, cells, cell_number, stripe_length, WellFormed}
use Rattle.codes.specs.Geometry.{is_there, cell_there, column_of, lies_at, cell_at, cell_of, callers_cell, place}
use Rattle.codes.specs.Equations.{equation}
use Rattle.codes.specs.Encoded.{parity_cell, sums_cell, byte_at, sum_over, parity_byte, is_parity, Encoded, fails, broken_equations}
use Rattle.refusals.specs.Refusals.{Fault, order, applies, first_of, refusal, shape_faults, stripe_faults, write_faults, cells_faults}
use Rattle.codes.specs.Holders.{holds}
use Rattle.codes.specs.Depends.{WriteRight}
use Rattle.codes.proofs.Shapes.{each_code}
use Rattle.std.specs.Prelude.{Result, Ok, Err}
use Rattle.refusals.specs.declared.reason.Refusal.{Refusal}
use Rattle.refusals.specs.Number.{number_of}
use Rattle.refusals.proofs.Answer.{numbered}
use Rattle.refusals.proofs.Refused.{accepted, write_accepted}
use Rattle.codes.proofs.Positions.{cell_inside}
use Rattle.codes.proofs.Geometry.{column_there, cell_there_at}
use Rattle.decide.proofs.Marks.{named_there, columns_there}
use Rattle.stripe.specs.Write.{Written, Depending}
use Rattle.stripe.proofs.BrokenFacts.{not_failing}
use Rattle.stripe.proofs.Encoding.{settled}
use Rattle.stripe.proofs.Exists.{point, unit_exists, written_alone}
use Rattle.codes.specs.Agree.{in_columns, callers_columns}
use Rattle.decide.specs.Survivors.{named}
use Rattle.bad.specs.declared.BadColumn.{BadColumn}
use Rattle.bad.specs.declared.BadColumn.TheVariants.{Clean, Column, Unexplained}
use Rattle.bad.specs.Bad.{Replaceable, Finding}
use Rattle.decide.proofs.Determined.{columns_determined}
use Rattle.rebuild.specs.Rebuild.{Decides, undetermined, restored, RebuildsCells}
use Rattle.rebuild.proofs.Computed.{outcome, stops, stops_undetermined, passes_determined, fits, fits_restores, unfit_none}
use Rattle.plan.specs.Plan.{diagonal, chosen, reads_cell, column_reads, cells_read, by_rule, is_accepted}
use Rattle.plan.specs.Plans.{PlansBy}
use Rattle.plan.proofs.Planning.{plan_given}
use Rattle.balance.specs.Balance.{offered, shifted, fits as fitting, shift, by_balance}
use Rattle.balance.specs.Refusals.{balance_faults}
use Rattle.balance.specs.Balances.{Balances}
use Rattle.plan.specs.Refusals.{plan_faults}
use Rattle.spare.specs.Run.{RunsByPlan}
use Rattle.spare.specs.Refusals.{spare_faults, run_faults}
use Rattle.show.specs.Refusals.{show_faults}
use Rattle.table.specs.Examples.{Claim, encoded, broken, written, rebuild_refused, rebuilt, found, planned, run_refused, balanced, balance_refused, read_from, Example, empty_spare, table, shelves, evenodds, balances, RefusedBy, Claims, Holds, AllHold}

-- the difference put alone and encoded, byte t of it in cell k
differing : Shape → ℕ → List ℕ → List ℕ → ℕ → ℕ → ℕ
differing s c stripe bytes t k = settled s (equations s) (point c (byte_at s stripe c t ⊕ get_or bytes t 0)) k

-- whether a byte of a stripe is not the XOR of another's with the difference
unwritten : Shape → ℕ → List ℕ → List ℕ → List ℕ → Bool
unwritten s c stripe bytes new = any (cells s) (λ k. any s.cell (λ t. not (eqb (byte_at s new k t) (byte_at s stripe k t ⊕ differing s c stripe bytes t k))))

depending : Shape → ℕ → ℕ
depending s c = count (cells s) (λ k. is_parity s k && not (eqb (settled s (equations s) (point c 1) k) 0))

-- whether the replacement of column c alone makes the stripe encoded
replaces : Shape → List ℕ → ℕ → Bool
replaces s stripe c = fits s (callers_columns s c c) stripe (outcome s (callers_columns s c c))

-- whether some number of a list is no byte
wide : List ℕ → Bool
wide stripe = any (length stripe) (λ i. not (ltb (get_or stripe i 0) 256))

-- whether bad column's finding is so
finds : Shape → List ℕ → BadColumn → Bool
finds s stripe Clean = not (any (equations s) (fails s stripe))
finds s stripe (Column c) = any (equations s) (fails s stripe) && (not (wide stripe) && (ltb c (disks s) && replaces s stripe c))
finds s stripe Unexplained = any (equations s) (fails s stripe) && not (any (disks s) (replaces s stripe))

-- whether a rebuild of the cells that a list names is not refused for its numbers
right_cells : Shape → List ℕ → List ℕ → Bool
right_cells s stripe lost = eqb (refusal (cells_faults s (length stripe) lost)) 0

-- whether two stripes differ in some cell that isn't lost
unlike : Shape → (ℕ → Bool) → List ℕ → List ℕ → Bool
unlike s lost a b = any (cells s) (λ c. not (lost c) && any s.cell (λ t. not (eqb (byte_at s a c t) (byte_at s b c t))))

-- whether a plan takes by diagonal the rows that a rule says and reads so many cells, where a call with these faults is not refused
plans_by : Shape → ℕ → (ℕ → ℕ → Bool) → List Fault → ℕ → ℕ → Bool
plans_by s k rule faults taken reads =
    eqb (refusal faults) 0
    && (ltb taken (2 ^ rows s) && (not (any (rows s) (λ i. xor (bit i taken) (rule (column_of s k) i))) && eqb reads (cells_read s (column_of s k) taken)))

-- whether some refusal has a number
is_number : ℕ → Bool
is_number number = eqb (number_of (numbered number)) number

claimed : Shape → List ℕ → Claim → Bool
claimed s stripe encoded = not (any (equations s) (fails s stripe))
claimed s stripe (broken n) = eqb (broken_equations s stripe) n
claimed s stripe (written row column bytes new n) =
    eqb (refusal (write_faults s (length stripe) row column (length bytes))) 0
    && (eqb (length new) (length stripe) && (not (unwritten s (cell_at s row column) stripe bytes new) && eqb n (depending s (cell_at s row column))))
claimed s stripe (rebuild_refused lost number) = right_cells s stripe lost && (eqb number 11 && stops (outcome s (named s lost)))
claimed s stripe (rebuilt lost new) =
    right_cells s stripe lost
    && (not (stops (outcome s (named s lost))) && (eqb (length new) (stripe_length s) && (not (wide new) && (not (any (equations s) (fails s new)) && not (unlike s (named s lost) stripe new)))))
claimed s stripe (found finding) = finds s stripe finding
claimed s stripe (planned k taken reads) = plans_by s k (by_rule s) (plan_faults s k) taken reads
claimed s stripe (balanced k taken reads) = plans_by s k (by_balance s) (balance_faults s k) taken reads
claimed s stripe (balance_refused k number) = is_number number && eqb (refusal (balance_faults s k)) number
claimed s stripe (read_from k plan column n) = eqb (column_reads s (column_of s k) plan (column_of s column)) n
claimed s stripe (run_refused k plan number) = is_number number && eqb (refusal (run_faults s (length stripe) (length (empty_spare s)) k plan 0)) number

module _ (s : Shape) (stripe : List ℕ) (row column : ℕ) (bytes new : List ℕ) (n : ℕ) (h : claimed s stripe (written row column bytes new n) ≡ true) where
  c : ℕ
  c = cell_at s row column

  tests : (eqb (refusal (write_faults s (length stripe) row column (length bytes))) 0 && (eqb (length new) (length stripe) && (not (unwritten s c stripe bytes new) && eqb n (depending s c)))) ≡ true
  unfolding claimed c
  tests = h

  later : (eqb (length new) (length stripe) && (not (unwritten s c stripe bytes new) && eqb n (depending s c))) ≡ true
  later = and_right (eqb (refusal (write_faults s (length stripe) row column (length bytes))) 0) (eqb (length new) (length stripe) && (not (unwritten s c stripe bytes new) && eqb n (depending s c))) tests

  last : (not (unwritten s c stripe bytes new) && eqb n (depending s c)) ≡ true
  last = and_right (eqb (length new) (length stripe)) (not (unwritten s c stripe bytes new) && eqb n (depending s c)) later

  not_refused : refusal (write_faults s (length stripe) row column (length bytes)) ≡ 0
  not_refused = eqb-true _ 0 (and_left (eqb (refusal (write_faults s (length stripe) row column (length bytes))) 0) (eqb (length new) (length stripe) && (not (unwritten s c stripe bytes new) && eqb n (depending s c))) tests)

  right : WriteRight s (length stripe) row (column_of s column) (length bytes)
  right = (write_accepted s (length stripe) row column (length bytes) not_refused).1

  inside : c < cells s
  unfolding c
  inside = cell_inside s right.formed row (column_of s column) right.cell.low right.cell.right

  there : cell_there s c ≡ true
  unfolding c
  there = cell_there_at s right.formed row (column_of s column) right.cell.low ∙ right.there

  plain : is_parity s c ≡ false
  unfolding c
  plain = right.cell.plain

  is_written : Written s c stripe bytes new
  unfolding unwritten differing
  is_written =
      written_alone s right.formed c inside there plain stripe bytes new (eqb-true (length new) (length stripe) (and_left (eqb (length new) (length stripe)) (not (unwritten s c stripe bytes new) && eqb n (depending s c)) later))
      (λ k lk t lt. eqb-true (byte_at s new k t) (byte_at s stripe k t ⊕ differing s c stripe bytes t k)
      (not-false (eqb (byte_at s new k t) (byte_at s stripe k t ⊕ differing s c stripe bytes t k))
      (any_none s.cell (λ u. not (eqb (byte_at s new k u) (byte_at s stripe k u ⊕ differing s c stripe bytes u k)))
      (any_none (cells s) (λ m. any s.cell (λ u. not (eqb (byte_at s new m u) (byte_at s stripe m u ⊕ differing s c stripe bytes u m))))
      (not-true (unwritten s c stripe bytes new) (and_left (not (unwritten s c stripe bytes new)) (eqb n (depending s c)) last)) k lk) t lt)))

  is_depending : Depending s c n
  unfolding depending
  is_depending = record {
    unit = settled s (equations s) (point c 1);
    alone = unit_exists s right.formed c inside there plain;
    size = eqb-true n (depending s c) (and_right (not (unwritten s c stripe bytes new)) (eqb n (depending s c)) last);
  }

-- no equation fails: the stripe is encoded
is_clean : (s : Shape) (stripe : List ℕ) → not (any (equations s) (fails s stripe)) ≡ true → Encoded s stripe
is_clean s stripe h = record { holds = λ q l. not_failing s stripe q (any_none (equations s) (fails s stripe) (not-true (any (equations s) (fails s stripe)) h) q l) }

-- some equation fails: the stripe is not encoded
some_fails : (s : Shape) (stripe : List ℕ) → any (equations s) (fails s stripe) ≡ true → Encoded s stripe → ⊥
unfolding fails
some_fails s stripe h e =
    let q = any_some (equations s) (fails s stripe) h in
    let t = any_some s.cell (λ u. not (eqb (byte_at s stripe (parity_cell s q.0) u) (parity_byte s stripe q.0 u))) q.2 in
    clash (eq-eqb (byte_at s stripe (parity_cell s q.0) t.0) (parity_byte s stripe q.0 t.0) (e.holds q.0 q.1 t.0 t.1))
    (not-true (eqb (byte_at s stripe (parity_cell s q.0) t.0) (parity_byte s stripe q.0 t.0)) t.2)

not_wide : (stripe : List ℕ) → wide stripe ≡ false → (i : ℕ) → get_or stripe i 0 < 256
unfolding wide
not_wide stripe h i =
    by_less i (length stripe)
    (λ l. ltb-true (get_or stripe i 0) 256 (not-false (ltb (get_or stripe i 0) 256) (any_none (length stripe) (λ k. not (ltb (get_or stripe k 0) 256)) h i l)))
    (λ l. subst (λ (x : ℕ). x < 256) (sym (get_or-eq_default stripe 0 l)) (omega arith))

module _ (s : Shape) (w : WellFormed s) (stripe : List ℕ) where
  is_replaceable : wide stripe ≡ false → (c : ℕ) → c < disks s → replaces s stripe c ≡ true → Replaceable s stripe c
  unfolding replaces
  is_replaceable bytes c l h = let new = fits_restores s w (callers_columns s c c) (columns_there s w c c) stripe (not_wide stripe bytes) h in record { inside = l; replaced = new.0; restores = new.1 }

  none_replaceable : any (disks s) (replaces s stripe) ≡ false → (c : ℕ) → Replaceable s stripe c → ⊥
  unfolding replaces
  none_replaceable h c r =
      unfit_none s w (callers_columns s c c) (columns_there s w c c) stripe (columns_determined s w (column_of s c) (column_of s c) (column_there s w c r.inside) (column_there s w c r.inside)) (any_none (disks s) (replaces s stripe) h c r.inside) r.replaced r.restores

  is_found : (answer : BadColumn) → finds s stripe answer ≡ true → Finding s stripe answer
  unfolding finds
  is_found Clean h = is_clean s stripe h
  is_found (Column c) h =
      let later = and_right (any (equations s) (fails s stripe)) (not (wide stripe) && (ltb c (disks s) && replaces s stripe c)) h in
      let last = and_right (not (wide stripe)) (ltb c (disks s) && replaces s stripe c) later in (
        some_fails s stripe (and_left (any (equations s) (fails s stripe)) (not (wide stripe) && (ltb c (disks s) && replaces s stripe c)) h),
        is_replaceable (not-true (wide stripe) (and_left (not (wide stripe)) (ltb c (disks s) && replaces s stripe c) later)) c
            (ltb-true c (disks s) (and_left (ltb c (disks s)) (replaces s stripe c) last)) (and_right (ltb c (disks s)) (replaces s stripe c) last),
      )
  is_found Unexplained h = (
    some_fails s stripe (and_left (any (equations s) (fails s stripe)) (not (any (disks s) (replaces s stripe))) h),
    none_replaceable (not-true (any (disks s) (replaces s stripe)) (and_right (any (equations s) (fails s stripe)) (not (any (disks s) (replaces s stripe))) h)),
  )

module _ (s : Shape) (stripe : List ℕ) (w : WellFormed s) (lost : List ℕ) where
  -- the numbers are right, so that only demand 3 decides
  decided : (answer : ℕ) (new : List ℕ) → right_cells s stripe lost ≡ true → Decides s (named s lost) stripe answer new → RebuildsCells s lost stripe answer new
  unfolding right_cells
  decided answer new h d = record { refused = λ n. absurd (n (eqb-true (refusal (cells_faults s (length stripe) lost)) 0 h)); decides = λ z. d }

  is_refused : (number : ℕ) → claimed s stripe (rebuild_refused lost number) ≡ true → RebuildsCells s lost stripe number stripe
  unfolding claimed
  is_refused number h =
      let later = and_right (right_cells s stripe lost) (eqb number 11 && stops (outcome s (named s lost))) h in
      decided number stripe (and_left (right_cells s stripe lost) (eqb number 11 && stops (outcome s (named s lost))) h)
      (undetermined (stops_undetermined s w (named s lost) (named_there s w lost) (and_right (eqb number 11) (stops (outcome s (named s lost))) later))
      (eqb-true number 11 (and_left (eqb number 11) (stops (outcome s (named s lost))) later)) refl)

  module _ (new : List ℕ) (h : claimed s stripe (rebuilt lost new) ≡ true) where
    stop : Bool
    stop = stops (outcome s (named s lost))

    agreeing : Bool
    agreeing = not (unlike s (named s lost) stripe new)

    whole : Bool
    whole = not (any (equations s) (fails s new))

    tested : (right_cells s stripe lost && (not stop && (eqb (length new) (stripe_length s) && (not (wide new) && (whole && agreeing))))) ≡ true
    unfolding claimed stop agreeing whole
    tested = h

    is_rebuilt : RebuildsCells s lost stripe 0 new
    unfolding stop agreeing whole unlike
    is_rebuilt =
        let first = and_right (right_cells s stripe lost) (not stop && (eqb (length new) (stripe_length s) && (not (wide new) && (whole && agreeing)))) tested in
        let second = and_right (not stop) (eqb (length new) (stripe_length s) && (not (wide new) && (whole && agreeing))) first in
        let third = and_right (eqb (length new) (stripe_length s)) (not (wide new) && (whole && agreeing)) second in
        let fourth = and_right (not (wide new)) (whole && agreeing) third in
        decided 0 new (and_left (right_cells s stripe lost) (not stop && (eqb (length new) (stripe_length s) && (not (wide new) && (whole && agreeing)))) tested)
        (restored (passes_determined s w (named s lost) (not-true stop (and_left (not stop) _ first)))
        (record {
          is = record {
            long = eqb-true (length new) (stripe_length s) (and_left (eqb (length new) (stripe_length s)) _ second);
            bytes = not_wide new (not-true (wide new) (and_left (not (wide new)) _ third));
            encoded = is_clean s new (and_left whole agreeing fourth);
          };
          agree = record {
            same = λ c lc out t lt. eqb-true (byte_at s stripe c t) (byte_at s new c t) (not-false (eqb (byte_at s stripe c t) (byte_at s new c t))
                (any_none s.cell (λ u. not (eqb (byte_at s stripe c u) (byte_at s new c u)))
                (ap (λ (b : Bool). not b && any s.cell (λ u. not (eqb (byte_at s stripe c u) (byte_at s new c u)))) (sym out)
                ∙ any_none (cells s) (λ d. not (named s lost d) && any s.cell (λ u. not (eqb (byte_at s stripe d u) (byte_at s new d u)))) (not-true (unlike s (named s lost) stripe new) (and_right whole agreeing fourth)) c lc) t lt));
          };
        }) refl)

is_planned : (s : Shape) (k : ℕ) (rule : ℕ → ℕ → Bool) (faults : List Fault) (taken reads : ℕ) → plans_by s k rule faults taken reads ≡ true
    → PlansBy s k rule faults (Ok (record { rows = taken; reads = reads }))
unfolding plans_by
is_planned s k rule faults taken reads h =
    plan_given s k rule faults (column_of s k) taken reads (eqb-true (refusal faults) 0 (and_left (eqb (refusal faults) 0) later h)) refl
    (record {
      low = ltb-true taken (2 ^ rows s) (and_left (ltb taken (2 ^ rows s)) last (and_right (eqb (refusal faults) 0) later h));
      rule = λ i l. not_xor (bit i taken) (rule (column_of s k) i) (any_none (rows s) (λ j. xor (bit j taken) (rule (column_of s k) j)) (not-true differ (and_left (not differ) (eqb reads (cells_read s (column_of s k) taken)) ends)) i l);
    })
    (eqb-true reads (cells_read s (column_of s k) taken) (and_right (not differ) (eqb reads (cells_read s (column_of s k) taken)) ends))
  where
    differ : Bool
    differ = any (rows s) (λ i. xor (bit i taken) (rule (column_of s k) i))

    last : Bool
    last = not differ && eqb reads (cells_read s (column_of s k) taken)

    later : Bool
    later = ltb taken (2 ^ rows s) && last

    ends : last ≡ true
    ends = and_right (ltb taken (2 ^ rows s)) last (and_right (eqb (refusal faults) 0) later h)

-- the refusal that has a number, where that is the number of the first fault
refused_by : {A : Type 0} (number given : ℕ) → (is_number number && eqb given number) ≡ true → (Allowed : Result A Refusal → Type 0)
    → (number_of (numbered number) ≡ given → Allowed (Err (numbered number))) → RefusedBy number Allowed
unfolding is_number
refused_by number given h Allowed so =
    let is = eqb-true (number_of (numbered number)) number (and_left (is_number number) (eqb given number) h) in
    (numbered number, is, so (is ∙ sym (eqb-true given number (and_right (is_number number) (eqb given number) h))))

claimed_so : (s : Shape) (stripe : List ℕ) (c : Claim) → refusal (stripe_faults s (length stripe)) ≡ 0 → claimed s stripe c ≡ true → Claims s stripe c
unfolding claimed c
claimed_so s stripe encoded right h = is_clean s stripe h
claimed_so s stripe (broken n) right h = (sym right, sym (eqb-true (broken_equations s stripe) n h))
claimed_so s stripe (written row column bytes new n) right h = (sym (not_refused s stripe row column bytes new n h), (is_written s stripe row column bytes new n h, is_depending s stripe row column bytes new n h))
claimed_so s stripe (rebuild_refused lost number) right h = is_refused s stripe (accepted s (length stripe) right).0 lost number h
claimed_so s stripe (rebuilt lost new) right h = is_rebuilt s stripe (accepted s (length stripe) right).0 lost new h
claimed_so s stripe (found answer) right h = (sym right, is_found s (accepted s (length stripe) right).0 stripe answer h)
claimed_so s stripe (planned k taken reads) right h = is_planned s k (by_rule s) (plan_faults s k) taken reads h
claimed_so s stripe (balanced k taken reads) right h = is_planned s k (by_balance s) (balance_faults s k) taken reads h
claimed_so s stripe (balance_refused k number) right h = refused_by number (refusal (balance_faults s k)) h (Balances s k) (λ e. e)
claimed_so s stripe (read_from k plan column n) right h = eqb-true (column_reads s (column_of s k) plan (column_of s column)) n h
claimed_so s stripe (run_refused k plan number) right h =
    let empty = empty_spare s in
    refused_by number (refusal (run_faults s (length stripe) (length empty) k plan 0)) h (RunsByPlan s k plan 0 1 stripe empty empty) (λ e. (e, refl))

passes : List Example → Bool
passes [] = true
passes (e ∷ rows') = (eqb (refusal (stripe_faults e.shape (length e.stripe))) 0 && claimed e.shape e.stripe e.claim) && passes rows'

row_holds : (e : Example) → (eqb (refusal (stripe_faults e.shape (length e.stripe))) 0 && claimed e.shape e.stripe e.claim) ≡ true → Holds e
row_holds e h =
    let none = eqb-true (refusal (stripe_faults e.shape (length e.stripe))) 0
    (and_left (eqb (refusal (stripe_faults e.shape (length e.stripe))) 0) (claimed e.shape e.stripe e.claim) h) in
    let right = accepted e.shape (length e.stripe) none in
    record {
      formed = right.0;
      long = right.1;
      so = claimed_so e.shape e.stripe e.claim none (and_right (eqb (refusal (stripe_faults e.shape (length e.stripe))) 0) (claimed e.shape e.stripe e.claim) h);
    }

all_hold : (rows' : List Example) → passes rows' ≡ true → AllHold rows'
unfolding passes
all_hold [] h = tt
all_hold (e ∷ rows') h =
    let first = eqb (refusal (stripe_faults e.shape (length e.stripe))) 0 && claimed e.shape e.stripe e.claim in
    (row_holds e (and_left first (passes rows') h), all_hold rows' (and_right first (passes rows') h))

-- the test of every row, done once
all_pass : (passes table ≡ true) × (passes shelves ≡ true) × (passes evenodds ≡ true) × (passes balances ≡ true)
unfolding numbered is_number table shelves evenodds balances passes claimed plans_by right_cells unlike unwritten differing depending settled is_parity write_faults refusal first_of order applies stripe_faults shape_faults cells_faults listed rows columns equations cells cell_number stripe_length column_of lies_at cell_of callers_cell place equation parity_cell sums_cell byte_at sum_over fails broken_equations any count xors ◌⊕◌ named run lowest holds xor finds replaces wide in_columns syndrome bit diagonal chosen reads_cell column_reads cells_read by_rule is_accepted plan_faults offered shifted fitting shift by_balance balance_faults spare_faults run_faults missing disks existing is_there cell_there
all_pass = (refl, refl, refl, refl)

-- the theorem over document 01's table, and those over the tables of shelves with fewer disks, of EVENODD and of balanced plans
pub examples_hold : AllHold table
examples_hold = all_hold table all_pass.0

pub shelves_hold : AllHold shelves
shelves_hold = all_hold shelves all_pass.1

pub evenodds_hold : AllHold evenodds
evenodds_hold = all_hold evenodds all_pass.2

pub balances_hold : AllHold balances
balances_hold = all_hold balances all_pass.3

-- plan, balanced plan, run and show of another code than RDP are refused for the code, and where a number of data columns is given for the number, whatever else
-- they are told
module _ (p cell : ℕ) (prime : listed p ≡ true) where
  abbrev pub shaped : Option ℕ → ℕ → Shape
  shaped width code = record { code = code; p = p; cell = cell; width = width }

  -- each of the four calls gives this number
  pub record Give (s : Shape) (number : ℕ) : Type 0 where
    pub plans : (k : ℕ) → refusal (plan_faults s k) ≡ number
    pub balanced : (k : ℕ) → refusal (balance_faults s k) ≡ number
    pub runs : (bytes spare k plan first : ℕ) → refusal (run_faults s bytes spare k plan first) ≡ number
    pub shows : (bytes spare k done row column : ℕ) → refusal (show_faults s bytes spare k done row column) ≡ number

  given : (s : Shape) (number : ℕ) → ((k : ℕ) → refusal (plan_faults s k) ≡ number) → ((k : ℕ) → refusal (balance_faults s k) ≡ number) → ((bytes spare k plan first : ℕ) → refusal (run_faults s bytes spare k plan first) ≡ number)
      → ((bytes spare k done row column : ℕ) → refusal (show_faults s bytes spare k done row column) ≡ number) → Give s number
  given s number a b c d = record { plans = a; balanced = b; runs = c; shows = d }

  pub code_refused : (code : ℕ) → 1 < code → code ≤ last_code → Give (shaped None code) 3
  unfolding plan_faults balance_faults missing spare_faults run_faults show_faults refusal first_of order applies
  code_refused code lo hi =
      each_code (λ n. n ≢ 1 → Give (shaped None n) 3) (λ n. absurd (n refl))
      (λ n. given _ 3 (λ k. rw prime refl) (λ k. rw prime refl) (λ a b c d e. rw prime refl) (λ a b c d e f. rw prime refl))
      (λ n. given _ 3 (λ k. rw prime refl) (λ k. rw prime refl) (λ a b c d e. rw prime refl) (λ a b c d e f. rw prime refl))
      (λ n. given _ 3 (λ k. rw prime refl) (λ k. rw prime refl) (λ a b c d e. rw prime refl) (λ a b c d e f. rw prime refl))
      code (omega arith) hi (λ e. omega arith)

  pub data_before_code : (m code : ℕ) → 1 < code → code ≤ last_code → Give (shaped (Some m) code) 14
  unfolding plan_faults balance_faults missing spare_faults run_faults show_faults refusal first_of order applies
  data_before_code m code lo hi =
      each_code (λ n. n ≢ 1 → Give (shaped (Some m) n) 14) (λ n. absurd (n refl))
      (λ n. given _ 14 (λ k. rw prime refl) (λ k. rw prime refl) (λ a b c d e. rw prime refl) (λ a b c d e f. rw prime refl))
      (λ n. given _ 14 (λ k. rw prime refl) (λ k. rw prime refl) (λ a b c d e. rw prime refl) (λ a b c d e f. rw prime refl))
      (λ n. given _ 14 (λ k. rw prime refl) (λ k. rw prime refl) (λ a b c d e. rw prime refl) (λ a b c d e f. rw prime refl))
      code (omega arith) hi (λ e. omega arith)
