-- Where no column is missing: each contract says what document 01's said, and the other way round.
use mathlib.Core.Path.{◌≡◌, sym, ◌∙◌}
use mathlib.Core.Logic.Iff
use mathlib.Core.Logic.{◌↔◌, ◌≢◌}
use mathlib.Core.List.{List}
use mathlib.Core.Bool.{Bool, false}
use Prim.Native.Nat.{ℕ, ◌+◌, ◌*◌, ◌≤◌, ◌<◌}
use lib.ListN.{length, get_or}
use Rattle.xor.specs.Xor.{◌⊕◌}
use Rattle.codes.specs.declared.Shape.{Shape}
use Rattle.codes.specs.Shape.{rows, columns, cells, equations, cell_number}
use Rattle.codes.specs.Equations.{equation}
use Rattle.codes.specs.Encoded.{parity_cell, sums_cell, sum_over, is_parity, byte_at, Encoded}
use Rattle.codes.specs.Agree.{Agree, callers_columns}
use Rattle.refusals.specs.Refusals.{Fault, refusal}
use Rattle.std.specs.Prelude.{Result, Ok, Err}
use Rattle.refusals.specs.declared.reason.Refusal.{Refusal}
use Rattle.refusals.specs.Answer.{Tells, Answers}
use Rattle.stripe.specs.Encode.{EncodingOf, Encodes}
use Rattle.stripe.specs.Broken.{Counts}
use Rattle.stripe.specs.Write.{Difference, Written, Alone, Depending, Writes}
use Rattle.decide.specs.Survivors.{EncodedStripe, Undetermined, Restores}
use Rattle.rebuild.specs.Rebuild.{Decides, undetermined, disagree, restored, Rebuilds, RebuildsCells, RebuildsColumns}
use Rattle.bad.specs.declared.BadColumn.{BadColumn}
use Rattle.bad.specs.declared.BadColumn.TheVariants.{Clean, Column, Unexplained}
use Rattle.bad.specs.Bad.{Replaceable, Finding, Finds}
use Rattle.plan.specs.declared.ReadPlan.{ReadPlan}
use Rattle.plan.specs.Plan.{by_rule, ByRule}
use Rattle.plan.specs.Plans.{GivesPlan, Plans}
use Rattle.spare.specs.Run.{spare_byte, RowsRebuilt, rows_run, RunsByPlan}
use Rattle.show.specs.declared.ShownAt.{ShownAt}
use Rattle.show.specs.declared.ShownAt.TheVariants.{Stripe}
use Rattle.show.specs.Show.{Lent, PartOf, reason, shown_place, Shows, LiesAt, Shown}
use Rattle.before.proofs.Document01 as was
use Rattle.before.proofs.Moved.{along, full, Whole, columns_as, places_as, disks_all, length_as, bytes_as, broken_as, named_as, lost_as, stripe_refused, write_refused, cells_refused, columns_refused, plan_refused, run_refused_lem, show_refused, reads_as, rebuilt_as}

-- something or a refusal, where the refusal and what holds of the thing are the same
tells_as : {A : Type 0} (faults faults' : List Fault) {P Q : A → Type 0} → refusal faults ≡ was.refusal faults' → ((x : A) → P x ↔ Q x)
    → (answer : Result A Refusal) → Tells faults P answer ↔ was.Tells faults' Q answer
tells_as faults faults' e p (Ok x) = (λ h. (h.0 ∙ e, (p x).0 h.1), λ h. (h.0 ∙ sym e, (p x).1 h.1))
tells_as faults faults' e p (Err why) = (λ h. h ∙ e, λ h. h ∙ sym e)

answers_as : {A : Type 0} (faults faults' : List Fault) {P Q : A → Type 0} (old new : List ℕ) → refusal faults ≡ was.refusal faults' → ((x : A) → P x ↔ Q x)
    → (answer : Result A Refusal) → Answers faults old new P answer ↔ was.Answers faults' old new Q answer
answers_as faults faults' old new e p (Ok x) = (λ h. (h.0 ∙ e, (p x).0 h.1), λ h. (h.0 ∙ sym e, (p x).1 h.1))
answers_as faults faults' old new e p (Err why) = (λ h. (h.0 ∙ e, h.1), λ h. (h.0 ∙ sym e, h.1))

module _ (s : Shape) (w : Whole s) where
  -- ---- encoded, and agreeing

  encoded_as : (x : List ℕ) → Encoded s x ↔ was.Encoded (full s) x
  unfolding equations parity_cell equation cell_number rows sum_over sums_cell cells columns
  encoded_as x =
      let all = along (λ i. (q : ℕ) → q < equations s → (t : ℕ) → t < s.cell → bytes_as s w i x (parity_cell s q) t ≡ sum_over s q (λ c. bytes_as s w i x c t)) in
      (λ e. record { holds = all.0 e.holds }, λ e. record { holds = all.1 e.holds })

  agree_as : (but : ℕ → Bool) (a b : List ℕ) → Agree s but a b ↔ was.Agree (full s) but a b
  unfolding cells columns rows
  agree_as but a b =
      let all = along (λ i. (c : ℕ) → c < cells s → but c ≡ false → (t : ℕ) → t < s.cell → bytes_as s w i a c t ≡ bytes_as s w i b c t) in
      (λ e. record { same = all.0 e.same }, λ e. record { same = all.1 e.same })

  -- ---- encode, broken and small write

  encoding_as : (old new : List ℕ) → EncodingOf s old new ↔ was.EncodingOf (full s) old new
  unfolding is_parity equations parity_cell equation cell_number rows
  encoding_as old new =
      let kept = agree_as (is_parity s) new old in
      let is = encoded_as new in (
        λ e. record { long = e.long; kept = kept.0 e.kept; encoded = is.0 e.encoded },
        λ e. record { long = e.long; kept = kept.1 e.kept; encoded = is.1 e.encoded },
      )

  pub encodes_as : (old : List ℕ) (answer : ℕ) (new : List ℕ) → Encodes s old answer new ↔ was.Encodes (full s) old answer new
  encodes_as old answer new =
      let number = stripe_refused s w (length old) in
      let done = encoding_as old new in (
        λ e. record { number = e.number ∙ number; refused = e.refused; done = λ z. done.0 (e.done z) },
        λ e. record { number = e.number ∙ sym number; refused = e.refused; done = λ z. done.1 (e.done z) },
      )

  pub counts_as : (stripe : List ℕ) (answer : Result ℕ Refusal) → Counts s stripe answer ↔ was.Counts (full s) stripe answer
  counts_as stripe = answers_as _ _ stripe stripe (stripe_refused s w (length stripe)) (λ n. along (λ i. n ≡ broken_as s w i stripe))

  difference_as : (c : ℕ) (old bytes d : List ℕ) → Difference s c old bytes d ↔ was.Difference (full s) c old bytes d
  unfolding is_parity equations parity_cell equation cell_number rows cells columns
  difference_as c old bytes d =
      let long = along (λ i. length d ≡ length_as s w i) in
      let own = along (λ i. (t : ℕ) → t < s.cell → bytes_as s w i d c t ≡ bytes_as s w i old c t ⊕ get_or bytes t 0) in
      let zeros = along (λ i. (k : ℕ) → k < cells s → is_parity s k ≡ false → k ≢ c → (t : ℕ) → t < s.cell → bytes_as s w i d k t ≡ 0) in
      let is = encoded_as d in (
        λ e. record { long = long.0 e.long; own = own.0 e.own; zeros = zeros.0 e.zeros; encoded = is.0 e.encoded },
        λ e. record { long = long.1 e.long; own = own.1 e.own; zeros = zeros.1 e.zeros; encoded = is.1 e.encoded },
      )

  written_as : (c : ℕ) (old bytes new : List ℕ) → Written s c old bytes new ↔ was.Written (full s) c old bytes new
  unfolding cells columns rows
  written_as c old bytes new = (
    λ e. record { long = e.long; difference = e.difference; alone = (difference_as c old bytes e.difference).0 e.alone; sum = (sum e.difference).0 e.sum },
    λ e. record { long = e.long; difference = e.difference; alone = (difference_as c old bytes e.difference).1 e.alone; sum = (sum e.difference).1 e.sum },
  )
    where
      sum : (d : List ℕ) → ((k : ℕ) → k < cells s → (t : ℕ) → t < s.cell → byte_at s new k t ≡ byte_at s old k t ⊕ byte_at s d k t)
          ↔ ((k : ℕ) → k < cells s → (t : ℕ) → t < s.cell → was.byte_at (full s) new k t ≡ was.byte_at (full s) old k t ⊕ was.byte_at (full s) d k t)
      sum d = along (λ i. (k : ℕ) → k < cells s → (t : ℕ) → t < s.cell → bytes_as s w i new k t ≡ bytes_as s w i old k t ⊕ bytes_as s w i d k t)

  depending_as : (c n : ℕ) → Depending s c n ↔ Depending (full s) c n
  unfolding is_parity equations parity_cell equation cell_number rows sum_over sums_cell cells columns
  depending_as c n =
      let alone : (unit : ℕ → ℕ) → Alone s c unit ↔ Alone (full s) c unit = λ unit. (
        λ e. record { own = e.own; zeros = e.zeros; holds = e.holds },
        λ e. record { own = e.own; zeros = e.zeros; holds = e.holds },
      ) in (
        λ e. record { unit = e.unit; alone = (alone e.unit).0 e.alone; size = e.size },
        λ e. record { unit = e.unit; alone = (alone e.unit).1 e.alone; size = e.size },
      )

  pub writes_as : (row column : ℕ) (bytes old new : List ℕ) (answer : Result ℕ Refusal)
      → Writes s row column bytes old new answer ↔ was.Writes (full s) row column bytes old new answer
  unfolding cell_number rows
  writes_as row column bytes old new =
      answers_as _ _ old new (write_refused s w (length old) row column (length bytes))
      (λ n. let at = along (λ i. Written s (cell_number s row (columns_as s w i column)) old bytes new × Depending s (cell_number s row (columns_as s w i column)) n) in
      let written = written_as (was.cell_at (full s) row column) old bytes new in
      let depending = depending_as (was.cell_at (full s) row column) n in
      Iff.trans at (λ e. (written.0 e.0, depending.0 e.1), λ e. (written.1 e.0, depending.1 e.1)))

  -- ---- rebuild of cells and of columns, and bad column

  stripe_as : (x : List ℕ) → EncodedStripe s x ↔ was.EncodedStripe (full s) x
  stripe_as x =
      let long = along (λ i. length x ≡ length_as s w i) in
      let is = encoded_as x in (
        λ e. record { long = long.0 e.long; bytes = e.bytes; encoded = is.0 e.encoded },
        λ e. record { long = long.1 e.long; bytes = e.bytes; encoded = is.1 e.encoded },
      )

  open_as : (lost : ℕ → Bool) → Undetermined s lost ↔ was.Undetermined (full s) lost
  open_as lost =
      let agree = agree_as lost in (
        λ e. record { one = e.one; other = e.other; one_is = (stripe_as e.one).0 e.one_is; other_is = (stripe_as e.other).0 e.other_is; agree = (agree e.one e.other).0 e.agree; differ = e.differ },
        λ e. record { one = e.one; other = e.other; one_is = (stripe_as e.one).1 e.one_is; other_is = (stripe_as e.other).1 e.other_is; agree = (agree e.one e.other).1 e.agree; differ = e.differ },
      )

  restores_as : (lost : ℕ → Bool) (old x : List ℕ) → Restores s lost old x ↔ was.Restores (full s) lost old x
  restores_as lost old x = (
    λ e. record { is = (stripe_as x).0 e.is; agree = (agree_as lost old x).0 e.agree },
    λ e. record { is = (stripe_as x).1 e.is; agree = (agree_as lost old x).1 e.agree },
  )

  decides_as : (lost : ℕ → Bool) (old : List ℕ) (answer : ℕ) (new : List ℕ) → Decides s lost old answer new ↔ was.Decides (full s) lost old answer new
  decides_as lost old answer new = (there, back)
    where
      there : Decides s lost old answer new → was.Decides (full s) lost old answer new
      there (undetermined u e k) = was.undetermined ((open_as lost).0 u) e k
      there (disagree n none e k) = was.disagree ((Iff.not (open_as lost)).0 n) (λ x. (Iff.not (restores_as lost old x)).0 (none x)) e k
      there (restored n r e) = was.restored ((Iff.not (open_as lost)).0 n) ((restores_as lost old new).0 r) e

      back : was.Decides (full s) lost old answer new → Decides s lost old answer new
      back (was.undetermined u e k) = undetermined ((open_as lost).1 u) e k
      back (was.disagree n none e k) = disagree ((Iff.not (open_as lost)).1 n) (λ x. (Iff.not (restores_as lost old x)).1 (none x)) e k
      back (was.restored n r e) = restored ((Iff.not (open_as lost)).1 n) ((restores_as lost old new).1 r) e

  rebuilds_as : (lost : ℕ → Bool) (wrong : ℕ) (old : List ℕ) (answer : ℕ) (new : List ℕ)
      → Rebuilds s lost wrong old answer new ↔ was.Rebuilds (full s) lost wrong old answer new
  rebuilds_as lost wrong old answer new =
      let decides = decides_as lost old answer new in (
        λ e. record { refused = e.refused; decides = λ z. decides.0 (e.decides z) },
        λ e. record { refused = e.refused; decides = λ z. decides.1 (e.decides z) },
      )

  pub cells_rebuilt_as : (numbers old : List ℕ) (answer : ℕ) (new : List ℕ)
      → RebuildsCells s numbers old answer new ↔ was.RebuildsCells (full s) numbers old answer new
  cells_rebuilt_as numbers old answer new =
      Iff.trans
      (along (λ i. Rebuilds s (named_as s w i numbers) (cells_refused s w (length old) numbers i) old answer new))
      (rebuilds_as (was.named (full s) numbers) (was.refusal (was.cells_faults (full s) (length old) numbers)) old answer new)

  pub columns_rebuilt_as : (a b : ℕ) (old : List ℕ) (answer : ℕ) (new : List ℕ)
      → RebuildsColumns s a b old answer new ↔ was.RebuildsColumns (full s) a b old answer new
  columns_rebuilt_as a b old answer new =
      let moved = along (λ i. Rebuilds s (lost_as s w i a b) (columns_refused s w (length old) a b i) old answer new) in
      let all = Iff.trans moved (rebuilds_as (was.callers_columns (full s) a b) (was.refusal (was.columns_faults (full s) (length old) a b)) old answer new) in
      (λ e. record { rebuilds = all.0 e.rebuilds; never = e.never }, λ e. record { rebuilds = all.1 e.rebuilds; never = e.never })

  replaceable_as : (stripe : List ℕ) (c : ℕ) → Replaceable s stripe c ↔ was.Replaceable (full s) stripe c
  replaceable_as stripe c =
      let inside = along (λ i. c < disks_all s w i) in (
        λ e. record { inside = inside.0 e.inside; replaced = e.replaced; restores = (restores e.replaced).0 e.restores },
        λ e. record { inside = inside.1 e.inside; replaced = e.replaced; restores = (restores e.replaced).1 e.restores },
      )
    where
      restores : (x : List ℕ) → Restores s (callers_columns s c c) stripe x ↔ was.Restores (full s) (was.callers_columns (full s) c c) stripe x
      restores x = Iff.trans (along (λ i. Restores s (lost_as s w i c c) stripe x)) (restores_as (was.callers_columns (full s) c c) stripe x)

  finding_as : (stripe : List ℕ) (answer : BadColumn) → Finding s stripe answer ↔ was.Finding (full s) stripe answer
  finding_as stripe Clean = encoded_as stripe
  finding_as stripe (Column c) =
      let not_clean = Iff.not (encoded_as stripe) in
      (λ e. (not_clean.0 e.0, (replaceable_as stripe c).0 e.1), λ e. (not_clean.1 e.0, (replaceable_as stripe c).1 e.1))
  finding_as stripe Unexplained =
      let not_clean = Iff.not (encoded_as stripe) in
      (λ e. (not_clean.0 e.0, λ c. (Iff.not (replaceable_as stripe c)).0 (e.1 c)), λ e. (not_clean.1 e.0, λ c. (Iff.not (replaceable_as stripe c)).1 (e.1 c)))

  pub finds_as : (stripe : List ℕ) (answer : Result BadColumn Refusal) → Finds s stripe answer ↔ was.Finds (full s) stripe answer
  finds_as stripe = tells_as _ _ (stripe_refused s w (length stripe)) (finding_as stripe)

  -- ---- plan, run by plan and show

  rule_as : (k plan : ℕ) → ByRule s k plan ↔ ByRule (full s) k plan
  unfolding by_rule rows
  rule_as k plan = (λ e. record { low = e.low; rule = e.rule }, λ e. record { low = e.low; rule = e.rule })

  gives_as : (k : ℕ) (plan : ReadPlan) → GivesPlan s k (by_rule s k) plan ↔ was.GivesPlan (full s) k plan
  gives_as k plan = (
    λ e. record { rule = (rule_as k plan.rows).0 e.taken; reads = e.reads ∙ (λ i. reads_as s w i k plan.rows) },
    λ e. record { taken = (rule_as k plan.rows).1 e.rule; reads = e.reads ∙ sym (λ i. reads_as s w i k plan.rows) },
  )

  pub plans_as : (k : ℕ) (answer : Result ReadPlan Refusal) → Plans s k answer ↔ was.Plans (full s) k answer
  plans_as k =
      tells_as _ _ (plan_refused s w k)
      (λ plan. Iff.trans (along (λ i. GivesPlan s (columns_as s w i k) (by_rule s (columns_as s w i k)) plan)) (gives_as (was.column_of (full s) k) plan))

  rows_as : (k plan first n : ℕ) (stripe old new : List ℕ) → RowsRebuilt s k plan first n stripe old new ↔ was.RowsRebuilt (full s) k plan first n stripe old new
  unfolding spare_byte
  rows_as k plan first n stripe old new =
      let all = along (λ i. (r : ℕ) → first ≤ r → r < first + n → (t : ℕ) → t < s.cell → spare_byte s new r t ≡ rebuilt_as s w i k plan stripe r t) in (
        λ e. record { long = e.long; rebuilt = all.0 e.rebuilt; kept = e.kept },
        λ e. record { long = e.long; rebuilt = all.1 e.rebuilt; kept = e.kept },
      )

  pub runs_as : (k plan first budget : ℕ) (stripe old new : List ℕ) (answer : Result ℕ Refusal)
      → RunsByPlan s k plan first budget stripe old new answer ↔ was.RunsByPlan (full s) k plan first budget stripe old new answer
  unfolding rows_run rows
  runs_as k plan first budget stripe old new =
      answers_as _ _ old new (run_refused_lem s w (length stripe) (length old) k plan first)
      (λ n. let at = along (λ i. (n ≡ rows_run s first budget) × RowsRebuilt s (columns_as s w i k) plan first (rows_run s first budget) stripe old new) in
      let all = rows_as (was.column_of (full s) k) plan first (rows_run s first budget) stripe old new in
      Iff.trans at (λ e. (e.0, all.0 e.1), λ e. (e.0, all.1 e.1)))

  module _ (k done row column : ℕ) where
    -- where the cell starts
    at : shown_place s row column ≡ was.shown_place (full s) row column
    unfolding cell_number rows
    at i = places_as s w i (cell_number s row (columns_as s w i column))

    pub reason_as : (stripe spare : Lent) → reason s k done row column stripe spare ≡ was.reason (full s) k done row column stripe spare
    reason_as stripe spare = show_refused s w (length stripe.now) (length spare.now) k done row column

    pub shows_as : (stripe spare answer : Lent) → Shows s k done row column stripe spare answer ↔ was.Shows (full s) k done row column stripe spare answer
    shows_as stripe spare answer =
        let why = reason_as stripe spare in
        let refused = along (λ i. why i ≢ 0 → PartOf stripe 0 0 answer) in
        let other = along (λ i. why i ≡ 0 → column ≢ k → PartOf stripe (at i) s.cell answer) in
        let ready = along (λ i. why i ≡ 0 → column ≡ k → PartOf spare (row * s.cell) s.cell answer) in (
          λ e. record { refused = refused.0 e.refused; other = other.0 e.other; ready = ready.0 e.ready },
          λ e. record { refused = refused.1 e.refused; other = other.1 e.other; ready = ready.1 e.ready },
        )

    lies_as : (at' : ShownAt) → LiesAt s k row column at' ↔ was.LiesAt (full s) k row column at'
    lies_as at' =
        let other = along (λ i. column ≢ k → at' ≡ Stripe (at i)) in
        (λ e. record { other = other.0 e.other; ready = e.ready }, λ e. record { other = other.1 e.other; ready = e.ready })

    pub shown_as : (bytes spare : ℕ) (answer : Result ShownAt Refusal) → Shown s bytes spare k done row column answer ↔ was.Shown (full s) bytes spare k done row column answer
    shown_as bytes spare = tells_as _ _ (show_refused s w bytes spare k done row column) lies_as
