-- What follows for a small write: an encoded stripe stays encoded, with the new cell in place; one content and one count; how many parity cells depend on
-- a position, and that no other cell but the data cell changes.
use mathlib.Core.Path.{◌≡◌, sym, ap, ap₂, ◌∙◌}
use mathlib.Core.Logic.{◌≢◌}
use mathlib.Core.List.{List}
use mathlib.Core.Bool.{false, cond, not, ◌&&◌, ◌||◌}
use Prim.Native.Nat.{ℕ, ◌+◌, ◌-◌, ◌<◌}
use lib.Dec.{eqb}
use lib.ListN.{length, get_or}
use Rattle.xor.specs.Xor.{◌⊕◌}
use Rattle.xor.proofs.Cases.{by_equal}
use Rattle.xor.proofs.Algebra.{⊕_zero, ⊕_cancel}
use Rattle.xor.proofs.Sets.{count_same}
use Rattle.codes.specs.declared.Shape.{Shape}
use Rattle.codes.specs.Shape.{cells, cell_number, stripe_length, WellFormed}
use Rattle.codes.specs.Encoded.{byte_at, parity_cell, is_parity, Encoded, Solves}
use Rattle.codes.specs.Depends.{DataCell, unit_of}
use Rattle.codes.proofs.Shapes.{by_code}
use Rattle.codes.proofs.Ordered.{ordered}
use Rattle.codes.proofs.Parity.{sum_same, same_bytes}
use Rattle.codes.proofs.Solutions.{plus, sum_plus}
use Rattle.codes.proofs.Units.{unit_own, unit_data, unit_scaled, unit_count}
use Rattle.codes.proofs.Sizes.{Sized, rdp_size, hcode_size, xcode_size, evenodd_size}
use Rattle.stripe.specs.Write.{Written, Alone, Depending}
use Rattle.stripe.proofs.Encoding.{one_solution, same_data}
use Rattle.stripe.proofs.Writing.{depending}

module _ (s : Shape) (w : WellFormed s) (c : ℕ) (inside : c < cells s) (old bytes new : List ℕ) (h : Written s c old bytes new) where
  -- ---- into an encoded stripe

  pub stays_encoded : Encoded s old → Encoded s new
  stays_encoded e = record {
    holds = λ q lq t lt.
        h.sum (parity_cell s q) ((ordered s w).inside q lq) t lt
        ∙ ap₂ ◌⊕◌ (e.holds q lq t lt) (h.alone.encoded.holds q lq t lt)
        ∙ sym (sum_plus s q (λ k. byte_at s old k t) (λ k. byte_at s h.difference k t))
        ∙ sym (sum_same s q (λ k. byte_at s new k t) (plus (λ k. byte_at s old k t) (λ k. byte_at s h.difference k t)) (λ k lk p. h.sum k lk t lt));
  }

  -- the new cell is in place
  pub in_place : (t : ℕ) → t < s.cell → byte_at s new c t ≡ get_or bytes t 0
  in_place t lt = h.sum c inside t lt ∙ ap (λ (x : ℕ). byte_at s old c t ⊕ x) (h.alone.own t lt) ∙ ⊕_cancel (byte_at s old c t) (get_or bytes t 0)

  -- and the other data is as it was
  pub other_data : (k : ℕ) → k < cells s → is_parity s k ≡ false → k ≢ c → (t : ℕ) → t < s.cell → byte_at s new k t ≡ byte_at s old k t
  other_data k lk p n t lt = h.sum k lk t lt ∙ ap (λ (x : ℕ). byte_at s old k t ⊕ x) (h.alone.zeros k lk p n t lt) ∙ ⊕_zero (byte_at s old k t)

-- ---- one count and one content

module _ (s : Shape) (w : WellFormed s) (c : ℕ) where
  -- solutions that are the same at c, and 0 in all other data, are the same
  alone_same : (f g : ℕ → ℕ) → Solves s f → Solves s g → f c ≡ g c
      → ((k : ℕ) → k < cells s → is_parity s k ≡ false → k ≢ c → f k ≡ 0) → ((k : ℕ) → k < cells s → is_parity s k ≡ false → k ≢ c → g k ≡ 0)
      → (k : ℕ) → k < cells s → f k ≡ g k
  alone_same f g hf hg own zf zg =
      one_solution s w f g hf hg (λ k l p. by_equal k c (λ e. ap f e ∙ own ∙ ap g (sym e)) (λ n. zf k l p n ∙ sym (zg k l p n)))

  one_unit : (f g : ℕ → ℕ) → Alone s c f → Alone s c g → (k : ℕ) → k < cells s → f k ≡ g k
  one_unit f g a b = alone_same f g a.holds b.holds (a.own ∙ sym b.own) a.zeros b.zeros

  pub one_count : (m n : ℕ) → Depending s c m → Depending s c n → m ≡ n
  one_count m n a b =
      a.size
      ∙ count_same (cells s) (λ k. is_parity s k && not (eqb (a.unit k) 0)) (λ k. is_parity s k && not (eqb (b.unit k) 0))
      (λ k l. ap (λ (x : ℕ). is_parity s k && not (eqb x 0)) (one_unit a.unit b.unit a.alone b.alone k l))
      ∙ sym b.size

  pub one_write : (old bytes x y : List ℕ) → length old ≡ stripe_length s → Written s c old bytes x → Written s c old bytes y → x ≡ y
  one_write old bytes x y long a b =
      same_bytes s w x y (a.long ∙ long) (b.long ∙ long)
      (λ k lk t lt. a.sum k lk t lt ∙ ap (λ (d : List ℕ). byte_at s old k t ⊕ byte_at s d k t) differences ∙ sym (b.sum k lk t lt))
    where
      differences : a.difference ≡ b.difference
      differences =
          same_data s w a.difference b.difference a.alone.encoded b.alone.encoded
          (record {
            same = λ k lk p t lt. by_equal k c
                (λ e. ap (λ (i : ℕ). byte_at s a.difference i t) e ∙ a.alone.own t lt ∙ sym (ap (λ (i : ℕ). byte_at s b.difference i t) e ∙ b.alone.own t lt))
                (λ n. a.alone.zeros k lk p n t lt ∙ sym (b.alone.zeros k lk p n t lt));
          })
          a.alone.long b.alone.long

-- ---- which cells change, and how many parity cells depend on a position

module _ (s : Shape) (w : WellFormed s) (i j : ℕ) (cell : DataCell s i j) where
  abbrev c : ℕ
  c = cell_number s i j

  -- some set of equations has the parity cells that depend on it
  sized : (n : ℕ) × Sized s c n
  sized = by_code s w (λ e. (_, rdp_size s w i j cell e)) (λ e. (_, hcode_size s w i j cell e)) (λ e. (_, xcode_size s w i j cell e)) (λ e. (_, evenodd_size s w i j cell e))

  -- Only the data cell and the parity cells that depend on it change: a cell that stays 0 where 1 is put alone at c and encoded is as it was
  pub others_stay : (old bytes new : List ℕ) → Written s c old bytes new → (unit : ℕ → ℕ) → Alone s c unit
      → (k : ℕ) → k < cells s → unit k ≡ 0 → (t : ℕ) → t < s.cell → byte_at s new k t ≡ byte_at s old k t
  others_stay old bytes new h unit alone k lk zero t lt =
      h.sum k lk t lt ∙ ap (λ (y : ℕ). byte_at s old k t ⊕ y) (scaled k lk ∙ ap (λ (u : ℕ). cond (eqb u 1) x 0) (sym (one_unit s w c unit u alone u_alone k lk) ∙ zero)) ∙ ⊕_zero (byte_at s old k t)
    where
      m : ℕ
      m = sized.1.set

      u : ℕ → ℕ
      u = unit_of s c m

      x : ℕ
      x = byte_at s old c t ⊕ get_or bytes t 0

      u_alone : Alone s c u
      u_alone = record { own = unit_own s w c m cell.plain; zeros = λ n l p e. unit_data s w c m cell.plain n p e; holds = sized.1.depends.solves }

      scaled : (n : ℕ) → n < cells s → byte_at s h.difference n t ≡ cond (eqb (u n) 1) x 0
      scaled =
          alone_same s w c (λ n. byte_at s h.difference n t) (λ n. cond (eqb (u n) 1) x 0) (λ q l. h.alone.encoded.holds q l t lt) (unit_scaled s c m x sized.1.depends.solves)
          (h.alone.own t lt ∙ ap (λ (v : ℕ). cond (eqb v 1) x 0) (sym u_alone.own)) (λ n l p e. h.alone.zeros n l p e t lt) (λ n l p e. ap (λ (v : ℕ). cond (eqb v 1) x 0) (u_alone.zeros n l p e))

  -- as many as the set of their equations has members
  by_size : (n : ℕ) → Depending s c n → (m : ℕ) → Sized s c m → n ≡ m
  by_size n h m z =
      one_count s w c n m h
      (depending s w c cell.plain z.set z.depends m (unit_count s w c z.set cell.plain ∙ z.size))

  -- RDP: 2 where i = 0 or i + j = p - 1, otherwise 3
  pub rdp_count : (n : ℕ) → Depending s c n → s.code ≡ 1 → n ≡ cond (eqb i 0 || eqb (i + j) (s.p - 1)) 2 3
  rdp_count n h is-rdp = by_size n h (cond (eqb i 0 || eqb (i + j) (s.p - 1)) 2 3) (rdp_size s w i j cell is-rdp)

  -- H-Code and X-Code: always 2
  pub hcode_count : (n : ℕ) → Depending s c n → s.code ≡ 2 → n ≡ 2
  hcode_count n h is-hcode = by_size n h 2 (hcode_size s w i j cell is-hcode)

  pub xcode_count : (n : ℕ) → Depending s c n → s.code ≡ 3 → n ≡ 2
  xcode_count n h is-xcode = by_size n h 2 (xcode_size s w i j cell is-xcode)

  -- EVENODD: p where i + j = p - 1, otherwise 2
  pub evenodd_count : (n : ℕ) → Depending s c n → s.code ≡ 4 → n ≡ cond (eqb (i + j) (s.p - 1)) s.p 2
  evenodd_count n h is-evenodd = by_size n h (cond (eqb (i + j) (s.p - 1)) s.p 2) (evenodd_size s w i j cell is-evenodd)
