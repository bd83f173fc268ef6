-- No two jobs have the same bytes, and no job has more than 36,883 bytes.
use mathlib.Core.Path.{◌≡◌, refl, ap}
use mathlib.Core.List.{List, [], ◌++◌, head-eq_of_cons-eq}
use Prim.Native.Nat.{ℕ, ◌≤◌}
use native.Mathlib.Omega.{arith}
use lib.ListN.{length, length-append}
use Rattle.format.specs.Format.{two_bytes_of, field, CellSize, absent, given, Job, cell_field, job_bytes, Fits}
use Rattle.format.proofs.Bytes.{same_two, same_field, same_numbers, length_field, length_numbers}

-- where field 04 follows a cell size that may be absent, the cell size and what follows are determined
same_size : (c d : CellSize) (a b x y : List ℕ) → cell_field c ++ (field 4 a ++ x) ≡ cell_field d ++ (field 4 b ++ y) → (c ≡ d) × (field 4 a ++ x ≡ field 4 b ++ y)
same_size absent absent a b x y e = (refl, e)
same_size absent (given n) a b x y e = absurd (omega (arith, (same_field 4 3 a (two_bytes_of n) x (field 4 b ++ y) e).0))
same_size (given m) absent a b x y e = absurd (omega (arith, (same_field 3 4 (two_bytes_of m) b (field 4 a ++ x) y e).0))
same_size (given m) (given n) a b x y e =
    let same = same_field 3 3 (two_bytes_of m) (two_bytes_of n) (field 4 a ++ x) (field 4 b ++ y) e in
    (ap given (same_two m n same.1), same.2)

-- the job with these bytes
pub one_job : (i j : Job) → job_bytes i ≡ job_bytes j → i ≡ j
unfolding job_bytes
one_job i j e =
    let first = same_field _ _ _ _ _ _ e in
    let second = same_field _ _ _ _ _ _ first.2 in
    let third = same_size i.cell j.cell _ _ _ _ second.2 in
    let fourth = same_field _ _ _ _ _ _ third.1 in
    let fifth = same_field _ _ _ _ [] [] (ap (λ (x : List ℕ). x ++ []) fourth.2) in
    let lost = same_numbers i.lost j.lost fourth.1 in
    λ k. record { code = head-eq_of_cons-eq first.1 k; p = head-eq_of_cons-eq second.1 k; cell = third.0 k; lost = lost k; stripe = fifth.1 k }

-- field 03 has five bytes where it is given
cell_short : (c : CellSize) → length (cell_field c) ≤ 5
unfolding two_bytes_of
cell_short absent = omega arith
cell_short (given n) = omega (arith, length_field 3 (two_bytes_of n))

-- the longest job: eight bytes for code and p, five for the cell size, 4,099 for the lost cells and 32,771 for the stripe
pub longest : (j : Job) → Fits j → length (job_bytes j) ≤ 36883
unfolding job_bytes
longest j f =
    simp (length-append, length_field, length_numbers) (omega (arith, cell_short j.cell))
