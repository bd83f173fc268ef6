-- Sums of counts: numbers laid out in a grid, counted column by column and row by row.
use mathlib.Core.Path.{◌≡◌, refl, sym, ap, ap₂, ◌∙◌}
use mathlib.Core.Bool.{Bool, cond, not, ◌&&◌, ◌||◌}
use Prim.Native.Nat.{ℕ, zero, suc, ◌+◌, ◌*◌, ◌≤◌, ◌<◌}
use native.Mathlib.Nat.{add-zero, add-suc, zero-mul, mul-zero, suc-mul}
use native.Mathlib.Numerals.{add-one}
use native.Mathlib.Omega.{arith}
use Rattle.xor.specs.Sets.{count}
use Rattle.xor.proofs.Cases.{by_test}
use Rattle.xor.proofs.Sets.{count_parts}

-- the sum of f i over the numbers i below n
pub sum_of : ℕ → (ℕ → ℕ) → ℕ
sum_of zero f = 0
sum_of (suc n) f = sum_of n f + f n

pub sum_none : (f : ℕ → ℕ) → sum_of 0 f ≡ 0
unfolding sum_of
sum_none f = refl

-- equal terms have equal sums
pub sum_same : (n : ℕ) (f g : ℕ → ℕ) → ((k : ℕ) → k < n → f k ≡ g k) → sum_of n f ≡ sum_of n g
unfolding sum_of
sum_same zero f g h = refl
sum_same (suc n) f g h = ap₂ ◌+◌ (sum_same n f g (λ k l. h k (omega arith))) (h n (omega arith))

-- the same term again and again
pub sum_constant : (n a : ℕ) → sum_of n (λ i. a) ≡ n * a
unfolding sum_of
sum_constant zero a = omega arith
sum_constant (suc n) a = omega (arith, sum_constant n a)

-- no term more than b
pub sum_most : (n b : ℕ) (f : ℕ → ℕ) → ((i : ℕ) → i < n → f i ≤ b) → sum_of n f ≤ n * b
unfolding sum_of
sum_most zero b f h = omega arith
sum_most (suc n) b f h = omega (arith, sum_most n b f (λ i l. h i (omega arith)), h n (omega arith))

-- a first term, and after it the same one again and again
pub sum_first : (n a b : ℕ) (f : ℕ → ℕ) → f 0 ≡ a → ((i : ℕ) → 0 < i → i < n + 1 → f i ≡ b) → sum_of (suc n) f ≡ a + n * b
unfolding sum_of
sum_first zero a b f e h = omega (arith, e)
sum_first (suc n) a b f e h = omega (arith, sum_first n a b f e (λ i lo hi. h i lo (omega arith)), h (suc n) (omega arith) (omega arith))

-- sums of counts, with one more test for each
pub sum_more : (n : ℕ) (f : ℕ → ℕ) (test : ℕ → Bool) → sum_of n f + count n test ≡ sum_of n (λ i. f i + cond (test i) 1 0)
unfolding sum_of count
sum_more zero f test = refl
sum_more (suc n) f test = omega (arith, sum_more n f test)

-- the first a terms, and those after them
pub sum_parts : (a b : ℕ) (f : ℕ → ℕ) → sum_of (a + b) f ≡ sum_of a f + sum_of b (λ i. f (a + i))
unfolding sum_of
sum_parts a zero f = rw (add-zero a) (sym (add-zero (sum_of a f)))
sum_parts a (suc b) f = rw (add-suc a b) (omega (arith, sum_parts a b f))

-- one term more
pub sum_last : (n : ℕ) (f : ℕ → ℕ) → sum_of (suc n) f ≡ sum_of n f + f n
unfolding sum_of
sum_last n f = refl

pub sum_next : (n m m' : ℕ) (f : ℕ → ℕ) → m ≡ sum_of n f → m' ≡ m + f n → m' ≡ sum_of (n + 1) f
unfolding sum_of
sum_next n m m' f e next = next ∙ ap (λ (x : ℕ). x + f n) e ∙ rw (add-one n) refl

-- a columns of b numbers each, counted column by column
pub count_columns : (a b : ℕ) (test : ℕ → Bool) → count (a * b) test ≡ sum_of a (λ j. count b (λ i. test (j * b + i)))
unfolding sum_of count
count_columns zero b test = rw (zero-mul b) refl
count_columns (suc a) b test =
    rw (suc-mul a b) (count_parts (a * b) b test ∙ ap (λ (x : ℕ). x + count b (λ i. test (a * b + i))) (count_columns a b test))

-- a columns of b numbers each, counted row by row
pub count_grid : (a b : ℕ) (test : ℕ → Bool) → count (a * b) test ≡ sum_of b (λ i. count a (λ j. test (j * b + i)))
unfolding count
count_grid zero b test = rw (zero-mul b) (sym (sum_constant b 0 ∙ mul-zero b))
count_grid (suc a) b test =
    rw (suc-mul a b) (count_parts (a * b) b test ∙ ap (λ (x : ℕ). x + count b (λ i. test (a * b + i))) (count_grid a b test)
    ∙ sum_more b (λ i. count a (λ j. test (j * b + i))) (λ i. test (a * b + i)))

-- one of two numbers for each, by a test
pub sum_choice : (n a b : ℕ) (test : ℕ → Bool) → sum_of n (λ i. cond (test i) a b) ≡ count n test * a + count n (λ i. not (test i)) * b
unfolding sum_of count
sum_choice zero a b test = omega arith
sum_choice (suc n) a b test = by_test (test n) (λ p. rw p (omega (arith, sum_choice n a b test))) (λ p. rw p (omega (arith, sum_choice n a b test)))

-- those that fail a first test or pass a second: the former, and those that pass both
pub count_either : (n : ℕ) (first second : ℕ → Bool) → count n first + count n (λ i. not (first i) || second i) ≡ n + count n (λ i. second i && first i)
unfolding count
count_either zero first second = refl
count_either (suc n) first second =
    by_test (first n)
    (λ p. by_test (second n) (λ q. rw (p, q) (omega (arith, count_either n first second))) (λ q. rw (p, q) (omega (arith, count_either n first second))))
    (λ p. by_test (second n) (λ q. rw (p, q) (omega (arith, count_either n first second))) (λ q. rw (p, q) (omega (arith, count_either n first second))))
