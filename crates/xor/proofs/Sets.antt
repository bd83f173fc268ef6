-- Laws of sets of numbers below n: what is in none of them, what is in one, how many there are, and which of them are the lowest.
use mathlib.Core.Path.{◌≡◌, refl, sym, ap, ap₂, ◌∙◌}
use mathlib.Core.Bool.{Bool, true, false, cond, not, ◌&&◌, ◌||◌}
use Prim.Native.Nat.{ℕ, zero, suc, ◌+◌, ◌-◌, ◌%◌, ◌≤◌, ◌<◌, min}
use native.Mathlib.Nat.{add-zero, add-suc, add_comm, mod-lt, mod-eq_of_lt, add-mod-mod, add-mod_right}
use native.Mathlib.Numerals.{add-one}
use native.Mathlib.Omega.{arith}
use lib.Dec.{eqb, ltb}
use borrow.Author.Tests.{eq-eqb, ne_eqb, lt-ltb, le-ltb}
use Rattle.xor.specs.Sets.{any, count}
use Rattle.xor.proofs.Cases.{by_test, by_equal, by_less, clash}

neither : (a b : Bool) → (a || b) ≡ false → (a ≡ false) × (b ≡ false)
neither true b h = clash refl h
neither false b h = (refl, h)

pub neither_left : (a b : Bool) → (a || b) ≡ false → a ≡ false
neither_left a b h = (neither a b h).0

pub neither_right : (a b : Bool) → (a || b) ≡ false → b ≡ false
neither_right a b h = (neither a b h).1

-- no number passes
pub any_none : (n : ℕ) (test : ℕ → Bool) → any n test ≡ false → (k : ℕ) → k < n → test k ≡ false
unfolding any
any_none zero test h k l = absurd (omega arith)
any_none (suc n) test h k l =
    by_equal k n (λ e. ap test e ∙ neither_right (any n test) (test n) h) (λ e. any_none n test (neither_left (any n test) (test n) h) k (omega arith))

-- some number passes: the one that is known
pub any_at : (n : ℕ) (test : ℕ → Bool) (k : ℕ) → k < n → test k ≡ true → any n test ≡ true
any_at n test k l p = by_test (any n test) (λ h. h) (λ h. clash p (any_none n test h k l))

-- no number passes, since each fails
pub none_any : (n : ℕ) (test : ℕ → Bool) → ((k : ℕ) → k < n → test k ≡ false) → any n test ≡ false
unfolding any
none_any zero test h = refl
none_any (suc n) test h = ap₂ ◌||◌ (none_any n test (λ k l. h k (omega arith))) (h n (omega arith))

-- some number passes: which
pub any_some : (n : ℕ) (test : ℕ → Bool) → any n test ≡ true → (k : ℕ) × (k < n) × (test k ≡ true)
unfolding any
any_some zero test h = clash h refl
any_some (suc n) test h =
    by_test (test n) (λ p. (n, omega arith, p))
    (λ p. by_test (any n test)
    (λ q. let found = any_some n test q in (found.0, omega arith, found.2))
    (λ q. clash h (ap₂ ◌||◌ q p)))

-- one number more
pub count_more : (n : ℕ) (test : ℕ → Bool) → count (n + 1) test ≡ count n test + cond (test n) 1 0
unfolding count
count_more n test = rw add-one refl

pub count_none : (test : ℕ → Bool) → count 0 test ≡ 0
unfolding count
count_none test = refl

-- the next number is in the set, or not
pub count_in : (q n n' : ℕ) (test : ℕ → Bool) → n ≡ count q test → test q ≡ true → n' ≡ n + 1 → n' ≡ count (q + 1) test
count_in q n n' test e p next = next ∙ ap₂ (λ (x : ℕ) (b : Bool). x + cond b 1 0) e (sym p) ∙ sym (count_more q test)

pub count_out : (q n n' : ℕ) (test : ℕ → Bool) → n ≡ count q test → test q ≡ false → n' ≡ n → n' ≡ count (q + 1) test
count_out q n n' test e p next = next ∙ sym (add-zero n) ∙ ap₂ (λ (x : ℕ) (b : Bool). x + cond b 1 0) e (sym p) ∙ sym (count_more q test)

-- there are no more of them than there are numbers
pub count_most : (n : ℕ) (test : ℕ → Bool) → count n test ≤ n
unfolding count
count_most zero test = omega arith
count_most (suc n) test = by_test (test n) (λ p. rw p (omega (arith, count_most n test))) (λ p. rw p (omega (arith, count_most n test)))

-- equal tests count the same
pub count_same : (n : ℕ) (test other : ℕ → Bool) → ((k : ℕ) → k < n → test k ≡ other k) → count n test ≡ count n other
unfolding count
count_same zero test other h = refl
count_same (suc n) test other h = ap₂ (λ (x : ℕ) (b : Bool). x + cond b 1 0) (count_same n test other (λ k l. h k (omega arith))) (h n (omega arith))

-- no number passes
pub count_never : (n : ℕ) (test : ℕ → Bool) → ((k : ℕ) → k < n → test k ≡ false) → count n test ≡ 0
unfolding count
count_never zero test h = refl
count_never (suc n) test h = ap₂ (λ (x : ℕ) (b : Bool). x + cond b 1 0) (count_never n test (λ k l. h k (omega arith))) (h n (omega arith))

-- none are counted: each fails
pub count_zero : (n : ℕ) (test : ℕ → Bool) → count n test ≡ 0 → (k : ℕ) → k < n → test k ≡ false
unfolding count
count_zero zero test h k l = absurd (omega arith)
count_zero (suc n) test h k l =
    by_test (test n) (λ p. absurd (let more : count n test + 1 ≡ 0 = sym (ap (λ (b : Bool). count n test + cond b 1 0) p) ∙ h in omega arith))
    (λ p. by_equal k n (λ e. ap test e ∙ p) (λ e. count_zero n test (omega (arith, h)) k (omega arith)))

-- one more member
pub count_insert : (n : ℕ) (test : ℕ → Bool) (a : ℕ) → a < n → test a ≡ false → count n (λ k. eqb k a || test k) ≡ 1 + count n test
unfolding count
count_insert zero test a l h = absurd (omega arith)
count_insert (suc n) test a l h =
    by_equal a n
    (λ e. let here : eqb n a ≡ true = eq-eqb n a (sym e) in
    let gone : test n ≡ false = ap test (sym e) ∙ h in
    let below : count n (λ k. eqb k a || test k) ≡ count n test = count_same n (λ k. eqb k a || test k) test (λ k lk. ap (λ (b : Bool). b || test k) (ne_eqb k a (λ z. omega arith))) in
    rw (here, gone) (omega (arith, below)))
    (λ e. let other : eqb n a ≡ false = ne_eqb n a (λ z. e (sym z)) in
    rw other (omega (arith, count_insert n test a (omega arith) h)))

-- all pass
pub count_all : (n : ℕ) (test : ℕ → Bool) → ((k : ℕ) → k < n → test k ≡ true) → count n test ≡ n
unfolding count
count_all zero test h = refl
count_all (suc n) test h = rw (h n (omega arith)) (omega (arith, count_all n test (λ k l. h k (omega arith))))

-- those that pass and those that fail are all
pub count_not : (n : ℕ) (test : ℕ → Bool) → count n test + count n (λ i. not (test i)) ≡ n
unfolding count
count_not zero test = refl
count_not (suc n) test = by_test (test n) (λ p. rw p (omega (arith, count_not n test))) (λ p. rw p (omega (arith, count_not n test)))

-- one of the numbers fails
pub count_fails : (n : ℕ) (test : ℕ → Bool) (a : ℕ) → a < n → test a ≡ false → count n test ≤ n - 1
count_fails n test a l h =
    by_equal (count n (λ i. not (test i))) 0
    (λ none. clash (ap not h) (count_zero n (λ i. not (test i)) none a l))
    (λ some. omega (arith, count_not n test))

-- ---- counts in parts

-- those below a, and those from a on
pub count_parts : (a b : ℕ) (test : ℕ → Bool) → count (a + b) test ≡ count a test + count b (λ i. test (a + i))
unfolding count
count_parts a zero test = rw (add-zero a) (sym (add-zero (count a test)))
count_parts a (suc b) test = rw (add-suc a b) (omega (arith, count_parts a b test))

-- the first number, and those after it
pub count_first : (n : ℕ) (test : ℕ → Bool) → count (suc n) test ≡ cond (test 0) 1 0 + count n (λ i. test (suc i))
unfolding count
count_first zero test = add_comm 0 (cond (test 0) 1 0)
count_first (suc n) test = omega (arith, count_first n test)

-- ---- moved round

-- a move by c mod p goes once to each number below p
count_turned : (p c : ℕ) (test : ℕ → Bool) → c < p → count p (λ j. test ((j + c) % p)) ≡ count p test
count_turned p c test l =
    ap (λ (n : ℕ). count n moved) (sym first) ∙ count_parts (p - c) c moved
    ∙ ap₂ ◌+◌ (count_same (p - c) moved (λ i. test (c + i)) (λ i li. ap test (near i li))) (count_same c (λ i. moved (p - c + i)) test (λ i li. ap test (far i li)))
    ∙ add_comm (count (p - c) (λ i. test (c + i))) (count c test)
    ∙ sym (count_parts c (p - c) test) ∙ ap (λ (n : ℕ). count n test) second
  where
    moved : ℕ → Bool
    moved j = test ((j + c) % p)

    first : p - c + c ≡ p
    first = omega arith

    second : c + (p - c) ≡ p
    second = omega arith

    near : (i : ℕ) → i < p - c → (i + c) % p ≡ c + i
    near i li = mod-eq_of_lt (omega arith) ∙ add_comm i c

    far : (i : ℕ) → i < c → (p - c + i + c) % p ≡ i
    far i li = ap (λ (n : ℕ). n % p) whole ∙ add-mod_right i p ∙ mod-eq_of_lt (omega arith)
      where
        whole : p - c + i + c ≡ i + p
        whole = omega arith

-- and so does a move by any c
pub count_round : (p c : ℕ) (test : ℕ → Bool) → 0 < p → count p (λ j. test ((j + c) % p)) ≡ count p test
count_round p c test l =
    count_same p (λ j. test ((j + c) % p)) (λ j. test ((j + c % p) % p)) (λ j lj. ap test (sym (add-mod-mod j c p))) ∙ count_turned p (c % p) test (mod-lt c l)

-- ---- the lowest members of a set

-- the lowest m of those that pass
pub count_lowest : (n m : ℕ) (test : ℕ → Bool) → count n (λ i. test i && ltb (count i test) m) ≡ min (count n test) m
unfolding count
count_lowest zero m test = omega arith
count_lowest (suc n) m test =
    by_test (test n)
    (λ p. by_less (count n test) m
    (λ l. rw (p, lt-ltb (count n test) m l) (omega (arith, count_lowest n m test)))
    (λ l. rw (p, le-ltb (count n test) m l) (omega (arith, count_lowest n m test))))
    (λ p. rw p (omega (arith, count_lowest n m test)))
