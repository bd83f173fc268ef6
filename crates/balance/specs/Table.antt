-- The table of balanced plans: what the code has, and what its rule is tested on.
use Rattle.std.specs.Prelude.{List, [], ◌∷◌, cond, ℕ, ◌+◌, eqb, get_or}

-- the plans, by rising prime and for each by rising column
unfoldable pub plans : List ℕ
plans =
    2 ∷ 1 ∷ 2
    ∷ 22 ∷ 22 ∷ 44 ∷ 22 ∷ 49 ∷ 44 ∷ 22
    ∷ 570 ∷ 233 ∷ 570 ∷ 570 ∷ 570 ∷ 466 ∷ 233 ∷ 466 ∷ 570 ∷ 233 ∷ 570
    ∷ 199410 ∷ 22419 ∷ 22419 ∷ 199410 ∷ 199410 ∷ 199410 ∷ 199410 ∷ 22419 ∷ 199410 ∷ 179352 ∷ 199410 ∷ 44838
    ∷ 22419 ∷ 22419 ∷ 44838 ∷ 199410 ∷ 199410 ∷ 89676 ∷ 199410
    ∷ 340830 ∷ 340830 ∷ 340830 ∷ 340830 ∷ 681660 ∷ 340830 ∷ 681660 ∷ 340830 ∷ 340830 ∷ 1363320 ∷ 681660 ∷ 340830
    ∷ 340830 ∷ 1363320 ∷ 681660 ∷ 340830 ∷ 681660 ∷ 340830 ∷ 2517953 ∷ 2726640 ∷ 1363320 ∷ 681660 ∷ 340830
    ∷ 303908790 ∷ 303908790 ∷ 607817580 ∷ 303908790 ∷ 303908790 ∷ 607817580 ∷ 303908790 ∷ 303908790 ∷ 303908790 ∷ 303908790 ∷ 283786673 ∷ 567573346
    ∷ 607817580 ∷ 303908790 ∷ 607817580 ∷ 303908790 ∷ 607817580 ∷ 303908790 ∷ 303908790 ∷ 303908790 ∷ 567573346 ∷ 283786673 ∷ 491238948 ∷ 607817580
    ∷ 303908790 ∷ 122809737 ∷ 607817580 ∷ 303908790 ∷ 283786673 ∷ 607817580 ∷ 303908790
    ∷ []

-- where those of prime p start: after those of the primes below it
unfoldable pub plans_before : ℕ → ℕ
plans_before p = cond (eqb p 3) 0 (cond (eqb p 7) 3 (cond (eqb p 11) 10 (cond (eqb p 19) 21 (cond (eqb p 23) 40 63))))

-- the plan of prime p for column k
abbrev pub plan_at : ℕ → ℕ → ℕ
plan_at p k = get_or plans (plans_before p + k) 0
