-- The numbers of the four codes.
use Rattle.std.specs.Prelude.{◌≡◌, ◌⊎◌, ℕ, ◌<◌, Result, MatchResult}
use Rattle.codes.specs.declared.Code.{Code}
use Rattle.codes.specs.declared.Code.TheVariants.{Rdp, HCode, XCode, Evenodd}
use Rattle.codes.specs.declared.UnknownCode.{UnknownCode}
use Rattle.codes.specs.Shape.{last_code}

-- the number of a code
abbrev pub number_of : Code → ℕ
number_of Rdp = 1
number_of HCode = 2
number_of XCode = 3
number_of Evenodd = 4

-- the result is the code with this number, or an error with a number that no code has
abbrev pub Decodes : ℕ → Result Code UnknownCode → Type 0
Decodes n r = MatchResult r (λ code. number_of code ≡ n) (λ e. (e.0 ≡ n) × ((n ≡ 0) ⊎ (last_code < n)))
