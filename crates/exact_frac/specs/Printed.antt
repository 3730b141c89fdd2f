-- The printed text of a fraction: n/d in lowest terms, and n where d is 1.
use Rattle.std.specs.Prelude.{◌≡◌, ℕ, ◌<◌, List, ◌++◌, ◌==◌, if◌then◌else◌, codes}
use Rattle.std.specs.Fmt.{decimal}
use Rattle.std.specs.Int.{IsGcd}
use Rattle.exact_frac.specs.Value.{SameValue}

-- n in decimal, followed by a slash and d in decimal where d is not 1
abbrev pub ratio_text : ℕ → ℕ → List ℕ
ratio_text n d = if d == 1 then decimal n else decimal n ++ codes "/" ++ decimal d

-- the text is that of the one fraction n/d in lowest terms which has the value of num/den
pub record IsPrinted (num den : ℕ) (text : List ℕ) : Type 0 where
  pub n : ℕ
  pub d : ℕ
  pub same : SameValue n d num den
  pub positive : 0 < d
  pub lowest : IsGcd n d 1
  pub written : text ≡ ratio_text n d
