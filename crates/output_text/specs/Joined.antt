-- Texts one after the other, each behind a separator.
use Rattle.std.specs.Prelude.{ℕ, List, [], ◌∷◌, ◌++◌}

-- each text behind the separator
abbrev pub led : List ℕ → List (List ℕ) → List ℕ
led between [] = []
led between (text ∷ texts) = between ++ text ++ led between texts
