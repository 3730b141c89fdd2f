-- What a sink over a writer has taken.
use Rattle.std.specs.Prelude.{◌≡◌, ℕ, List, Option, Some, None}

-- these are the bytes that the writer tells it holds; one that tells nothing holds no bytes that could be named
abbrev pub HoldsBytes : Option (List ℕ) → List ℕ → Type 0
HoldsBytes None bytes = ⊥
HoldsBytes (Some held) bytes = bytes ≡ held
