-- The bytes of a record as they are written behind a gate.
use Rattle.std.specs.Prelude.{◌≡◌, ℕ, ◌-◌, List, [], ◌∷◌, ◌++◌, length, take, drop}
use Rattle.sand_journal.specs.Images.{IsShort, framed}

-- the bytes are a body in its frame, and a shut gate
abbrev pub IsEntry : List ℕ → Type 0
IsEntry bytes = (body : List ℕ) × IsShort body × (bytes ≡ framed body ++ 0 ∷ [])

-- the body in such bytes
abbrev pub body_in : List ℕ → List ℕ
body_in bytes = take (length bytes - 5) (drop 4 bytes)
