-- What a write does to the bytes that a sink has taken, where the sink tells them.
use Rattle.std.specs.Prelude.{ℕ, List, ◌++◌, take, Result, MatchResult}

-- Whatever was taken before, these bytes were taken after it.
abbrev pub Adds : (List ℕ → Type 0) → (List ℕ → Type 0) → List ℕ → Type 0
Adds before now more = (bytes : List ℕ) → before bytes → now (bytes ++ more)

-- Whatever was taken before is still just what was taken.
abbrev pub Stays : (List ℕ → Type 0) → (List ℕ → Type 0) → Type 0
Stays before now = (bytes : List ℕ) → before bytes → now bytes

-- a write of the piece took the bytes that it counts at Ok, and nothing at Err
abbrev pub TakesFront : {E : Type 0} → (List ℕ → Type 0) → (List ℕ → Type 0) → Result ℕ E → List ℕ → Type 0
TakesFront before now result piece = MatchResult result (λ n. Adds before now (take n piece)) (λ _. Stays before now)
