-- What stands at the front of some bytes.
use Rattle.std.specs.Prelude.{◌≡◌, ℕ, List, ◌++◌, Option, MatchOption}

-- no thing of the sort has its code at the front of the bytes
abbrev pub IsNoneInFront : {A : Type 0} → (A → Type 0) → (A → List ℕ) → List ℕ → Type 0
IsNoneInFront {A} Is code bytes = (a : A) (rest : List ℕ) → Is a → bytes ≡ code a ++ rest → ⊥

-- the thing of the sort whose code stands at the front of the old bytes was found, and the new bytes follow it; nothing was found where none stands there
abbrev pub Takes : {A : Type 0} → (A → Type 0) → (A → List ℕ) → List ℕ → Option A → List ℕ → Type 0
Takes Is code old found new = MatchOption found (IsNoneInFront Is code old) (λ a. Is a × (old ≡ code a ++ new))
