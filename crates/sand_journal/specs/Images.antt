-- What the bytes of a journal stand for: open records, and a gate that isn't open behind the last of them.
use Rattle.std.specs.Prelude.{◌≡◌, ◌≢◌, ◌⊎◌, ℕ, ◌+◌, ◌^◌, ◌<◌, ◌≤◌, List, [], ◌∷◌, ◌++◌, length}
use Rattle.std.specs.Int.{w32, to_be_bytes}
use Rattle.std.specs.List.{AllByRecursion}
use Rattle.sand_journal.specs.Tape.{TapeView}

-- the body's length has four bytes
abbrev pub IsShort : List ℕ → Type 0
IsShort body = length body < 2 ^ 32

-- a body behind its length, in four bytes with the high one first
unfoldable pub framed : List ℕ → List ℕ
framed body = to_be_bytes w32 (length body) ++ body

-- open records with these bodies: a gate of 1, the length and the body of each
abbrev pub records : List (List ℕ) → List ℕ
records [] = []
records (body ∷ bodies) = 1 ∷ (framed body ++ records bodies)

-- The open records of the image, up to the first gate that isn't open, have these bodies.
pub record HasBodies (bodies : List (List ℕ)) (image : List ℕ) : Type 0 where
  pub short : AllByRecursion IsShort bodies
  pub gate : ℕ
  pub shut : gate ≢ 1
  pub behind : List ℕ
  pub is : image ≡ records bodies ++ gate ∷ behind

-- The bodies of the image are a prefix of the last ones, and the first ones are a prefix of them.
pub record LiesBetween (first last : List (List ℕ)) (image : List ℕ) : Type 0 where
  pub bodies : List (List ℕ)
  pub has : HasBodies bodies image
  pub more : List (List ℕ)
  pub all_first : bodies ≡ first ++ more
  pub rest : List (List ℕ)
  pub in_last : last ≡ bodies ++ rest

-- Each image that a crash since the old moment might have left has P, and so has each that a crash may leave now.
pub record LeavesOnly (old new : TapeView) (P : List ℕ → Type 0) : Type 0 where
  pub later : old.clock ≤ new.clock
  pub each : (image : List ℕ) → new.since old.clock image → P image
  pub now : (image : List ℕ) → new.leaves image → P image
  -- for a run that began earlier
  pub before : (t : ℕ) (image : List ℕ) → t ≤ old.clock → new.since t image → old.since t image ⊎ P image

-- Behind the records of these bodies stands a gate that is open.
abbrev pub IsOpenBehind : List ℕ → List (List ℕ) → Type 0
IsOpenBehind bytes bodies = (behind : List ℕ) × (bytes ≡ records bodies ++ 1 ∷ behind)

-- Behind the records of these bodies stands an open one with this body, and a gate behind it, at byte 2 ^ 62 or below.
pub record HasNext (bytes : List ℕ) (bodies : List (List ℕ)) (body : List ℕ) : Type 0 where
  pub short : IsShort body
  pub tail : List ℕ
  pub some : tail ≢ []
  pub is : bytes ≡ records bodies ++ 1 ∷ (framed body ++ tail)
  pub near : length (records bodies) + 5 + length body ≤ 2 ^ 62
