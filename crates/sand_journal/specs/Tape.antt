-- A tape as contracts see it: a file of bytes of which a crash may leave other images, and what its calls do to it.
use Rattle.std.specs.Prelude.{◌≡◌, ◌⊎◌, ℕ, ◌+◌, ◌-◌, ◌≤◌, min, List, ◌++◌, length, take, drop, Bool, IsTrue, Result, IfOk, OnOk, OnErr}
use Rattle.sand_base.specs.Faults.{HasCause}

-- Whether the tape tells what it holds, whether it was started, and the bytes that a read gives; the images that a crash now may leave; the moment,
-- and the images that a crash since an earlier one might have left; how often a call failed.
pub record TapeView : Type 1 where
  pub told : Bool
  pub started : Bool
  pub bytes : List ℕ
  pub leaves : List ℕ → Type 0
  pub clock : ℕ
  pub since : ℕ → List ℕ → Type 0
  pub faults : ℕ

-- the bytes begin with this front
abbrev pub BeginsWith : List ℕ → List ℕ → Type 0
BeginsWith front bytes = (more : List ℕ) × (bytes ≡ front ++ more)

-- The image after a write of n bytes at this place that a crash cut short: any bytes stand in the range and past the old end, and it may end anywhere from the old end on.
pub record Torn (at n : ℕ) (old new : List ℕ) : Type 0 where
  pub before : BeginsWith (take at old) new
  pub behind : BeginsWith (drop (at + n) old) (drop (at + n) new)
  pub no_shorter : length old ≤ length new

-- the new bytes are the old ones with these at this place
abbrev pub IsWrittenAt : List ℕ → ℕ → List ℕ → List ℕ → Type 0
IsWrittenAt old at bytes new = new ≡ take at old ++ bytes ++ drop (at + length bytes) old

-- a crash leaves these bytes and nothing else
abbrev pub Only : List ℕ → (List ℕ → Type 0) → Type 0
Only bytes leaves = (image : List ℕ) → leaves image → image ≡ bytes

-- Since any earlier moment, a crash might have left what it might have left before this step, or what it may leave now.
pub record Elapses (old new : TapeView) : Type 0 where
  pub nothing_else : (t : ℕ) (image : List ℕ) → t ≤ old.clock → new.since t image → old.since t image ⊎ new.leaves image
  pub keeps : (t : ℕ) (image : List ℕ) → t ≤ old.clock → old.since t image → new.since t image

-- Whether the tape tells stays as it is, and the clock doesn't fall.
pub record TimePasses (old new : TapeView) : Type 0 where
  pub told : new.told ≡ old.told
  pub later : old.clock ≤ new.clock
  pub time : IsTrue old.told → Elapses old new

-- What a read gives stays as it is, and a crash leaves no image that it might not have left before.
pub record KeepsBytes (old new : TapeView) : Type 0 where
  pub bytes : new.bytes ≡ old.bytes
  pub fewer : (image : List ℕ) → new.leaves image → old.leaves image

-- A start that is accepted has the named file with its contents. A tape that tells has one file.
pub record StartsTape {T E : Type 0} (old new : TapeView) (result : Result T E) : Type 0 where
  pub passes : TimePasses old new
  pub kept : KeepsBytes old new
  pub started : OnOk result (IsTrue new.started)
  pub cause : HasCause old.faults new.faults result

-- A read gives as many bytes from its place on as the file has, up to the length of the piece, into the piece's front.
pub record ReadsTape {E : Type 0} (old new : TapeView) (at : ℕ) (piece : List ℕ) (result : Result ℕ E) : Type 0 where
  pub passes : TimePasses old new
  pub kept : KeepsBytes old new
  pub started : new.started ≡ old.started
  pub bound : IfOk result (λ n. n ≤ length piece)
  pub count : IfOk result (λ n. IsTrue old.told → n ≡ min (length piece) (length old.bytes - at))
  pub given : IfOk result (λ n. IsTrue old.told → take n piece ≡ take n (drop at old.bytes))
  pub cause : HasCause old.faults new.faults result

-- A write that is accepted puts the bytes at their place. One that failed may have torn what a read gives, and until a sync each image may be torn, whatever the answer.
pub record WritesTape {T E : Type 0} (old new : TapeView) (at : ℕ) (bytes : List ℕ) (result : Result T E) : Type 0 where
  pub passes : TimePasses old new
  pub started : new.started ≡ old.started
  pub written : OnOk result (IsTrue old.told → IsWrittenAt old.bytes at bytes new.bytes)
  pub failed : OnErr result (IsTrue old.told → Torn at (length bytes) old.bytes new.bytes)
  pub torn : IsTrue old.told → (image : List ℕ) → new.leaves image → (from : List ℕ) × old.leaves from × Torn at (length bytes) from image
  pub cause : HasCause old.faults new.faults result

-- After a sync that is accepted the one image is what a read gives.
pub record SyncsTape {T E : Type 0} (old new : TapeView) (result : Result T E) : Type 0 where
  pub passes : TimePasses old new
  pub kept : KeepsBytes old new
  pub started : new.started ≡ old.started
  pub durable : OnOk result (IsTrue old.told → Only old.bytes new.leaves)
  pub cause : HasCause old.faults new.faults result
