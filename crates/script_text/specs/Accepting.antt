-- How a token that may come is taken.
use Rattle.std.specs.Prelude.{◌≡◌, ◌<◌, Bool, true, false, length, Ok}
use Rattle.script_text.specs.Form.{Class, Got, head_fits}
use Rattle.script_text.specs.Reading.{TokenState, take_in}

-- a token of the class came next, and is taken
pub record IsTokenTaken (c : Class) (old new : TokenState) : Type 0 where
  pub fits : head_fits c old.left ≡ true
  pub value : Got c
  pub taken : take_in c (λ v. v) old ≡ Ok (value, new)
  pub fewer : length new.left < length old.left

-- none came next, and nothing is taken
pub record IsPassed (c : Class) (old new : TokenState) : Type 0 where
  pub other : head_fits c old.left ≡ false
  pub same : new ≡ old

-- a token of the class is taken where it comes next
abbrev pub Accepts : Class → TokenState → TokenState → Bool → Type 0
Accepts c old new true = IsTokenTaken c old new
Accepts c old new false = IsPassed c old new
