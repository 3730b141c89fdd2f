-- The grammar: which tokens write which statements, and the first bad token, by the correct-prefix property
-- (A. V. Aho and J. D. Ullman 1972).
use Rattle.std.specs.Prelude.{◌≡◌, ℕ, zero, suc, Bool, List, [], ◌∷◌, ◌++◌, length, Result, Ok, Err}
use Rattle.script_text.specs.Form.{Rule, RuleValue, Form, Spells}
use Rattle.script_text.specs.Lexical.{Placed, ArePieces}
use Rattle.script_text.specs.Reading.{TokenState, Read, read, go_on}
use Rattle.script_text.specs.Rules.{body}

-- the tokens write the value by the rule, with rules inside one another to this depth
abbrev pub spelled_at : ℕ → (r : Rule) → RuleValue r → Bool → List Placed → Type 0
spelled_at zero r x flag tokens = ⊥
spelled_at (suc n) r x flag tokens = Spells (spelled_at n) (body r) x flag tokens

-- the tokens write the value by the rule
abbrev pub spelled : (r : Rule) → RuleValue r → Bool → List Placed → Type 0
spelled r x flag tokens = (n : ℕ) × spelled_at n r x flag tokens

-- the tokens write the value by the form; the flag says whether all is in range
unfoldable pub IsOf : {A : Type 0} → Form A → A → Bool → List Placed → Type 0
IsOf f x flag tokens = Spells spelled f x flag tokens

-- the tokens are of the form, in range or not
pub record IsOfForm {A : Type 0} (f : Form A) (tokens : List Placed) : Type 0 where
  pub value : A
  pub flag : Bool
  pub is : IsOf f value flag tokens

-- some tokens of the form begin with these
pub record IsFront {A : Type 0} (f : Form A) (tokens : List Placed) : Type 0 where
  pub more : List Placed
  pub pieces : ArePieces more
  pub whole : IsOfForm f (tokens ++ more)

-- none of the form goes on so from the good tokens: with the first of the bad ones, or with none where there is none
abbrev pub GoesWrong : {A : Type 0} → Form A → List Placed → List Placed → Type 0
GoesWrong f good [] = ¬ IsOfForm f good
GoesWrong f good (t ∷ bad) = ¬ IsFront f (good ++ t ∷ [])

-- the tokens end with the bad ones, the first of which is the first token such that none of the form begins with the
-- tokens up to it; there is no bad one where the tokens end too early
pub record IsFirstBad {A : Type 0} (f : Form A) (tokens bad : List Placed) : Type 0 where
  pub good : List Placed
  pub split : tokens ≡ good ++ bad
  pub front : IsFront f good
  pub wrong : GoesWrong f good bad

-- the number of bytes from the first of the tokens to the line's end
abbrev pub room_at : List Placed → ℕ
room_at [] = 0
room_at (t ∷ tokens) = t.room

-- how a rule is read, with rules inside one another to this depth
abbrev pub read_at : ℕ → (r : Rule) → Read (RuleValue r)
read_at zero r s = Err s.left
read_at (suc n) r s = read (read_at n) (body r) s

-- how a rule is read: each one inside another begins with a token fewer
unfoldable pub read_rule : (r : Rule) → Read (RuleValue r)
read_rule r s = read_at (suc (length s.left)) r s

-- how a form is read
abbrev pub reading : {A : Type 0} → Form A → Read A
reading f = read read_rule f

-- nothing is left
abbrev pub none_left : {A : Type 0} → A → TokenState → List Placed → Result (A × TokenState) (List Placed)
none_left x s [] = Ok (x, s)
none_left x s (t ∷ tokens) = Err (t ∷ tokens)

-- a form is read, and then no token is left
abbrev pub ended_form : {A : Type 0} → A → Read A
ended_form x s = none_left x s s.left

-- a form read to the end of the line
unfoldable pub whole : {A : Type 0} → Form A → Read A
whole f s = go_on (reading f s) ended_form
