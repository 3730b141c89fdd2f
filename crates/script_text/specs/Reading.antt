-- How a form is read from the left with one token in hand: what each step takes, and what it makes of it.
use Rattle.std.specs.Prelude.{◌≡◌, ℕ, Bool, true, ◌&&◌, cond, List, [], ◌∷◌, ◌++◌, Option, Some, None, Result, Ok, Err, ⊤}
use Rattle.script_text.specs.declared.stuck.Stuck.{Stuck}
use Rattle.script_text.specs.declared.stuck.Stuck.TheVariants as stuck
use Rattle.script_text.specs.Lexical.{Placed}
use Rattle.script_text.specs.Lexing.{pieces}
use Rattle.script_text.specs.Form.{Class, Got, got, head_fits, Rule, RuleValue, Form, nothing, take, alt, seq, checked, rule}
use Rattle.script_text.specs.Token.{Piece, IsPiece}

-- the tokens that are left, and whether all so far was in range
pub record TokenState : Type 0 where
  pub left : List Placed
  pub in_range : Bool

-- before these tokens
abbrev pub at : List Placed → Bool → TokenState
at left in_range = record { left = left; in_range = in_range }

-- before a line
abbrev pub start : List ℕ → TokenState
start line = at (pieces line) true

-- the piece is the first of those that are left, and these bytes hold the others
pub record IsFirstPiece (left : List Placed) (piece : Piece) (after : List ℕ) : Type 0 where
  pub room : ℕ
  pub place : left ≡ record { piece = piece; room = room } ∷ pieces after
  pub shape : IsPiece piece

-- a step takes tokens from the front and gives a value, or is stuck at the front of what it leaves
abbrev pub Read : Type 0 → Type 0
Read A = TokenState → Result (A × TokenState) (List Placed)

-- the reader did what the step says, or was refused memory
abbrev pub Gives : {A : Type 0} → Read A → TokenState → TokenState → Result A Stuck → Type 0
Gives step old new (Ok x) = step old ≡ Ok (x, new)
Gives step old new (Err stuck.Here) = step old ≡ Err new.left
Gives step old new (Err stuck.Memory) = ⊤

-- the reader did what the step says, where its value is told so, or was refused memory
abbrev pub GivesAs : {A B : Type 0} → (B → A) → Read A → TokenState → TokenState → Result B Stuck → Type 0
GivesAs told step old new (Ok x) = step old ≡ Ok (told x, new)
GivesAs told step old new (Err stuck.Here) = step old ≡ Err new.left
GivesAs told step old new (Err stuck.Memory) = ⊤

-- nothing is taken
abbrev pub pure : {A : Type 0} → A → Read A
pure x s = Ok (x, s)

-- the second step goes on where the first one ended
abbrev pub go_on : {A B : Type 0} → Result (A × TokenState) (List Placed) → (A → Read B) → Result (B × TokenState) (List Placed)
go_on (Ok p) next = next p.0 p.1
go_on (Err bad) next = Err bad

-- one step, and then another, which may depend on what the first one gave
abbrev pub bind : {A B : Type 0} → Read A → (A → Read B) → Read B
bind first next s = go_on (first s) next

-- a token that fits is taken
abbrev pub taken_token : {A C : Type 0} → (C → A) → Option (C × Bool) → TokenState → List Placed → Result (A × TokenState) (List Placed)
taken_token value None s after = Err s.left
taken_token value (Some p) s after = Ok (value p.0, at after (p.1 && s.in_range))

-- the next token, of these
abbrev pub front : {A : Type 0} (c : Class) → (Got c → A) → TokenState → List Placed → Result (A × TokenState) (List Placed)
front c value s [] = Err []
front c value s (t ∷ after) = taken_token value (got c t.piece) s after

-- one token of the class
abbrev pub take_in : {A : Type 0} (c : Class) → (Got c → A) → Read A
take_in c value s = front c value s s.left

-- the value is noted to be out of range where it fails the test
abbrev pub note : {A : Type 0} → (A → Bool) → A → Read A
note test x s = Ok (x, at s.left (test x && s.in_range))

-- a form, where the rules are read so
abbrev pub read : {A : Type 0} → ((r : Rule) → Read (RuleValue r)) → Form A → Read A
read R (nothing y) s = Ok (y, s)
read R (take c value) s = take_in c value s
read R (alt c join f g) s =
    cond (head_fits c s.left) (bind (take_in c (λ v. v)) (λ v. bind (read R f) (λ x. pure (join v x))) s) (read R g s)
read R (seq join f g) s = bind (read R f) (λ y. bind (read R g) (λ z. pure (join y z))) s
read R (checked test f) s = bind (read R f) (note test) s
read R (rule r) s = R r s

-- what a step gives behind a list that is there
abbrev pub gone_on : {A : Type 0} → List A → Read (List A) → Read (List A)
gone_on xs step s = go_on (step s) (λ ys. pure (xs ++ ys))
