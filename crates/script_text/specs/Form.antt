-- Forms: a grammar as data. A form says which tokens write which values, and the value is its type.
-- After A. V. Aho and J. D. Ullman (1972); read from the left with one token in hand, P. M. Lewis and R. E. Stearns (1968).
use Rattle.std.specs.Prelude.{◌≡◌, ◌⊎◌, ℕ, ℤ, pos, Bool, true, false, ◌&&◌, nat_le, List, [], ◌∷◌, ◌++◌, Option, Some, None, is_some, length}
use Rattle.std.specs.Str.{bytes_eq}
use Rattle.script_text.specs.declared.token.Symbol.{Symbol}
use Rattle.script_text.specs.Lexical.{Placed}
use Rattle.script_text.specs.Number.{natural, int, or_zero}
use Rattle.script_text.specs.Text.{content}
use Rattle.sand_base.specs.declared.kind.Kind.{Kind}
use Rattle.sand_base.specs.declared.point.Point.{Point}
use Rattle.sand_base.specs.declared.value.Value.{Value}
use Rattle.statements.specs.declared.column.Place.{Place}
use Rattle.statements.specs.declared.test.Test.{Test}
use Rattle.statements.specs.Plan.{Plan}
use Rattle.script_text.specs.Token.{Piece, name, number, text, mark, symbol_text}

-- a class of tokens: a fixed word, any name, a number from the least to the most, a number of 64 bits, a text, a symbol
pub data Class : Type 0 where
  a_word : List ℕ → Class
  a_name : Class
  a_natural : ℕ → ℕ → Class
  an_int : Class
  a_text : Class
  a_mark : Symbol → Class

-- what a token of the class stands for
abbrev pub Got : Class → Type 0
Got (a_word word) = Unit {0}
Got a_name = List ℕ
Got (a_natural least most) = ℕ
Got an_int = ℤ
Got a_text = List ℕ
Got (a_mark symbol) = Unit {0}

-- something is there exactly where the test holds, and it is in range
abbrev pub where_true : Bool → Option (Unit {0} × Bool)
where_true true = Some (tt, true)
where_true false = None

-- a name with these bytes
abbrev pub name_with : List ℕ → Piece → Option (Unit {0} × Bool)
name_with word (name bytes) = where_true (bytes_eq bytes word)
name_with word _ = None

-- any name
abbrev pub name_of : Piece → Option (List ℕ × Bool)
name_of (name bytes) = Some (bytes, true)
name_of _ = None

-- a number, and whether it is from the least to the most; 0 stands for one that isn't
abbrev pub natural_of : ℕ → ℕ → Piece → Option (ℕ × Bool)
natural_of least most (number bytes) = Some (or_zero 0 (natural least most bytes))
natural_of least most _ = None

-- a number, and whether 64 bits hold it; 0 stands for one that they don't
abbrev pub int_in_range : Piece → Option (ℤ × Bool)
int_in_range (number bytes) = Some (or_zero (pos 0) (int bytes))
int_in_range _ = None

-- the characters of a text, and whether they have at most 255 bytes
abbrev pub text_of : Piece → Option (List ℕ × Bool)
text_of (text bytes) = Some (content bytes, nat_le (length (content bytes)) 255)
text_of _ = None

-- this symbol
abbrev pub symbol_in : Symbol → Piece → Option (Unit {0} × Bool)
symbol_in wanted (mark symbol) = where_true (bytes_eq (symbol_text symbol) (symbol_text wanted))
symbol_in wanted _ = None

-- what a token stands for where it is of the class, and whether that is in range
abbrev pub got : (c : Class) → Piece → Option (Got c × Bool)
got (a_word word) p = name_with word p
got a_name p = name_of p
got (a_natural least most) p = natural_of least most p
got an_int p = int_in_range p
got a_text p = text_of p
got (a_mark symbol) p = symbol_in symbol p

-- the token is of the class
abbrev pub fits : Class → Placed → Bool
fits c t = is_some (got c t.piece)

-- the first of the tokens is of the class
abbrev pub head_fits : Class → List Placed → Bool
head_fits c [] = false
head_fits c (t ∷ tokens) = fits c t

-- the rules that a form may name: a plan, which may stand inside another, and the rests of lists
pub data Rule : Type 0 where
  a_plan : Rule
  more_columns : Rule
  more_values : Rule
  more_spots : Rule
  more_tests : Rule
  more_places : Rule

-- what a rule gives
abbrev pub RuleValue : Rule → Type 0
RuleValue a_plan = Plan
RuleValue more_columns = List (List ℕ × Kind)
RuleValue more_values = List Value
RuleValue more_spots = List Point
RuleValue more_tests = List Test
RuleValue more_places = List Place

-- a form of values: no token; one token of a class; where a token of the class comes next it and then the first form,
-- else the second; one form and then another; a form whose value must pass a test to be in range; a rule
pub data Form : Type 0 → Type 1 where
  nothing : {A : Type 0} → A → Form A
  take : {A : Type 0} (c : Class) → (Got c → A) → Form A
  alt : {A B : Type 0} (c : Class) → (Got c → B → A) → Form B → Form A → Form A
  seq : {A B C : Type 0} → (B → C → A) → Form B → Form C → Form A
  checked : {A : Type 0} → (A → Bool) → Form A → Form A
  rule : (r : Rule) → Form (RuleValue r)

-- the tokens write the value as one token of the class, and the flag says whether it is in range
pub record IsOne {A : Type 0} (c : Class) (value : Got c → A) (x : A) (flag : Bool) (tokens : List Placed) : Type 0 where
  pub token : Placed
  pub one : tokens ≡ token ∷ []
  pub raw : Got c
  pub is : got c token.piece ≡ Some (raw, flag)
  pub gives : x ≡ value raw

-- the tokens are in two parts, the one of a value and the other of another, and both values together are this one
pub record Parts {A B C : Type 0} (join : B → C → A) (First : B → Bool → List Placed → Type 0) (Second : C → Bool → List Placed → Type 0)
    (x : A) (flag : Bool) (tokens : List Placed) : Type 0 where
  pub left : B
  pub right : C
  pub one : Bool
  pub two : Bool
  pub here : List Placed
  pub after : List Placed
  pub split : tokens ≡ here ++ after
  pub first : First left one here
  pub second : Second right two after
  pub joined : x ≡ join left right
  pub both : flag ≡ (two && one)

-- the value is of the form, and in range only where it passes the test
pub record IsCheckedForm {A : Type 0} (test : A → Bool) (Inner : A → Bool → List Placed → Type 0) (x : A) (flag : Bool) (tokens : List Placed) : Type 0 where
  pub here : Bool
  pub inner : Inner x here tokens
  pub both : flag ≡ (test x && here)

-- The tokens write the value by the form, where this is so of the rules. The flag says whether all is in range; where it
-- isn't, the value tells nothing.
abbrev pub Spells : {A : Type 0} → ((r : Rule) → RuleValue r → Bool → List Placed → Type 0) → Form A → A → Bool → List Placed → Type 0
Spells P (nothing y) x flag tokens = (x ≡ y) × (flag ≡ true) × (tokens ≡ [])
Spells P (take c value) x flag tokens = IsOne c value x flag tokens
Spells P (alt c join f g) x flag tokens = Parts join (IsOne c (λ v. v)) (Spells P f) x flag tokens ⊎ Spells P g x flag tokens
Spells P (seq join f g) x flag tokens = Parts join (Spells P f) (Spells P g) x flag tokens
Spells P (checked test f) x flag tokens = IsCheckedForm test (Spells P f) x flag tokens
Spells P (rule r) x flag tokens = P r x flag tokens
