-- What a field of a data file says, by the kind of its column.
use Rattle.std.specs.Prelude.{◌≡◌, ℕ, Bool, true, not, ◌==◌, List, Option, Some, None}
use Rattle.std.specs.List.{list_all}
use Rattle.sand_base.specs.InRange.{IsTextInRange}
use Rattle.sand_base.specs.Shape.{kind_of}
use Rattle.sand_base.specs.declared.kind.Kind.{Kind}
use Rattle.sand_base.specs.declared.kind.Kind.TheVariants as kind
use Rattle.sand_base.specs.declared.shape.Shape.{Shape}
use Rattle.sand_base.specs.declared.value.Value.{Value}
use Rattle.sand_base.specs.declared.value.Value.TheVariants as value
use Rattle.script_text.specs.Grammar.{IsOf}
use Rattle.script_text.specs.Lexical.{Placed, IsLexed}
use Rattle.script_text.specs.Number.{is_int, number_value}
use Rattle.script_text.specs.Rules.{shape_form}
use Rattle.script_text.specs.Token.{is_number}

-- the byte may stand in the field of a shape: no tab may, though spaces may
abbrev pub is_shape_byte : ℕ → Bool
is_shape_byte b = not (b == 9)

-- the field writes the shape in range, which is of the kind
pub record IsShapeField (k : Kind) (field : List ℕ) (s : Shape) : Type 0 where
  pub kind : kind_of s ≡ k
  pub no_tab : list_all is_shape_byte field ≡ true
  pub tokens : List Placed
  pub lexed : IsLexed field tokens
  pub written : IsOf shape_form s true tokens

-- the field is the value, of the kind: an int in 64 bits, a text in range, or a shape
abbrev pub IsFieldOf : Kind → List ℕ → Value → Type 0
IsFieldOf k field (value.Int n) = (k ≡ kind.Int) × (is_number field ≡ true) × (is_int field ≡ true) × (n ≡ number_value field)
IsFieldOf k field (value.Text t) = (k ≡ kind.Text) × (t ≡ field) × IsTextInRange field
IsFieldOf k field (value.Shape s) = IsShapeField k field s

-- what reading a field gives: the value that it is, or nothing where it is none of the kind
abbrev pub ReadsField : Kind → List ℕ → Option Value → Type 0
ReadsField k field None = (v : Value) → ¬ IsFieldOf k field v
ReadsField k field (Some v) = IsFieldOf k field v
