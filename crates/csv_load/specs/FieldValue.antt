-- The value that a field of a data file is, by the kind of its column: the one that `ReadsField` of script_text tells.
use Rattle.std.specs.Prelude.{ℕ, Bool, not, ◌&&◌, ◌==◌, nat_le, cond, List, length, Option, Some, None, Result, Ok, Err, chars}
use Rattle.std.specs.List.{list_all}
use Rattle.std.specs.Str.{is_utf8}
use Rattle.sand_base.specs.InRange.{is_control}
use Rattle.sand_base.specs.Shape.{kind_of, same_kind}
use Rattle.sand_base.specs.declared.kind.Kind.{Kind}
use Rattle.sand_base.specs.declared.kind.Kind.TheVariants as kind
use Rattle.sand_base.specs.declared.shape.Shape.{Shape}
use Rattle.sand_base.specs.declared.value.Value.{Value}
use Rattle.sand_base.specs.declared.value.Value.TheVariants as value
use Rattle.script_text.specs.Field.{is_shape_byte}
use Rattle.script_text.specs.Grammar.{whole}
use Rattle.script_text.specs.Lexical.{Placed}
use Rattle.script_text.specs.Lexing.{unread}
use Rattle.script_text.specs.Number.{is_int, number_value}
use Rattle.script_text.specs.Reading.{TokenState, start}
use Rattle.script_text.specs.Rules.{shape_form}
use Rattle.script_text.specs.Token.{is_number}

-- the int that a field writes, where 64 bits hold it
abbrev pub int_value : List ℕ → Option Value
int_value field = cond (is_number field && is_int field) (Some (value.Int (number_value field))) None

-- at most 255 bytes, well-formed, without a control character
abbrev pub is_text : List ℕ → Bool
is_text field = nat_le (length field) 255 && (is_utf8 field && list_all (λ c. not (is_control c)) (chars field))

-- the text that a field is
abbrev pub text_value : List ℕ → Option Value
text_value field = cond (is_text field) (Some (value.Text field)) None

-- the shape that was read, where it is in range and of the kind
abbrev pub shape_read : Kind → Result (Shape × TokenState) (List Placed) → Option Value
shape_read k (Ok (s, after)) = cond (after.in_range && same_kind (kind_of s) k) (Some (value.Shape s)) None
shape_read k (Err bad) = None

-- the shape of the kind that a field writes, without tabs and with nothing behind it
abbrev pub shape_value : Kind → List ℕ → Option Value
shape_value k field = cond (list_all is_shape_byte field && (length (unread field) == 0)) (shape_read k (whole shape_form (start field))) None

-- the value of the kind that a field is, if it is one
unfoldable pub field_value : Kind → List ℕ → Option Value
field_value kind.Int field = int_value field
field_value kind.Text field = text_value field
field_value k field = shape_value k field

-- the value of a field that may be missing
abbrev pub field_value_in : Kind → Option (List ℕ) → Option Value
field_value_in k None = None
field_value_in k (Some field) = field_value k field
