-- Names of relations and columns.
use Rattle.std.specs.Prelude.{◌≡◌, ℕ, ◌≤◌, Bool, true, false, ◌&&◌, ◌||◌, ◌==◌, nat_le, List, [], ◌∷◌, length}
use Rattle.std.specs.List.{list_all}
use Rattle.script_text.specs.declared.TheConstants.{LONGEST_NAME}

-- a letter A to Z or a to z, or an underscore
abbrev pub starts_name : ℕ → Bool
starts_name b = (nat_le 65 b && nat_le b 90) || (nat_le 97 b && nat_le b 122) || (b == 95)

-- such a byte, or a digit
abbrev pub continues_name : ℕ → Bool
continues_name b = starts_name b || (nat_le 48 b && nat_le b 57)

-- the bytes are of the shape of a name: a letter or underscore, then such and digits
abbrev pub is_name : List ℕ → Bool
is_name [] = false
is_name (b ∷ bytes) = starts_name b && list_all continues_name bytes

-- the bytes are a name, and not too long
pub record IsName (bytes : List ℕ) : Type 0 where
  pub spelled : is_name bytes ≡ true
  pub short : length bytes ≤ LONGEST_NAME
