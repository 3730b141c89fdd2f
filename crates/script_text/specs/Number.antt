-- What the bytes of a number write, and whether it is in range.
use Rattle.std.specs.Prelude.{ℕ, ℤ, pos, neg_ℤ, Bool, true, false, not, ◌&&◌, ◌||◌, ◌==◌, ◌^◌, ◌-◌, cond, nat_le, List, [], ◌∷◌, Option, Some, None}
use Rattle.std.specs.Str.Parse.{digits_value}

-- the number begins with a minus
abbrev pub is_minus : List ℕ → Bool
is_minus [] = false
is_minus (b ∷ bytes) = b == 45

-- what the digits of a number write
abbrev pub magnitude : List ℕ → ℕ
magnitude [] = 0
magnitude (b ∷ bytes) = cond (b == 45) (digits_value 10 bytes) (digits_value 10 (b ∷ bytes))

-- the value of a number: that of its digits, negated after a minus
abbrev pub number_value : List ℕ → ℤ
number_value [] = pos 0
number_value (b ∷ bytes) = cond (b == 45) (neg_ℤ (pos (digits_value 10 bytes))) (pos (digits_value 10 (b ∷ bytes)))

-- the number is natural: with a minus it can only be 0
abbrev pub is_natural : List ℕ → Bool
is_natural bytes = not (is_minus bytes) || (magnitude bytes == 0)

-- the number is natural, and from the least to the most
abbrev pub is_natural_between : ℕ → ℕ → List ℕ → Bool
is_natural_between least most bytes = is_natural bytes && (nat_le least (magnitude bytes) && nat_le (magnitude bytes) most)

-- the number, where it is in this range
abbrev pub natural : ℕ → ℕ → List ℕ → Option ℕ
natural least most bytes = cond (is_natural_between least most bytes) (Some (magnitude bytes)) None

-- the number is from -2^63 to 2^63 - 1
abbrev pub is_int : List ℕ → Bool
is_int bytes = nat_le (magnitude bytes) (cond (is_minus bytes) (2 ^ 63) (2 ^ 63 - 1))

-- the number, where 64 bits hold it
abbrev pub int : List ℕ → Option ℤ
int bytes = cond (is_int bytes) (Some (number_value bytes)) None

-- what is there, which is in range; or the zero, which isn't
abbrev pub or_zero : {A : Type 0} → A → Option A → A × Bool
or_zero z (Some x) = (x, true)
or_zero z None = (z, false)
