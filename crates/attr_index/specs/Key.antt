-- The key of a value in an index: 12 bytes, that is a number of 96 bits. Ints are in the order of their keys.
use Rattle.std.specs.Prelude.{◌≡◌, ℕ, ◌+◌, ◌-◌, ◌*◌, ◌/◌, ◌^◌, ℤ, pos, negsuc, nat_lt, cond, List, [], ◌++◌, take, drop, length, replicate, ⊤}
use Rattle.std.specs.Int.{w32, w64, to_be_bytes, from_be_bytes}
use Rattle.sand_base.specs.declared.value.Value.{Value}
use Rattle.sand_base.specs.declared.value.Value.TheVariants as value
use Rattle.sand_base.specs.InRange.{IsIntInRange}

-- an int v as v + 2^63, which is not negative
abbrev pub offset : ℤ → ℕ
offset (pos n) = 2 ^ 63 + n
offset (negsuc n) = 2 ^ 63 - 1 - n

-- the int v of which this is v + 2^63
abbrev pub int_from : ℕ → ℤ
int_from n = cond (nat_lt n (2 ^ 63)) (negsuc (2 ^ 63 - 1 - n)) (pos (n - 2 ^ 63))

-- the key of an int: v + 2^63 in 64 bits, and then 32 zero bits
unfoldable pub int_key_bytes : ℤ → List ℕ
int_key_bytes v = to_be_bytes w64 (offset v) ++ replicate 4 0

-- the key of a text: its first 12 bytes, zeros after a shorter one
abbrev pub text_key_bytes : List ℕ → List ℕ
text_key_bytes bytes = take 12 bytes ++ replicate (12 - length bytes) 0

-- the key of a value; a shape has none
abbrev pub key_bytes : Value → List ℕ
key_bytes (value.Int v) = int_key_bytes v
key_bytes (value.Text bytes) = text_key_bytes bytes
key_bytes (value.Shape s) = []

-- a key as a number, big-endian
unfoldable pub key_number : List ℕ → ℕ
key_number bytes = from_be_bytes w64 (take 8 bytes) * 2 ^ 32 + from_be_bytes w32 (drop 8 bytes)

-- the key of a value as a number
abbrev pub value_key : Value → ℕ
value_key v = key_number (key_bytes v)

-- the int of which this is the key
abbrev pub int_of : ℕ → ℤ
int_of key = int_from (key / 2 ^ 32)

-- the value can be indexed: it is an int or a text
abbrev pub IsAttribute : Value → Type 0
IsAttribute (value.Int v) = ⊤
IsAttribute (value.Text bytes) = ⊤
IsAttribute (value.Shape s) = ⊥

-- how long a text is, and 0 for an int
abbrev pub text_length : Value → ℕ
text_length (value.Int v) = 0
text_length (value.Text bytes) = length bytes
text_length (value.Shape s) = 0

-- an int is in range, as every i64 is
abbrev pub IsFit : Value → Type 0
IsFit (value.Int v) = IsIntInRange v
IsFit (value.Text bytes) = ⊤
IsFit (value.Shape s) = ⊤

-- the number is the key of an int or a text
abbrev pub IsKey : ℕ → Type 0
IsKey key = (v : Value) × (IsAttribute v × (key ≡ value_key v))

-- the number is the key of an int
abbrev pub IsIntKey : ℕ → Type 0
IsIntKey key = (v : ℤ) × (IsIntInRange v × (key ≡ value_key (value.Int v)))
