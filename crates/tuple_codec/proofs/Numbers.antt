-- Coordinates and whole numbers as big-endian bytes, and back.
use Rattle.std.proofs.Common.{◌≡◌, ℕ, ◌-◌, ◌^◌, ◌<◌, List, ◌++◌, length, take, drop, get_or, ap, sym, refl, ◌∙◌, arith, subst, length-append}
use Rattle.std.proofs.lemmas.List.{take-append-drop}
use Rattle.std.specs.Prelude.{ℤ, pos, negsuc, ◌≤ℤ◌}
use Rattle.std.specs.Int.{w32, w64, to_be_bytes, from_be_bytes, cast_unsigned, cast_signed}
use Rattle.std.proofs.lemmas.Nat.{from_be_bytes-to_be_bytes_4, from_be_bytes-to_be_bytes_8, be_bytes_4, be_bytes_8}
use Rattle.std.proofs.lemmas.Int.{ints, to_z-of_z, of_z-to_z}
use mir.Val.{SFits}
use lib.Signed.{mag}
use Rattle.sand_base.specs.InRange.{IsIntInRange}
use Rattle.tuple_codec.specs.Encoding.{coordinate_bytes, int_bytes}
use Rattle.tuple_codec.specs.Front.{IsNoneInFront}
use Rattle.tuple_codec.proofs.PrefixFree.{IsPrefixFree, same_fronts}

-- four bytes
pub length-coordinate_bytes : (n : ℕ) → length (coordinate_bytes n) ≡ 4
unfolding coordinate_bytes
length-coordinate_bytes n = refl

-- eight bytes
pub length-int_bytes : (n : ℤ) → length (int_bytes n) ≡ 8
unfolding int_bytes
length-int_bytes n = refl

-- the number that four bytes write
coordinate_from : (n : ℕ) → n < 2 ^ 32 → from_be_bytes w32 (coordinate_bytes n) ≡ n
unfolding coordinate_bytes
coordinate_from n h = from_be_bytes-to_be_bytes_4 n h

-- four bytes are the bytes of the number that they write
pub coordinate_read : (bytes : List ℕ) (n : ℕ) → length bytes ≡ 4 → ((i : ℕ) → get_or bytes i 0 < 256)
    → n ≡ from_be_bytes w32 bytes → coordinate_bytes n ≡ bytes
unfolding coordinate_bytes
coordinate_read bytes n four small e = be_bytes_4 bytes n four small e

-- no two coordinates have the same bytes
pub coordinates_free : IsPrefixFree (λ n. n < 2 ^ 32) coordinate_bytes
coordinates_free = record {
  one = λ a b r s ha hb h.
      let lengths : length (coordinate_bytes a) ≡ length (coordinate_bytes b) = length-coordinate_bytes a ∙ sym (length-coordinate_bytes b) in
      sym (coordinate_from a ha)
      ∙ ap (from_be_bytes w32) (same_fronts (coordinate_bytes a) (coordinate_bytes b) r s lengths h).0
      ∙ coordinate_from b hb;
}

-- fewer than four bytes begin with no coordinate
pub coordinate_short : (bytes : List ℕ) → length bytes < 4 → IsNoneInFront (λ n. n < 2 ^ 32) coordinate_bytes bytes
coordinate_short bytes short a rest h e =
    absurd (omega (arith, ap length e ∙ length-append (coordinate_bytes a) rest, length-coordinate_bytes a))

-- a number in range fits 64 bits
int_fits : (n : ℤ) → IsIntInRange n → SFits w64 n
int_fits (pos n) h = let high : pos n ≤ℤ pos (2 ^ 63 - 1) = h.high in record { sfits = omega (arith, ints) }
int_fits (negsuc n) h = let low : negsuc (2 ^ 63 - 1) ≤ℤ negsuc n = h.low in record { sfits = omega (arith, ints) }

-- and so do its bits
int_bits : (n : ℤ) → IsIntInRange n → cast_unsigned w64 n < 2 ^ 64
int_bits (pos n) h = let high : pos n ≤ℤ pos (2 ^ 63 - 1) = h.high in omega (arith, ints)
int_bits (negsuc n) h = omega arith

-- a number that fits 64 bits is in range
pub int_in_range : (n : ℤ) → SFits w64 n → IsIntInRange n
int_in_range (pos n) h =
    let small : n < 2 ^ 63 = h.sfits in record { low = omega (arith, ints); high = omega (arith, ints) }
int_in_range (negsuc n) h =
    let small : n < 2 ^ 63 = h.sfits in record { low = omega (arith, ints); high = omega (arith, ints) }

-- the number that eight bytes write
int_from : (n : ℤ) → IsIntInRange n → cast_signed w64 (from_be_bytes w64 (int_bytes n)) ≡ n
unfolding int_bytes
int_from n h =
    ap (cast_signed w64) (from_be_bytes-to_be_bytes_8 (cast_unsigned w64 n) (int_bits n h)) ∙ to_z-of_z w64 n (int_fits n h)

-- no two whole numbers have the same bytes
pub ints_free : IsPrefixFree IsIntInRange int_bytes
ints_free = record {
  one = λ a b r s ha hb h.
      let lengths : length (int_bytes a) ≡ length (int_bytes b) = length-int_bytes a ∙ sym (length-int_bytes b) in
      sym (int_from a ha)
      ∙ ap (λ bytes. cast_signed w64 (from_be_bytes w64 bytes)) (same_fronts (int_bytes a) (int_bytes b) r s lengths h).0
      ∙ int_from b hb;
}

-- fewer than eight bytes begin with no whole number
pub int_short : (bytes : List ℕ) → length bytes < 8 → IsNoneInFront IsIntInRange int_bytes bytes
int_short bytes short a rest h e =
    absurd (omega (arith, ap length e ∙ length-append (int_bytes a) rest, length-int_bytes a))

-- eight bytes are the bytes of the number that they write
pub int_read : (bytes : List ℕ) (m : ℕ) (n : ℤ) → length bytes ≡ 8 → ((i : ℕ) → get_or bytes i 0 < 256) → m < 2 ^ 64
    → m ≡ from_be_bytes w64 bytes → n ≡ cast_signed w64 m → int_bytes n ≡ bytes
unfolding int_bytes
int_read bytes m n eight small fits e h =
    ap (λ k. to_be_bytes w64 k) (ap (cast_unsigned w64) h ∙ of_z-to_z w64 m fits) ∙ be_bytes_8 bytes m eight small e

-- what is left in front of the rest
pub front_is : (left bytes rest code : List ℕ) (n : ℕ) → bytes ≡ take n left → rest ≡ drop n left → code ≡ bytes → left ≡ code ++ rest
front_is left bytes rest code n front back e = let whole : take n left ++ drop n left ≡ left = take-append-drop n left in cc

-- a number of 64 bits is itself again after its bits
pub bits_back : (n : ℤ) → mag n < 2 ^ 63 → cast_signed w64 (cast_unsigned w64 n) ≡ n
bits_back n h = to_z-of_z w64 n (record { sfits = h })

-- a whole number was read
pub int_taken : (left bytes rest : List ℕ) (n : ℤ) → mag n < 2 ^ 63 → bytes ≡ take 8 left → rest ≡ drop 8 left → int_bytes n ≡ bytes
    → IsIntInRange (cast_signed w64 (cast_unsigned w64 n)) × (left ≡ int_bytes (cast_signed w64 (cast_unsigned w64 n)) ++ rest)
int_taken left bytes rest n h e f g =
    let P : ℤ → Type 0 = λ z. IsIntInRange z × (left ≡ int_bytes z ++ rest) in
    let in_range : IsIntInRange n = int_in_range n (record { sfits = h }) in
    subst P (sym (bits_back n h)) (in_range, front_is left bytes rest (int_bytes n) 8 e f g)

-- the same, for what a call writes
pub ruleset of_int = (to_z-of_z)
