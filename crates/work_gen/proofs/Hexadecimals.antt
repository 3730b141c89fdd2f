-- Bytes in hexadecimal, one after the other.
use Rattle.std.proofs.Common.{◌≡◌, ℕ, ◌+◌, ◌*◌, ◌/◌, ◌%◌, ◌<◌, List, [], ◌∷◌, ◌++◌, length, take, get_or, refl, sym, ap, ◌∙◌, arith, append_assoc}
use Rattle.std.proofs.lemmas.List.{take_more}
use Rattle.work_gen.specs.Summary.{hex_digit, hexadecimal}

-- one byte more
hexadecimal-push : (bytes : List ℕ) (b : ℕ) → hexadecimal (bytes ++ b ∷ []) ≡ hexadecimal bytes ++ hex_digit (b / 16) ∷ hex_digit (b % 16) ∷ []
hexadecimal-push [] b = refl
hexadecimal-push (c ∷ bytes) b = ap (λ (ds : List ℕ). hex_digit (c / 16) ∷ hex_digit (c % 16) ∷ ds) (hexadecimal-push bytes b)

-- two digits each
pub length-hexadecimal : (bytes : List ℕ) → length (hexadecimal bytes) ≡ 2 * length bytes
length-hexadecimal [] = refl
length-hexadecimal (b ∷ bytes) = omega (arith, length-hexadecimal bytes)

-- the next byte behind the others
pub next-byte : (before text bytes : List ℕ) (i : ℕ) → i < length bytes → text ≡ before ++ hexadecimal (take i bytes)
    → (text ++ hex_digit (get_or bytes i 0 / 16) ∷ []) ++ hex_digit (get_or bytes i 0 % 16) ∷ [] ≡ before ++ hexadecimal (take (i + 1) bytes)
next-byte before text bytes i h so_far =
    let b = get_or bytes i 0 in
    append_assoc text (hex_digit (b / 16) ∷ []) (hex_digit (b % 16) ∷ [])
    ∙ ap (λ (t : List ℕ). t ++ hex_digit (b / 16) ∷ hex_digit (b % 16) ∷ []) so_far
    ∙ append_assoc before (hexadecimal (take i bytes)) (hex_digit (b / 16) ∷ hex_digit (b % 16) ∷ [])
    ∙ ap (λ (t : List ℕ). before ++ t) (sym (hexadecimal-push (take i bytes) b))
    ∙ ap (λ (t : List ℕ). before ++ hexadecimal t) (sym (take_more bytes i 0 h))
