-- Texts without control characters.
use Rattle.std.proofs.Common.{◌≡◌, ℕ, ◌≤◌, Bool, true, false, List, [], ◌∷◌, length, sym, refl, ap, ◌∙◌, arith}
use Rattle.std.specs.Prelude.{◌||◌, All, IsUtf8, chars}
use Rattle.std.specs.List.{list_any}
use Rattle.std.specs.Char as char
use Rattle.std.proofs.lemmas.Bool.{false≢true}
use Rattle.std.proofs.lemmas.Bool.Decides.{nat_tests}
use Rattle.std.proofs.lemmas.List.Elements.{All-nil, All-cons, All-head, All-tail}
use Rattle.sand_base.specs.InRange.{IsTextInRange, is_control}

-- the two tests of a control character are one
one_test : (c : ℕ) → char.is_control c ≡ is_control c
one_test c = grind (arith, nat_tests)

or_false : (a b : Bool) → (a || b) ≡ false → (a ≡ false) × (b ≡ false)
or_false true b h = absurd (false≢true (sym h))
or_false false b h = (refl, h)

-- with no control character among them, all are plain
none_from : (cs : List ℕ) → list_any char.is_control cs ≡ false → All (λ c. is_control c ≡ false) cs
none_from [] h = All-nil (λ c. is_control c ≡ false)
none_from (c ∷ cs) h =
    let parts = or_false (char.is_control c) (list_any char.is_control cs) h in
    All-cons (λ c. is_control c ≡ false) c cs (sym (one_test c) ∙ parts.0) (none_from cs parts.1)

-- and where all are plain, none is among them
some_from : (cs : List ℕ) → All (λ c. is_control c ≡ false) cs → list_any char.is_control cs ≡ false
some_from [] h = refl
some_from (c ∷ cs) h =
    ap (λ x. x || list_any char.is_control cs) (one_test c ∙ All-head (λ c. is_control c ≡ false) c cs h)
    ∙ some_from cs (All-tail (λ c. is_control c ≡ false) c cs h)

-- a text with a control character is not in range
pub not_plain : (bytes : List ℕ) → list_any char.is_control (chars bytes) ≡ true → IsTextInRange bytes → ⊥
not_plain bytes h fits = false≢true (sym (some_from (chars bytes) fits.plain) ∙ h)

-- a short text without is
pub is_plain : (bytes : List ℕ) → length bytes ≤ 255 → IsUtf8 bytes → list_any char.is_control (chars bytes) ≡ false → IsTextInRange bytes
is_plain bytes short spelled h = record { short = short; spelled = spelled; plain = none_from (chars bytes) h }
