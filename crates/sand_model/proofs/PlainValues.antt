-- A value in range is printed within its line.
use Rattle.std.proofs.Common.{◌≡◌, ◌≢◌, ℕ, zero, suc, ◌<◌, ◌==◌, Bool, true, false, get_or, List, [], ◌∷◌, ◌++◌, length, Option, Some, None, refl, sym, ap, ◌∙◌, arith, ne_eqb, true≢false}
use Rattle.std.specs.Prelude.{All, chars, option_to_list, IfSome}
use Rattle.std.specs.List.{list_all}
use Rattle.std.specs.Str.{NonePass, NoCharPasses}
use Rattle.std.proofs.lemmas.List.Elements.{All-head, All-tail}
use Rattle.std.proofs.lemmas.Str.{encodes-chars, NoCharPasses-byte}
use Rattle.sand_base.specs.InRange.{is_control, IsTextInRange, IsValueInRange}
use Rattle.sand_base.specs.declared.value.Value.{Value}
use Rattle.sand_base.specs.declared.value.Value.TheVariants as value
use Rattle.sand_model.specs.PlainLines.{has_no_feed, fits_line}

none_at : (bytes : List ℕ) → ((i : ℕ) → i < length bytes → get_or bytes i 0 ≢ 10) → has_no_feed bytes ≡ true
none_at [] h = refl
none_at (b ∷ bytes) h =
    let first : (b == 10) ≡ false = ne_eqb b 10 (h 0 (omega arith)) in
    rw first (none_at bytes (λ i less. h (suc i) (omega (arith, less))))

none_pass : (cs : List ℕ) → All (λ c. is_control c ≡ false) cs → NonePass is_control cs
none_pass [] h = tt
none_pass (c ∷ cs) h = (All-head (λ c. is_control c ≡ false) c cs h, none_pass cs (All-tail (λ c. is_control c ≡ false) c cs h))

-- a text in range has no line feed, which is a control character
text_fits : (bytes : List ℕ) → IsTextInRange bytes → has_no_feed bytes ≡ true
text_fits bytes h = none_at bytes no_feed_at where
  plain : NoCharPasses is_control bytes
  plain = (chars bytes, encodes-chars bytes h.spelled, none_pass (chars bytes) h.plain)

  no_feed_at : (i : ℕ) → i < length bytes → get_or bytes i 0 ≢ 10
  no_feed_at i less e =
      let passed : is_control (get_or bytes i 0) ≡ false = NoCharPasses-byte is_control bytes i plain less (omega (arith, e)) in
      let feed : is_control 10 ≡ false = ap is_control (sym e) ∙ passed in
      true≢false feed

pub value_fits : (v : Value) → IsValueInRange v → fits_line v ≡ true
value_fits (value.Int n) h = refl
value_fits (value.Text bytes) h = text_fits bytes h
value_fits (value.Shape s) h = refl

-- one more value behind others, where there is one
pub one_fits : (vs : List Value) (v : Option Value) → list_all fits_line vs ≡ true → IfSome v IsValueInRange → list_all fits_line (vs ++ option_to_list v) ≡ true
one_fits [] None h k = refl
one_fits [] (Some v) h k = let own = value_fits v k in rw own refl
one_fits (x ∷ vs) v h k = go (fits_line x) refl (one_fits vs v) where
  go : (b : Bool) → fits_line x ≡ b → (list_all fits_line vs ≡ true → IfSome v IsValueInRange → list_all fits_line (vs ++ option_to_list v) ≡ true)
      → list_all fits_line ((x ∷ vs) ++ option_to_list v) ≡ true
  go true e behind = let rest : list_all fits_line vs ≡ true = rw e at h in rw e (behind rest k)
  go false e behind = let none : false ≡ true = rw e at h in absurd (true≢false (sym none))
