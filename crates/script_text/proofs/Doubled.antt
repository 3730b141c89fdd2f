-- A text is doubled byte by byte.
use Rattle.std.proofs.Common.{◌≡◌, ℕ, zero, suc, ◌+◌, ◌<◌, false, cond, List, [], ◌∷◌, ◌++◌, length, get_or, drop, refl, sym, ap, ◌∙◌, append_assoc, eqb, arith}
use Rattle.std.proofs.lemmas.Bool.{cond-true, cond-false}
use Rattle.std.proofs.lemmas.List.{append-nil}
use Rattle.std.proofs.Math.Seq.{drop-length}
use Rattle.script_text.specs.Text.{doubled}

-- the byte at a place, and those after it
doubled-at : (s : List ℕ) (i : ℕ) → i < length s
    → doubled (drop i s) ≡ cond (eqb (get_or s i 0) 34) (34 ∷ 34 ∷ doubled (drop (i + 1) s)) (get_or s i 0 ∷ doubled (drop (i + 1) s))
doubled-at [] i h = absurd (omega (arith, h))
doubled-at (x ∷ xs) zero h = refl
doubled-at (x ∷ xs) (suc i) h = let e : suc i + 1 ≡ suc (i + 1) = omega arith in rw e (doubled-at xs i (omega (arith, h)))

-- nothing of it is written
pub quoted_start : (s : List ℕ) → 34 ∷ doubled s ≡ (34 ∷ []) ++ doubled (drop 0 s)
quoted_start s = refl

-- a quote is written twice
pub quoted_quote : (s bytes : List ℕ) (i : ℕ) → i < length s → get_or s i 0 ≡ 34 → 34 ∷ doubled s ≡ bytes ++ doubled (drop i s)
    → 34 ∷ doubled s ≡ ((bytes ++ 34 ∷ []) ++ 34 ∷ []) ++ doubled (drop (i + 1) s)
quoted_quote s bytes i less is h =
    h ∙ ap (λ more. bytes ++ more) (doubled-at s i less ∙ cond-true (eqb (get_or s i 0) 34) _ _ (rw is refl))
    ∙ sym (append_assoc bytes (34 ∷ []) (34 ∷ doubled (drop (i + 1) s)))
    ∙ sym (append_assoc (bytes ++ 34 ∷ []) (34 ∷ []) (doubled (drop (i + 1) s)))

-- another byte once
pub quoted_other : (s bytes : List ℕ) (i b : ℕ) → i < length s → get_or s i 0 ≡ b → eqb b 34 ≡ false → 34 ∷ doubled s ≡ bytes ++ doubled (drop i s)
    → 34 ∷ doubled s ≡ (bytes ++ b ∷ []) ++ doubled (drop (i + 1) s)
quoted_other s bytes i b less is not h =
    h ∙ ap (λ more. bytes ++ more) (doubled-at s i less ∙ cond-false (eqb (get_or s i 0) 34) _ _ (ap (λ b. eqb b 34) is ∙ not))
    ∙ sym (append_assoc bytes (get_or s i 0 ∷ []) (doubled (drop (i + 1) s)))
    ∙ ap (λ b. (bytes ++ b ∷ []) ++ doubled (drop (i + 1) s)) is

-- all is written
pub quoted_end : (s bytes : List ℕ) → 34 ∷ doubled s ≡ bytes ++ doubled (drop (length s) s) → bytes ++ 34 ∷ [] ≡ 34 ∷ doubled s ++ 34 ∷ []
quoted_end s bytes h = sym (ap (λ more. more ++ 34 ∷ []) (h ∙ ap (λ more. bytes ++ doubled more) (drop-length s) ∙ append-nil bytes))
