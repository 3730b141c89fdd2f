-- The least distance from a union of sets is the lesser of theirs, so that a loop over the edges of a ring gives the ring's.
use Rattle.std.proofs.Common.{◌≡◌, ◌⊎◌, inl, inr, ℕ, zero, suc, ◌+◌, ◌≤◌, List, [], ◌∷◌, length, take, drop, sym, subst}
use Rattle.std.proofs.lemmas.List.{take_all}
use Rattle.std.proofs.Math.Numerals.{add-one}
use Rattle.exact_frac.specs.declared.frac.Frac.{Frac}
use Rattle.sand_base.specs.declared.segment.Segment.{Segment}
use Rattle.sand_model.specs.Points.{RationalPoint, IsOnSegment}
use Rattle.sand_model.specs.Gap.{IsLeast}
use Rattle.sand_model.specs.Rings.{SomeOf}
use Rattle.plane_geom.specs.Expr.{at}
use Rattle.exact_frac.specs.Lesser.{IsLesser}
use Rattle.plane_geom.proofs.Least.{attained_within, least_same}
use Rattle.plane_geom.proofs.NearestEnd.{lesser_attained, lesser_apart}

-- the lesser of two distances is that of the union
pub least_union : {A A' B : RationalPoint → Type 0} (f g h : Frac) → IsLeast A B f.num f.den → IsLeast A' B g.num g.den → IsLesser f g h
    → IsLeast (λ q. A q ⊎ A' q) B h.num h.den
least_union {A} {A'} {B} f g h hf hg l = record {
  attained = lesser_attained {A = λ q. A q ⊎ A' q} {B = B} f g h l
      (attained_within {C = λ q. A q ⊎ A' q} {D = B} f.num f.den (λ q k. inl k) (λ r k. k) hf.attained)
      (attained_within {C = λ q. A q ⊎ A' q} {D = B} g.num g.den (λ q k. inr k) (λ r k. k) hg.attained);
  least = λ q r hq hr.
      elim hq [
        | inl a ↦ lesser_apart f h q r l.first (hf.least q r a hr)
        | inr b ↦ lesser_apart g h q r l.second (hg.least q r b hr)
      ];
}

-- the point lies on one of the segments
abbrev pub IsOnAny : List Segment → RationalPoint → Type 0
IsOnAny es q = SomeOf (λ s. IsOnSegment s q) es

-- one term more
module _ {A : Type 0} (P : A → Type 0) where
  pub some_more : (es : List A) (i : ℕ) (x : A) (rest : List A) → drop i es ≡ x ∷ rest → SomeOf P (take i es) ⊎ P x → SomeOf P (take (suc i) es)
  some_more [] zero x rest e h = cc
  some_more [] (suc i) x rest e h = cc
  some_more (y ∷ es) zero x rest e h = elim h [ inl none ↦ absurd none | inr p ↦ inl (subst P (sym (first y x es rest e)) p) ]
    where
      first : (y x : A) (es rest : List A) → ◌≡◌ {A = List A} (y ∷ es) (x ∷ rest) → y ≡ x
      first y x es rest e = cc
  some_more (y ∷ es) (suc i) x rest e h =
      elim h [
        | inl s ↦ elim s [ inl p ↦ inl p | inr more ↦ inr (some_more es i x rest e (inl more)) ]
        | inr p ↦ inr (some_more es i x rest e (inr p))
      ]

  pub some_fewer : (es : List A) (i : ℕ) (x : A) (rest : List A) → drop i es ≡ x ∷ rest → SomeOf P (take (suc i) es) → SomeOf P (take i es) ⊎ P x
  some_fewer [] zero x rest e h = absurd h
  some_fewer [] (suc i) x rest e h = absurd h
  some_fewer (y ∷ es) zero x rest e h = elim h [ inl p ↦ inr (subst P (first y x es rest e) p) | inr none ↦ absurd none ]
    where
      first : (y x : A) (es rest : List A) → ◌≡◌ {A = List A} (y ∷ es) (x ∷ rest) → y ≡ x
      first y x es rest e = cc
  some_fewer (y ∷ es) (suc i) x rest e h =
      elim h [
        | inl p ↦ inl (inl p)
        | inr more ↦ elim (some_fewer es i x rest e more) [ inl s ↦ inl (inr s) | inr p ↦ inr p ]
      ]

-- the first segment of a list
pub least_first : {B : RationalPoint → Type 0} (es : List Segment) (s : Segment) (rest : List Segment) (m e : ℕ) → drop 0 es ≡ s ∷ rest
    → IsLeast (IsOnSegment s) B m e → IsLeast (IsOnAny (take 1 es)) B m e
least_first {B} es s rest m e at h =
    least_same {A = IsOnSegment s} {B = B} {C = IsOnAny (take 1 es)} m e
    (λ q k. some_more (λ t. IsOnSegment t q) es 0 s rest at (inr k))
    (λ q k. elim (some_fewer (λ t. IsOnSegment t q) es 0 s rest at k) [ inl none ↦ absurd none | inr on ↦ on ]) h

-- and the next one, with those before it
pub least_next : {B : RationalPoint → Type 0} (es : List Segment) (i : ℕ) (s : Segment) (rest : List Segment) (f g h : Frac)
    → drop i es ≡ s ∷ rest → IsLeast (IsOnAny (take i es)) B f.num f.den → IsLeast (IsOnSegment s) B g.num g.den → IsLesser f g h
    → IsLeast (IsOnAny (take (i + 1) es)) B h.num h.den
least_next {B} es i s rest f g h at hf hg l =
    rw (add-one i)
    (least_same {A = λ q. IsOnAny (take i es) q ⊎ IsOnSegment s q} {B = B} {C = IsOnAny (take (suc i) es)} h.num h.den
    (λ q k. some_more (λ t. IsOnSegment t q) es i s rest at k) (λ q k. some_fewer (λ t. IsOnSegment t q) es i s rest at k)
    (least_union {A = IsOnAny (take i es)} {A' = IsOnSegment s} {B = B} f g h hf hg l))

-- all of them
pub least_of_all : {B : RationalPoint → Type 0} (es : List Segment) (i m e : ℕ) → length es ≤ i → IsLeast (IsOnAny (take i es)) B m e
    → IsLeast (IsOnAny es) B m e
least_of_all {B} es i m e h l = subst (λ (xs : List Segment). IsLeast (IsOnAny xs) B m e) (take_all i es h) l
