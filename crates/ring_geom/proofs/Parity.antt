-- Sums of tests modulo 2: over the edges of a ring, what the ends add cancels.
use Rattle.std.proofs.Common.{◌≡◌, ◌⊎◌, inl, inr, Bool, true, false, List, [], ◌∷◌, refl, ap, ap₂, sym, ◌∙◌}
use Rattle.sand_base.specs.declared.point.Point.{Point}
use Rattle.sand_base.specs.declared.segment.Segment.{Segment}
use Rattle.sand_model.specs.Rings.{SomeOf, chain, last_of, edges, differ, is_odd}

-- a test doesn't differ from itself
pub differ_self : (a : Bool) → differ a a ≡ false
differ_self false = refl
differ_self true = refl

-- and it differs from what never holds where it holds
pub differ_none : (a : Bool) → differ a false ≡ a
differ_none false = refl
differ_none true = refl

-- tests that don't differ are one
pub same_of_none : (a b : Bool) → differ a b ≡ false → a ≡ b
same_of_none false b h = sym h
same_of_none true false h = h
same_of_none true true h = refl

-- the ways from a to b and from b to c make the way from a to c
differ_through : (a b c : Bool) → differ (differ a b) (differ b c) ≡ differ a c
differ_through false false c = refl
differ_through false true false = refl
differ_through false true true = refl
differ_through true false c = refl
differ_through true true false = refl
differ_through true true true = refl

-- two sums are one sum, pair by pair
regrouped : (a b c d : Bool) → differ (differ a b) (differ c d) ≡ differ (differ a c) (differ b d)
regrouped false false c d = refl
regrouped false true false d = refl
regrouped false true true false = refl
regrouped false true true true = refl
regrouped true false false d = refl
regrouped true false true false = refl
regrouped true false true true = refl
regrouped true true false false = refl
regrouped true true false true = refl
regrouped true true true false = refl
regrouped true true true true = refl

-- the test holds of just one end of the segment
abbrev pub at_ends : (Point → Bool) → Segment → Bool
at_ends g s = differ (g s.a) (g s.b)

-- along a chain all ends but the first and the last cancel
ends_cancel : (g : Point → Bool) (from : Point) (ps : List Point)
    → is_odd (at_ends g) (chain from ps) ≡ differ (g from) (g (last_of from ps))
ends_cancel g from [] = sym (differ_self (g from))
ends_cancel g from (to ∷ rest) =
    ap (differ (differ (g from) (g to))) (ends_cancel g to rest) ∙ differ_through (g from) (g to) (g (last_of to rest))

-- round a ring all ends cancel
pub ring_even : (g : Point → Bool) (ring : List Point) → is_odd (at_ends g) (edges ring) ≡ false
ring_even g [] = refl
ring_even g (first ∷ rest) =
    ends_cancel g (last_of first rest) (first ∷ rest) ∙ differ_self (g (last_of first rest))

-- the parities of two tests differ as the parity of their difference says
odd_sum : (s t : Segment → Bool) (es : List Segment) → is_odd (λ e. differ (s e) (t e)) es ≡ differ (is_odd s es) (is_odd t es)
odd_sum s t [] = refl
odd_sum s t (e ∷ es) =
    ap (differ (differ (s e) (t e))) (odd_sum s t es) ∙ regrouped (s e) (t e) (is_odd s es) (is_odd t es)

-- where at each edge the two tests differ as the ends do, they have one parity round a ring
pub same_round : (g : Point → Bool) (s t : Segment → Bool) (ring : List Point)
    → is_odd (λ e. differ (s e) (t e)) (edges ring) ≡ is_odd (at_ends g) (edges ring)
    → is_odd s (edges ring) ≡ is_odd t (edges ring)
same_round g s t ring h =
    same_of_none (is_odd s (edges ring)) (is_odd t (edges ring)) (sym (odd_sum s t (edges ring)) ∙ h ∙ ring_even g ring)

-- some edge is as it says, or two tests that are alike at each other edge have one parity
pub same_or_some : (M : Segment → Type 0) (s t : Segment → Bool) → ((e : Segment) → M e ⊎ (s e ≡ t e)) → (es : List Segment)
    → SomeOf M es ⊎ (is_odd s es ≡ is_odd t es)
same_or_some M s t h [] = inr refl
same_or_some M s t h (e ∷ es) =
    elim (h e) [
      | inl m ↦ inl (inl m)
      | inr one ↦ elim (same_or_some M s t h es) [
        | inl more ↦ inl (inr more)
        | inr rest ↦ inr (ap₂ differ one rest)
      ]
    ]
