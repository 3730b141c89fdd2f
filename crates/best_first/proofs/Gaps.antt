-- Gaps by their values: how the comparison, the order and a reach agree.
use Rattle.std.proofs.Common.{◌≡◌, ℕ, ◌*◌, ◌<◌, ◌≤◌, ◌⊎◌, inl, inr, Bool, true, false, true≢false, Option, None, Some, refl, sym, ◌∙◌, arith, mul-le-mul_right}
use Rattle.std.proofs.Common.{le_of_mul-le-mul_right, lt_of_mul-lt-mul_right, mul-lt-mul_of_pos_right, le_of_lt, le_of_eq, le_refl, leb-true, le-leb, Ordering, Less}
use Rattle.std.proofs.Common.{Equal, Greater}
use Rattle.std.specs.Ordering.{is_gt}
use Rattle.std.specs.Cmp.{nat_cmp_is, tied_itself, tied_back}
use Rattle.std.proofs.lemmas.Cmp.{ranked}
use Rattle.exact_frac.specs.declared.frac.Frac.{Frac}
use Rattle.exact_frac.specs.Frac.{value_cmp, value_cmp_total}
use Rattle.best_first.specs.Reach.{IsSameGap, IsAtMost, IsBelow, within, up_to, IsReach}

-- ---- chains

cancel : (a b k : ℕ) → 1 ≤ k → a * k ≤ b * k → a ≤ b
cancel a b k pos h = le_of_mul-le-mul_right h pos

pub at_most_itself : (g : Frac) → IsAtMost g g
at_most_itself g = le_refl (g.num * g.den)

pub at_most_trans : (g h i : Frac) → IsAtMost g h → IsAtMost h i → IsAtMost g i
at_most_trans g h i p q =
    let first : g.num * h.den * i.den ≤ h.num * g.den * i.den = mul-le-mul_right i.den p in
    let second : h.num * i.den * g.den ≤ i.num * h.den * g.den = mul-le-mul_right g.den q in
    let whole : g.num * i.den * h.den ≤ i.num * g.den * h.den = omega arith in
    cancel (g.num * i.den) (i.num * g.den) h.den h.positive whole

pub below_at_most : (g h : Frac) → IsBelow g h → IsAtMost g h
below_at_most g h p = le_of_lt p

pub below_trans : (g h i : Frac) → IsBelow g h → IsAtMost h i → IsBelow g i
below_trans g h i p q =
    let first : g.num * h.den * i.den < h.num * g.den * i.den = mul-lt-mul_of_pos_right p i.positive in
    let second : h.num * i.den * g.den ≤ i.num * h.den * g.den = mul-le-mul_right g.den q in
    let whole : g.num * i.den * h.den < i.num * g.den * h.den = omega arith in
    lt_of_mul-lt-mul_right h.den whole

pub at_most_below : (g h i : Frac) → IsAtMost g h → IsBelow h i → IsBelow g i
at_most_below g h i p q =
    let first : g.num * h.den * i.den ≤ h.num * g.den * i.den = mul-le-mul_right i.den p in
    let second : h.num * i.den * g.den < i.num * h.den * g.den = mul-lt-mul_of_pos_right q g.positive in
    let whole : g.num * i.den * h.den < i.num * g.den * h.den = omega arith in
    lt_of_mul-lt-mul_right h.den whole

pub not_below : (g h : Frac) → IsBelow g h → IsAtMost h g → ⊥
not_below g h p q = omega arith

-- ---- what the order answers

pub less_is : (g h : Frac) → value_cmp g h ≡ Less → IsBelow g h
less_is g h e = ranked (g.num * h.den) (h.num * g.den) Less (sym e)

pub equal_is : (g h : Frac) → value_cmp g h ≡ Equal → g.num * h.den ≡ h.num * g.den
equal_is g h e = ranked (g.num * h.den) (h.num * g.den) Equal (sym e)

pub equal_at_most : (g h : Frac) → value_cmp g h ≡ Equal → IsAtMost g h
equal_at_most g h e = le_of_eq (equal_is g h e)

pub equal_at_least : (g h : Frac) → value_cmp g h ≡ Equal → IsAtMost h g
equal_at_least g h e = le_of_eq (sym (equal_is g h e))

pub greater_is : (g h : Frac) → value_cmp g h ≡ Greater → IsBelow h g
greater_is g h e = ranked (g.num * h.den) (h.num * g.den) Greater (sym e)

pub is_less : (g h : Frac) → IsBelow g h → value_cmp g h ≡ Less
is_less g h p = sym (nat_cmp_is (g.num * h.den) (h.num * g.den) Less p)

pub not_greater : (g h : Frac) → is_gt (value_cmp g h) ≡ false → IsAtMost g h
not_greater g h e =
    let go : (a : Ordering) → value_cmp g h ≡ a → is_gt a ≡ false → IsAtMost g h =
    elim [ Less ↦ λ f n. below_at_most g h (less_is g h f) | Equal ↦ λ f n. equal_at_most g h f | Greater ↦ λ f n. absurd (true≢false n) ] in
    go (value_cmp g h) refl e

pub at_most_not_greater : (g h : Frac) → IsAtMost g h → is_gt (value_cmp g h) ≡ false
at_most_not_greater g h p =
    let go : (a : Ordering) → value_cmp g h ≡ a → is_gt a ≡ false = elim [ Less ↦ λ f. refl | Equal ↦ λ f. refl | Greater ↦ λ f. absurd (not_below h g (greater_is g h f) p) ] in
    go (value_cmp g h) refl

-- ---- gaps of one value

pub same_itself : (g : Frac) → IsSameGap g g
same_itself g = tied_itself value_cmp_total g

pub same_back : (g h : Frac) → IsSameGap g h → IsSameGap h g
same_back g h e = tied_back value_cmp_total g h e

pub same_trans : (g h i : Frac) → IsSameGap g h → IsSameGap h i → IsSameGap g i
same_trans g h i p q = value_cmp_total.congr g h i p ∙ q

-- ---- reaches

pub within_reach : (ceiling : Option ℕ) → IsReach (within ceiling)
within_reach None g h p e = refl
within_reach (Some r) g h p e =
    let far : h.num ≤ r * r * h.den = leb-true h.num (r * r * h.den) e in
    let scaled : h.num * g.den ≤ r * r * h.den * g.den = mul-le-mul_right g.den far in
    let whole : g.num * h.den ≤ r * r * g.den * h.den = omega arith in
    le-leb g.num (r * r * g.den) (cancel g.num (r * r * g.den) h.den h.positive whole)

pub up_to_is : (most gap : Frac) → up_to most gap ≡ true → IsAtMost gap most
up_to_is most gap e = leb-true (gap.num * most.den) (most.num * gap.den) e

pub is_up_to : (most gap : Frac) → IsAtMost gap most → up_to most gap ≡ true
is_up_to most gap h = le-leb (gap.num * most.den) (most.num * gap.den) h

pub up_to_reach : (most : Frac) → IsReach (up_to most)
up_to_reach most g h p e = is_up_to most g (at_most_trans g h most p (up_to_is most h e))

-- ---- two gaps stand to each other in one of two ways

pub compared : (g h : Frac) → IsAtMost g h ⊎ IsBelow h g
compared g h =
    let go : (r : Ordering) → value_cmp g h ≡ r → IsAtMost g h ⊎ IsBelow h g =
    elim [ Less ↦ λ e. inl (below_at_most g h (less_is g h e)) | Equal ↦ λ e. inl (equal_at_most g h e) | Greater ↦ λ e. inr (greater_is g h e) ] in
    go (value_cmp g h) refl

-- a reach takes gaps of one value alike
pub reach_same : (reach : Frac → Bool) → IsReach reach → (g h : Frac) → IsSameGap g h → (b : Bool) → reach g ≡ b → reach h ≡ b
reach_same reach is g h e true r = is h g (equal_at_least g h e) r
reach_same reach is g h e false r =
    let go : (b : Bool) → reach h ≡ b → b ≡ false = elim [ true ↦ λ f. sym (is g h (equal_at_most g h e) f) ∙ r | false ↦ λ f. refl ] in
    go (reach h) refl

-- what is outside a reach stays outside where it is farther
pub beyond_reach : (reach : Frac → Bool) → IsReach reach → (g h : Frac) → IsAtMost g h → reach g ≡ false → reach h ≡ false
beyond_reach reach is g h p e =
    let go : (b : Bool) → reach h ≡ b → b ≡ false = elim [ true ↦ λ f. sym (is g h p f) ∙ e | false ↦ λ f. refl ] in
    go (reach h) refl
