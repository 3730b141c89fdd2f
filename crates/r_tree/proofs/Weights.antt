-- Lists with equal weights are each other in another order.
use Rattle.std.proofs.Common.{◌≡◌, ℕ, zero, suc, ◌+◌, ◌≤◌, ◌<◌, List, [], ◌∷◌, length, get_or, refl, sym, ◌∙◌, ap, ap₂, subst, inl, inr, ◌⊎◌, arith}
use Rattle.std.specs.Prelude.{IsPermutation}
use Rattle.std.specs.List.{remove}
use Rattle.std.proofs.lemmas.List.Sorted.{IsPermutation-refl, IsPermutation-sym, IsPermutation-trans, IsPermutation-cons, IsPermutation-remove}
use Rattle.sand_base.specs.declared.point.Point.{Point}
use Rattle.sand_base.specs.declared.rough.Rough.{Rough}
use Rattle.sand_base.specs.declared.rough.Rough.TheVariants as rough
use Rattle.code_btree.specs.Tree.{same}
use Rattle.code_btree.proofs.Lists.{same_cases, same_self}
use Rattle.r_tree.specs.Entry.{Member}
use Rattle.r_tree.specs.Page.{rough_of_tag}
use Rattle.r_tree.specs.Steps.{weigh}
use Rattle.r_tree.proofs.Bags.{weigh-perm}

-- the second number where the first isn't 0
abbrev where_some : ℕ → ℕ → ℕ
where_some zero n = 0
where_some (suc k) n = n

-- 1 for two equal lists of numbers, and 0 for others
abbrev alike : List ℕ → List ℕ → ℕ
alike [] [] = 1
alike [] (y ∷ ys) = 0
alike (x ∷ xs) [] = 0
alike (x ∷ xs) (y ∷ ys) = where_some (same x y) (alike xs ys)

alike_self : (xs : List ℕ) → alike xs xs ≡ 1
alike_self [] = refl
alike_self (x ∷ xs) = ap (λ (k : ℕ). where_some k (alike xs xs)) (same_self x) ∙ alike_self xs

some_left : (a n : ℕ) → a ≡ 0 → 1 ≤ where_some a n → ⊥
some_left a n e h = let P : ℕ → Type 0 = λ k. 1 ≤ where_some k n in absurd (zero_not (subst P e h))
  where
    zero_not : 1 ≤ 0 → ⊥
    zero_not k = absurd (omega arith)

some_right : (a n : ℕ) → a ≡ 1 → 1 ≤ where_some a n → 1 ≤ n
some_right a n e h = let P : ℕ → Type 0 = λ k. 1 ≤ where_some k n in subst P e h

alike_same : (xs ys : List ℕ) → 1 ≤ alike xs ys → xs ≡ ys
alike_same [] [] h = refl
alike_same [] (y ∷ ys) h = absurd (omega arith)
alike_same (x ∷ xs) [] h = absurd (omega arith)
alike_same (x ∷ xs) (y ∷ ys) h = elim (same_cases x y) [
  | inl i ↦ ap₂ (λ (n : ℕ) (ns : List ℕ). n ∷ ns) i.1 (alike_same xs ys (some_right (same x y) (alike xs ys) i.0 h))
  | inr i ↦ absurd (some_left (same x y) (alike xs ys) i.0 h)
]

-- the numbers of a member, and the member of these numbers
abbrev rough_numbers : Rough → List ℕ
rough_numbers (rough.Point p) = 1 ∷ (p.x ∷ (p.y ∷ (0 ∷ (0 ∷ []))))
rough_numbers (rough.Segment s) = 2 ∷ (s.a.x ∷ (s.a.y ∷ (s.b.x ∷ (s.b.y ∷ []))))
rough_numbers (rough.Bound r) = 3 ∷ (r.low.x ∷ (r.low.y ∷ (r.high.x ∷ (r.high.y ∷ []))))

abbrev point_at : List ℕ → ℕ → Point
point_at ns k = record { x = get_or ns k 0; y = get_or ns (k + 1) 0 }

abbrev rough_back : List ℕ → Rough
rough_back ns = rough_of_tag (get_or ns 0 0) (point_at ns 1) (point_at ns 3)

rough_is : (r : Rough) → rough_back (rough_numbers r) ≡ r
rough_is (rough.Point p) = refl
rough_is (rough.Segment s) = refl
rough_is (rough.Bound r) = refl

abbrev numbers : Member → List ℕ
numbers i = i.0 ∷ rough_numbers i.1

numbers_tell : (i j : Member) → numbers i ≡ numbers j → i ≡ j
numbers_tell i j e =
    let a : i.0 ≡ j.0 = ap (λ (ns : List ℕ). get_or ns 0 0) e in
    let t : rough_numbers i.1 ≡ rough_numbers j.1 = ap (λ (ns : List ℕ). tail_of ns) e in
    let b : i.1 ≡ j.1 = sym (rough_is i.1) ∙ (ap (λ (ns : List ℕ). rough_back ns) t ∙ rough_is j.1) in
    ap₂ (λ (x : ℕ) (y : Rough). (x, y)) a b
  where
    tail_of : List ℕ → List ℕ
    tail_of [] = []
    tail_of (n ∷ ns) = ns

-- 1 for this member, and 0 for others
abbrev pub is_it : Member → Member → ℕ
is_it i j = alike (numbers i) (numbers j)

pub is_it_self : (i : Member) → is_it i i ≡ 1
is_it_self i = alike_self (numbers i)

pub is_it_same : (i j : Member) → 1 ≤ is_it i j → i ≡ j
is_it_same i j h = numbers_tell i j (alike_same (numbers i) (numbers j) h)

-- where a member has some weight, it stands
record StandsIn (i : Member) (is : List Member) : Type 0 where
  pub at : ℕ
  pub below : at < length is
  pub there : i ≡ get_or is at i

found_in : (i : Member) (is : List Member) → 1 ≤ weigh (is_it i) is → StandsIn i is
found_in i [] h = absurd (omega arith)
found_in i (j ∷ is) h = elim (some_or_none (is_it i j)) [
  | inl k ↦ record { at = 0; below = omega arith; there = is_it_same i j k }
  | inr k ↦ let r : StandsIn i is = found_in i is (omega (arith, h, k)) in record { at = suc r.at; below = omega (arith, r.below); there = r.there }
]
  where
    some_or_none : (n : ℕ) → (1 ≤ n) ⊎ (n ≡ 0)
    some_or_none zero = inr refl
    some_or_none (suc n) = inl (omega arith)

pub same_weights : (xs ys : List Member) → ((f : Member → ℕ) → weigh f xs ≡ weigh f ys) → IsPermutation xs ys
same_weights [] [] w = IsPermutation-refl []
same_weights [] (y ∷ ys) w = absurd (omega (arith, w (λ j. 1)))
same_weights (x ∷ xs) ys w =
    let r : StandsIn x ys = found_in x ys (omega (arith, w (is_it x), is_it_self x)) in
    let rest : List Member = remove ys r.at in
    let p : IsPermutation ys (x ∷ rest) = IsPermutation-remove ys r.at x r.below r.there in
    let q : IsPermutation xs rest = same_weights xs rest (λ f. omega (arith, w f, weigh-perm f ys (x ∷ rest) p)) in
    IsPermutation-trans (x ∷ xs) (x ∷ rest) ys (IsPermutation-cons x xs rest q) (IsPermutation-sym ys (x ∷ rest) p)
