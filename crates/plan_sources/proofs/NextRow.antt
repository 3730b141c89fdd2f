-- A search that isn't exhausted has a next row: the least row of the answer after the last one given.
use Rattle.std.proofs.Common.{◌≡◌, Bool, true, false, List, [], ◌∷◌, filter, Contains, ◌⊎◌, inl, inr, ⊎_elim, Option, None, Some, refl, sym, ap, ◌∙◌, subst, true≢false, Ordering, Less, Equal, Greater}
use Rattle.std.specs.Ordering.{is_lt, is_gt, ordering_reverse}
use Rattle.std.specs.Cmp.{IsTotalOrder, tied_itself}
use Rattle.std.proofs.lemmas.Cmp.{upto}
use Rattle.best_first.specs.declared.hit.Hit.{Hit}
use Rattle.best_first.specs.Answer.{hit_cmp, IsAnswer, IsLater, IsNext, IsExhausted}
use Rattle.best_first.specs.Hierarchy.{Meaning}
use Rattle.best_first.specs.Reach.{within}
use Rattle.best_first.proofs.Bags.{here, there, cons_cases, none, in_filter, from_filter}
use Rattle.best_first.proofs.Gaps.{same_itself}

-- an element that none of the list comes before
pub record HasLeast {A : Type 0} (cmp : A → A → Ordering) (xs : List A) : Type 0 where
  pub least : A
  pub among : Contains xs least
  pub first : (other : A) → Contains xs other → is_gt (cmp least other) ≡ false

module _ {A : Type 0} {cmp : A → A → Ordering} (o : IsTotalOrder cmp) where
  -- what comes after another doesn't come before it
  turned : (x y : A) → is_gt (cmp x y) ≡ true → is_gt (cmp y x) ≡ false
  turned x y h =
      let go : (c : Ordering) → cmp x y ≡ c → is_gt c ≡ true → is_gt (cmp y x) ≡ false =
      elim [
        | Less ↦ λ e k. absurd (true≢false (sym k))
        | Equal ↦ λ e k. absurd (true≢false (sym k))
        | Greater ↦ λ e k. ap is_gt (o.antisymm y x) ∙ ap (λ c. is_gt (ordering_reverse c)) e
      ] in
      go (cmp x y) refl h

  -- the lesser of one more element and the least
  lesser : (x : A) (xs : List A) (h : HasLeast cmp xs) (b : Bool) → is_gt (cmp x h.least) ≡ b → HasLeast cmp (x ∷ xs)
  lesser x xs h true e = record {
    least = h.least;
    among = there x xs h.least h.among;
    first = λ other at. ⊎_elim (λ same. subst (λ y. is_gt (cmp h.least y) ≡ false) same (turned x h.least e)) (λ t. h.first other t) (cons_cases x xs other at);
  }
  lesser x xs h false e = record {
    least = x;
    among = here x xs;
    first = λ other at.
        ⊎_elim (λ same. subst (λ y. is_gt (cmp x y) ≡ false) same (ap is_gt (tied_itself o x))) (λ t. upto o x h.least other e (h.first other t)) (cons_cases x xs other at);
  }

  -- a list that isn't empty has a least element
  pub least_of : (xs : List A) → (xs ≡ []) ⊎ HasLeast cmp xs
  least_of [] = inl refl
  least_of (x ∷ xs) =
      inr (⊎_elim
      (λ empty. record {
        least = x;
        among = here x xs;
        first = λ other at.
            ⊎_elim (λ same. subst (λ y. is_gt (cmp x y) ≡ false) same (ap is_gt (tied_itself o x))) (λ t. absurd (none other (subst (λ l. Contains l other) empty t))) (cons_cases x xs other at);
      })
      (λ h. lesser x xs h (is_gt (cmp x h.least)) refl)
      (least_of xs))

-- whether a row comes after the last one given
abbrev is_later : Option Hit → Hit → Bool
is_later None hit = true
is_later (Some last) hit = is_lt (hit_cmp last hit)

-- the test and the fact

lt_less : (c : Ordering) → is_lt c ≡ true → c ≡ Less
lt_less Less e = refl
lt_less Equal e = absurd (true≢false (sym e))
lt_less Greater e = absurd (true≢false (sym e))

later_is : (last : Option Hit) (hit : Hit) → is_later last hit ≡ true → IsLater last hit
later_is None hit e = tt
later_is (Some last) hit e = lt_less (hit_cmp last hit) e

is_later_of : (last : Option Hit) (hit : Hit) → IsLater last hit → is_later last hit ≡ true
is_later_of None hit h = refl
is_later_of (Some last) hit h = ap is_lt h

module _ {N : Type 0} (o : IsTotalOrder hit_cmp) (m : Meaning N) (last : Option Hit) where
  -- the rows within the ceiling, and those of them that come

  abbrev near_rows : List Hit
  near_rows = filter (λ hit. within m.ceiling hit.gap) m.rows

  abbrev coming : List Hit
  coming = filter (is_later last) near_rows

  -- a row of the answer after the last one is among them
  comes : (hit : Hit) → IsAnswer m hit → IsLater last hit → Contains coming hit
  comes hit answer later = in_filter (is_later last) near_rows hit (in_filter (λ hit. within m.ceiling hit.gap) m.rows hit answer.0 answer.1) (is_later_of last hit later)

  -- there is a next row, or none is left
  pub next_or_none : ((hit : Hit) × IsNext m last hit) ⊎ IsExhausted m last
  next_or_none =
      ⊎_elim
      (λ empty. inr (λ hit answer later. none hit (subst (λ l. Contains l hit) empty (comes hit answer later))))
      (λ h.
      let (near, later) = from_filter (is_later last) near_rows h.least h.among in
      let (among, inside) = from_filter (λ hit. within m.ceiling hit.gap) m.rows h.least near in
      inl (
        h.least,
        record {
          row = h.least;
          same = (same_itself h.least.gap, refl, refl);
          answer = (among, inside);
          later = later_is last h.least later;
          first = λ other answer later. h.first other (comes other answer later);
        },
      ))
      (least_of o coming)
