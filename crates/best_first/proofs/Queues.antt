-- Taking what is one with the front from a queue, and queueing a row that was fetched.
use Rattle.std.proofs.Common.{◌≡◌, ℕ, List, [], ◌∷◌, ◌++◌, true, false, Option, All, Contains, IsPermutation, ⊎_elim, refl, sym, ap, ◌∙◌, subst, append_assoc, true≢false}
use Rattle.std.proofs.Common.{arith, Ordering, Less, Equal, Greater}
use Rattle.std.specs.Ordering.{is_gt, is_eq, ordering_reverse}
use Rattle.std.specs.Cmp.{IsTotalOrder, tied_itself, alike_right}
use Rattle.std.proofs.lemmas.List.Elements.{All-contains, All-tail, All-append, All-nil, All-weaker}
use Rattle.std.proofs.lemmas.List.Sorted.{IsPermutation-refl, IsPermutation-sym, IsPermutation-trans, IsPermutation-append_right, All-permutation, Contains-permutation}
use Rattle.exact_frac.specs.declared.frac.Frac.{Frac}
use Rattle.exact_frac.specs.Frac.{value_cmp}
use Rattle.rank_queue.specs.Least.{IsFirst, IsLeastItem}
use Rattle.best_first.specs.declared.item.Item.{Item}
use Rattle.best_first.specs.declared.hit.Hit.{Hit}
use Rattle.best_first.specs.Item.{row_item}
use Rattle.best_first.specs.Reach.{IsAtMost, within}
use Rattle.best_first.specs.Inside.{TakesSome, TakesEqual, AddsRow}
use Rattle.best_first.proofs.Gaps.{not_greater, at_most_not_greater}
use Rattle.best_first.proofs.Bags.{here, there, cons_cases, All-by, All-one}

module _ {T : Type 0} {cmp : T → T → Ordering} (o : IsTotalOrder cmp) where
  -- of two items of which neither comes after the other, both are one
  pub both_first : (x y : T) → is_gt (cmp x y) ≡ false → is_gt (cmp y x) ≡ false → cmp x y ≡ Equal
  both_first x y p q =
      let turned = o.antisymm y x in
      let go : (a : Ordering) → cmp x y ≡ a → is_gt a ≡ false → cmp x y ≡ Equal =
      elim [ Less ↦ λ e h. absurd (let f : cmp y x ≡ Greater = turned ∙ ap ordering_reverse e in true≢false (sym (ap is_gt f) ∙ q)) | Equal ↦ λ e h. e | Greater ↦ λ e h. absurd (true≢false h) ] in
      go (cmp x y) refl p

  -- the first item of a queue and an item that was popped are one
  pub popped_first : (front x : T) (old new : List T) → IsFirst cmp front old → IsPermutation old (x ∷ new) → IsLeastItem cmp x new → cmp front x ≡ Equal
  popped_first front x old new first taken least =
      both_first front x
      (All-contains (λ y. is_gt (cmp front y) ≡ false) old x first.least (Contains-permutation (x ∷ new) old x (IsPermutation-sym old (x ∷ new) taken) (here x new)))
      (⊎_elim (λ e. subst (λ y. is_gt (cmp x y) ≡ false) e (ap is_gt (tied_itself o x))) (λ t. All-contains (λ y. is_gt (cmp x y) ≡ false) new front least t)
      (cons_cases x new front (Contains-permutation old (x ∷ new) front taken first.queued)))

  pub least_rest : (front x : T) (old new : List T) → IsLeastItem cmp front old → IsPermutation old (x ∷ new) → IsLeastItem cmp front new
  least_rest front x old new least taken = All-tail (λ y. is_gt (cmp front y) ≡ false) x new (All-permutation (λ y. is_gt (cmp front y) ≡ false) old (x ∷ new) taken least)

  pub takes_first : (front x : T) (old new : List T) → IsFirst cmp front old → IsPermutation old (x ∷ new) → IsLeastItem cmp x new → TakesSome cmp front old new
  takes_first front x old new first taken least = record {
    first = x;
    more = [];
    split = taken;
    equal = All-one (λ y. cmp front y ≡ Equal) x (popped_first front x old new first taken least);
    least = least_rest front x old new first.least taken;
  }

  is_equal : (a : Ordering) → is_eq a ≡ true → a ≡ Equal
  is_equal Less e = absurd (true≢false (sym e))
  is_equal Equal e = refl
  is_equal Greater e = absurd (true≢false (sym e))

  pub takes_more : (front item x : T) (old held new : List T) → TakesSome cmp front old held → IsFirst cmp item held → is_eq (cmp front item) ≡ true
      → IsPermutation held (x ∷ new) → IsLeastItem cmp x new → TakesSome cmp front old new
  takes_more front item x old held new some first same taken least =
      let one = o.congr front item x (is_equal (cmp front item) same) ∙ popped_first item x held new first taken least in
      record {
        first = some.first;
        more = some.more ++ x ∷ [];
        split = IsPermutation-trans old ((some.first ∷ some.more) ++ held) ((some.first ∷ (some.more ++ x ∷ [])) ++ new) some.split
            (subst (IsPermutation ((some.first ∷ some.more) ++ held)) (sym (append_assoc (some.first ∷ some.more) (x ∷ []) new))
            (IsPermutation-append_right (some.first ∷ some.more) held (x ∷ new) taken));
        equal = All-append (λ y. cmp front y ≡ Equal) (some.first ∷ some.more) (x ∷ []) some.equal (All-one (λ y. cmp front y ≡ Equal) x one);
        least = least_rest front x held new some.least taken;
      }

  pub takes_none_left : (front : T) (old held : List T) → held ≡ [] → TakesSome cmp front old held → TakesEqual cmp front old held
  takes_none_left front old held empty some =
      record { first = some.first; more = some.more; split = some.split; equal = some.equal; after = subst (All (λ y. cmp front y ≡ Less)) (sym empty) (All-nil (λ y. cmp front y ≡ Less)) }

  strict : (a : Ordering) → is_eq a ≡ false → is_gt a ≡ false → a ≡ Less
  strict Less e h = refl
  strict Equal e h = absurd (true≢false e)
  strict Greater e h = absurd (true≢false h)

  after_upto : (x y z : T) → cmp x y ≡ Less → is_gt (cmp y z) ≡ false → cmp x z ≡ Less
  after_upto x y z p q =
      let go : (a : Ordering) → cmp y z ≡ a → is_gt a ≡ false → cmp x z ≡ Less =
      elim [ Less ↦ λ e h. o.trans x y z p e | Equal ↦ λ e h. sym (alike_right o y z x e) ∙ p | Greater ↦ λ e h. absurd (true≢false h) ] in
      go (cmp y z) refl q

  pub takes_all : (front item : T) (old held : List T) → IsFirst cmp item held → is_eq (cmp front item) ≡ false → TakesSome cmp front old held → TakesEqual cmp front old held
  takes_all front item old held first apart some =
      let less = strict (cmp front item) apart (All-contains (λ y. is_gt (cmp front y) ≡ false) held item some.least first.queued) in
      record {
        first = some.first;
        more = some.more;
        split = some.split;
        equal = some.equal;
        after = All-weaker (λ y. is_gt (cmp item y) ≡ false) (λ y. cmp front y ≡ Less) (λ y h. after_upto front item y less h) held first.least;
      }

  pub never_empty : (front : T) (old : List T) → IsFirst cmp front old → old ≡ [] → ⊥
  never_empty front old first empty = Rattle.best_first.proofs.Bags.none front (subst (λ l. Contains l front) empty first.queued)

-- ---- queueing a row that was fetched

pub row_added : {N : Type 0} (ceiling : Option ℕ) (rough : Frac) (hit : Hit) (old new : List (Item N)) → is_gt (value_cmp rough hit.gap) ≡ false
    → within ceiling hit.gap ≡ true → IsPermutation (row_item hit ∷ old) new → AddsRow ceiling rough hit old new
row_added ceiling rough hit old new near inside put = record {
  added = row_item hit ∷ [];
  adds = record {
    only = All-one (λ item. (item ≡ row_item hit) × IsAtMost rough hit.gap × (within ceiling hit.gap ≡ true)) (row_item hit) (refl, not_greater rough hit.gap near, inside);
    whole = λ _ _. here (row_item hit) [];
  };
  put = put;
  few = omega arith;
}

pub row_nearer : {N : Type 0} (ceiling : Option ℕ) (rough : Frac) (hit : Hit) (old : List (Item N)) → is_gt (value_cmp rough hit.gap) ≡ true → AddsRow ceiling rough hit old old
row_nearer ceiling rough hit old e = record {
  added = [];
  adds = record {
    only = All-nil (λ item. (item ≡ row_item hit) × IsAtMost rough hit.gap × (within ceiling hit.gap ≡ true));
    whole = λ near _. absurd (true≢false (sym e ∙ at_most_not_greater rough hit.gap near));
  };
  put = IsPermutation-refl old;
  few = omega arith;
}

pub row_farther : {N : Type 0} (ceiling : Option ℕ) (rough : Frac) (hit : Hit) (old : List (Item N)) → within ceiling hit.gap ≡ false → AddsRow ceiling rough hit old old
row_farther ceiling rough hit old e = record {
  added = [];
  adds = record { only = All-nil (λ item. (item ≡ row_item hit) × IsAtMost rough hit.gap × (within ceiling hit.gap ≡ true)); whole = λ _ inside. absurd (true≢false (sym inside ∙ e)) };
  put = IsPermutation-refl old;
  few = omega arith;
}
