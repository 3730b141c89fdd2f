-- Lists in falling order stay so where an item is put in its place or the last one is taken.
use Rattle.std.proofs.Common.{◌≡◌, ℕ, zero, suc, ◌+◌, ◌-◌, ◌<◌, ◌≤◌, Bool, true, false, cond, List, [], ◌∷◌, ◌++◌, length, get_or, insert, take_while, Option, Some, None}
use Rattle.std.proofs.Common.{MatchOption, refl, sym, ◌∙◌, subst, arith}
use Rattle.std.specs.List.{prefix_len, HoldsAt}
use Rattle.std.specs.Borrow.{Bor}
use Rattle.std.specs.declared.cmp.Ordering.{Ordering}
use Rattle.std.specs.Ordering.{is_gt}
use Rattle.std.specs.Cmp.{IsTotalOrder, upto}
use Rattle.std.proofs.lemmas.List.Elements.{All-nil, All-cons, All-head, All-tail, All-weaker}
use Rattle.std.proofs.lemmas.List.Folds.{length-prefix_len}
use Rattle.std.proofs.lemmas.List.Sorted.{IsPermutation-insert, IsPermutation-to_front, All-permutation}
use Rattle.pair_heap.proofs.OrderOfItems.{not_after, itself}
use Rattle.rank_queue.specs.Least.{AtMost, IsLeastItem, IsFirst}
use Rattle.rank_queue.specs.Falling.{IsFalling}

-- a list of no length
empty_of : {X : Type 0} (xs : List X) → length xs ≤ 0 → xs ≡ []
empty_of [] h = refl
empty_of (x ∷ xs) h = absurd (omega arith)

module _ {X : Type 0} {cmp : X → X → Ordering} (o : IsTotalOrder cmp) where
  -- an item put behind those that come after it
  pub placed : (xs : List X) (y : X) → IsFalling cmp xs → IsFalling cmp (insert xs (prefix_len (λ x. is_gt (cmp x y)) xs) y)
  placed [] y h = (All-nil _, tt)
  placed (x ∷ xs) y h =
      let go : (b : Bool) → is_gt (cmp x y) ≡ b → IsFalling cmp (insert (x ∷ xs) (cond b (1 + prefix_len (λ x. is_gt (cmp x y)) xs) 0) y) = elim [
        | true ↦ λ e. subst (λ k. IsFalling cmp (insert (x ∷ xs) k y)) (let more : suc (prefix_len (λ x. is_gt (cmp x y)) xs) ≡ 1 + prefix_len (λ x. is_gt (cmp x y)) xs = omega arith in more) (
          All-permutation (λ z. AtMost cmp z x) (y ∷ xs) (insert xs (prefix_len (λ x. is_gt (cmp x y)) xs) y)
              (IsPermutation-insert xs (prefix_len (λ x. is_gt (cmp x y)) xs) y) (All-cons (λ z. AtMost cmp z x) y xs (not_after o x y e) h.0),
          placed xs y h.1,
        )
        | false ↦ λ e. (All-cons (λ z. AtMost cmp z y) x xs e (All-weaker (λ z. AtMost cmp z x) (λ z. AtMost cmp z y) (λ z p. upto o z x y p e) xs h.0), h)
      ] in go (is_gt (cmp x y)) refl

  -- the same where the items that come after it were counted
  pub placed_at : (xs : List X) (y : X) (n : ℕ) → n ≡ length (take_while (λ x. is_gt (cmp x y)) xs) → IsFalling cmp xs → IsFalling cmp (insert xs n y)
  placed_at xs y n e h = subst (λ k. IsFalling cmp (insert xs k y)) (sym (e ∙ length-prefix_len (λ x. is_gt (cmp x y)) xs)) (placed xs y h)

  -- the last item comes before no other
  pub last_least : (xs : List X) (x : X) → IsFalling cmp (xs ++ x ∷ []) → IsLeastItem cmp x xs
  last_least [] x h = All-nil _
  last_least (y ∷ xs) x h =
      All-cons (AtMost cmp x) y xs (All-head (λ z. AtMost cmp z y) x xs (All-permutation (λ z. AtMost cmp z y) (xs ++ x ∷ []) (x ∷ xs) (IsPermutation-to_front xs x) h.0)) (last_least xs x h.1)

  -- all but the last item
  pub without_last : (xs : List X) (x : X) → IsFalling cmp (xs ++ x ∷ []) → IsFalling cmp xs
  without_last [] x h = tt
  without_last (y ∷ xs) x h =
      (All-tail (λ z. AtMost cmp z y) x xs (All-permutation (λ z. AtMost cmp z y) (xs ++ x ∷ []) (x ∷ xs) (IsPermutation-to_front xs x) h.0), without_last xs x h.1)

  -- the item at the last place is the least of all
  end_least : (xs : List X) (last : ℕ) (d : X) → length xs ≡ suc last → IsFalling cmp xs → IsLeastItem cmp (get_or xs last d) xs
  end_least [] last d e h = absurd (omega arith)
  end_least (x ∷ []) zero d e h = All-cons (AtMost cmp x) x [] (itself o x) (All-nil _)
  end_least (x ∷ []) (suc last) d e h = absurd (omega arith)
  end_least (x ∷ (y ∷ ys)) zero d e h = absurd (omega arith)
  end_least (x ∷ (y ∷ ys)) (suc last) d e h =
      All-cons (AtMost cmp (get_or (y ∷ ys) last d)) x (y ∷ ys) (h.0 last d (omega arith)) (end_least (y ∷ ys) last d (omega arith) h.1)

  pub end_first : (xs : List X) (x : X) → IsFalling cmp xs → 0 < length xs → x ≡ get_or xs (length xs - 1) x → IsFirst cmp x xs
  end_first xs x h more at = record {
    queued = (length xs - 1, omega arith, sym at);
    least = subst (λ y. IsLeastItem cmp y xs) (sym at) (end_least xs (length xs - 1) x (omega arith) h);
  }

  -- what the slice's end shows is the first of the queue
  pub end_shown : (xs ys : List X) (r : Option (Bor X)) → MatchOption r (length xs ≤ 0) (λ x. (0 < length xs) × HoldsAt (λ y. x.now ≡ y) xs (length xs - 1))
      → xs ≡ ys → IsFalling cmp xs → MatchOption r (ys ≡ []) (λ x. IsFirst cmp x.now ys)
  end_shown xs ys None short same h = sym same ∙ empty_of xs short
  end_shown xs ys (Some x) shown same h = subst (IsFirst cmp x.now) same (end_first xs x.now h shown.0 (shown.1 x.now))
