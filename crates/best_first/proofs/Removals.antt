-- What is left of two lists that are the same but for their order, once an item of both is gone.
use Rattle.std.proofs.Common.{◌≡◌, ℕ, zero, suc, ◌<◌, List, [], ◌∷◌, ◌++◌, length, get_or, set, swap, IsPermutation, refl, sym, ap, ◌∙◌, subst, arith}
use Rattle.std.specs.declared.cmp.Ordering.{Ordering}
use Rattle.std.specs.Cmp.{IsTotalOrder}
use Rattle.std.proofs.lemmas.List.{get_or-set_same, length-set}
use Rattle.std.proofs.lemmas.List.Edits.{swap_is}
use Rattle.std.proofs.lemmas.List.Sorted.{IsPermutation-refl, IsPermutation-sym, IsPermutation-trans, IsPermutation-cons, IsPermutation-middle}
use Rattle.std.proofs.lemmas.List.Sorted.{IsPermutation-append_right, IsPermutation-swap, IsPermutation-keeps}
use Rattle.rank_queue.specs.Least.{IsFirst, IsLeastItem}
use Rattle.best_first.proofs.Queues.{least_rest}

-- the list without the item at this place
abbrev pub without : {X : Type 0} → List X → ℕ → List X
without [] k = []
without (x ∷ xs) zero = xs
without (x ∷ xs) (suc k) = x ∷ without xs k

-- the item at this place of the old list stands in the new one, and the others are the same
record Follows {X : Type 0} (old new : List X) (k : ℕ) : Type 0 where
  pub at : ℕ
  pub below : at < length new
  pub same : (d : X) → get_or new at d ≡ get_or old k d
  pub others : IsPermutation (without old k) (without new at)

module _ {X : Type 0} where
  flipped : (x y : X) (zs : List X) → IsPermutation (x ∷ (y ∷ zs)) (y ∷ (x ∷ zs))
  flipped x y zs = IsPermutation-middle (x ∷ []) y zs

  -- two steps that bring an item to the front past another
  past : (w x z : X) (xs ys : List X) → IsPermutation (w ∷ xs) (z ∷ ys) → IsPermutation (w ∷ (x ∷ xs)) (z ∷ (x ∷ ys))
  past w x z xs ys h =
      IsPermutation-trans (w ∷ (x ∷ xs)) (x ∷ (w ∷ xs)) (z ∷ (x ∷ ys)) (flipped w x xs)
      (IsPermutation-trans (x ∷ (w ∷ xs)) (x ∷ (z ∷ ys)) (z ∷ (x ∷ ys)) (IsPermutation-cons x (w ∷ xs) (z ∷ ys) h) (flipped x z ys))

  -- an item comes to the front
  pub brought : (xs : List X) (k : ℕ) (d : X) → k < length xs → IsPermutation xs (get_or xs k d ∷ without xs k)
  brought [] k d below = absurd (omega arith)
  brought (x ∷ xs) zero d below = IsPermutation-refl (x ∷ xs)
  brought (x ∷ xs) (suc k) d below =
      let y = get_or xs k d in
      IsPermutation-trans (x ∷ xs) (x ∷ (y ∷ without xs k)) (y ∷ (x ∷ without xs k)) (IsPermutation-cons x xs (y ∷ without xs k) (brought xs k d (omega arith))) (flipped x y (without xs k))

  without_set : (xs : List X) (k : ℕ) (y : X) → without (set xs k y) k ≡ without xs k
  without_set [] k y = refl
  without_set (x ∷ xs) zero y = refl
  without_set (x ∷ xs) (suc k) y = ap (λ l. x ∷ l) (without_set xs k y)

  -- an item in front and one behind it change places
  put : (w : X) (xs : List X) (j : ℕ) (d : X) → j < length xs → IsPermutation (w ∷ xs) (get_or xs j d ∷ set xs j w)
  put w [] j d below = absurd (omega arith)
  put w (x ∷ xs) zero d below = flipped w x xs
  put w (x ∷ xs) (suc j) d below = past w x (get_or xs j d) xs (set xs j w) (put w xs j d (omega arith))

  more : (x z w : X) (xs ys : List X) (k m : ℕ) → m < length (z ∷ ys) → ((d : X) → get_or (z ∷ ys) m d ≡ get_or xs k d)
      → IsPermutation (w ∷ without xs k) (without (z ∷ ys) m) → Follows (w ∷ (x ∷ xs)) (z ∷ (x ∷ ys)) (suc (suc k))
  more x z w xs ys k zero below same others = record {
    at = zero;
    below = omega arith;
    same = same;
    others = IsPermutation-trans (w ∷ (x ∷ without xs k)) (x ∷ (w ∷ without xs k)) (x ∷ ys) (flipped w x (without xs k)) (IsPermutation-cons x (w ∷ without xs k) ys others);
  }
  more x z w xs ys k (suc m) below same others = record {
    at = suc (suc m);
    below = omega arith;
    same = same;
    others = past w x z (without xs k) (without ys m) others;
  }

  put_follows : (w : X) (xs : List X) (k j : ℕ) (d : X) → k < length xs → j < length xs → Follows (w ∷ xs) (get_or xs j d ∷ set xs j w) (suc k)
  put_follows w [] k j d at below = absurd (omega arith)
  put_follows w (x ∷ xs) zero zero d at below = record { at = zero; below = omega arith; same = λ e. refl; others = IsPermutation-refl (w ∷ xs) }
  put_follows w (x ∷ xs) zero (suc j) d at below =
      record { at = suc zero; below = omega arith; same = λ e. refl; others = put w xs j d (omega arith) }
  put_follows w (x ∷ xs) (suc k) zero d at below = record { at = suc (suc k); below = omega arith; same = λ e. refl; others = flipped w x (without xs k) }
  put_follows w (x ∷ xs) (suc k) (suc j) d at below =
      let f = put_follows w xs k j d (omega arith) (omega arith) in
      more x (get_or xs j d) w xs (set xs j w) k f.at f.below f.same f.others

  first_follows : (x : X) (xs : List X) (j : ℕ) → j < length xs → Follows (x ∷ xs) (get_or xs j x ∷ set xs j x) zero
  first_follows x xs j below = record {
    at = suc j;
    below = let long = length-set xs j x in omega arith;
    same = λ d. get_or-set_same xs j x d below;
    others = subst (λ l. IsPermutation xs (get_or xs j x ∷ l)) (sym (without_set xs j x)) (brought xs j x below);
  }

  -- two items change places
  swap_follows : (xs : List X) (k i j : ℕ) → k < length xs → i < length xs → j < length xs → Follows xs (swap xs i j) k
  swap_follows [] k i j at one other = absurd (omega arith)
  swap_follows (x ∷ xs) k zero zero at one other = record { at = k; below = at; same = λ d. refl; others = IsPermutation-refl (without (x ∷ xs) k) }
  swap_follows (x ∷ xs) zero zero (suc j) at one other = first_follows x xs j (omega arith)
  swap_follows (x ∷ xs) zero (suc i) zero at one other = first_follows x xs i (omega arith)
  swap_follows (x ∷ xs) (suc k) zero (suc j) at one other = put_follows x xs k j x (omega arith) (omega arith)
  swap_follows (x ∷ xs) (suc k) (suc i) zero at one other = put_follows x xs k i x (omega arith) (omega arith)
  swap_follows (x ∷ xs) zero (suc i) (suc j) at one other = record {
    at = zero;
    below = omega arith;
    same = λ d. refl;
    others = IsPermutation-swap xs (set (set xs i (get_or xs j x)) j (get_or xs i x)) i j (omega arith) (omega arith) (swap_is xs i j x (omega arith) (omega arith));
  }
  swap_follows (x ∷ xs) (suc k) (suc i) (suc j) at one other =
      let f = swap_follows xs k i j (omega arith) (omega arith) (omega arith) in
      let whole : Follows (x ∷ xs) (x ∷ swap xs i j) (suc k) =
      record { at = suc f.at; below = (let low = f.below in omega arith); same = f.same; others = IsPermutation-cons x (without xs k) (without (swap xs i j) f.at) f.others } in
      subst (λ l. Follows (x ∷ xs) (x ∷ l) (suc k)) (sym (swap_is xs i j x (omega arith) (omega arith))) whole

  gone : (x : X) (a b : List X) (m : ℕ) → m < length (x ∷ b) → get_or (x ∷ b) m x ≡ x → IsPermutation a (without (x ∷ b) m) → IsPermutation a b
  gone x a b zero below is h = h
  gone x a b (suc m) below is h =
      IsPermutation-trans a (x ∷ without b m) b h
      (IsPermutation-sym b (x ∷ without b m) (subst (λ y. IsPermutation b (y ∷ without b m)) is (brought b m x (omega arith))))

  -- what is left without the first item of both
  pub IsPermutation-uncons : (x : X) (a b : List X) → IsPermutation (x ∷ a) (x ∷ b) → IsPermutation a b
  IsPermutation-uncons x a b same =
      let last = IsPermutation-keeps (x ∷ a) (λ l. (m : ℕ) × (m < length l) × (get_or l m x ≡ x) × IsPermutation a (without l m))
      (zero, omega arith, refl, IsPermutation-refl a)
      (λ l i j one other (k, at, is, rest). let f = swap_follows l k i j at one other in (f.at, f.below, f.same x ∙ is, IsPermutation-trans a (without l k) (without (swap l i j) f.at) rest f.others))
      (x ∷ b) same in
      gone x a b last.0 last.1 last.2 last.3

-- an item leaves a queue, and others join what is left of it
pub record Replaces {X : Type 0} (cmp : X → X → Ordering) (x : X) (added old new : List X) : Type 0 where
  pub rest : List X
  pub taken : IsPermutation old (x ∷ rest)
  pub least : IsLeastItem cmp x rest
  pub put : IsPermutation (added ++ rest) new

-- so it is where the first item leaves
pub replaces_first : {X : Type 0} {cmp : X → X → Ordering} → IsTotalOrder cmp → (x : X) (added old new : List X) → IsFirst cmp x old
    → IsPermutation (added ++ old) (x ∷ new) → Replaces cmp x added old new
replaces_first o x added old new first same =
    let (k, below, is) = first.queued in
    let rest = without old k in
    let taken = subst (λ y. IsPermutation old (y ∷ rest)) is (brought old k x below) in
    record {
      rest = rest;
      taken = taken;
      least = least_rest o x x old rest first.least taken;
      put = IsPermutation-uncons x (added ++ rest) new
          (IsPermutation-trans (x ∷ (added ++ rest)) (added ++ (x ∷ rest)) (x ∷ new) (IsPermutation-sym (added ++ (x ∷ rest)) (x ∷ (added ++ rest)) (IsPermutation-middle added x rest))
          (IsPermutation-trans (added ++ (x ∷ rest)) (added ++ old) (x ∷ new) (IsPermutation-append_right added (x ∷ rest) old (IsPermutation-sym old (x ∷ rest) taken)) same));
    }
