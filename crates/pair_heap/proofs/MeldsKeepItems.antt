-- Which lists of items are the same but for their order, as trees are melded and gathered.
use Rattle.std.proofs.Common.{◌≡◌, List, [], ◌∷◌, ◌++◌, IsPermutation, refl, sym, subst, append_assoc, arith}
use Rattle.std.proofs.lemmas.List.Sorted.{IsPermutation-cons, IsPermutation-middle, IsPermutation-append_comm, IsPermutation-append_left, IsPermutation-trans}
use Rattle.std.proofs.lemmas.List.Sorted.{IsPermutation-sym, IsPermutation-to_front, length_permutation}
use Rattle.pair_heap.specs.Chain.{Chain, end, link, items}

module _ {X : Type 0} where
  -- the second item goes below the first
  pub below_first : (x : X) (xs : List X) (y : X) (ys : List X) → IsPermutation ((x ∷ xs) ++ (y ∷ ys)) (x ∷ (y ∷ (ys ++ xs)))
  below_first x xs y ys = IsPermutation-cons x (xs ++ (y ∷ ys)) (y ∷ (ys ++ xs)) (IsPermutation-append_comm xs (y ∷ ys))

  -- the first item goes below the second
  pub below_second : (x : X) (xs : List X) (y : X) (ys : List X) → IsPermutation ((x ∷ xs) ++ (y ∷ ys)) (y ∷ (x ∷ (xs ++ ys)))
  below_second x xs y ys = IsPermutation-middle (x ∷ xs) y ys

  -- a step of the second pass: the next tree goes into the one in hand
  pub gathered : (start all next rest new : List X) → IsPermutation start (all ++ (next ++ rest)) → IsPermutation (all ++ next) new → IsPermutation start (new ++ rest)
  gathered start all next rest new kept melded =
      IsPermutation-trans start ((all ++ next) ++ rest) (new ++ rest) (subst (IsPermutation start) (sym (append_assoc all next rest)) kept) (IsPermutation-append_left rest (all ++ next) new melded)

  -- a step of the first pass: the first two trees become one, which goes before the pairs
  pub paired : (start one two rest pairs new : List X) → IsPermutation start ((one ++ (two ++ rest)) ++ pairs) → IsPermutation (one ++ two) new → IsPermutation start (rest ++ (new ++ pairs))
  paired start one two rest pairs new kept melded =
      let moved : IsPermutation (one ++ (two ++ rest)) (rest ++ new) =
      subst (λ l. IsPermutation l (rest ++ new)) (append_assoc one two rest)
      (IsPermutation-trans ((one ++ two) ++ rest) (new ++ rest) (rest ++ new) (IsPermutation-append_left rest (one ++ two) new melded) (IsPermutation-append_comm new rest)) in
      subst (IsPermutation start) (append_assoc rest new pairs)
      (IsPermutation-trans start ((one ++ (two ++ rest)) ++ pairs) ((rest ++ new) ++ pairs) kept (IsPermutation-append_left pairs (one ++ (two ++ rest)) (rest ++ new) moved))

  -- a chain that holds no item is the end
  pub nothing_held : (c : Chain X) → IsPermutation (items c) [] → c ≡ end
  nothing_held end h = refl
  nothing_held (link p x kids rest) h = let long = length_permutation (items (link p x kids rest)) [] h in absurd (omega arith)

  -- an item melded in behind the others is one in front of them
  pub pushed : (x : X) (xs ys : List X) → IsPermutation (xs ++ x ∷ []) ys → IsPermutation (x ∷ xs) ys
  pushed x xs ys h = IsPermutation-trans (x ∷ xs) (xs ++ x ∷ []) ys (IsPermutation-sym (xs ++ x ∷ []) (x ∷ xs) (IsPermutation-to_front xs x)) h

  -- the last item of the list goes before those of the chain
  pub handed_over : (x : X) (start rest all : List X) → IsPermutation start ((rest ++ x ∷ []) ++ all) → IsPermutation start (rest ++ (x ∷ all))
  handed_over x start rest all kept = subst (IsPermutation start) (append_assoc rest (x ∷ []) all) kept

  -- an item is taken, and those below it and the added ones become one tree
  pub exchanged : (x : X) (added below mixed all : List X) → IsPermutation (added ++ below) mixed → IsPermutation mixed all → IsPermutation (added ++ (x ∷ below)) (x ∷ all)
  exchanged x added below mixed all put joined =
      IsPermutation-trans (added ++ (x ∷ below)) (x ∷ (added ++ below)) (x ∷ all) (IsPermutation-middle added x below)
      (IsPermutation-cons x (added ++ below) all (IsPermutation-trans (added ++ below) mixed all put joined))
