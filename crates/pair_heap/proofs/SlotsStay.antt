-- Which lists of places are the same but for their order, as slabs come in and items come and go.
use Rattle.std.proofs.Common.{List, [], ◌∷◌, ◌++◌, IsPermutation, sym, subst, append_assoc}
use Rattle.std.proofs.lemmas.List.Sorted.{IsPermutation-middle, IsPermutation-append_comm, IsPermutation-append_left, IsPermutation-append_right, IsPermutation-trans, IsPermutation-sym}

module _ {X : Type 0} where
  -- the second part comes first
  pub moved : (xs ys zs : List X) → IsPermutation (xs ++ (ys ++ zs)) (ys ++ (xs ++ zs))
  moved xs ys zs = subst (λ l. IsPermutation l (ys ++ (xs ++ zs))) (append_assoc xs ys zs)
      (subst (IsPermutation ((xs ++ ys) ++ zs)) (append_assoc ys xs zs) (IsPermutation-append_left zs (xs ++ ys) (ys ++ xs) (IsPermutation-append_comm xs ys)))

  -- a new slab's slots are spare
  pub slab_added : (root spares all fresh more : List X) → IsPermutation (root ++ spares) all → IsPermutation (fresh ++ spares) more → IsPermutation (root ++ more) (fresh ++ all)
  slab_added root spares all fresh more kept added =
      IsPermutation-trans (root ++ more) (root ++ (fresh ++ spares)) (fresh ++ all) (IsPermutation-append_right root more (fresh ++ spares) (IsPermutation-sym (fresh ++ spares) more added))
      (IsPermutation-trans (root ++ (fresh ++ spares)) (fresh ++ (root ++ spares)) (fresh ++ all) (moved root fresh spares) (IsPermutation-append_right fresh (root ++ spares) all kept))

  -- a spare slot takes an item
  pub slot_filled : (p : X) (root rest all more : List X) → IsPermutation (root ++ (p ∷ rest)) all → IsPermutation (root ++ (p ∷ [])) more → IsPermutation (more ++ rest) all
  slot_filled p root rest all more kept filled =
      IsPermutation-trans (more ++ rest) (root ++ (p ∷ rest)) all (subst (IsPermutation (more ++ rest)) (append_assoc root (p ∷ []) rest)
      (IsPermutation-append_left rest more (root ++ (p ∷ [])) (IsPermutation-sym (root ++ (p ∷ [])) more filled))) kept

  -- a spare slot takes an item whose tree goes before the others
  pub slot_taken : (p : X) (start all rest : List X) → IsPermutation start (all ++ (p ∷ rest)) → IsPermutation start ((p ∷ all) ++ rest)
  slot_taken p start all rest kept = IsPermutation-trans start (all ++ (p ∷ rest)) (p ∷ (all ++ rest)) kept (IsPermutation-middle all p rest)

  -- a slot loses its item and is spare
  pub slot_emptied : (p : X) (root spares all less : List X) → IsPermutation (root ++ spares) all → IsPermutation root (p ∷ less) → IsPermutation (less ++ (p ∷ spares)) all
  slot_emptied p root spares all less kept emptied =
      IsPermutation-trans (less ++ (p ∷ spares)) (p ∷ (less ++ spares)) all (IsPermutation-middle less p spares)
      (IsPermutation-trans (p ∷ (less ++ spares)) (root ++ spares) all (IsPermutation-append_left spares (p ∷ less) root (IsPermutation-sym root (p ∷ less) emptied)) kept)

  -- a slot loses its item and is spare, before others take their items, and what is left is joined
  pub slots_exchanged : (p : X) (below spares mixed left root : List X) → IsPermutation (below ++ (p ∷ spares)) (mixed ++ left) → IsPermutation mixed root
      → IsPermutation ((p ∷ below) ++ spares) (root ++ left)
  slots_exchanged p below spares mixed left root filled joined =
      IsPermutation-trans ((p ∷ below) ++ spares) (below ++ (p ∷ spares)) (root ++ left) (IsPermutation-sym (below ++ (p ∷ spares)) (p ∷ (below ++ spares)) (IsPermutation-middle below p spares))
      (IsPermutation-trans (below ++ (p ∷ spares)) (mixed ++ left) (root ++ left) filled (IsPermutation-append_left left mixed root joined))

  -- a place goes from the front of the first list to that of the second
  pub handed_on : (p : X) (start firsts seconds : List X) → IsPermutation start ((p ∷ firsts) ++ seconds) → IsPermutation start (firsts ++ (p ∷ seconds))
  handed_on p start firsts seconds h =
      IsPermutation-trans start (p ∷ (firsts ++ seconds)) (firsts ++ (p ∷ seconds)) h (IsPermutation-sym (firsts ++ (p ∷ seconds)) (p ∷ (firsts ++ seconds)) (IsPermutation-middle firsts p seconds))

  -- a first child moves up beside its parent
  pub child_raised : (p q : X) (start below others beside spares : List X) → IsPermutation start ((p ∷ ((q ∷ (below ++ others)) ++ beside)) ++ spares)
      → IsPermutation start ((q ∷ (below ++ (p ∷ (others ++ beside)))) ++ spares)
  child_raised p q start below others beside spares h =
      let before : List X = p ∷ ((q ∷ (below ++ others)) ++ beside) in let after : List X = q ∷ (below ++ (p ∷ (others ++ beside))) in
      let same : IsPermutation before after = subst (λ l. IsPermutation (p ∷ (q ∷ l)) after) (sym (append_assoc below others beside))
      (IsPermutation-sym after (p ∷ ((q ∷ below) ++ (others ++ beside))) (IsPermutation-middle (q ∷ below) p (others ++ beside))) in
      IsPermutation-trans start (before ++ spares) (after ++ spares) h (IsPermutation-append_left spares before after same)
