-- Items that stand for one, under gaps of one value: what holds of the one holds of the other.
use Rattle.std.proofs.Common.{◌≡◌, ℕ, List, [], ◌∷◌, ◌++◌, All, Contains, ⊎_elim, refl, sym, ap, ap₂, ◌∙◌, subst, Ordering, Equal, nat_cmp}
use Rattle.std.specs.List.{AllZip}
use Rattle.std.specs.Ordering.{ordering_then}
use Rattle.std.specs.Cmp.{IsTotalOrder, tied_itself, nat_cmp_total}
use Rattle.std.proofs.lemmas.List.Elements.{All-contains}
use Rattle.best_first.specs.declared.hit.Hit.{Hit}
use Rattle.best_first.specs.declared.item.Item.{Item}
use Rattle.best_first.specs.declared.item.Item.TheVariants.{Node, Rough, Row}
use Rattle.best_first.specs.Item.{gap_of, node_if_any, nodes_of, IsAlike, IsSameRow}
use Rattle.best_first.specs.Reach.{IsSameGap, IsAtMost}
use Rattle.best_first.specs.Hierarchy.{Meaning, MeetsLaws, HasGap, IsHonest, Shows}
use Rattle.best_first.specs.Answer.{hit_cmp}
use Rattle.best_first.specs.Order.{item_cmp}
use Rattle.best_first.specs.OrderLaws.{ids_cmp}
use Rattle.best_first.proofs.Bags.{here, there, cons_cases, none, All-by}
use Rattle.best_first.proofs.Gaps.{same_back, same_trans, equal_at_most, equal_at_least, at_most_trans}

pub alike_gaps : {N : Type 0} (x y : Item N) → IsAlike x y → IsSameGap (gap_of x) (gap_of y)
alike_gaps (Node g a) (Node h b) e = e.0
alike_gaps (Node g a) (Rough h k s) e = absurd e
alike_gaps (Node g a) (Row h k s) e = absurd e
alike_gaps (Rough g l r) (Node h b) e = absurd e
alike_gaps (Rough g l r) (Rough h k s) e = e.0
alike_gaps (Rough g l r) (Row h k s) e = absurd e
alike_gaps (Row g l r) (Node h b) e = absurd e
alike_gaps (Row g l r) (Rough h k s) e = absurd e
alike_gaps (Row g l r) (Row h k s) e = e.0

pub alike_node_of : {N : Type 0} (x y : Item N) → IsAlike x y → node_if_any x ≡ node_if_any y
alike_node_of (Node g a) (Node h b) e = ap (λ n. n ∷ []) e.1
alike_node_of (Node g a) (Rough h k s) e = absurd e
alike_node_of (Node g a) (Row h k s) e = absurd e
alike_node_of (Rough g l r) (Node h b) e = absurd e
alike_node_of (Rough g l r) (Rough h k s) e = refl
alike_node_of (Rough g l r) (Row h k s) e = absurd e
alike_node_of (Row g l r) (Node h b) e = absurd e
alike_node_of (Row g l r) (Rough h k s) e = absurd e
alike_node_of (Row g l r) (Row h k s) e = refl

pub alike_has_gap : {N : Type 0} (m : Meaning N) (x y : Item N) → IsAlike x y → HasGap m y → HasGap m x
alike_has_gap m (Node g a) (Node h b) e is = subst (λ n. IsSameGap g (m.gap n)) (sym e.1) (same_trans g h (m.gap b) e.0 is)
alike_has_gap m (Node g a) (Rough h k s) e is = absurd e
alike_has_gap m (Node g a) (Row h k s) e is = absurd e
alike_has_gap m (Rough g l r) y e is = tt
alike_has_gap m (Row g l r) y e is = tt

pub alike_honest : {N : Type 0} (m : Meaning N) (x y : Item N) → IsAlike x y → IsHonest m y → IsHonest m x
alike_honest m (Node g a) y e is = tt
alike_honest m (Rough g l r) y e is = tt
alike_honest m (Row g l r) (Node h b) e is = absurd e
alike_honest m (Row g l r) (Rough h k s) e is = absurd e
alike_honest m (Row g l r) (Row h k s) e is = record { row = is.row; among = is.among; same = (same_trans is.row.gap h g is.same.0 (same_back g h e.0), is.same.1 ∙ sym e.1, is.same.2 ∙ sym e.2) }

pub alike_shows : {N : Type 0} (hit : Hit) (x y : Item N) → IsAlike x y → Shows hit y → Shows hit x
alike_shows hit (Node g a) (Node h b) e is = absurd is
alike_shows hit (Node g a) (Rough h k s) e is = absurd e
alike_shows hit (Node g a) (Row h k s) e is = absurd e
alike_shows hit (Rough g l r) (Node h b) e is = absurd e
alike_shows hit (Rough g l r) (Rough h k s) e is = (e.1 ∙ is.0, e.2 ∙ is.1, at_most_trans g h hit.gap (equal_at_most g h e.0) is.2)
alike_shows hit (Rough g l r) (Row h k s) e is = absurd e
alike_shows hit (Row g l r) (Node h b) e is = absurd e
alike_shows hit (Row g l r) (Rough h k s) e is = absurd e
alike_shows hit (Row g l r) (Row h k s) e is = (same_trans g h hit.gap e.0 is.0, e.1 ∙ is.1, e.2 ∙ is.2)

ids_tied : (l r k s : ℕ) → l ≡ k → r ≡ s → ids_cmp (l, r) (k, s) ≡ Equal
ids_tied l r k s p q =
    ap₂ ordering_then (subst (λ n. nat_cmp l n ≡ Equal) p (tied_itself nat_cmp_total l)) (subst (λ n. nat_cmp r n ≡ Equal) q (tied_itself nat_cmp_total r))

-- rows of the same ids and of gaps of one value are one in the order of the answer
pub rows_tied : (a b : Hit) → IsSameRow a b → hit_cmp a b ≡ Equal
rows_tied a b e = ap₂ ordering_then e.0 (ids_tied a.left a.right b.left b.right e.1 e.2)

module _ {N : Type 0} {cmp : N → N → Ordering} (o : IsTotalOrder cmp) where
  -- items that stand for one are one in the frontier's order
  pub alike_cmp : (x y : Item N) → IsAlike x y → item_cmp cmp x y ≡ Equal
  alike_cmp (Node g a) (Node h b) e = ap₂ ordering_then e.0 (subst (λ n. cmp a n ≡ Equal) e.1 (tied_itself o a))
  alike_cmp (Node g a) (Rough h k s) e = absurd e
  alike_cmp (Node g a) (Row h k s) e = absurd e
  alike_cmp (Rough g l r) (Node h b) e = absurd e
  alike_cmp (Rough g l r) (Rough h k s) e = ap₂ ordering_then e.0 (ids_tied l r k s e.1 e.2)
  alike_cmp (Rough g l r) (Row h k s) e = absurd e
  alike_cmp (Row g l r) (Node h b) e = absurd e
  alike_cmp (Row g l r) (Rough h k s) e = absurd e
  alike_cmp (Row g l r) (Row h k s) e = ap₂ ordering_then e.0 (ids_tied l r k s e.1 e.2)

-- ---- lists that are alike item by item

pub alike_nodes : {N : Type 0} (xs ys : List (Item N)) → AllZip IsAlike xs ys → nodes_of xs ≡ nodes_of ys
alike_nodes [] [] h = refl
alike_nodes [] (y ∷ ys) h = absurd h
alike_nodes (x ∷ xs) [] h = absurd h
alike_nodes (x ∷ xs) (y ∷ ys) h = ap₂ (λ a b. a ++ b) (alike_node_of x y h.0) (alike_nodes xs ys h.1)

pub alike_from : {N : Type 0} (xs ys : List (Item N)) (x : Item N) → AllZip IsAlike xs ys → Contains xs x → (y : Item N) × Contains ys y × IsAlike x y
alike_from [] [] x h at = absurd (none x at)
alike_from [] (y ∷ ys) x h at = absurd h
alike_from (z ∷ xs) [] x h at = absurd h
alike_from (z ∷ xs) (y ∷ ys) x h at =
    ⊎_elim
    (λ e. (y, here y ys, subst (λ w. IsAlike w y) e h.0))
    (λ t. let (w, among, is) = alike_from xs ys x h.1 t in (w, there y ys w among, is))
    (cons_cases z xs x at)

pub alike_to : {N : Type 0} (xs ys : List (Item N)) (y : Item N) → AllZip IsAlike xs ys → Contains ys y → (x : Item N) × Contains xs x × IsAlike x y
alike_to [] [] y h at = absurd (none y at)
alike_to [] (z ∷ ys) y h at = absurd h
alike_to (x ∷ xs) [] y h at = absurd h
alike_to (x ∷ xs) (z ∷ ys) y h at =
    ⊎_elim
    (λ e. (x, here x xs, subst (λ w. IsAlike x w) e h.0))
    (λ t. let (w, among, is) = alike_to xs ys y h.1 t in (w, there x xs w among, is))
    (cons_cases z ys y at)

-- What an expansion of the node found, as the frontier holds it.
pub record IsFoundAt {N : Type 0} (m : Meaning N) (a : N) (items : List (Item N)) : Type 0 where
  pub alike : AllZip IsAlike items (m.finds a)
  pub nodes : nodes_of items ≡ nodes_of (m.finds a)
  pub gaps : All (HasGap m) items
  pub bound : All (λ item. IsAtMost (m.gap a) (gap_of item)) items
  pub honest : All (IsHonest m) items

pub is_found : {N : Type 0} (m : Meaning N) → MeetsLaws m → (a : N) (items : List (Item N)) → AllZip IsAlike items (m.finds a) → IsFoundAt m a items
is_found m laws a items h = record {
  alike = h;
  nodes = alike_nodes items (m.finds a) h;
  gaps = All-by (HasGap m) items (λ x at. let (y, among, is) = alike_from items (m.finds a) x h at in alike_has_gap m x y is (All-contains (HasGap m) (m.finds a) y (laws.gaps a) among));
  bound = All-by (λ item. IsAtMost (m.gap a) (gap_of item)) items (λ x at. let (y, among, is) = alike_from items (m.finds a) x h at in
      at_most_trans (m.gap a) (gap_of y) (gap_of x) (All-contains (λ item. IsAtMost (m.gap a) (gap_of item)) (m.finds a) y (laws.bound a) among)
      (equal_at_least (gap_of x) (gap_of y) (alike_gaps x y is)));
  honest = All-by (IsHonest m) items (λ x at. let (y, among, is) = alike_from items (m.finds a) x h at in alike_honest m x y is (All-contains (IsHonest m) (m.finds a) y (laws.honest a) among));
}
