-- Items at the distance 0 in the form in which they are queued: under the gap 0/1, with no right id.
use Rattle.std.proofs.Common.{◌≡◌, ℕ, ◌*◌, ◌≤◌, Bool, true, false, cond, List, [], ◌∷◌, ◌++◌, map, flat_map, All, Contains, IsPermutation, Some, ⊎_elim, refl, sym, ap}
use Rattle.std.proofs.Common.{ap₂, ◌∙◌, subst, append_assoc, arith, le-leb, Equal}
use Rattle.std.specs.Prelude.{nat_eq}
use Rattle.std.specs.List.{AllZip}
use Rattle.std.specs.Cmp.{nat_cmp_is}
use Rattle.std.proofs.lemmas.Bool.{eqb-true, eqb-false, lt-leb}
use Rattle.std.proofs.lemmas.List.{map-append}
use Rattle.std.proofs.lemmas.List.Elements.{All-head, All-tail, All-append, All-map, All-weaker, Contains-append_left, Contains-append_right}
use Rattle.std.proofs.lemmas.List.Sorted.{IsPermutation-refl, IsPermutation-sym, IsPermutation-trans, IsPermutation-cons, IsPermutation-map, IsPermutation-append}
use Rattle.std.proofs.lemmas.List.Sorted.{IsPermutation-append_right, IsPermutation-middle}
use Rattle.exact_frac.specs.declared.frac.Frac.{Frac}
use Rattle.best_first.specs.declared.item.Item.{Item}
use Rattle.best_first.specs.declared.item.Item.TheVariants.{Node, Rough, Row}
use Rattle.best_first.specs.Item.{gap_of, node_if_any, nodes_of, IsAlike}
use Rattle.best_first.specs.Reach.{IsSameGap, IsAtMost, within}
use Rattle.best_first.specs.Hierarchy.{kept}
use Rattle.best_first.specs.RowsAtZero.{zero_gap, row_at_zero}
use Rattle.best_first.proofs.Bags.{here, there, cons_cases, none, filter_here, filter_skips, IsPermutation-exchange}
use Rattle.best_first.proofs.Gaps.{same_trans}
use Rattle.best_first.proofs.Pending.{nodes-append}
use Rattle.best_first.specs.ZeroItems.{ZeroItems, PutIn, items_of, node_at_zero, rough_at_zero, is_at_zero, at_zero, rough_id_in, row_id_in}
use Rattle.best_first.specs.WithinZero.{IsSingle}
use Rattle.best_first.proofs.Thinned.{Thins}

-- ---- the gap 0/1

-- a gap of numerator 0 has its value
pub zero_same : (gap : Frac) → gap.num ≡ 0 → IsSameGap zero_gap gap
zero_same gap e = sym (nat_cmp_is (0 * gap.den) (gap.num * 1) Equal (omega arith))

-- no gap is nearer
pub zero_first : (gap : Frac) → IsAtMost zero_gap gap
zero_first gap = let least : 0 * gap.den ≤ gap.num * 1 = omega arith in least

-- within the distance 0 are the gaps of numerator 0
pub within_zero : (gap : Frac) → within (Some 0) gap ≡ nat_eq gap.num 0
within_zero gap =
    let go : (b : Bool) → nat_eq gap.num 0 ≡ b → within (Some 0) gap ≡ b =
    elim [
      | true ↦ λ e. (let is = eqb-true gap.num 0 e in le-leb gap.num (0 * 0 * gap.den) (omega arith))
      | false ↦ λ e.
          (let apart : gap.num ≡ 0 → ⊥ = eqb-false gap.num 0 e in lt-leb gap.num (0 * 0 * gap.den) (omega arith))
    ] in
    go (nat_eq gap.num 0) refl

-- ---- items in this form

-- the item under the gap 0/1, with no right id
abbrev pub level : {N : Type 0} → Item N → Item N
level (Node gap node) = node_at_zero node
level (Rough gap left right) = rough_at_zero left
level (Row gap left right) = row_at_zero left

-- the item in this form, if it is at the distance 0
abbrev pub leveled : {N : Type 0} → Item N → Item N
leveled item = cond (is_at_zero item) (level item) item

leveled_here : {N : Type 0} (item : Item N) → is_at_zero item ≡ true → leveled item ≡ level item
leveled_here item e = ap (λ b. cond b (level item) item) e

leveled_far : {N : Type 0} (item : Item N) → is_at_zero item ≡ false → leveled item ≡ item
leveled_far item e = ap (λ b. cond b (level item) item) e

-- it is within the distance 0
level_within : {N : Type 0} (item : Item N) → within (Some 0) (gap_of (level item)) ≡ true
level_within (Node gap node) = refl
level_within (Rough gap left right) = refl
level_within (Row gap left right) = refl

-- its node is the same
level_node : {N : Type 0} (item : Item N) → node_if_any (level item) ≡ node_if_any item
level_node (Node gap node) = refl
level_node (Rough gap left right) = refl
level_node (Row gap left right) = refl

leveled_node : {N : Type 0} (item : Item N) → node_if_any (leveled item) ≡ node_if_any item
leveled_node {N} item =
    let go : (b : Bool) → is_at_zero item ≡ b → node_if_any (leveled item) ≡ node_if_any item =
    elim [ true ↦ λ e. ap node_if_any (leveled_here item e) ∙ level_node item | false ↦ λ e. ap node_if_any (leveled_far item e) ] in
    go (is_at_zero item) refl

-- the nodes are the same
pub leveled_nodes : {N : Type 0} (items : List (Item N)) → nodes_of (map leveled items) ≡ nodes_of items
leveled_nodes [] = refl
leveled_nodes (item ∷ items) = ap₂ (λ a b. a ++ b) (leveled_node item) (leveled_nodes items)

-- what the ceiling 0 keeps of them
pub kept_level : {N : Type 0} (items : List (Item N)) → kept (within (Some 0)) (map leveled items) ≡ map level (at_zero items)
kept_level [] = refl
kept_level {N} (item ∷ items) =
    let p = λ (i : Item N). within (Some 0) (gap_of i) in
    let rest = map leveled items in
    let more = kept_level items in
    let go : (b : Bool) → is_at_zero item ≡ b → kept (within (Some 0)) (map leveled (item ∷ items)) ≡ map level (at_zero (item ∷ items)) = elim [
      | true ↦ λ e. ap (λ i. kept (within (Some 0)) (i ∷ rest)) (leveled_here item e) ∙ filter_here p (level item) rest (level_within item)
          ∙ ap (λ l. level item ∷ l) more ∙ sym (ap (map level) (filter_here is_at_zero item items e))
      | false ↦ λ e. ap (λ i. kept (within (Some 0)) (i ∷ rest)) (leveled_far item e) ∙ filter_skips p item rest (within_zero (gap_of item) ∙ e) ∙ more
          ∙ sym (ap (map level) (filter_skips is_at_zero item items e))
    ] in
    go (is_at_zero item) refl

-- it stands for the same single object
level_alike : {N : Type 0} (x y : Item N) → is_at_zero x ≡ true → IsSingle y → IsAlike x y → IsAlike (level x) y
level_alike (Node g a) (Node h b) z one e = (same_trans zero_gap g h (zero_same g (eqb-true g.num 0 z)) e.0, e.1)
level_alike (Node g a) (Rough h k s) z one e = absurd e
level_alike (Node g a) (Row h k s) z one e = absurd e
level_alike (Rough g l r) (Node h b) z one e = absurd e
level_alike (Rough g l r) (Rough h k s) z one e = (same_trans zero_gap g h (zero_same g (eqb-true g.num 0 z)) e.0, e.1, sym one)
level_alike (Rough g l r) (Row h k s) z one e = absurd e
level_alike (Row g l r) (Node h b) z one e = absurd e
level_alike (Row g l r) (Rough h k s) z one e = absurd e
level_alike (Row g l r) (Row h k s) z one e = (same_trans zero_gap g h (zero_same g (eqb-true g.num 0 z)) e.0, e.1, sym one)

leveled_alike : {N : Type 0} (x y : Item N) → IsSingle y → IsAlike x y → IsAlike (leveled x) y
leveled_alike {N} x y one h =
    let go : (b : Bool) → is_at_zero x ≡ b → IsAlike (leveled x) y =
    elim [ true ↦ λ e. subst (λ i. IsAlike i y) (sym (leveled_here x e)) (level_alike x y e one h) | false ↦ λ e. subst (λ i. IsAlike i y) (sym (leveled_far x e)) h ] in
    go (is_at_zero x) refl

-- they stand for the same single objects
pub all_alike : {N : Type 0} (xs ys : List (Item N)) → All IsSingle ys → AllZip IsAlike xs ys → AllZip IsAlike (map leveled xs) ys
all_alike [] [] one h = h
all_alike [] (y ∷ ys) one h = h
all_alike (x ∷ xs) [] one h = h
all_alike (x ∷ xs) (y ∷ ys) one h = (leveled_alike x y (All-head IsSingle y ys one) h.0, all_alike xs ys (All-tail IsSingle y ys one) h.1)

-- ---- what is queued

-- what is queued and these items, with all doubles
abbrev pub with_all : {N : Type 0} → List (Item N) → ZeroItems N → ZeroItems N
with_all items q = record { nodes = nodes_of items ++ q.nodes; roughs = flat_map rough_id_in items ++ q.roughs; rows = flat_map row_id_in items ++ q.rows; below = q.below }

-- the items go to their places
pub levels_put : {N : Type 0} (items : List (Item N)) (q : ZeroItems N) → IsPermutation (map level items ++ items_of q) (items_of (with_all items q))
levels_put [] q = IsPermutation-refl (items_of q)
levels_put (Node gap node ∷ items) q = IsPermutation-cons (node_at_zero node) (map level items ++ items_of q) (items_of (with_all items q)) (levels_put items q)
levels_put {N} (Rough gap left right ∷ items) q =
    let all = with_all items q in
    let x : Item N = rough_at_zero left in
    let nodes : List (Item N) = map node_at_zero all.nodes in
    let later : List (Item N) = map rough_at_zero all.roughs ++ map row_at_zero all.rows in
    IsPermutation-trans (x ∷ (map level items ++ items_of q)) (x ∷ (nodes ++ later)) (nodes ++ x ∷ later)
    (IsPermutation-cons x (map level items ++ items_of q) (nodes ++ later) (levels_put items q))
    (IsPermutation-sym (nodes ++ x ∷ later) (x ∷ (nodes ++ later)) (IsPermutation-middle nodes x later))
levels_put {N} (Row gap left right ∷ items) q =
    let all = with_all items q in
    let x : Item N = row_at_zero left in
    let nodes : List (Item N) = map node_at_zero all.nodes in
    let roughs : List (Item N) = map rough_at_zero all.roughs in
    let rows : List (Item N) = map row_at_zero all.rows in
    IsPermutation-trans (x ∷ (map level items ++ items_of q)) (x ∷ (nodes ++ (roughs ++ rows))) (nodes ++ (roughs ++ x ∷ rows))
    (IsPermutation-cons x (map level items ++ items_of q) (nodes ++ (roughs ++ rows)) (levels_put items q))
    (IsPermutation-sym (nodes ++ (roughs ++ x ∷ rows)) (x ∷ (nodes ++ (roughs ++ rows)))
    (IsPermutation-trans (nodes ++ (roughs ++ x ∷ rows)) (nodes ++ x ∷ (roughs ++ rows)) (x ∷ (nodes ++ (roughs ++ rows)))
    (IsPermutation-append_right nodes (roughs ++ x ∷ rows) (x ∷ (roughs ++ rows)) (IsPermutation-middle roughs x rows))
    (IsPermutation-middle nodes x (roughs ++ rows))))

-- the node that is opened next leaves
pub node_taken : {N : Type 0} (q : ZeroItems N) (rest : List N) (node : N) → q.nodes ≡ rest ++ node ∷ [] → IsPermutation (items_of q) (node_at_zero node ∷ items_of (record q { nodes = rest }))
node_taken {N} q rest node e =
    let x : Item N = node_at_zero node in
    let before : List (Item N) = map node_at_zero rest in
    let later : List (Item N) = map rough_at_zero q.roughs ++ map row_at_zero q.rows in
    subst (λ l. IsPermutation (l ++ later) (x ∷ (before ++ later))) (sym (ap (map node_at_zero) e ∙ map-append node_at_zero rest (node ∷ [])))
    (subst (λ l. IsPermutation l (x ∷ (before ++ later))) (sym (append_assoc before (x ∷ []) later)) (IsPermutation-middle before x later))

-- ---- doubles

-- the parts that are there again come first
gather : {X : Type 0} (a b c d e : List X) → IsPermutation (a ++ ((b ++ c) ++ (d ++ e))) ((b ++ d) ++ (a ++ (c ++ e)))
gather a b c d e =
    IsPermutation-trans (a ++ ((b ++ c) ++ (d ++ e))) (a ++ ((b ++ d) ++ (c ++ e))) ((b ++ d) ++ (a ++ (c ++ e)))
    (IsPermutation-append_right a ((b ++ c) ++ (d ++ e)) ((b ++ d) ++ (c ++ e))
    (subst (λ l. IsPermutation l ((b ++ d) ++ (c ++ e))) (sym (append_assoc b c (d ++ e)))
    (subst (IsPermutation (b ++ (c ++ (d ++ e)))) (sym (append_assoc b d (c ++ e)))
    (IsPermutation-append_right b (c ++ (d ++ e)) (d ++ (c ++ e)) (IsPermutation-exchange c d e)))))
    (IsPermutation-exchange a (b ++ d) (c ++ e))

-- what stands in a list stands in what is made of it
pub in_map : {X Y : Type 0} (f : X → Y) (xs : List X) (x : X) → Contains xs x → Contains (map f xs) (f x)
in_map f [] x h = absurd (none x h)
in_map f (y ∷ ys) x h = ⊎_elim (λ e. subst (Contains (f y ∷ map f ys)) (ap f e) (here (f y) (map f ys))) (λ t. there (f y) (map f ys) (f x) (in_map f ys x t)) (cons_cases y ys x h)

-- ids alone make no nodes
no_nodes : {N : Type 0} (f : ℕ → Item N) → ((id : ℕ) → node_if_any (f id) ≡ []) → (ids : List ℕ) → nodes_of (map f ids) ≡ []
no_nodes f bare [] = refl
no_nodes f bare (id ∷ ids) = ap₂ (λ a b. a ++ b) (bare id) (no_nodes f bare ids)

-- what was put into the two sets, less what was there before
pub thins_put : {N : Type 0} (nodes : List N) (rough_ids roughs row_ids rows : List ℕ) (new : ZeroItems N) → IsPermutation nodes new.nodes
    → PutIn rough_ids roughs new.roughs → PutIn row_ids rows new.rows
    → Thins (items_of (record { nodes = nodes; roughs = rough_ids ++ roughs; rows = row_ids ++ rows; below = new.below })) (items_of new)
thins_put {N} nodes rough_ids roughs row_ids rows new moved rough row =
    let a : List (Item N) = map node_at_zero new.nodes in
    let b : List (Item N) = map rough_at_zero rough.again in
    let c : List (Item N) = map rough_at_zero new.roughs in
    let d : List (Item N) = map row_at_zero row.again in
    let e : List (Item N) = map row_at_zero new.rows in
    let was_roughs : List (Item N) = map rough_at_zero (rough_ids ++ roughs) in
    let was_rows : List (Item N) = map row_at_zero (row_ids ++ rows) in
    let among = λ (item : Item N) (at : Contains (c ++ e) item). Contains-append_right a (c ++ e) item at in
    record {
      again = b ++ d;
      split = IsPermutation-trans (map node_at_zero nodes ++ (was_roughs ++ was_rows)) (a ++ ((b ++ c) ++ (d ++ e))) ((b ++ d) ++ (a ++ (c ++ e)))
          (IsPermutation-append (map node_at_zero nodes) a (was_roughs ++ was_rows) ((b ++ c) ++ (d ++ e)) (IsPermutation-map node_at_zero nodes new.nodes moved)
          (IsPermutation-append was_roughs (b ++ c) was_rows (d ++ e)
          (subst (IsPermutation was_roughs) (map-append rough_at_zero rough.again new.roughs) (IsPermutation-map rough_at_zero (rough_ids ++ roughs) (rough.again ++ new.roughs) rough.split))
          (subst (IsPermutation was_rows) (map-append row_at_zero row.again new.rows) (IsPermutation-map row_at_zero (row_ids ++ rows) (row.again ++ new.rows) row.split))))
          (gather a b c d e);
      there = All-append (Contains (a ++ (c ++ e))) b d
          (All-map (Contains (a ++ (c ++ e))) rough_at_zero rough.again
          (All-weaker (Contains new.roughs) (λ id. Contains (a ++ (c ++ e)) (rough_at_zero id))
          (λ id at. among (rough_at_zero id) (Contains-append_left c e (rough_at_zero id) (in_map rough_at_zero new.roughs id at))) rough.again rough.there))
          (All-map (Contains (a ++ (c ++ e))) row_at_zero row.again
          (All-weaker (Contains new.rows) (λ id. Contains (a ++ (c ++ e)) (row_at_zero id))
          (λ id at. among (row_at_zero id) (Contains-append_right c e (row_at_zero id) (in_map row_at_zero new.rows id at))) row.again row.there));
      no_nodes = nodes-append b d ∙ ap₂ (λ x y. x ++ y) (no_nodes rough_at_zero (λ id. refl) rough.again) (no_nodes row_at_zero (λ id. refl) row.again);
    }
