-- The R-trees of a relation change one after another: those that are done, and those still to change, make up all.
use Rattle.std.proofs.Common.{◌≡◌, ℕ, ◌+◌, ◌<◌, ◌≤◌, List, [], ◌∷◌, ◌++◌, length, map, take, drop, slice_index_or, refl, sym, ◌∙◌, ap, ap₂, subst, arith, All}
use Rattle.std.proofs.lemmas.List.{map-append, append-nil}
use Rattle.std.proofs.lemmas.List.Concat.{flat_map-append}
use Rattle.std.proofs.lemmas.List.Elements.{All-nil, All-cons, All-head, All-tail, All-push}
use Rattle.page_pool.specs.Causes.{failures_of}
use Rattle.page_pool.specs.Disk.{PageMap}
use Rattle.page_pool.specs.Pool.{PoolState, IsTold}
use Rattle.page_pool.specs.Steps.{InCommand, InCommand-refl, InCommand-trans}
use Rattle.code_btree.specs.Tree.{times, live}
use Rattle.code_btree.specs.Calls.{Keeps}
use Rattle.code_btree.proofs.Lists.{times-append}
use Rattle.pmr_tree.specs.Quadtree.{store_of}
use Rattle.pmr_tree.proofs.OwnPages.{keeps_then, keeps_none}
use Rattle.r_tree.specs.declared.tree.RTree.{RTree}
use Rattle.r_tree.specs.Tree.{rtree_pages}
use Rattle.r_tree.proofs.Unmoved.{tree_pages_stay, lists_stay}
use Rattle.sand_base.specs.declared.value.Value.{Value}
use Rattle.sand_model.specs.Database.{shapes_of}
use Rattle.sand_store.specs.declared.trees.RowChange.{RowChange}
use Rattle.sand_store.specs.Ownership.{trees_pages}
use Rattle.sand_store.specs.Standing.{TreeStands}
use Rattle.sand_store.specs.Steps.{SameColumns}
use Rattle.sand_store.specs.TableLaws.{SameOn}
use Rattle.sand_store.specs.Trees.{rows_after, CanChange, TreeChanged, TreesCanChange, TreesChanged}
use Rattle.sand_store.proofs.Frames.{untouched, keeps_with}
use Rattle.sand_store.proofs.PathSteps.{drop_here, take_here, take_past, drop_all}
use Rattle.sand_store.proofs.RowLists.{Rows}
use Rattle.sand_store.proofs.Stays.{same_left, same_right, trees_pages_stay, trees_stand}

-- R-trees with the places of their columns
abbrev pub Trees : Type 0
Trees = List (ℕ × RTree)

-- the pages of R-trees in two parts, counted
pub trees_append : (v : PageMap) (a b : Trees) (q : ℕ) → times q (trees_pages v (a ++ b)) ≡ times q (trees_pages v a) + times q (trees_pages v b)
trees_append v a b q = omega (arith, ap (λ (ps : List ℕ). times q ps) (flat_map-append (λ (t : ℕ × RTree). rtree_pages (store_of v) t.1) a b), times-append q (trees_pages v a) (trees_pages v b))

pub trees_cons : (v : PageMap) (t : ℕ × RTree) (b : Trees) (q : ℕ) → times q (trees_pages v (t ∷ b)) ≡ times q (rtree_pages (store_of v) t.1) + times q (trees_pages v b)
trees_cons v t b q = times-append q (rtree_pages (store_of v) t.1) (trees_pages v b)

-- What holds between two steps. Over pages m none had changed, over pages v those done have, and the rest hasn't.
pub record Partly (m v : PageMap) (old new : Rows) (all done rest : Trees) : Type 0 where
  pub changed : All (TreeStands v new) done
  pub waiting : All (TreeStands v old) rest
  pub keeps : Keeps (store_of m) (store_of v) (trees_pages m all) (trees_pages v (done ++ rest))
  pub apart : (q : ℕ) → times q (trees_pages v (done ++ rest)) ≤ live (store_of v) q

-- before the first step
partly_start : (m : PageMap) (old new : Rows) (all : Trees) → TreesCanChange m old all → Partly m m old new all [] all
partly_start m old new all h = record {
  changed = All-nil (TreeStands m new);
  waiting = h.stands;
  keeps = keeps_none (store_of m) (trees_pages m all);
  apart = h.apart;
}

-- a step
partly_next : (m v w : PageMap) (old new : Rows) (all done rest : Trees) (t : ℕ × RTree) (u : RTree) → Partly m v old new all done (t ∷ rest)
    → TreeChanged v w new t.0 t.1 u → Partly m w old new all (done ++ (t.0, u) ∷ []) rest
partly_next m v w old new all done rest t u k g =
    let here : List ℕ = rtree_pages (store_of v) t.1 in
    let there : List ℕ = rtree_pages (store_of w) u in
    let others : List ℕ = trees_pages v done ++ trees_pages v rest in
    let was_pages : (q : ℕ) → times q (trees_pages v (done ++ t ∷ rest)) ≡ times q here + times q others =
    λ q. omega (arith, trees_append v done (t ∷ rest) q, trees_cons v t rest q, times-append q (trees_pages v done) (trees_pages v rest)) in
    let owns : (q : ℕ) → times q here + times q others ≤ live (store_of v) q =
    λ q. (let a : times q (trees_pages v (done ++ t ∷ rest)) ≤ live (store_of v) q = k.apart q in omega (arith, a, was_pages q)) in
    let same : SameOn v w others = untouched (store_of v) (store_of w) here there others g.keeps owns in
    let same_done : SameOn v w (trees_pages v done) = same_left v w (trees_pages v done) (trees_pages v rest) same in
    let same_rest : SameOn v w (trees_pages v rest) = same_right v w (trees_pages v done) (trees_pages v rest) same in
    let now : Trees = done ++ (t.0, u) ∷ [] in
    let now_pages : (q : ℕ) → times q (trees_pages w (now ++ rest)) ≡ times q there + times q others =
    λ q. omega (
      arith,
      trees_append w now rest q,
      trees_append w done ((t.0, u) ∷ []) q,
      trees_cons w (t.0, u) [] q,
      ap (λ (ps : List ℕ). times q ps) (trees_pages_stay v w done same_done),
      ap (λ (ps : List ℕ). times q ps) (trees_pages_stay v w rest same_rest),
      times-append q (trees_pages v done) (trees_pages v rest),
    ) in
    let step : Keeps (store_of v) (store_of w) (trees_pages v (done ++ t ∷ rest)) (trees_pages w (now ++ rest)) =
    keeps_with (store_of v) (store_of w) here there others (trees_pages v (done ++ t ∷ rest)) (trees_pages w (now ++ rest)) g.keeps was_pages now_pages in
    record {
      changed = All-push (TreeStands w new) done (t.0, u) (trees_stand v w new done same_done k.changed) g.stands;
      waiting = trees_stand v w old rest same_rest (All-tail (TreeStands v old) t rest k.waiting);
      keeps = keeps_then (store_of m) (store_of v) (store_of w) (trees_pages m all) (trees_pages v (done ++ t ∷ rest)) (trees_pages w (now ++ rest)) k.keeps step;
      apart = λ q.
          let a : times q (trees_pages v (done ++ t ∷ rest)) ≤ live (store_of v) q = k.apart q in
          omega (arith, a, was_pages q, now_pages q, g.keeps.moved q);
    }

-- after the last step
partly_end : (m w : PageMap) (old new : Rows) (all done : Trees) → Partly m w old new all done [] → TreesChanged m w new all done
partly_end m w old new all done k =
    let P : Trees → Type 0 = λ ts. Keeps (store_of m) (store_of w) (trees_pages m all) (trees_pages w ts) in
    record { stands = k.changed; keeps = subst P (append-nil done) k.keeps }

-- Between two steps of the loop: what holds of the pages where they are told, and what holds anyway.
pub record Turning (first now : PoolState) (change : RowChange) (id : ℕ) (row : List Value) (all done : Trees) (at : ℕ) : Type 0 where
  pub within : InCommand first now
  pub counted : failures_of now ≡ failures_of first
  pub columns : SameColumns (take at all) done
  pub partly : IsTold first → (rows : Rows) → TreesCanChange first.pages rows all → CanChange change id row rows
      → Partly first.pages now.pages rows (rows_after change id row rows) all done (drop at all)

pub turning_start : (pool : PoolState) (change : RowChange) (id : ℕ) (row : List Value) (all : Trees) → Turning pool pool change id row all [] 0
turning_start pool change id row all = record {
  within = InCommand-refl pool;
  counted = refl;
  columns = refl;
  partly = λ told rows h c. partly_start pool.pages rows (rows_after change id row rows) all h;
}

-- what is still to be done begins with the next tree
turning_first : (first now : PoolState) (change : RowChange) (id : ℕ) (row : List Value) (all done : Trees) (at : ℕ) (t : ℕ × RTree) → Turning first now change id row all done at
    → at < length all → t ≡ slice_index_or all at t → IsTold first → (rows : Rows) → TreesCanChange first.pages rows all → CanChange change id row rows
    → Partly first.pages now.pages rows (rows_after change id row rows) all done (t ∷ drop (at + 1) all)
turning_first first now change id row all done at t k l here told rows h c =
    let P : Trees → Type 0 = λ rest. Partly first.pages now.pages rows (rows_after change id row rows) all done rest in
    subst P (drop_here all at t l here) (k.partly told rows h c)

-- the next tree can change
pub turning_can : (first now : PoolState) (change : RowChange) (id : ℕ) (row : List Value) (all done : Trees) (at : ℕ) (t : ℕ × RTree) → Turning first now change id row all done at
    → at < length all → t ≡ slice_index_or all at t → IsTold first → (rows : Rows) → TreesCanChange first.pages rows all → CanChange change id row rows
    → TreeStands now.pages rows t
turning_can first now change id row all done at t k l here told rows h c =
    All-head (TreeStands now.pages rows) t (drop (at + 1) all) (turning_first first now change id row all done at t k l here told rows h c).waiting

-- a step of the loop
pub turning_next : (first now next : PoolState) (change : RowChange) (id : ℕ) (row : List Value) (all done : Trees) (at : ℕ) (t : ℕ × RTree) (u : RTree)
    → Turning first now change id row all done at → at < length all → t ≡ slice_index_or all at t → InCommand now next → failures_of next ≡ failures_of now
    → (IsTold now → (rows : Rows) → TreeStands now.pages rows t → CanChange change id row rows → TreeChanged now.pages next.pages (rows_after change id row rows) t.0 t.1 u)
    → Turning first next change id row all (done ++ (t.0, u) ∷ []) (at + 1)
turning_next first now next change id row all done at t u k l here within counted changed =
    let place : ℕ × RTree → ℕ = λ x. x.0 in
    record {
      within = InCommand-trans first now next k.within within;
      counted = counted ∙ k.counted;
      columns = map-append place done ((t.0, u) ∷ []) ∙ (ap (λ (ns : List ℕ). ns ++ t.0 ∷ []) k.columns
          ∙ (sym (map-append place (take at all) (t ∷ [])) ∙ ap (λ (ts : Trees). map place ts) (sym (take_here all at t l here))));
      partly = λ told rows h c.
          partly_next first.pages now.pages next.pages rows (rows_after change id row rows) all done (drop (at + 1) all) t u
          (turning_first first now change id row all done at t k l here told rows h c)
          (changed (k.within.told ∙ told) rows (turning_can first now change id row all done at t k l here told rows h c) c);
    }

-- all have changed
pub turning_end : (first now : PoolState) (change : RowChange) (id : ℕ) (row : List Value) (all done : Trees) (at : ℕ) → Turning first now change id row all done at → length all ≤ at
    → IsTold first → (rows : Rows) → TreesCanChange first.pages rows all → CanChange change id row rows → TreesChanged first.pages now.pages (rows_after change id row rows) all done
turning_end first now change id row all done at k l told rows h c =
    let P : Trees → Type 0 = λ rest. Partly first.pages now.pages rows (rows_after change id row rows) all done rest in
    partly_end first.pages now.pages rows (rows_after change id row rows) all done (subst P (drop_all all at l) (k.partly told rows h c))

-- and they are of the same columns
pub turning_columns : (first now : PoolState) (change : RowChange) (id : ℕ) (row : List Value) (all done : Trees) (at : ℕ) → Turning first now change id row all done at → length all ≤ at
    → SameColumns all done
turning_columns first now change id row all done at k l = k.columns ∙ ap (λ (ts : Trees). map (λ (t : ℕ × RTree). t.0) ts) (take_past all at l)
