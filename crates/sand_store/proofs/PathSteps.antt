-- The access paths of a relation change one after another: those that are done, and those still to change, make up all.
use Rattle.std.proofs.Common.{◌≡◌, ℕ, zero, suc, ◌+◌, ◌<◌, ◌≤◌, List, [], ◌∷◌, ◌++◌, length, map, take, drop, slice_index_or, refl, sym, ◌∙◌, ap, ap₂, subst, arith, All}
use Rattle.std.proofs.lemmas.List.{map-append, append_assoc, append-nil}
use Rattle.std.proofs.lemmas.List.Concat.{flat_map-append}
use Rattle.std.proofs.lemmas.List.Elements.{All-nil, All-head, All-tail, All-push}
use Rattle.page_pool.specs.Causes.{failures_of}
use Rattle.page_pool.specs.Disk.{PageMap}
use Rattle.page_pool.specs.Pool.{PoolState, IsTold}
use Rattle.page_pool.specs.Steps.{InCommand, InCommand-refl, InCommand-trans}
use Rattle.code_btree.specs.Tree.{times, live}
use Rattle.code_btree.specs.Calls.{Keeps}
use Rattle.code_btree.proofs.Lists.{times-append}
use Rattle.pmr_tree.specs.Quadtree.{store_of}
use Rattle.pmr_tree.proofs.OwnPages.{keeps_then, keeps_none}
use Rattle.sand_base.specs.declared.kind.Kind.{Kind}
use Rattle.sand_base.specs.declared.value.Value.{Value}
use Rattle.sand_model.specs.Database.{Index}
use Rattle.sand_model.specs.Measure.{Measure, IsMeasure}
use Rattle.sand_store.specs.declared.path.AccessPath.{AccessPath}
use Rattle.sand_store.specs.Catalog.{IsPathOf}
use Rattle.sand_store.specs.Contents.{index_in, indexes_in}
use Rattle.sand_store.specs.Ownership.{path_pages, paths_pages}
use Rattle.sand_store.specs.Leaving.{Holding, PathHolds, CanLose, PathChange, losing, PathChanged, AllCanLose, AllChanged}
use Rattle.sand_store.specs.Steps.{SamePlaces}
use Rattle.sand_store.specs.TableLaws.{SameOn}
use Rattle.sand_store.proofs.Frames.{untouched, keeps_with}
use Rattle.sand_store.proofs.Stays.{same_left, same_right, paths_pages_stay, indexes_stay, paths_stand}

-- access paths with the places of their columns
abbrev pub Paths : Type 0
Paths = List (ℕ × AccessPath)

-- the pages of access paths in two parts, counted
pub pages_append : (v : PageMap) (a b : Paths) (q : ℕ) → times q (paths_pages v (a ++ b)) ≡ times q (paths_pages v a) + times q (paths_pages v b)
pages_append v a b q = omega (arith, ap (λ (ps : List ℕ). times q ps) (flat_map-append (λ (p : ℕ × AccessPath). path_pages v p.1) a b), times-append q (paths_pages v a) (paths_pages v b))

pub pages_cons : (v : PageMap) (p : ℕ × AccessPath) (b : Paths) (q : ℕ) → times q (paths_pages v (p ∷ b)) ≡ times q (path_pages v p.1) + times q (paths_pages v b)
pages_cons v p b q = times-append q (path_pages v p.1) (paths_pages v b)

-- What holds between two steps. Over pages m none had changed, over pages v those done have, and the rest hasn't.
pub record Partway (m v : PageMap) (change : PathChange) (all done rest : Paths) : Type 0 where
  pub changed : All (PathHolds v change.after) done
  pub waiting : All (PathHolds v change.before) rest
  pub means : (gap : Measure) → IsMeasure gap → indexes_in v done ++ map (change.index gap) (indexes_in v rest) ≡ map (change.index gap) (indexes_in m all)
  pub keeps : Keeps (store_of m) (store_of v) (paths_pages m all) (paths_pages v (done ++ rest))
  pub apart : (q : ℕ) → times q (paths_pages v (done ++ rest)) ≤ live (store_of v) q

-- before the first step
pub partway_start : (m : PageMap) (change : PathChange) (all : Paths) → All (PathHolds m change.before) all → ((q : ℕ) → times q (paths_pages m all) ≤ live (store_of m) q)
    → Partway m m change all [] all
partway_start m change all stands apart = record {
  changed = All-nil (PathHolds m change.after);
  waiting = stands;
  means = λ gap is. refl;
  keeps = keeps_none (store_of m) (paths_pages m all);
  apart = apart;
}

-- a step
pub partway_next : (m v w : PageMap) (change : PathChange) (all done rest : Paths) (p : ℕ × AccessPath) (b : AccessPath) → Partway m v change all done (p ∷ rest)
    → PathChanged v w change p.0 p.1 b → Partway m w change all (done ++ (p.0, b) ∷ []) rest
partway_next m v w change all done rest p b k g =
    let others : List ℕ = paths_pages v done ++ paths_pages v rest in
    let was_pages : (q : ℕ) → times q (paths_pages v (done ++ p ∷ rest)) ≡ times q (path_pages v p.1) + times q others =
    λ q. omega (arith, pages_append v done (p ∷ rest) q, pages_cons v p rest q, times-append q (paths_pages v done) (paths_pages v rest)) in
    let owns : (q : ℕ) → times q (path_pages v p.1) + times q others ≤ live (store_of v) q =
    λ q. (let a : times q (paths_pages v (done ++ p ∷ rest)) ≤ live (store_of v) q = k.apart q in omega (arith, a, was_pages q)) in
    let same : SameOn v w others = untouched (store_of v) (store_of w) (path_pages v p.1) (path_pages w b) others g.keeps owns in
    let same_done : SameOn v w (paths_pages v done) = same_left v w (paths_pages v done) (paths_pages v rest) same in
    let same_rest : SameOn v w (paths_pages v rest) = same_right v w (paths_pages v done) (paths_pages v rest) same in
    let now : Paths = done ++ (p.0, b) ∷ [] in
    let now_pages : (q : ℕ) → times q (paths_pages w (now ++ rest)) ≡ times q (path_pages w b) + times q others =
    λ q. omega (
      arith,
      pages_append w now rest q,
      pages_append w done ((p.0, b) ∷ []) q,
      pages_cons w (p.0, b) [] q,
      ap (λ (ps : List ℕ). times q ps) (paths_pages_stay v w done same_done),
      ap (λ (ps : List ℕ). times q ps) (paths_pages_stay v w rest same_rest),
      times-append q (paths_pages v done) (paths_pages v rest),
    ) in
    let step : Keeps (store_of v) (store_of w) (paths_pages v (done ++ p ∷ rest)) (paths_pages w (now ++ rest)) =
    keeps_with (store_of v) (store_of w) (path_pages v p.1) (path_pages w b) others (paths_pages v (done ++ p ∷ rest)) (paths_pages w (now ++ rest)) g.keeps was_pages now_pages in
    record {
      changed = All-push (PathHolds w change.after) done (p.0, b) (paths_stand v w change.after.limits change.after.schema change.after.rows done same_done k.changed) g.stands;
      waiting = paths_stand v w change.before.limits change.before.schema change.before.rows rest same_rest (All-tail (PathHolds v change.before) p rest k.waiting);
      means = λ gap is.
          let f : ℕ × Index → ℕ × Index = change.index gap in
          let split : indexes_in w now ≡ indexes_in w done ++ (p.0, index_in w b) ∷ [] = map-append (λ (x : ℕ × AccessPath). (x.0, index_in w x.1)) done ((p.0, b) ∷ []) in
          ap₂ (λ (a c : List (ℕ × Index)). a ++ map f c) (split ∙ ap₂ (λ (a : List (ℕ × Index)) (i : ℕ × Index). a ++ i ∷ []) (indexes_stay v w done same_done) (g.means gap is))
          (indexes_stay v w rest same_rest)
          ∙ (append_assoc (indexes_in v done) (f (p.0, index_in v p.1) ∷ []) (map f (indexes_in v rest)) ∙ k.means gap is);
      keeps = keeps_then (store_of m) (store_of v) (store_of w) (paths_pages m all) (paths_pages v (done ++ p ∷ rest)) (paths_pages w (now ++ rest)) k.keeps step;
      apart = λ q.
          let a : times q (paths_pages v (done ++ p ∷ rest)) ≤ live (store_of v) q = k.apart q in
          omega (arith, a, was_pages q, now_pages q, g.keeps.moved q);
    }

-- after the last step
pub partway_end : (m w : PageMap) (change : PathChange) (all done : Paths) → Partway m w change all done [] → AllChanged m w change all done
partway_end m w change all done k =
    let P : Paths → Type 0 = λ ps. Keeps (store_of m) (store_of w) (paths_pages m all) (paths_pages w ps) in
    record {
      stands = k.changed;
      means = λ gap is. sym (append-nil (indexes_in w done)) ∙ k.means gap is;
      keeps = subst P (append-nil done) k.keeps;
    }

-- what is left begins with what stands at the place
pub drop_here : {A : Type 0} (xs : List A) (at : ℕ) (x : A) → at < length xs → x ≡ slice_index_or xs at x → drop at xs ≡ x ∷ drop (at + 1) xs
drop_here [] at x l e = absurd (omega arith)
drop_here {A} (y ∷ xs) zero x l e = ap (λ (z : A). z ∷ xs) (sym e)
drop_here {A} (y ∷ xs) (suc at) x l e =
    let n : suc at + 1 ≡ suc (at + 1) = omega arith in
    drop_here xs at x (omega arith) e ∙ ap (λ (zs : List A). x ∷ zs) (ap (λ (k : ℕ). drop k (y ∷ xs)) (sym n))

-- one more is taken
pub take_here : {A : Type 0} (xs : List A) (at : ℕ) (x : A) → at < length xs → x ≡ slice_index_or xs at x → take (at + 1) xs ≡ take at xs ++ x ∷ []
take_here [] at x l e = absurd (omega arith)
take_here {A} (y ∷ xs) zero x l e = ap (λ (z : A). z ∷ []) (sym e)
take_here {A} (y ∷ xs) (suc at) x l e =
    let n : suc at + 1 ≡ suc (at + 1) = omega arith in
    ap (λ (k : ℕ). take k (y ∷ xs)) n ∙ ap (λ (zs : List A). y ∷ zs) (take_here xs at x (omega arith) e)

-- an element inside a list is read with any default
pub here_any : {A : Type 0} (xs : List A) (at : ℕ) (d : A) → at < length xs → slice_index_or xs at d ≡ slice_index_or xs at (slice_index_or xs at d)
here_any [] at d l = absurd (omega arith)
here_any (x ∷ xs) zero d l = refl
here_any (x ∷ xs) (suc at) d l = here_any xs at d (omega arith)

-- past the end nothing is left
pub drop_all : {A : Type 0} (xs : List A) (n : ℕ) → length xs ≤ n → drop n xs ≡ []
drop_all [] zero l = refl
drop_all [] (suc n) l = refl
drop_all (x ∷ xs) zero l = absurd (omega arith)
drop_all (x ∷ xs) (suc n) l = drop_all xs n (omega arith)

-- Between two steps of the loop in which access paths lose a row: what holds of the pages where they are told, and what holds anyway.
pub record Losing (first now : PoolState) (id : ℕ) (row : List Value) (all done : Paths) (at : ℕ) : Type 0 where
  pub within : InCommand first now
  pub counted : failures_of now ≡ failures_of first
  pub places : map (λ (p : ℕ × AccessPath). p.0) done ≡ map (λ (p : ℕ × AccessPath). p.0) (take at all)
  pub kinds : (schema : List (List ℕ × Kind)) → All (IsPathOf schema) all → All (IsPathOf schema) done
  pub partway : IsTold first → (held : Holding) → AllCanLose first.pages held id row all → Partway first.pages now.pages (losing held id) all done (drop at all)

pub losing_start : (pool : PoolState) (id : ℕ) (row : List Value) (all : Paths) → Losing pool pool id row all [] 0
losing_start pool id row all = record {
  within = InCommand-refl pool;
  counted = refl;
  places = refl;
  kinds = λ schema of. All-nil (IsPathOf schema);
  partway = λ told held h. partway_start pool.pages (losing held id) all h.stands h.apart;
}

-- the next access path can lose the row
pub losing_can : (first now : PoolState) (held : Holding) (id : ℕ) (row : List Value) (all done : Paths) (at : ℕ) (p : ℕ × AccessPath) → Losing first now id row all done at
    → at < length all → p ≡ slice_index_or all at p → IsTold now → AllCanLose first.pages held id row all → CanLose now.pages held id row p
losing_can first now held id row all done at p k l here told h =
    let P : Paths → Type 0 = λ rest. Partway first.pages now.pages (losing held id) all done rest in
    let mid = subst P (drop_here all at p l here) (k.partway (sym k.within.told ∙ told) held h) in
    record { has = h.has; stands = All-head (PathHolds now.pages held) p (drop (at + 1) all) mid.waiting }

-- a step of the loop
pub losing_next : (first now next : PoolState) (id : ℕ) (row : List Value) (all done : Paths) (at : ℕ) (p : ℕ × AccessPath) (b : AccessPath) → Losing first now id row all done at
    → at < length all → p ≡ slice_index_or all at p → InCommand now next → failures_of next ≡ failures_of now
    → ((schema : List (List ℕ × Kind)) → IsPathOf schema p → IsPathOf schema (p.0, b))
    → (IsTold now → (held : Holding) → CanLose now.pages held id row p → PathChanged now.pages next.pages (losing held id) p.0 p.1 b)
    → Losing first next id row all (done ++ (p.0, b) ∷ []) (at + 1)
losing_next first now next id row all done at p b k l here within counted kind lost =
    let place : ℕ × AccessPath → ℕ = λ x. x.0 in
    record {
      within = InCommand-trans first now next k.within within;
      counted = counted ∙ k.counted;
      places = map-append place done ((p.0, b) ∷ []) ∙ (ap (λ (ns : List ℕ). ns ++ p.0 ∷ []) k.places
          ∙ (sym (map-append place (take at all) (p ∷ [])) ∙ ap (λ (ps : Paths). map place ps) (sym (take_here all at p l here))));
      kinds = λ schema of. All-push (IsPathOf schema) done (p.0, b) (k.kinds schema of) (kind schema (subst (IsPathOf schema) (sym here) (of at p l)));
      partway = λ told held h.
          let P : Paths → Type 0 = λ rest. Partway first.pages now.pages (losing held id) all done rest in
          partway_next first.pages now.pages next.pages (losing held id) all done (drop (at + 1) all) p b
          (subst P (drop_here all at p l here) (k.partway told held h)) (lost (k.within.told ∙ told) held (losing_can first now held id row all done at p k l here (k.within.told ∙ told) h));
    }

-- all have lost it
pub losing_end : (first now : PoolState) (held : Holding) (id : ℕ) (row : List Value) (all done : Paths) (at : ℕ) → Losing first now id row all done at → length all ≤ at
    → IsTold first → AllCanLose first.pages held id row all → AllChanged first.pages now.pages (losing held id) all done
losing_end first now held id row all done at k l told h =
    let P : Paths → Type 0 = λ rest. Partway first.pages now.pages (losing held id) all done rest in
    partway_end first.pages now.pages (losing held id) all done (subst P (drop_all all at l) (k.partway told held h))

-- and they are of the same columns
pub take_past : {A : Type 0} (xs : List A) (n : ℕ) → length xs ≤ n → take n xs ≡ xs
take_past [] zero l = refl
take_past [] (suc n) l = refl
take_past (x ∷ xs) zero l = absurd (omega arith)
take_past {A} (x ∷ xs) (suc n) l = ap (λ (ys : List A). x ∷ ys) (take_past xs n (omega arith))

pub losing_places : (first now : PoolState) (id : ℕ) (row : List Value) (all done : Paths) (at : ℕ) → Losing first now id row all done at → length all ≤ at
    → (schema : List (List ℕ × Kind)) → All (IsPathOf schema) all → SamePlaces schema all done
losing_places first now id row all done at k l schema of = record {
  places = k.places ∙ ap (λ (ps : Paths). map (λ (p : ℕ × AccessPath). p.0) ps) (take_past all at l);
  paths = k.kinds schema of;
}
