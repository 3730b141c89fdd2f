-- The access paths of a relation grow one after another by the last row of its file.
use Rattle.std.proofs.Common.{◌≡◌, ℕ, ◌+◌, ◌<◌, ◌≤◌, Bool, true, false, ◌||◌, List, [], ◌∷◌, ◌++◌, length, map, take, drop, slice_index_or, refl, sym, ◌∙◌, ap, subst, arith, All}
use Rattle.std.proofs.lemmas.List.{map-append}
use Rattle.std.proofs.lemmas.List.Elements.{All-nil, All-head, All-push}
use Rattle.std.specs.List.{list_any}
use Rattle.page_pool.specs.Causes.{failures_of}
use Rattle.page_pool.specs.Disk.{PageMap}
use Rattle.page_pool.specs.Pool.{PoolState, IsTold, IsLive}
use Rattle.page_pool.specs.Steps.{InCommand, InCommand-refl, InCommand-trans}
use Rattle.code_btree.specs.Tree.{times, live}
use Rattle.code_btree.proofs.Lists.{live_small}
use Rattle.pmr_tree.specs.Quadtree.{store_of}
use Rattle.pmr_tree.proofs.OwnPages.{is_live}
use Rattle.sand_base.specs.declared.kind.Kind.{Kind}
use Rattle.sand_base.specs.declared.limits.Limits.{Limits}
use Rattle.sand_base.specs.declared.value.Value.{Value}
use Rattle.sand_model.specs.Database.{Index, index_with}
use Rattle.sand_model.specs.Measure.{Measure, IsMeasure}
use Rattle.sand_model.specs.StatementChecks.{is_overfull}
use Rattle.tuple_file.specs.declared.file.TupleFile.{TupleFile}
use Rattle.tuple_file.specs.File.{file_pages}
use Rattle.tuple_file.proofs.Houses as houses
use Rattle.sand_store.specs.declared.path.AccessPath.{AccessPath}
use Rattle.sand_store.specs.Catalog.{IsPathOf}
use Rattle.sand_store.specs.Contents.{rows_at, index_in, indexes_in}
use Rattle.sand_store.specs.Ownership.{path_pages, paths_pages}
use Rattle.sand_store.specs.Standing.{PathStands}
use Rattle.sand_store.specs.Steps.{CanGrow, PathGrew, AllCanGrow, AllGrew}
use Rattle.sand_store.specs.Leaving.{PathHolds, PathChange, PathChanged}
use Rattle.sand_store.specs.TableLaws.{SameOn, rows_same, table_same}
use Rattle.sand_store.proofs.Frames.{untouched, owns_after}
use Rattle.sand_store.proofs.PathSteps.{Paths, Partway, partway_start, partway_next, partway_end, pages_append, pages_cons, drop_here, take_here, drop_all}
use Rattle.sand_store.proofs.RowLists.{Rows}

-- how they grow: they held what the rows before have, and hold what these have
abbrev pub growing : Limits → List (List ℕ × Kind) → Rows → Rows → ℕ → PathChange
growing limits schema before rows id = record {
  before = record { limits = limits; schema = schema; rows = before };
  after = record { limits = limits; schema = schema; rows = rows };
  index = λ gap. index_with gap rows id;
}

-- the file stays while they do
file_stays : (m v : PageMap) (limits : Limits) (schema : List (List ℕ × Kind)) (file : TupleFile) (id : ℕ) (row : List Value) (all done rest : Paths)
    → (h : AllCanGrow m limits schema file id row all) → Partway m v (growing limits schema h.before (rows_at m schema file) id) all done rest → SameOn m v (file_pages (store_of m) file)
file_stays m v limits schema file id row all done rest h k =
    untouched (store_of m) (store_of v) (paths_pages m all) (paths_pages v (done ++ rest)) (file_pages (store_of m) file) k.keeps h.apart

-- and shares no page with them
file_apart : (m v : PageMap) (limits : Limits) (schema : List (List ℕ × Kind)) (file : TupleFile) (id : ℕ) (row : List Value) (all done rest : Paths)
    → (h : AllCanGrow m limits schema file id row all) → Partway m v (growing limits schema h.before (rows_at m schema file) id) all done rest
    → (q : ℕ) → times q (paths_pages v (done ++ rest)) + times q (file_pages (store_of v) file) ≤ live (store_of v) q
file_apart m v limits schema file id row all done rest h k q =
    let same : SameOn m v (file_pages (store_of m) file) = file_stays m v limits schema file id row all done rest h k in
    let a : times q (paths_pages v (done ++ rest)) + times q (file_pages (store_of m) file) ≤ live (store_of v) q =
    owns_after (store_of m) (store_of v) (paths_pages m all) (paths_pages v (done ++ rest)) (file_pages (store_of m) file) k.keeps h.apart q in
    omega (arith, a, ap (λ (ps : List ℕ). times q ps) (houses.unmoved (store_of m) (store_of v) file same).pages)

-- Between two steps of the loop: what holds of the pages where they are told, and what holds anyway.
pub record Between (first now : PoolState) (limits : Limits) (schema : List (List ℕ × Kind)) (file : TupleFile) (id : ℕ) (row : List Value) (all done : Paths) (at : ℕ) : Type 0 where
  pub within : InCommand first now
  pub counted : failures_of now ≡ failures_of first
  pub places : map (λ (p : ℕ × AccessPath). p.0) done ≡ map (λ (p : ℕ × AccessPath). p.0) (take at all)
  pub kinds : All (IsPathOf schema) done
  pub partway : IsTold first → (h : AllCanGrow first.pages limits schema file id row all)
      → Partway first.pages now.pages (growing limits schema h.before (rows_at first.pages schema file) id) all done (drop at all)

pub between_start : (pool : PoolState) (limits : Limits) (schema : List (List ℕ × Kind)) (file : TupleFile) (id : ℕ) (row : List Value) (all : Paths)
    → Between pool pool limits schema file id row all [] 0
between_start pool limits schema file id row all = record {
  within = InCommand-refl pool;
  counted = refl;
  places = refl;
  kinds = All-nil (IsPathOf schema);
  partway = λ told h. partway_start pool.pages (growing limits schema h.before (rows_at pool.pages schema file) id) all h.stands
      (λ q. (let a : times q (paths_pages pool.pages all) + times q (file_pages (store_of pool.pages) file) ≤ live (store_of pool.pages) q = h.apart q in omega (arith, a)));
}

-- what is still to be done begins with the next access path
next_first : (first now : PoolState) (limits : Limits) (schema : List (List ℕ × Kind)) (file : TupleFile) (id : ℕ) (row : List Value) (all done : Paths) (at : ℕ) (p : ℕ × AccessPath)
    → Between first now limits schema file id row all done at → at < length all → p ≡ slice_index_or all at p → IsTold first → (h : AllCanGrow first.pages limits schema file id row all)
    → Partway first.pages now.pages (growing limits schema h.before (rows_at first.pages schema file) id) all done (p ∷ drop (at + 1) all)
next_first first now limits schema file id row all done at p k l here told h =
    let P : Paths → Type 0 = λ rest. Partway first.pages now.pages (growing limits schema h.before (rows_at first.pages schema file) id) all done rest in
    subst P (drop_here all at p l here) (k.partway told h)

-- the rows are what they were
rows_stay : (first now : PoolState) (limits : Limits) (schema : List (List ℕ × Kind)) (file : TupleFile) (id : ℕ) (row : List Value) (all done rest : Paths)
    → (h : AllCanGrow first.pages limits schema file id row all) → Partway first.pages now.pages (growing limits schema h.before (rows_at first.pages schema file) id) all done rest
    → rows_at now.pages schema file ≡ rows_at first.pages schema file
rows_stay first now limits schema file id row all done rest h k =
    rows_same first.pages now.pages schema file (file_stays first.pages now.pages limits schema file id row all done rest h k)

-- a step of the loop
pub between_next : (first now next : PoolState) (limits : Limits) (schema : List (List ℕ × Kind)) (file : TupleFile) (id : ℕ) (row : List Value) (all done : Paths)
    (at : ℕ) (p : ℕ × AccessPath) (b : AccessPath)
    → Between first now limits schema file id row all done at → at < length all → p ≡ slice_index_or all at p → InCommand now next → failures_of next ≡ failures_of now
    → IsPathOf schema (p.0, b) → (IsTold now → PathGrew now.pages next.pages limits schema (rows_at now.pages schema file) id p.0 p.1 b)
    → Between first next limits schema file id row all (done ++ (p.0, b) ∷ []) (at + 1)
between_next first now next limits schema file id row all done at p b k l here within counted kind grew =
    let place : ℕ × AccessPath → ℕ = λ x. x.0 in
    record {
      within = InCommand-trans first now next k.within within;
      counted = counted ∙ k.counted;
      places = map-append place done ((p.0, b) ∷ []) ∙ (ap (λ (ns : List ℕ). ns ++ p.0 ∷ []) k.places
          ∙ (sym (map-append place (take at all) (p ∷ [])) ∙ ap (λ (ps : Paths). map place ps) (sym (take_here all at p l here))));
      kinds = All-push (IsPathOf schema) done (p.0, b) k.kinds kind;
      partway = λ told h.
          let change : PathChange = growing limits schema h.before (rows_at first.pages schema file) id in
          let mid = next_first first now limits schema file id row all done at p k l here told h in
          let e : rows_at now.pages schema file ≡ rows_at first.pages schema file = rows_stay first now limits schema file id row all done (p ∷ drop (at + 1) all) h mid in
          let P : Rows → Type 0 = λ rows. PathStands next.pages limits schema rows (p.0, b) in
          let g = grew (k.within.told ∙ told) in
          let changed : PathChanged now.pages next.pages change p.0 p.1 b = record {
            stands = subst P e g.stands;
            means = λ gap is. g.means gap is ∙ ap (λ (rows : Rows). index_with gap rows id (p.0, index_in now.pages p.1)) e;
            keeps = g.keeps;
          } in
          partway_next first.pages now.pages next.pages change all done (drop (at + 1) all) p b mid changed;
    }

-- what the next access path asks
pub between_can : (first now : PoolState) (limits : Limits) (schema : List (List ℕ × Kind)) (file : TupleFile) (id : ℕ) (row : List Value) (all done : Paths) (at : ℕ) (p : ℕ × AccessPath)
    → Between first now limits schema file id row all done at → at < length all → p ≡ slice_index_or all at p → (IsTold first → AllCanGrow first.pages limits schema file id row all)
    → IsTold now → CanGrow now.pages limits schema file id row p
between_can first now limits schema file id row all done at p k l here can told =
    let t : IsTold first = sym k.within.told ∙ told in
    let h = can t in
    let rest : Paths = drop (at + 1) all in
    let mid = next_first first now limits schema file id row all done at p k l here t h in
    record {
      before = h.before;
      table = table_same first.pages now.pages schema file (file_stays first.pages now.pages limits schema file id row all done (p ∷ rest) h mid) h.table;
      rows = rows_stay first now limits schema file id row all done (p ∷ rest) h mid ∙ h.rows;
      rise = h.rise;
      below = h.below;
      stands = All-head (PathHolds now.pages (record { limits = limits; schema = schema; rows = h.before })) p rest mid.waiting;
    }

pub between_apart : (first now : PoolState) (limits : Limits) (schema : List (List ℕ × Kind)) (file : TupleFile) (id : ℕ) (row : List Value) (all done : Paths) (at : ℕ) (p : ℕ × AccessPath)
    → Between first now limits schema file id row all done at → at < length all → p ≡ slice_index_or all at p → (IsTold first → AllCanGrow first.pages limits schema file id row all)
    → IsTold now → (q : ℕ) → 1 ≤ times q (file_pages (store_of now.pages) file) → IsLive now q × (times q (path_pages now.pages p.1) ≡ 0)
between_apart first now limits schema file id row all done at p k l here can told q in_file =
    let t : IsTold first = sym k.within.told ∙ told in
    let h = can t in
    let v : PageMap = now.pages in
    let rest : Paths = drop (at + 1) all in
    let mid = next_first first now limits schema file id row all done at p k l here t h in
    let a : times q (paths_pages v (done ++ p ∷ rest)) + times q (file_pages (store_of v) file) ≤ live (store_of v) q =
    file_apart first.pages v limits schema file id row all done (p ∷ rest) h mid q in (
      is_live now q (omega (arith, a, in_file, live_small (store_of v) q)),
      omega (arith, a, in_file, live_small (store_of v) q, pages_append v done (p ∷ rest) q, pages_cons v p rest q),
    )

-- all have grown
pub between_end : (first now : PoolState) (limits : Limits) (schema : List (List ℕ × Kind)) (file : TupleFile) (id : ℕ) (row : List Value) (all done : Paths) (at : ℕ)
    → Between first now limits schema file id row all done at → length all ≤ at → (IsTold first → AllCanGrow first.pages limits schema file id row all)
    → IsTold first → AllGrew first.pages now.pages limits schema (rows_at first.pages schema file) id all done
between_end first now limits schema file id row all done at k l can told =
    let h = can told in
    let change : PathChange = growing limits schema h.before (rows_at first.pages schema file) id in
    let P : Paths → Type 0 = λ rest. Partway first.pages now.pages change all done rest in
    let a = partway_end first.pages now.pages change all done (subst P (drop_all all at l) (k.partway told h)) in
    record { stands = a.stands; means = a.means; keeps = a.keeps }

-- an overfull index among others
pub full_mid : (f : ℕ × Index → Bool) (a b : List (ℕ × Index)) (x : ℕ × Index) → f x ≡ true → list_any f (a ++ x ∷ b) ≡ true
full_mid f [] b x h = rw h refl
full_mid f (y ∷ a) b x h =
    let rest : list_any f (a ++ x ∷ b) ≡ true = full_mid f a b x h in
    let go : (t : Bool) → t || list_any f (a ++ x ∷ b) ≡ true = elim [ true ↦ refl | false ↦ rest ] in
    go (f y)

-- one that is too full makes the relation so
pub between_full : (first now : PoolState) (limits : Limits) (schema : List (List ℕ × Kind)) (file : TupleFile) (id : ℕ) (row : List Value) (all done : Paths) (at : ℕ) (p : ℕ × AccessPath)
    → Between first now limits schema file id row all done at → at < length all → p ≡ slice_index_or all at p → (IsTold first → AllCanGrow first.pages limits schema file id row all)
    → IsTold first → (gap : Measure) → IsMeasure gap
    → is_overfull limits (index_with gap (rows_at now.pages schema file) id (p.0, index_in now.pages p.1)) ≡ true
    → list_any (is_overfull limits) (map (index_with gap (rows_at first.pages schema file) id) (indexes_in first.pages all)) ≡ true
between_full first now limits schema file id row all done at p k l here can told gap is full =
    let h = can told in
    let rest : Paths = drop (at + 1) all in
    let mid = next_first first now limits schema file id row all done at p k l here told h in
    let f : ℕ × Index → ℕ × Index = index_with gap (rows_at first.pages schema file) id in
    let it : is_overfull limits (f (p.0, index_in now.pages p.1)) ≡ true =
    ap (λ (rows : Rows). is_overfull limits (index_with gap rows id (p.0, index_in now.pages p.1))) (sym (rows_stay first now limits schema file id row all done (p ∷ rest) h mid)) ∙ full in
    ap (λ (xs : List (ℕ × Index)). list_any (is_overfull limits) xs) (sym (mid.means gap is))
    ∙ full_mid (is_overfull limits) (indexes_in now.pages done) (map f (indexes_in now.pages rest)) (f (p.0, index_in now.pages p.1)) it
