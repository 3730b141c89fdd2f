-- One relation is changed in its place: all others stay, and the database has the change.
use Rattle.std.proofs.Common.{◌≡◌, ℕ, zero, suc, ◌+◌, ◌<◌, ◌≤◌, Bool, true, false, not, cond, ltb, List, [], ◌∷◌, length, map, get_or, set, Some, None, refl, sym, ◌∙◌, ap, ap₂, subst, arith, All}
use Rattle.std.specs.List.{position, position_or_len}
use Rattle.std.proofs.lemmas.Bool.{ltb-true}
use Rattle.std.proofs.lemmas.List.{length-set}
use Rattle.std.proofs.lemmas.List.Elements.{All-cons, All-head, All-tail, All-set}
use Rattle.page_pool.specs.Disk.{PageMap}
use Rattle.page_pool.specs.Pool.{PoolState, IsTold, IsClosed}
use Rattle.code_btree.specs.Tree.{times, live}
use Rattle.code_btree.proofs.Lists.{times-append}
use Rattle.pmr_tree.specs.Quadtree.{store_of}
use Rattle.sand_base.specs.declared.limits.Limits.{Limits}
use Rattle.sand_model.specs.Database.{Database, Relation, changed_at}
use Rattle.sand_model.specs.Kept.{has_twice}
use Rattle.sand_model.specs.Measure.{Measure, IsMeasure}
use Rattle.sand_store.specs.Catalog.{RelationView, is_named, IsDescribed}
use Rattle.sand_store.specs.Contents.{relation_in, database_in}
use Rattle.sand_store.specs.Ownership.{relation_pages, catalog_pages, OwnsPages}
use Rattle.sand_store.specs.Standing.{RelationStands, CatalogStands, IsStore}
use Rattle.sand_store.specs.Steps.{Became, FirstAt}
use Rattle.sand_store.specs.TableLaws.{SameOn}
use Rattle.sand_store.proofs.Frames.{untouched}
use Rattle.sand_store.proofs.Stays.{same_left, same_right, relation_stays, relation_stands, catalog_pages_stay, database_stays, relations_stand}

-- the other relations
abbrev pub without_at : List RelationView → ℕ → List RelationView
without_at [] at = []
without_at (r ∷ rs) zero = rs
without_at (r ∷ rs) (suc at) = r ∷ without_at rs at

-- the place that a search gives is that of the first of the name
first_from : (name : List ℕ) (rs : List RelationView) → position_or_len (is_named name) rs < length rs → FirstAt name rs (position_or_len (is_named name) rs)
first_from name [] below = absurd (omega arith)
first_from name (r ∷ rs) below =
    let first : ℕ = position_or_len (is_named name) rs in
    let P : ℕ → Type 0 = λ k. FirstAt name (r ∷ rs) k in
    let go : (b : Bool) → is_named name r ≡ b → cond (not b) (1 + first) 0 < length (r ∷ rs) → FirstAt name (r ∷ rs) (cond (not b) (1 + first) 0) =
    elim [
      | true ↦ λ e l. e
      | false ↦ λ e l. (let one : suc first ≡ 1 + first = omega arith in subst P one (e, first_from name rs (omega arith)))
    ] in
    go (is_named name r) refl below

pub first_at : (name : List ℕ) (rs : List RelationView) (at : ℕ) → position (is_named name) rs ≡ Some at → FirstAt name rs at × (at < length rs)
first_at name rs at h =
    let n : ℕ = position_or_len (is_named name) rs in
    let go : (b : Bool) → ltb n (length rs) ≡ b → cond b (Some n) None ≡ Some at → (n ≡ at) × (at < length rs) =
    elim [
      | true ↦ λ e k. (let same : n ≡ at = (cc) in (same, omega (arith, same, ltb-true n (length rs) e)))
      | false ↦ λ e k. (let clash : ⊥ = cc in absurd clash)
    ] in
    let place = go (ltb n (length rs)) refl h in
    let below : n < length rs = omega (arith, place.0, place.1) in
    (subst (FirstAt name rs) place.0 (first_from name rs below), place.1)

-- the pages of all are those of one and of the others, counted
pub pages_split : (m : PageMap) (rs : List RelationView) (at : ℕ) (r : RelationView) (q : ℕ) → at < length rs → r ≡ get_or rs at r
    → times q (catalog_pages m rs) ≡ times q (relation_pages m r) + times q (catalog_pages m (without_at rs at))
pages_split m [] at r q l e = absurd (omega arith)
pages_split m (x ∷ rs) zero r q l e =
    omega (arith, times-append q (relation_pages m x) (catalog_pages m rs), ap (λ (y : RelationView). times q (relation_pages m y)) e)
pages_split m (x ∷ rs) (suc at) r q l e =
    omega (arith, times-append q (relation_pages m x) (catalog_pages m rs), times-append q (relation_pages m x) (catalog_pages m (without_at rs at)), pages_split m rs at r q (omega arith) e)

pages_set : (w : PageMap) (rs : List RelationView) (at : ℕ) (u : RelationView) (q : ℕ) → at < length rs
    → times q (catalog_pages w (set rs at u)) ≡ times q (relation_pages w u) + times q (catalog_pages w (without_at rs at))
pages_set w [] at u q l = absurd (omega arith)
pages_set w (x ∷ rs) zero u q l = omega (arith, times-append q (relation_pages w u) (catalog_pages w rs))
pages_set w (x ∷ rs) (suc at) u q l =
    omega (arith, times-append q (relation_pages w x) (catalog_pages w (set rs at u)), times-append q (relation_pages w x) (catalog_pages w (without_at rs at)), pages_set w rs at u q (omega arith))

-- all relations stand again
stands_set : (m w : PageMap) (limits : Limits) (rs : List RelationView) (at : ℕ) (u : RelationView) → SameOn m w (catalog_pages m (without_at rs at))
    → All (RelationStands m limits) rs → RelationStands w limits u → All (RelationStands w limits) (set rs at u)
stands_set m w limits [] at u same h k = relations_stand m w limits [] same h
stands_set m w limits (x ∷ rs) zero u same h k =
    All-cons (RelationStands w limits) u rs k (relations_stand m w limits rs same (All-tail (RelationStands m limits) x rs h))
stands_set m w limits (x ∷ rs) (suc at) u same h k =
    All-cons (RelationStands w limits) x (set rs at u)
    (relation_stands m w limits x (same_left m w (relation_pages m x) (catalog_pages m (without_at rs at)) same) (All-head (RelationStands m limits) x rs h))
    (stands_set m w limits rs at u (same_right m w (relation_pages m x) (catalog_pages m (without_at rs at)) same) (All-tail (RelationStands m limits) x rs h) k)

-- the database has the change
database_set : (m w : PageMap) (name : List ℕ) (rs : List RelationView) (at : ℕ) (r u : RelationView) (change : Relation → Relation) → FirstAt name rs at
    → r ≡ get_or rs at r → SameOn m w (catalog_pages m (without_at rs at)) → relation_in w u ≡ change (relation_in m r)
    → database_in w (set rs at u) ≡ changed_at name change (database_in m rs)
database_set m w name [] at r u change first here same means = absurd first
database_set m w name (x ∷ rs) zero r u change first here same means =
    rw first (ap₂ (λ (a : Relation) (d : Database). a ∷ d) (means ∙ ap (λ (y : RelationView). change (relation_in m y)) here) (database_stays m w rs same))
database_set m w name (x ∷ rs) (suc at) r u change first here same means =
    rw first.0 (ap₂ (λ (a : Relation) (d : Database). a ∷ d) (relation_stays m w x (same_left m w (relation_pages m x) (catalog_pages m (without_at rs at)) same))
    (database_set m w name rs at r u change first.1 here (same_right m w (relation_pages m x) (catalog_pages m (without_at rs at)) same) means))

-- the others stay
others_same : (m w : PageMap) (limits : Limits) (rs : List RelationView) (at : ℕ) (r u : RelationView) (change : Measure → Relation → Relation)
    → at < length rs → r ≡ get_or rs at r → OwnsPages m (catalog_pages m rs) → Became m w limits r u change → SameOn m w (catalog_pages m (without_at rs at))
others_same m w limits rs at r u change l here owns b =
    untouched (store_of m) (store_of w) (relation_pages m r) (relation_pages w u) (catalog_pages m (without_at rs at)) b.keeps
    (λ q. (let o : times q (catalog_pages m rs) ≤ live (store_of m) q = owns q in omega (arith, o, pages_split m rs at r q l here)))

-- the catalog stands with the changed relation
catalog_set : (m w : PageMap) (limits : Limits) (rs : List RelationView) (at : ℕ) (r u : RelationView) (change : Measure → Relation → Relation)
    → at < length rs → r ≡ get_or rs at r → CatalogStands m (record { relations = rs; limits = limits }) → Became m w limits r u change
    → CatalogStands w (record { relations = set rs at u; limits = limits })
catalog_set m w limits rs at r u change l here h b =
    let same : SameOn m w (catalog_pages m (without_at rs at)) = others_same m w limits rs at r u change l here h.owns b in
    record {
      relations = stands_set m w limits rs at u same h.relations b.stands;
      owns = λ q.
          let o : times q (catalog_pages m rs) ≤ live (store_of m) q = h.owns q in
          omega (arith, o, pages_split m rs at r q l here, pages_set w rs at u q l, ap (λ (ps : List ℕ). times q ps) (catalog_pages_stay m w (without_at rs at) same), b.keeps.moved q);
    }

names_set : (rs : List RelationView) (at : ℕ) (r u : RelationView) → r ≡ get_or rs at r → at < length rs → u.name ≡ r.name
    → map (λ (x : RelationView). x.name) (set rs at u) ≡ map (λ (x : RelationView). x.name) rs
names_set [] at r u here l e = absurd (omega arith)
names_set (x ∷ rs) zero r u here l e = ap (λ (n : List ℕ). n ∷ map (λ (y : RelationView). y.name) rs) (e ∙ ap (λ (y : RelationView). y.name) here)
names_set (x ∷ rs) (suc at) r u here l e = ap (λ (ns : List (List ℕ)). x.name ∷ ns) (names_set rs at r u here (omega arith) e)

-- A relation is changed in its place.
pub put_in_place : (old new : PoolState) (limits : Limits) (name : List ℕ) (rs us : List RelationView) (at : ℕ) (r u : RelationView) (change : Measure → Relation → Relation)
    → IsStore (record { relations = rs; limits = limits }) old → FirstAt name rs at → at < length rs → r ≡ get_or rs at r → us ≡ set rs at u → u.name ≡ r.name
    → IsDescribed limits u → new.disk.told ≡ old.disk.told → IsClosed new → (IsTold old → Became old.pages new.pages limits r u change)
    → IsStore (record { relations = us; limits = limits }) new
put_in_place old new limits name rs us at r u change h first l here is named described told closed b =
    let P : List RelationView → Type 0 = λ xs. IsStore (record { relations = xs; limits = limits }) new in
    let n : length (set rs at u) ≡ length rs = length-set rs at u in
    subst P (sym is) (record {
      closed = closed;
      described = record {
        limits = h.described.limits;
        names = ap (λ (ns : List (List ℕ)). has_twice ns) (names_set rs at r u here l named) ∙ h.described.names;
        few = omega (arith, n, h.described.few);
        relations = All-set (IsDescribed limits) rs at u described h.described.relations;
      };
      stands = λ t. (let o : IsTold old = sym told ∙ t in catalog_set old.pages new.pages limits rs at r u change l here (h.stands o) (b o));
    })

-- and so is it in the database
pub becomes_in_place : (old new : PoolState) (limits : Limits) (name : List ℕ) (rs us : List RelationView) (at : ℕ) (r u : RelationView) (change : Measure → Relation → Relation)
    → IsStore (record { relations = rs; limits = limits }) old → FirstAt name rs at → at < length rs → r ≡ get_or rs at r → us ≡ set rs at u
    → (IsTold old → Became old.pages new.pages limits r u change) → IsTold old → (gap : Measure) → IsMeasure gap
    → database_in new.pages us ≡ changed_at name (change gap) (database_in old.pages rs)
becomes_in_place old new limits name rs us at r u change h first l here is b t gap measure =
    ap (λ (xs : List RelationView). database_in new.pages xs) is
    ∙ database_set old.pages new.pages name rs at r u (change gap) first here
    (others_same old.pages new.pages limits rs at r u change l here (h.stands t).owns (b t)) ((b t).means gap measure)
