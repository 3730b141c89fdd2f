-- The relation of a name, in the catalog and in the database.
use Rattle.std.proofs.Common.{◌≡◌, ℕ, Bool, true, false, cond, ◌||◌, List, [], ◌∷◌, ◌++◌, map, Option, Some, None, refl, sym, ◌∙◌, ap}
use Rattle.std.specs.List.{find}
use Rattle.std.specs.Option.{option_map}
use Rattle.std.specs.Cmp.Lexicographic.{bytes_decides}
use Rattle.std.proofs.lemmas.List.{length-map, map-append}
use Rattle.page_pool.specs.Disk.{PageMap}
use Rattle.sand_base.specs.declared.kind.Kind.{Kind}
use Rattle.sand_base.specs.declared.value.Value.{Value}
use Rattle.sand_model.specs.Database.{Relation, relation_named, same_name}
use Rattle.sand_model.specs.Kept.{has_same, has_twice}
use Rattle.statements.specs.Statement.{Create, Insert}
use Rattle.sand_model.specs.StatementChecks.{Setting, early, is_there}
use Rattle.sand_store.specs.Calls.{alone}
use Rattle.sand_store.specs.Catalog.{RelationView, is_named}
use Rattle.sand_store.specs.Contents.{relation_in, database_in}
use Rattle.sand_store.specs.Steps.{create_check, found_check}

-- the relation of a name in the database is that of the catalog
pub named_in : (m : PageMap) (rs : List RelationView) (name : List ℕ) → relation_named (database_in m rs) name ≡ option_map (relation_in m) (find (is_named name) rs)
named_in m [] name = refl
named_in m (r ∷ rs) name =
    let go : (b : Bool) → cond b (Some (relation_in m r)) (relation_named (database_in m rs) name) ≡ option_map (relation_in m) (cond b (Some r) (find (is_named name) rs)) =
    elim [ true ↦ refl | false ↦ named_in m rs name ] in
    go (same_name r.name name)

there_mapped : {A B : Type 0} (f : A → B) (o : Option A) → is_there (option_map f o) ≡ is_there o
there_mapped f None = refl
there_mapped f (Some a) = refl

pub there_in : (m : PageMap) (rs : List RelationView) (name : List ℕ) → is_there (relation_named (database_in m rs) name) ≡ is_there (find (is_named name) rs)
there_in m rs name = ap (λ (o : Option Relation). is_there o) (named_in m rs name) ∙ there_mapped (relation_in m) (find (is_named name) rs)

-- the early checks of a new relation
pub early_create : (setting : Setting) (m : PageMap) (rs : List RelationView) (name : List ℕ) (schema : List (List ℕ × Kind))
    → early setting (alone (database_in m rs)) (Create name schema) ≡ create_check rs name schema
early_create setting m rs name schema = rw (there_in m rs name, length-map rs (relation_in m)) refl

-- two names are one in either order
pub same_sym : (a b : List ℕ) → same_name a b ≡ false → same_name b a ≡ false
same_sym a b h =
    let go : (t : Bool) → same_name b a ≡ t → same_name b a ≡ false =
    elim [ true ↦ λ e. absurd (let k : same_name a b ≡ true = (bytes_decides a b).1 (sym ((bytes_decides b a).0 e)) in cc) | false ↦ λ e. e ] in
    go (same_name b a) refl

-- a name that isn't there stands nowhere behind another
has_same-append : (x n : List ℕ) (ns : List (List ℕ)) → has_same x ns ≡ false → same_name n x ≡ false → has_same x (ns ++ n ∷ []) ≡ false
has_same-append x n [] h k = rw k refl
has_same-append x n (y ∷ ns) h k =
    let go : (b : Bool) → b || has_same x ns ≡ false → b || has_same x (ns ++ n ∷ []) ≡ false =
    elim [ true ↦ λ e. e | false ↦ λ e. has_same-append x n ns e k ] in
    go (same_name y x) h

-- a new name behind names of their own
pub twice_none : (rs : List RelationView) (r : RelationView) → has_twice (map (λ (x : RelationView). x.name) rs) ≡ false → find (is_named r.name) rs ≡ None
    → has_twice (map (λ (x : RelationView). x.name) (rs ++ r ∷ [])) ≡ false
twice_none [] r h k = refl
twice_none (x ∷ rs) r h k =
    let ns : List (List ℕ) = map (λ (y : RelationView). y.name) rs in
    let go : (b : Bool) → same_name x.name r.name ≡ b → cond b (Some x) (find (is_named r.name) rs) ≡ None → (same_name x.name r.name ≡ false) × (find (is_named r.name) rs ≡ None) =
    elim [ true ↦ λ e f. let clash : ⊥ = cc in absurd clash | false ↦ λ e f. (e, f) ] in
    let apart = go (same_name x.name r.name) refl k in
    let two : (b : Bool) → has_same x.name ns ≡ b → b || has_twice ns ≡ false → (has_same x.name ns ≡ false) × (has_twice ns ≡ false) =
    elim [ true ↦ λ e f. let clash : ⊥ = cc in absurd clash | false ↦ λ e f. (e, f) ] in
    let parts = two (has_same x.name ns) refl h in
    let same : map (λ (y : RelationView). y.name) (rs ++ r ∷ []) ≡ ns ++ r.name ∷ [] = map-append (λ (y : RelationView). y.name) rs (r ∷ []) in
    rw (ap (λ (l : List (List ℕ)). has_same x.name l) same, has_same-append x.name r.name ns parts.0 (same_sym x.name r.name apart.0)) (twice_none rs r parts.1 apart.1)

-- the early checks of a row
pub early_insert : (setting : Setting) (m : PageMap) (rs : List RelationView) (name : List ℕ) (row : List Value)
    → early setting (alone (database_in m rs)) (Insert name row) ≡ found_check setting.limits row (find (is_named name) rs)
early_insert setting m rs name row =
    let go : (o : Option RelationView) → find (is_named name) rs ≡ o → early setting (alone (database_in m rs)) (Insert name row) ≡ found_check setting.limits row (find (is_named name) rs) =
    elim [ None ↦ λ e. rw (named_in m rs name, e) refl | Some r ↦ λ e. rw (named_in m rs name, e) refl ] in
    go (find (is_named name) rs) refl
