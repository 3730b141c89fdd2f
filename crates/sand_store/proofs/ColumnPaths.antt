-- What a relation tells of a column: its place, and the access path that it has.
use Rattle.std.proofs.Common.{◌≡◌, ℕ, suc, ◌+◌, Bool, true, false, not, cond, ltb, nat_eq, List, [], ◌∷◌, length, Option, Some, None, refl, sym, ◌∙◌, ap, ap₂, subst, arith, inl, inr, All, true≢false}
use Rattle.std.specs.Prelude.{is_some}
use Rattle.std.specs.List.{find, position, position_or_len}
use Rattle.std.specs.Option.{option_map}
use Rattle.std.proofs.lemmas.Bool.Decides.{eqb_tells, leb_tells}
use Rattle.std.proofs.lemmas.List.Elements.{All-head, All-tail}
use Rattle.code_btree.proofs.Orders.{lt_is, lt_not}
use Rattle.page_pool.specs.Disk.{PageMap}
use Rattle.sand_base.specs.declared.kind.Kind.{Kind}
use Rattle.sand_base.specs.Shape.{is_spatial}
use Rattle.sand_model.specs.Database.{Index, same_name, column_named, index_at}
use Rattle.pmr_tree.specs.declared.quadtree.Pmr.{Pmr}
use Rattle.attr_index.specs.declared.index.AttrIndex.{AttrIndex}
use Rattle.sand_store.specs.declared.path.AccessPath.{AccessPath}
use Rattle.sand_store.specs.declared.path.AccessPath.TheVariants.{Quadtree, Attribute}
use Rattle.sand_store.specs.Catalog.{RelationView, IsColumnAt, IsPathOf}
use Rattle.sand_store.specs.Contents.{index_in, indexes_in, relation_in, rows_in}
use Rattle.sand_store.specs.Paths.{path_at, tree_in_path, attribute_in_path, IsTreeOf, IsAttributeOf, HasNoIndex}
use Rattle.sand_store.specs.Standing.{PathStands}
use Rattle.sand_store.proofs.ColumnsOfShapes.{some_same}

abbrev Columns : Type 0
Columns = List (List ℕ × Kind)

abbrev Paths : Type 0
Paths = List (ℕ × AccessPath)

-- the place of the first column of a name, counted from a number on
abbrev counted : List ℕ → ℕ → Columns → Option ℕ
counted name at [] = None
counted name at (c ∷ cs) = cond (same_name c.0 name) (Some at) (counted name (at + 1) cs)

abbrev pub is_of : List ℕ → List ℕ × Kind → Bool
is_of name c = same_name c.0 name

both_less : (a b : ℕ) → ltb (suc a) (suc b) ≡ ltb a b
both_less a b = elim (leb_tells (suc a) b) [
  | inl y ↦ lt_is (suc a) (suc b) (omega (arith, y.1)) ∙ sym (lt_is a b (omega (arith, y.1)))
  | inr y ↦ lt_not (suc a) (suc b) (omega (arith, y.1)) ∙ sym (lt_not a b (omega (arith, y.1)))
]

counted_at : (name : List ℕ) (at : ℕ) (cs : Columns)
    → cond (ltb (position_or_len (is_of name) cs) (length cs)) (Some (at + position_or_len (is_of name) cs)) None ≡ counted name at cs
counted_at name at [] = refl
counted_at name at (c ∷ cs) =
    let first : ℕ = position_or_len (is_of name) cs in
    let go : (b : Bool) → cond (ltb (cond (not b) (1 + first) 0) (length (c ∷ cs))) (Some (at + cond (not b) (1 + first) 0)) None ≡ cond b (Some at) (counted name (at + 1) cs) =
    elim [
      | true ↦
          let sum : at + 0 ≡ at = omega arith in
          let less : ltb 0 (suc (length cs)) ≡ true = lt_is 0 (suc (length cs)) (omega arith) in
          ap₂ (λ (b : Bool) (n : ℕ). cond b (Some n) None) less sum
      | false ↦
          let one : 1 + first ≡ suc first = omega arith in
          let less : ltb (suc first) (suc (length cs)) ≡ ltb first (length cs) = both_less first (length cs) in
          let sum : at + suc first ≡ (at + 1) + first = omega arith in
          ap (λ (n : ℕ). cond (ltb n (suc (length cs))) (Some (at + n)) None) one
          ∙ (ap₂ (λ (b : Bool) (n : ℕ). cond b (Some n) None) less sum ∙ counted_at name (at + 1) cs)
    ] in
    go (same_name c.0 name)

-- a search by the name gives the place
pub column_place : (schema : Columns) (name : List ℕ) → position (is_of name) schema ≡ column_named schema name
column_place schema name =
    let n : ℕ = position_or_len (is_of name) schema in
    let same : n ≡ 0 + n = omega arith in
    ap (λ (k : ℕ). cond (ltb n (length schema)) (Some k) None) same ∙ counted_at name 0 schema

-- the index of a column is that of its access path
index_of_path : (m : PageMap) (ps : Paths) (column : ℕ)
    → option_map (λ (i : ℕ × Index). i.1) (find (λ i. nat_eq i.0 column) (indexes_in m ps)) ≡ option_map (index_in m) (path_at ps column)
index_of_path m [] column = refl
index_of_path m (p ∷ ps) column =
    let go : (b : Bool) → option_map (λ (i : ℕ × Index). i.1) (cond b (Some (p.0, index_in m p.1)) (find (λ i. nat_eq i.0 column) (indexes_in m ps)))
    ≡ option_map (index_in m) (option_map (λ (q : ℕ × AccessPath). q.1) (cond b (Some p) (find (λ q. nat_eq q.0 column) ps))) =
    elim [ true ↦ refl | false ↦ index_of_path m ps column ] in
    go (nat_eq p.0 column)

pub index_at_path : (m : PageMap) (r : RelationView) (column : ℕ) → index_at (relation_in m r) column ≡ option_map (index_in m) (path_at r.paths column)
index_at_path m r column = index_of_path m r.paths column

-- what holds of all access paths holds of that of a column
pub at_path : (P : ℕ × AccessPath → Type 0) (ps : Paths) (column : ℕ) (a : AccessPath) → All P ps → path_at ps column ≡ Some a → P (column, a)
at_path P [] column a h e = absurd (true≢false (sym (ap (λ (o : Option AccessPath). is_some o) e)))
at_path P (p ∷ ps) column a h e =
    let go : (b : Bool) → nat_eq p.0 column ≡ b → option_map (λ (q : ℕ × AccessPath). q.1) (cond b (Some p) (find (λ q. nat_eq q.0 column) ps)) ≡ Some a → P (column, a) =
    elim [
      | true ↦ λ t k. elim (eqb_tells p.0 column) [
        | inl y ↦
            let here : P (p.0, p.1) = All-head P p ps h in
            let Q : AccessPath → Type 0 = λ x. P (p.0, x) in
            let R : ℕ → Type 0 = λ n. P (n, a) in
            subst R y.1 (subst Q (some_same p.1 a k) here)
        | inr y ↦ absurd (true≢false (sym t ∙ y.0))
      ]
      | false ↦ λ t k. at_path P ps column a (All-tail P p ps h) k
    ] in
    go (nat_eq p.0 column) refl e

-- the quadtree and the attribute index of a column

in_tree : (o : Option AccessPath) (t : Pmr) → tree_in_path o ≡ Some t → o ≡ Some (Quadtree t)
in_tree None t e = absurd (true≢false (sym (ap (λ (o : Option Pmr). is_some o) e)))
in_tree (Some (Quadtree u)) t e = ap (λ (x : Pmr). Some (Quadtree x)) (some_same u t e)
in_tree (Some (Attribute x)) t e = absurd (true≢false (sym (ap (λ (o : Option Pmr). is_some o) e)))

in_attribute : (o : Option AccessPath) (x : AttrIndex) → attribute_in_path o ≡ Some x → o ≡ Some (Attribute x)
in_attribute None x e = absurd (true≢false (sym (ap (λ (o : Option AttrIndex). is_some o) e)))
in_attribute (Some (Quadtree t)) x e = absurd (true≢false (sym (ap (λ (o : Option AttrIndex). is_some o) e)))
in_attribute (Some (Attribute y)) x e = ap (λ (z : AttrIndex). Some (Attribute z)) (some_same y x e)

pub tree_of_column : (r : RelationView) (column : ℕ) (t : Pmr) → tree_in_path (path_at r.paths column) ≡ Some t → IsTreeOf r column t
tree_of_column r column t e =
    let p : path_at r.paths column ≡ Some (Quadtree t) = in_tree (path_at r.paths column) t e in
    record {
      index = λ pages. index_at_path pages r column ∙ ap (λ (o : Option AccessPath). option_map (index_in pages) o) p;
      fits = λ pages limits h. at_path (PathStands pages limits r.schema (rows_in pages r)) r.paths column (Quadtree t) h.paths p;
    }

pub attribute_of_column : (r : RelationView) (column : ℕ) (x : AttrIndex) → attribute_in_path (path_at r.paths column) ≡ Some x → IsAttributeOf r column x
attribute_of_column r column x e =
    let p : path_at r.paths column ≡ Some (Attribute x) = in_attribute (path_at r.paths column) x e in
    record {
      index = λ pages. index_at_path pages r column ∙ ap (λ (o : Option AccessPath). option_map (index_in pages) o) p;
      holds = λ pages limits h. at_path (PathStands pages limits r.schema (rows_in pages r)) r.paths column (Attribute x) h.paths p;
    }

-- a column is of one kind
one_kind : (schema : Columns) (at : ℕ) → IsColumnAt schema at true → IsColumnAt schema at false → ⊥
one_kind schema at a b =
    let same : (a.0, a.1) ≡ (b.0, b.1) = some_same (a.0, a.1) (b.0, b.1) (sym a.2 ∙ b.2) in
    let kind : a.1 ≡ b.1 = ap (λ (c : List ℕ × Kind). c.1) same in
    true≢false (sym a.3 ∙ (ap (λ (k : Kind). is_spatial k) kind ∙ b.3))

-- where there is none of its kind, it has no index

no_path : (r : RelationView) (column : ℕ) (m : PageMap) → path_at r.paths column ≡ None → index_at (relation_in m r) column ≡ None
no_path r column m e = index_at_path m r column ∙ ap (λ (o : Option AccessPath). option_map (index_in m) o) e

pub no_tree : (r : RelationView) (column : ℕ) → tree_in_path (path_at r.paths column) ≡ None → HasNoIndex r column true
no_tree r column e limits d at m = go (path_at r.paths column) refl e where
  go : (o : Option AccessPath) → path_at r.paths column ≡ o → tree_in_path o ≡ None → index_at (relation_in m r) column ≡ None
  go None is k = no_path r column m is
  go (Some (Quadtree t)) is k = absurd (true≢false (ap (λ (o : Option Pmr). is_some o) k))
  go (Some (Attribute x)) is k = absurd (one_kind r.schema column at (at_path (IsPathOf r.schema) r.paths column (Attribute x) d.paths is))

pub no_attribute : (r : RelationView) (column : ℕ) → attribute_in_path (path_at r.paths column) ≡ None → HasNoIndex r column false
no_attribute r column e limits d at m = go (path_at r.paths column) refl e where
  go : (o : Option AccessPath) → path_at r.paths column ≡ o → attribute_in_path o ≡ None → index_at (relation_in m r) column ≡ None
  go None is k = no_path r column m is
  go (Some (Attribute x)) is k = absurd (true≢false (ap (λ (o : Option AttrIndex). is_some o) k))
  go (Some (Quadtree t)) is k = absurd (one_kind r.schema column (at_path (IsPathOf r.schema) r.paths column (Quadtree t) d.paths is) at)
