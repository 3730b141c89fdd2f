-- The R-tree of a column is one of those that the relation has.
use Rattle.std.proofs.Common.{◌≡◌, ℕ, true, false, cond, Bool, nat_eq, List, [], ◌∷◌, refl, sym, ◌∙◌, ap, subst, Option, Some, None, All, inl, inr, true≢false}
use Rattle.std.specs.Prelude.{is_some, IfSome}
use Rattle.std.specs.List.{find, list_any}
use Rattle.std.specs.Option.{option_map}
use Rattle.std.proofs.lemmas.Bool.Decides.{eqb_tells}
use Rattle.std.proofs.lemmas.List.Elements.{All-head, All-tail}
use Rattle.r_tree.specs.declared.tree.RTree.{RTree}
use Rattle.page_pool.specs.Disk.{PageMap}
use Rattle.r_tree.specs.Listing.{ListsRows}
use Rattle.sand_base.specs.declared.limits.Limits.{Limits}
use Rattle.sand_model.specs.Database.{Rectangles, shapes_of}
use Rattle.sand_store.specs.Catalog.{RelationView}
use Rattle.sand_store.specs.Contents.{rows_in, rectangles_of}
use Rattle.sand_store.specs.Paths.{rtree_at}
use Rattle.sand_store.specs.Standing.{TreeStands, RelationStands}
use Rattle.sand_store.proofs.RowLists.{Rows}
use Rattle.sand_store.proofs.ColumnsOfShapes.{some_same}
use Rattle.sand_store.proofs.TreeSteps.{Trees}

-- what holds of each R-tree with its column holds of that of a column
pub at_tree : (P : ℕ × RTree → Type 0) (ts : Trees) (column : ℕ) (a : RTree) → All P ts → rtree_at ts column ≡ Some a → P (column, a)
at_tree P [] column a h e = absurd (true≢false (sym (ap (λ (o : Option RTree). is_some o) e)))
at_tree P (t ∷ ts) column a h e = elim (eqb_tells t.0 column) [
  | inl y ↦
      let here : option_map (λ (q : ℕ × RTree). q.1) (cond true (Some t) (find (λ q. nat_eq q.0 column) ts)) ≡ Some a =
      ap (λ (b : Bool). option_map (λ (q : ℕ × RTree). q.1) (cond b (Some t) (find (λ q. nat_eq q.0 column) ts))) (sym y.0) ∙ e in
      let Q : ℕ → Type 0 = λ n. P (n, a) in
      let R : RTree → Type 0 = λ u. P (t.0, u) in
      subst Q y.1 (subst R (some_same t.1 a here) (All-head P t ts h))
  | inr y ↦
      let rest : option_map (λ (q : ℕ × RTree). q.1) (cond false (Some t) (find (λ q. nat_eq q.0 column) ts)) ≡ Some a =
      ap (λ (b : Bool). option_map (λ (q : ℕ × RTree). q.1) (cond b (Some t) (find (λ q. nat_eq q.0 column) ts))) (sym y.0) ∙ e in
      at_tree P ts column a (All-tail P t ts h) rest
]

-- a column has an R-tree of the model where it has one of the catalog
pub any_found : (rows : Rows) (at : ℕ) (ts : Trees) → list_any (λ (t : Rectangles). nat_eq t.0 at) (rectangles_of rows ts) ≡ is_some (find (λ (t : ℕ × RTree). nat_eq t.0 at) ts)
any_found rows at [] = refl
any_found rows at (t ∷ ts) =
    let rest = any_found rows at ts in
    let go : (b : Bool) → nat_eq t.0 at ≡ b → list_any (λ (x : Rectangles). nat_eq x.0 at) (rectangles_of rows (t ∷ ts)) ≡ is_some (find (λ (x : ℕ × RTree). nat_eq x.0 at) (t ∷ ts)) =
    elim [ true ↦ λ e. rw e refl | false ↦ λ e. rw e rest ] in
    go (nat_eq t.0 at) refl

some_mapped : (o : Option (ℕ × RTree)) → is_some (option_map (λ (t : ℕ × RTree). t.1) o) ≡ is_some o
some_mapped None = refl
some_mapped (Some t) = refl

pub tree_there : (rows : Rows) (at : ℕ) (ts : Trees) → is_some (rtree_at ts at) ≡ list_any (λ (t : Rectangles). nat_eq t.0 at) (rectangles_of rows ts)
tree_there rows at ts = some_mapped (find (λ (t : ℕ × RTree). nat_eq t.0 at) ts) ∙ sym (any_found rows at ts)

-- what the R-tree of a column lists
pub tree_listed : (r : RelationView) (column : ℕ) (o : Option RTree) → o ≡ rtree_at r.trees column
    → IfSome o (λ tree. (pages : PageMap) (limits : Limits) → RelationStands pages limits r → ListsRows pages tree (shapes_of column (rows_in pages r)))
tree_listed r column None e = tt
tree_listed r column (Some tree) e = λ pages limits h. at_tree (TreeStands pages (rows_in pages r)) r.trees column tree h.trees (sym e)
