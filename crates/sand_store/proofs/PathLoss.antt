-- An access path loses the row of an id: a quadtree, and an attribute index.
use Rattle.std.proofs.Common.{◌≡◌, ℕ, ◌+◌, ◌^◌, ◌<◌, ◌≤◌, true, false, cond, List, [], ◌∷◌, length, refl, sym, ◌∙◌, ap, ap₂, Option, None, Some, subst, arith, inl, inr, All}
use Rattle.std.specs.Prelude.{nat_lt}
use Rattle.std.proofs.lemmas.Bool.Decides.{eqb_tells}
use Rattle.std.proofs.lemmas.List.Elements.{All-head, All-tail}
use Rattle.page_pool.specs.Disk.{PageMap}
use Rattle.code_btree.specs.Tree.{times}
use Rattle.code_btree.proofs.Lists.{same_cases}
use Rattle.pmr_tree.specs.Calls.{Shrinks}
use Rattle.pmr_tree.specs.Laws.{AreInPlane, ShapesDecideFit, ShrunkFits, FittedIsListedWhereMet}
use Rattle.pmr_tree.specs.Lists.{Each}
use Rattle.pmr_tree.specs.Quadtree.{store_of, tree_at, IsListedWhereMet}
use Rattle.pmr_tree.specs.declared.quadtree.Pmr.{Pmr}
use Rattle.pmr_tree.proofs.Orders.{length_add}
use Rattle.pmr_tree.proofs.TreeAt.{shaped_shallow}
use Rattle.attr_index.specs.declared.index.AttrIndex.{AttrIndex}
use Rattle.attr_index.specs.Calls.{Dropped}
use Rattle.attr_index.specs.Entries.{Entry, entry_number, without_entry}
use Rattle.attr_index.specs.Index.{index_entries}
use Rattle.attr_index.specs.Key.{value_key}
use Rattle.sand_base.specs.declared.shape.Shape.{Shape}
use Rattle.sand_base.specs.declared.value.Value.{Value}
use Rattle.sand_model.specs.Database.{Quadtree as tree_index, element, shape_in, shapes_of, shape_at, meets_block}
use Rattle.sand_model.specs.Tree.{Tree, Leaf, Inner, root_block, Fits, union, union_of_four, without, merged, shrunk, listings}
use Rattle.tuple_file.specs.Rows.{without_id}
use Rattle.sand_store.specs.declared.path.AccessPath.TheVariants.{Quadtree, Attribute}
use Rattle.sand_store.specs.Standing.{column_entries}
use Rattle.sand_store.specs.Leaving.{Holding, CanLose, losing, PathChanged}
use Rattle.sand_store.specs.TableLaws.{shapes_plane}
use Rattle.sand_store.proofs.ColumnsOfShapes.{shape_of_row}
use Rattle.sand_store.proofs.IndexGrowth.{numbers}
use Rattle.sand_store.proofs.RowLists.{Rows, Shapes, ids_of, rises_shapes, known_id}
use Rattle.sand_store.proofs.RowsLeft.{shapes_left, ids_left, shape_was, all_left, OnlyRow, only_row, entry_gone, entry_stays, row_gone, row_stays}

-- a list without a number is no longer
length_without : (id : ℕ) (ids : List ℕ) → length (without id ids) ≤ length ids
length_without id [] = omega arith
length_without id (x ∷ ids) =
    let rest : length (without id ids) ≤ length ids = length_without id ids in
    elim (eqb_tells x id) [ inl y ↦ rw y.0 (omega (arith, rest)) | inr y ↦ rw y.0 (omega (arith, rest)) ]

length_union : (xs ys : List ℕ) → length (union xs ys) ≤ length xs + length ys
length_union [] ys = omega arith
length_union (x ∷ xs) ys = omega (arith, length_add x (union xs ys), length_union xs ys)

length_union_of_four : (p q r s : List ℕ) → length (union_of_four p q r s) ≤ length p + (length q + (length r + length s))
length_union_of_four p q r s = omega (arith, length_union p (union q (union r s)), length_union q (union r s), length_union r s)

-- a place that merged, or not, has no more listings than its children
listings_merged : (n : ℕ) (p q r s : Tree) → listings (merged n p q r s) ≤ listings (Inner p q r s)
listings_merged n (Leaf p) (Leaf q) (Leaf r) (Leaf s) =
    elim (nat_lt (length (union_of_four p q r s)) n) as
    (λ c. listings (cond c (Leaf (union_of_four p q r s)) (Inner (Leaf p) (Leaf q) (Leaf r) (Leaf s))) ≤ listings (Inner (Leaf p) (Leaf q) (Leaf r) (Leaf s))) [
      | true ↦ omega (arith, length_union_of_four p q r s)
      | false ↦ omega arith
    ]
listings_merged n (Inner a c d e) q r s = omega arith
listings_merged n (Leaf p) (Inner a c d e) r s = omega arith
listings_merged n (Leaf p) (Leaf q) (Inner a c d e) s = omega arith
listings_merged n (Leaf p) (Leaf q) (Leaf r) (Inner a c d e) = omega arith

-- so a tree that shrinks gets no more of them
pub listings_shrunk : (n id : ℕ) (t : Tree) → listings (shrunk n id t) ≤ listings t
listings_shrunk n id (Leaf ids) = omega (arith, length_without id ids)
listings_shrunk n id (Inner p q r s) =
    omega (
      arith,
      listings_merged n (shrunk n id p) (shrunk n id q) (shrunk n id r) (shrunk n id s),
      listings_shrunk n id p,
      listings_shrunk n id q,
      listings_shrunk n id r,
      listings_shrunk n id s,
    )

-- the ids of shapes are from 1 on
some_ids : (column : ℕ) (rows : Rows) → All (λ r. (1 ≤ r.0) × (r.0 < 2 ^ 32)) rows → Each (λ i. 1 ≤ i) (ids_of (shapes_of column rows))
some_ids column [] h = tt
some_ids column (r ∷ rows) h =
    let rest : Each (λ i. 1 ≤ i) (ids_of (shapes_of column rows)) = some_ids column rows (All-tail (λ (x : ℕ × List Value). (1 ≤ x.0) × (x.0 < 2 ^ 32)) r rows h) in
    let here : (1 ≤ r.0) × (r.0 < 2 ^ 32) = All-head (λ (x : ℕ × List Value). (1 ≤ x.0) × (x.0 < 2 ^ 32)) r rows h in
    let go : (o : Option Shape) → shape_in column r.1 ≡ o → Each (λ i. 1 ≤ i) (ids_of (shapes_of column (r ∷ rows))) =
    elim [ None ↦ λ n. rw n rest | Some x ↦ λ n. rw n (here.0, rest) ] in
    go (shape_in column r.1) refl

-- the row's shape is that with which a quadtree lists its id
pub listed_where_met : FittedIsListedWhereMet → (m : PageMap) (held : Holding) (id column : ℕ) (row : List Value) (t : Pmr) (s : Shape)
    → CanLose m held id row (column, Quadtree t) → shape_in column row ≡ Some s → IsListedWhereMet (tree_at m t) id s
listed_where_met law m held id column row t s h e = λ gap is.
    law gap (shapes_of column held.rows) (ids_of (shapes_of column held.rows)) id s (tree_at m t) (shape_of_row held.rows column id row s h.has.there e) (h.stands.fits.fits gap is)

-- A quadtree has lost the row.
pub tree_lost : ShrunkFits → ShapesDecideFit → (m w : PageMap) (held : Holding) (id column : ℕ) (row : List Value) (t u : Pmr)
    → CanLose m held id row (column, Quadtree t) → Shrinks m w t u id → PathChanged m w (losing held id) column (Quadtree t) (Quadtree u)
tree_lost fits decide m w held id column row t u h g =
    let old : Shapes = shapes_of column held.rows in
    let new : Shapes = shapes_of column (without_id id held.rows) in
    let left : new ≡ without_id id old = shapes_left column id held.rows in
    let plane : AreInPlane old = shapes_plane held.schema column held.rows h.has.rows in
    let ids : without id (ids_of old) ≡ ids_of new = sym (ids_left id old) ∙ ap (λ (xs : Shapes). ids_of xs) (sym left) in
    record {
      stands = record {
        split = (omega (arith, h.stands.split.0, g.stays.threshold), omega (arith, h.stands.split.1, g.stays.threshold));
        fits = record {
          tree = g.stays.is;
          fits = λ gap is.
              let tree : Tree = shrunk t.threshold id (tree_at m t) in
              let P : List ℕ → Type 0 = λ ns. Fits (meets_block gap new) ns root_block tree in
              let Q : Tree → Type 0 = λ x. Fits (meets_block gap new) (ids_of new) root_block x in
              let S : Shapes → Type 0 = λ xs. Each (λ other. shape_at old other ≡ shape_at xs other) (without id (ids_of old)) in
              let had : Fits (meets_block gap old) (without id (ids_of old)) root_block tree =
              fits gap is old (ids_of old) t.threshold id (tree_at m t) plane (rises_shapes column held.rows h.has.rise) (shaped_shallow root_block (tree_at m t) h.stands.fits.tree.shaped)
              (h.stands.fits.fits gap is) in
              subst Q (sym g.shrunk) (subst P ids (decide gap old new (without id (ids_of old)) tree (subst S (sym left) (all_left old id (ids_of old))) had));
          roughs = λ other s e.
              let E : Shapes → Type 0 = λ xs. shape_at xs other ≡ Some s in
              let was = shape_was old id other s (subst E left e) in
              g.roughs other s (known_id old other s (λ i. 1 ≤ i) (some_ids column held.rows h.has.small) was.1) (h.stands.fits.roughs other s was.1);
        };
        few = omega (arith, h.stands.few, listings_shrunk t.threshold id (tree_at m t), ap (λ (x : Tree). listings x) g.shrunk);
      };
      means = λ gap is. ap₂ (λ (n : ℕ) (x : Tree). (column, tree_index n x)) g.stays.threshold g.shrunk;
      keeps = g.stays.keeps;
    }

-- An attribute index has lost the row.
pub index_lost : (m w : PageMap) (held : Holding) (id column : ℕ) (row : List Value) (x y : AttrIndex) (v : Value) → id < 2 ^ 32 → CanLose m held id row (column, Attribute x)
    → element row column ≡ Some v → Dropped (store_of m) (store_of w) x y v id → PathChanged m w (losing held id) column (Attribute x) (Attribute y)
index_lost m w held id column row x y v l h e d =
    let e0 : Entry = (value_key v, id) in
    let es : List Entry = index_entries (store_of m) x in
    let only : OnlyRow id row held.rows = only_row id row held.rows h.has.rise h.has.there in
    record {
      stands = record {
        is = d.index;
        ints = λ k. d.ints (h.stands.ints k);
        entries = λ n.
            let now : times n (numbers (index_entries (store_of w) y)) ≡ times n (numbers (without_entry e0 es)) = ap (λ (xs : List Entry). times n (numbers xs)) d.entries in
            elim (same_cases n (entry_number e0)) [
              | inl z ↦
                  let P : ℕ → Type 0 = λ i. times i (numbers (without_entry e0 es)) ≡ times i (numbers (column_entries column (without_id id held.rows))) in
                  now ∙ subst P (sym z.1) (entry_gone e0 es ∙ sym (row_gone column (value_key v) id held.rows l h.has.small))
              | inr z ↦ now ∙ (entry_stays e0 es n z.1 ∙ (h.stands.entries n ∙ sym (row_stays column id row v held.rows n only e z.1)))
            ];
      };
      means = λ gap is. refl;
      keeps = d.keeps;
    }
