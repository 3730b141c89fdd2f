-- The tree of all rows, told by blocks, is the model's; it fits the rows, and no place of it would be merged.
use Rattle.std.proofs.Common.{◌≡◌, ℕ, zero, suc, ◌+◌, ◌<◌, ◌≤◌, Bool, true, false, List, [], ◌∷◌, length, map, take, refl, sym, ◌∙◌, ap, subst, arith}
use Rattle.std.specs.Prelude.{filter, nat_lt, max}
use Rattle.std.proofs.lemmas.Bool.Decides.{nat_tests}
use Rattle.sand_base.specs.declared.TheConstants.{COORDINATE_BITS}
use Rattle.sand_base.specs.declared.shape.Shape.{Shape}
use Rattle.z_code.specs.Block.{IsBlock, child}
use Rattle.z_code.specs.declared.block.Block.{Block}
use Rattle.sand_model.specs.Measure.{Measure}
use Rattle.sand_model.specs.Database.{meets_block, tree_of}
use Rattle.sand_model.specs.Tree.{Tree, Leaf, root_block, add, grown, Fits, IsShallow, IsFull}
use Rattle.pmr_tree.specs.Changes.{Quarters}
use Rattle.pmr_tree.specs.Keys.{IsId, IsShaped}
use Rattle.pmr_tree.specs.Lists.{Each, RiseStrictly}
use Rattle.pmr_tree.proofs.GrownTrees.{met_0, met_1, met_2, met_3, fits_grown, full_grown}
use Rattle.pmr_tree.proofs.AscendingLists.{filter_all, filter_weaker, rises_filter, rises_add, each_filter}
use Rattle.pmr_tree.proofs.Quarter.{child_block}
use Rattle.pmr_tree.proofs.ShapeLaws.{is_root, shallow_grown}
use Rattle.pmr_build.specs.Bulk.{grown_by, leaf_room, bulk}
use Rattle.pmr_build.proofs.Law.{rises_follow, bulk_is, bulk_leaf, bulk_inner}

-- a test of what meets
abbrev Met : Type 0
Met = Block → ℕ → Bool

-- The tree of all rows is told by blocks.

entered_by : (gap : Measure) (shapes : List (ℕ × Shape)) (n : ℕ) → tree_of gap shapes n ≡ grown_by (meets_block gap shapes) n root_block (map (λ row. row.0) shapes) (Leaf [])
entered_by gap shapes n = refl

pub rows_are : (gap : Measure) (shapes : List (ℕ × Shape)) (n levels : ℕ) → levels ≡ COORDINATE_BITS → Quarters (meets_block gap shapes) → RiseStrictly (map (λ row. row.0) shapes)
    → Each (λ id. meets_block gap shapes root_block id ≡ true) (map (λ row. row.0) shapes)
    → tree_of gap shapes n ≡ bulk (meets_block gap shapes) n levels root_block n (map (λ row. row.0) shapes)
rows_are gap shapes n levels e q rise all =
    let m : Met = meets_block gap shapes in
    let ids : List ℕ = map (λ row. row.0) shapes in
    let most : max n 0 ≡ n = omega arith in
    entered_by gap shapes n
    ∙ (bulk_is m n levels q root_block is_root (omega (arith, e)) [] ids (rises_follow [] ids tt rise)
    ∙ (ap (λ k. bulk m n levels root_block k (filter (m root_block) ids)) most
    ∙ ap (λ t. bulk m n levels root_block n t) (filter_all (m root_block) ids all)))

-- It fits the ids.

data Division (most : ℕ) (ids : List ℕ) : Type 0 where
  few : length ids ≤ most → Division most ids
  many : most < length ids → Division most ids

division : (most : ℕ) (ids : List ℕ) → Division most ids
division most ids = go (nat_lt most (length ids)) refl where
  go : (c : Bool) → nat_lt most (length ids) ≡ c → Division most ids
  go true h = many (less most (length ids) h)
    where
      less : (x y : ℕ) → nat_lt x y ≡ true → x < y
      less x y h = grind (arith, nat_tests)
  go false h = few (more most (length ids) h)
    where
      more : (x y : ℕ) → nat_lt x y ≡ false → y ≤ x
      more x y h = grind (arith, nat_tests)

-- the ids of a child are those that meet it among all
child_ids : (m : Met) (b c : Block) (rows ids : List ℕ) → ((x : ℕ) → m c x ≡ true → m b x ≡ true) → ids ≡ filter (m b) rows → filter (m c) ids ≡ filter (m c) rows
child_ids m b c rows ids narrow is = ap (filter (m c)) is ∙ filter_weaker (m b) (m c) narrow rows

pub bulk_fits : (m : Met) → Quarters m → (n : ℕ) (rows : List ℕ) (levels : ℕ) (b : Block) → IsBlock b → levels + b.level ≡ COORDINATE_BITS → (most : ℕ) (ids : List ℕ)
    → ids ≡ filter (m b) rows → Fits m rows b (bulk m n levels b most ids)
bulk_fits m q n rows zero b block e most ids is = is
bulk_fits m q n rows (suc levels) b block e most ids is =
    let F : Tree → Type 0 = λ t. Fits m rows b t in
    let up : b.level < COORDINATE_BITS = omega (arith, e) in
    elim (division most ids) [
      | few h ↦ subst F (sym (bulk_leaf m n (suc levels) b most ids h)) is
      | many h ↦ subst F (sym (bulk_inner m n levels b most ids h)) (
        bulk_fits m q n rows levels (child b 0) (child_block b block up 0 (omega arith)) (omega (arith, e)) (leaf_room m n (child b 0) (take (suc most) ids)) (filter (m (child b 0)) ids)
            (child_ids m b (child b 0) rows ids (met_0 m q b block up) is),
        (
          bulk_fits m q n rows levels (child b 1) (child_block b block up 1 (omega arith)) (omega (arith, e)) (leaf_room m n (child b 1) (take (suc most) ids)) (filter (m (child b 1)) ids)
              (child_ids m b (child b 1) rows ids (met_1 m q b block up) is),
          (
            bulk_fits m q n rows levels (child b 2) (child_block b block up 2 (omega arith)) (omega (arith, e)) (leaf_room m n (child b 2) (take (suc most) ids)) (filter (m (child b 2)) ids)
                (child_ids m b (child b 2) rows ids (met_2 m q b block up) is),
            bulk_fits m q n rows levels (child b 3) (child_block b block up 3 (omega arith)) (omega (arith, e)) (leaf_room m n (child b 3) (take (suc most) ids)) (filter (m (child b 3)) ids)
                (child_ids m b (child b 3) rows ids (met_3 m q b block up) is),
          ),
        ),
      )
    ]

-- each leaf has ids of rows in ascending order
pub bulk_shaped : (m : Met) (n levels : ℕ) (b : Block) → levels + b.level ≡ COORDINATE_BITS → (most : ℕ) (ids : List ℕ) → RiseStrictly ids → Each IsId ids → IsShaped b (bulk m n levels b most ids)
bulk_shaped m n zero b e most ids rise are = (omega (arith, e), (rise, are))
bulk_shaped m n (suc levels) b e most ids rise are =
    let F : Tree → Type 0 = λ t. IsShaped b t in
    elim (division most ids) [
      | few h ↦ subst F (sym (bulk_leaf m n (suc levels) b most ids h)) (omega (arith, e), (rise, are))
      | many h ↦ subst F (sym (bulk_inner m n levels b most ids h)) (
        omega (arith, e),
        (
          bulk_shaped m n levels (child b 0) (omega (arith, e)) (leaf_room m n (child b 0) (take (suc most) ids)) (filter (m (child b 0)) ids)
              (rises_filter (m (child b 0)) ids rise) (each_filter IsId (m (child b 0)) ids are),
          (
            bulk_shaped m n levels (child b 1) (omega (arith, e)) (leaf_room m n (child b 1) (take (suc most) ids)) (filter (m (child b 1)) ids)
                (rises_filter (m (child b 1)) ids rise) (each_filter IsId (m (child b 1)) ids are),
            (
              bulk_shaped m n levels (child b 2) (omega (arith, e)) (leaf_room m n (child b 2) (take (suc most) ids)) (filter (m (child b 2)) ids)
                  (rises_filter (m (child b 2)) ids rise) (each_filter IsId (m (child b 2)) ids are),
              bulk_shaped m n levels (child b 3) (omega (arith, e)) (leaf_room m n (child b 3) (take (suc most) ids)) (filter (m (child b 3)) ids)
                  (rises_filter (m (child b 3)) ids rise) (each_filter IsId (m (child b 3)) ids are),
            ),
          ),
        ),
      )
    ]

-- A full tree that grows by ids stays full.
pub full_by_all : (m : Met) → Quarters m → (n : ℕ) (done more : List ℕ) (t : Tree) → RiseStrictly done → IsShallow root_block t → Fits m done root_block t → IsFull n t
    → IsFull n (grown_by m n root_block more t)
full_by_all m q n done [] t rise shallow fit full = full
full_by_all m q n done (x ∷ more) t rise shallow fit full =
    full_by_all m q n (add x done) more (grown m n x root_block t) (rises_add x done rise) (shallow_grown m n x root_block t shallow)
    (fits_grown m q n x done rise root_block t is_root shallow fit) (full_grown m q n x done rise root_block t is_root shallow fit full)

pub rows_full : (gap : Measure) (shapes : List (ℕ × Shape)) (n : ℕ) → Quarters (meets_block gap shapes) → IsFull n (tree_of gap shapes n)
rows_full gap shapes n q =
    subst (IsFull n) (sym (entered_by gap shapes n)) (full_by_all (meets_block gap shapes) q n [] (map (λ row. row.0) shapes) (Leaf []) tt tt refl tt)
