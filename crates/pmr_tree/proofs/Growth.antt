-- Growing and shrinking a tree: what fits goes on to fit, full trees stay full, and what a shape does not meet stays as it is.
use Rattle.std.proofs.Common.{◌≡◌, ◌≢◌, ℕ, suc, ◌<◌, true, false, not, List, [], ◌∷◌, length, refl, sym, ◌∙◌, ap, arith}
use Rattle.std.specs.Prelude.{nat_eq, nat_lt, Contains}
use Rattle.std.proofs.lemmas.Bool.Decides.{nat_tests}
use Rattle.sand_base.specs.declared.TheConstants.{COORDINATE_BITS}
use Rattle.z_code.specs.Block.{IsBlock, child}
use Rattle.z_code.specs.declared.block.Block.{Block}
use Rattle.sand_model.specs.Tree.{Tree, Leaf, Inner, union_of_four, without, merged, shrunk, Fits, IsShallow, HasEnough, IsFull}
use Rattle.pmr_tree.specs.Lists.{RiseStrictly}
use Rattle.pmr_tree.specs.Changes.{Quarters, shrunk_where, ListsWhere}
use Rattle.pmr_tree.proofs.AscendingLists.{holds, fails, test, filter_swap}
use Rattle.pmr_tree.proofs.AscendingLists.{rises_filter}
use Rattle.pmr_tree.proofs.Quarter.{child_block}
use Rattle.pmr_tree.proofs.GrownTrees.{Met, less_true, unmet_children, union_fits}

-- merging keeps what fits, and makes full
fits_merged : (m : Met) → Quarters m → (n : ℕ) (b : Block) → IsBlock b → b.level < COORDINATE_BITS → (rows : List ℕ) → RiseStrictly rows → (p r s t : Tree)
    → Fits m rows b (Inner p r s t) → Fits m rows b (merged n p r s t)
fits_merged m q n b block up rows rise (Leaf p) (Leaf r) (Leaf s) (Leaf t) fit =
    elim (test (nat_lt (length (union_of_four p r s t)) n)) [
      | holds h ↦ rw h (union_fits m q b block up rows p r s t rise fit)
      | fails h ↦ rw h fit
    ]
fits_merged m q n b block up rows rise (Inner p p' p'' p''') r s t fit = fit
fits_merged m q n b block up rows rise (Leaf p) (Inner r r' r'' r''') s t fit = fit
fits_merged m q n b block up rows rise (Leaf p) (Leaf r) (Inner s s' s'' s''') t fit = fit
fits_merged m q n b block up rows rise (Leaf p) (Leaf r) (Leaf s) (Inner t t' t'' t''') fit = fit

full_merged : (n : ℕ) (p r s t : Tree) → IsFull n p → IsFull n r → IsFull n s → IsFull n t → IsFull n (merged n p r s t)
full_merged n (Leaf p) (Leaf r) (Leaf s) (Leaf t) a b c d =
    elim (test (nat_lt (length (union_of_four p r s t)) n)) [
      | holds h ↦ rw h tt
      | fails h ↦ rw h (h, (tt, (tt, (tt, tt))))
    ]
full_merged n (Inner p p' p'' p''') r s t a b c d = (tt, (a, (b, (c, d))))
full_merged n (Leaf p) (Inner r r' r'' r''') s t a b c d = (tt, (a, (b, (c, d))))
full_merged n (Leaf p) (Leaf r) (Inner s s' s'' s''') t a b c d = (tt, (a, (b, (c, d))))
full_merged n (Leaf p) (Leaf r) (Leaf s) (Inner t t' t'' t''') a b c d = (tt, (a, (b, (c, d))))

-- a tree that fits some rows fits those without one row when it has shrunk by it
pub fits_shrunk : (m : Met) → Quarters m → (n id : ℕ) (rows : List ℕ) → RiseStrictly rows → (b : Block) (t : Tree) → IsBlock b → IsShallow b t → Fits m rows b t
    → Fits m (without id rows) b (shrunk n id t)
fits_shrunk m q n id rows rise b (Leaf ids) block shallow fit = ap (without id) fit ∙ filter_swap (λ k. not (nat_eq k id)) (m b) rows
fits_shrunk m q n id rows rise b (Inner p r s t) block shallow fit =
    let up = less_true b.level COORDINATE_BITS shallow.0 in
    fits_merged m q n b block up (without id rows) (rises_filter (λ k. not (nat_eq k id)) rows rise) (shrunk n id p) (shrunk n id r) (shrunk n id s) (shrunk n id t) (
      fits_shrunk m q n id rows rise (child b 0) p (child_block b block up 0 (omega arith)) shallow.1.0 fit.0,
      (
        fits_shrunk m q n id rows rise (child b 1) r (child_block b block up 1 (omega arith)) shallow.1.1.0 fit.1.0,
        (
          fits_shrunk m q n id rows rise (child b 2) s (child_block b block up 2 (omega arith)) shallow.1.1.1.0 fit.1.1.0,
          fits_shrunk m q n id rows rise (child b 3) t (child_block b block up 3 (omega arith)) shallow.1.1.1.1 fit.1.1.1,
        ),
      ),
    )

pub full_shrunk : (n id : ℕ) (t : Tree) → IsFull n (shrunk n id t)
full_shrunk n id (Leaf ids) = tt
full_shrunk n id (Inner p r s t) = full_merged n (shrunk n id p) (shrunk n id r) (shrunk n id s) (shrunk n id t) (full_shrunk n id p) (full_shrunk n id r) (full_shrunk n id s) (full_shrunk n id t)

-- a full place does not merge
pub merged_full : (n : ℕ) (p r s t : Tree) → HasEnough n p r s t → merged n p r s t ≡ Inner p r s t
merged_full n (Leaf p) (Leaf r) (Leaf s) (Leaf t) h = rw h refl
merged_full n (Inner p p' p'' p''') r s t h = refl
merged_full n (Leaf p) (Inner r r' r'' r''') s t h = refl
merged_full n (Leaf p) (Leaf r) (Inner s s' s'' s''') t h = refl
merged_full n (Leaf p) (Leaf r) (Leaf s) (Inner t t' t'' t''') h = refl

-- an id that no leaf lists changes no full tree
abbrev pub Lacks : ℕ → Tree → Type 0
Lacks id (Leaf ids) = Contains ids id → ⊥
Lacks id (Inner p q r s) = Lacks id p × (Lacks id q × (Lacks id r × Lacks id s))

without_absent : (id : ℕ) (ids : List ℕ) → (Contains ids id → ⊥) → without id ids ≡ ids
without_absent id [] h = refl
without_absent id (x ∷ xs) h =
    let differ : x ≢ id = λ e. h (Contains-here x xs id e) in
    let e : not (nat_eq x id) ≡ true = apart x id differ in
    rw e (ap (λ t. x ∷ t) (without_absent id xs (λ c. h (Contains-there x xs id c))))
  where
    apart : (x id : ℕ) → x ≢ id → not (nat_eq x id) ≡ true
    apart x id d = grind (arith, nat_tests)

    Contains-here : (x : ℕ) (xs : List ℕ) (id : ℕ) → x ≡ id → Contains (x ∷ xs) id
    Contains-here x xs id e = (0, omega arith, e)

    Contains-there : (x : ℕ) (xs : List ℕ) (id : ℕ) → Contains xs id → Contains (x ∷ xs) id
    Contains-there x xs id c = (suc c.0, omega (arith, c.1), c.2)

pub shrunk_same : (n id : ℕ) (t : Tree) → IsFull n t → Lacks id t → shrunk n id t ≡ t
shrunk_same n id (Leaf ids) full lacks = ap Leaf (without_absent id ids lacks)
shrunk_same n id (Inner p r s t) full lacks =
    let a = shrunk_same n id p full.1.0 lacks.0 in
    let b = shrunk_same n id r full.1.1.0 lacks.1.0 in
    let c = shrunk_same n id s full.1.1.1.0 lacks.1.1.0 in
    let d = shrunk_same n id t full.1.1.1.1 lacks.1.1.1 in
    rw (a, b, c, d) (merged_full n p r s t full.0)

pub lacks_outside : (m : Met) → Quarters m → (id : ℕ) (b : Block) (t : Tree) → IsBlock b → IsShallow b t → ListsWhere m id b t → m b id ≡ false → Lacks id t
lacks_outside m q id b (Leaf ids) block shallow lists h = lists h
lacks_outside m q id b (Inner p r s t) block shallow lists h =
    let up = less_true b.level COORDINATE_BITS shallow.0 in
    let none = unmet_children m q b id block up h in (
      lacks_outside m q id (child b 0) p (child_block b block up 0 (omega arith)) shallow.1.0 lists.0 none.0,
      (
        lacks_outside m q id (child b 1) r (child_block b block up 1 (omega arith)) shallow.1.1.0 lists.1.0 none.1.0,
        (
          lacks_outside m q id (child b 2) s (child_block b block up 2 (omega arith)) shallow.1.1.1.0 lists.1.1.0 none.1.1.0,
          lacks_outside m q id (child b 3) t (child_block b block up 3 (omega arith)) shallow.1.1.1.1 lists.1.1.1 none.1.1.1,
        ),
      ),
    )

-- only the children that a shape meets need be looked at
pub shrunk_where_same : (m : Met) → Quarters m → (n id : ℕ) (b : Block) (t : Tree) → IsBlock b → IsShallow b t → IsFull n t → ListsWhere m id b t
    → shrunk_where m n id b t ≡ shrunk n id t
shrunk_where_same m q n id b (Leaf ids) block shallow full lists =
    elim (test (m b id)) [ holds h ↦ rw h refl | fails h ↦ rw h (ap Leaf (sym (without_absent id ids (lists h)))) ]
shrunk_where_same m q n id b (Inner p r s t) block shallow full lists =
    let up = less_true b.level COORDINATE_BITS shallow.0 in
    elim (test (m b id)) [
      | holds h ↦
          (let a = shrunk_where_same m q n id (child b 0) p (child_block b block up 0 (omega arith)) shallow.1.0 full.1.0 lists.0 in
          let c = shrunk_where_same m q n id (child b 1) r (child_block b block up 1 (omega arith)) shallow.1.1.0 full.1.1.0 lists.1.0 in
          let d = shrunk_where_same m q n id (child b 2) s (child_block b block up 2 (omega arith)) shallow.1.1.1.0 full.1.1.1.0 lists.1.1.0 in
          let e = shrunk_where_same m q n id (child b 3) t (child_block b block up 3 (omega arith)) shallow.1.1.1.1 full.1.1.1.1 lists.1.1.1 in
          rw (h, a, c, d, e) refl)
      | fails h ↦ rw h (sym (shrunk_same n id (Inner p r s t) full (lacks_outside m q id b (Inner p r s t) block shallow lists h)))
    ]
