-- A tree that fits its rows has no fewer listings once it has grown.
use Rattle.std.proofs.Common.{◌≡◌, ℕ, suc, ◌+◌, ◌<◌, ◌≤◌, Bool, true, false, cond, ◌&&◌, ◌||◌, List, [], ◌∷◌, length, refl, sym, ◌∙◌, subst, arith}
use Rattle.std.specs.Prelude.{filter, nat_lt, max}
use Rattle.std.proofs.lemmas.Bool.{false≢true}
use Rattle.std.proofs.lemmas.Bool.Decides.{nat_tests}
use Rattle.sand_base.specs.declared.TheConstants.{COORDINATE_BITS}
use Rattle.sand_base.specs.declared.shape.Shape.{Shape}
use Rattle.ring_geom.specs.MeasureLaws.{ChildrenMeet}
use Rattle.z_code.specs.Block.{IsBlock, child}
use Rattle.z_code.specs.declared.block.Block.{Block}
use Rattle.sand_model.specs.Measure.{Measure, IsMeasure}
use Rattle.sand_model.specs.Database.{meets_block, tree_with}
use Rattle.sand_model.specs.Tree.{Tree, Leaf, Inner, root_block, add, split, settled, grown, listings, Fits, IsShallow}
use Rattle.pmr_tree.specs.Changes.{Quarters}
use Rattle.pmr_tree.specs.Laws.{AreInPlane, GrownFits}
use Rattle.pmr_tree.specs.Lists.{Each, RiseStrictly}
use Rattle.pmr_tree.proofs.AscendingLists.{holds, fails, below, same, above, test, order, add_before, add_after, add_here, each_add, each_map, rises_add}
use Rattle.pmr_tree.proofs.Quarter.{child_block}
use Rattle.pmr_tree.proofs.ShapeLaws.{rows_quarters, is_root, shallow_grown}
use Rattle.sand_store.specs.Building.{rows_entered}

-- a test of what meets
abbrev Met : Type 0
Met = Block → ℕ → Bool

-- one number before a filtered list

longer : (f : ℕ → Bool) (x : ℕ) (xs : List ℕ) → length (filter f xs) ≤ length (filter f (x ∷ xs))
longer f x xs = elim (test (f x)) [ holds h ↦ rw h (omega arith) | fails h ↦ rw h (omega arith) ]

one_longer : (f : ℕ → Bool) (x : ℕ) (xs : List ℕ) → f x ≡ true → length (filter f (x ∷ xs)) ≡ suc (length (filter f xs))
one_longer f x xs h = rw h refl

-- numbers of which each passes one of four tests are no more than those that pass each of them
counted_by_four : (a b c d : ℕ → Bool) (xs : List ℕ) → Each (λ x. (a x || (b x || (c x || d x))) ≡ true) xs
    → length xs ≤ length (filter a xs) + (length (filter b xs) + (length (filter c xs) + length (filter d xs)))
counted_by_four a b c d [] h = omega arith
counted_by_four a b c d (x ∷ xs) h =
    let rest = counted_by_four a b c d xs h.1 in
    elim (test (a x)) [
      | holds p ↦ omega (arith, rest, one_longer a x xs p, longer b x xs, longer c x xs, longer d x xs)
      | fails p ↦ elim (test (b x)) [
        | holds q ↦ omega (arith, rest, longer a x xs, one_longer b x xs q, longer c x xs, longer d x xs)
        | fails q ↦ elim (test (c x)) [
          | holds r ↦ omega (arith, rest, longer a x xs, longer b x xs, one_longer c x xs r, longer d x xs)
          | fails r ↦ omega (arith, rest, longer a x xs, longer b x xs, longer c x xs, one_longer d x xs (last x p q r h.0))
        ]
      ]
    ]
  where
    last : (y : ℕ) → a y ≡ false → b y ≡ false → c y ≡ false → (a y || (b y || (c y || d y))) ≡ true → d y ≡ true
    last y p q r h = (let e : (a y || (b y || (c y || d y))) ≡ d y = rw (p, q, r) refl in sym e ∙ h)

add_longer : (x : ℕ) (ys : List ℕ) → length ys ≤ length (add x ys)
add_longer x [] = omega arith
add_longer x (y ∷ ys) =
    elim (order x y) [
      | below l ↦ rw (add_before x y ys l) (omega arith)
      | same e ↦ subst (λ k. length (y ∷ ys) ≤ length (add k (y ∷ ys))) (sym e) (rw (add_here y ys) (omega arith))
      | above l ↦ rw (add_after x y ys l) (omega (arith, add_longer x ys))
    ]

-- what meets a square meets one of its quarters
met_quarter : (m : Met) → Quarters m → (b : Block) → IsBlock b → b.level < COORDINATE_BITS → (x : ℕ) → m b x ≡ true
    → (m (child b 0) x || (m (child b 1) x || (m (child b 2) x || m (child b 3) x))) ≡ true
met_quarter m q b block up x h = sym (q b x block up) ∙ h

-- a leaf that splits has no fewer listings
split_listings : (m : Met) → Quarters m → (b : Block) → IsBlock b → b.level < COORDINATE_BITS → (ids : List ℕ) → Each (λ x. m b x ≡ true) ids
    → max 1 (length ids) ≤ listings (split m b ids)
split_listings m q b block up ids h =
    let met = each_map (λ x. m b x ≡ true) (λ x. (m (child b 0) x || (m (child b 1) x || (m (child b 2) x || m (child b 3) x))) ≡ true) (met_quarter m q b block up) ids h in
    omega (arith, counted_by_four (m (child b 0)) (m (child b 1)) (m (child b 2)) (m (child b 3)) ids met)

less : (x y : ℕ) → nat_lt x y ≡ true → x < y
less x y h = grind (arith, nat_tests)

and_true : (a b : Bool) → (a && b) ≡ true → b ≡ true
and_true true b h = h
and_true false b h = absurd (false≢true h)

settled_listings : (m : Met) → Quarters m → (n : ℕ) (b : Block) → IsBlock b → (ids : List ℕ) → Each (λ x. m b x ≡ true) ids → max 1 (length ids) ≤ listings (settled m n b ids)
settled_listings m q n b block ids h =
    elim (test (nat_lt n (length ids) && nat_lt b.level COORDINATE_BITS)) [
      | holds t ↦ rw t (split_listings m q b block (less b.level COORDINATE_BITS (and_true (nat_lt n (length ids)) (nat_lt b.level COORDINATE_BITS) t)) ids h)
      | fails t ↦ rw t (omega arith)
    ]

passing : (f : ℕ → Bool) (xs : List ℕ) → Each (λ x. f x ≡ true) (filter f xs)
passing f [] = tt
passing f (x ∷ xs) =
    let go : (b : Bool) → f x ≡ b → Each (λ y. f y ≡ true) (cond b (x ∷ filter f xs) (filter f xs)) = elim [ true ↦ λ e. (e, passing f xs) | false ↦ λ e. passing f xs ] in
    go (f x) refl

-- the tree of a block
pub grown_listings : (m : Met) → Quarters m → (n id : ℕ) (rows : List ℕ) (b : Block) (t : Tree) → IsBlock b → IsShallow b t → Fits m rows b t → listings t ≤ listings (grown m n id b t)
grown_listings m q n id rows b (Leaf ids) block shallow fit =
    elim (test (m b id)) [
      | holds h ↦
          (let met : Each (λ x. m b x ≡ true) ids = subst (λ xs. Each (λ x. m b x ≡ true) xs) (sym fit) (passing (m b) rows) in
          rw h (omega (arith, add_longer id ids, settled_listings m q n b block (add id ids) (each_add (λ x. m b x ≡ true) id ids h met))))
      | fails h ↦ rw h (omega arith)
    ]
grown_listings m q n id rows b (Inner p r s t) block shallow fit =
    let up = less b.level COORDINATE_BITS shallow.0 in
    omega (
      arith,
      grown_listings m q n id rows (child b 0) p (child_block b block up 0 (omega arith)) shallow.1.0 fit.0,
      grown_listings m q n id rows (child b 1) r (child_block b block up 1 (omega arith)) shallow.1.1.0 fit.1.0,
      grown_listings m q n id rows (child b 2) s (child_block b block up 2 (omega arith)) shallow.1.1.1.0 fit.1.1.0,
      grown_listings m q n id rows (child b 3) t (child_block b block up 3 (omega arith)) shallow.1.1.1.1 fit.1.1.1,
    )

-- a quadtree that fits ascending ids of rows has no fewer listings with a row more
pub listings_rise : ChildrenMeet → (gap : Measure) → IsMeasure gap → (shapes : List (ℕ × Shape)) (ids : List ℕ) (threshold id : ℕ) (tree : Tree) → AreInPlane shapes
    → IsShallow root_block tree → Fits (meets_block gap shapes) ids root_block tree → listings tree ≤ listings (tree_with gap shapes threshold id tree)
listings_rise children gap measure shapes ids threshold id tree plane shallow fit =
    grown_listings (meets_block gap shapes) (rows_quarters children gap measure shapes plane) threshold id ids root_block tree is_root shallow fit

-- nor with all rows that are still to be entered
pub entered_listings : ChildrenMeet → GrownFits → (gap : Measure) → IsMeasure gap → (shapes : List (ℕ × Shape)) (done more : List ℕ) (threshold : ℕ) (tree : Tree) → AreInPlane shapes
    → RiseStrictly done → IsShallow root_block tree → Fits (meets_block gap shapes) done root_block tree → listings tree ≤ listings (rows_entered gap shapes threshold more tree)
entered_listings children law gap measure shapes done [] threshold tree plane rise shallow fit = omega arith
entered_listings children law gap measure shapes done (id ∷ more) threshold tree plane rise shallow fit =
    let next : Tree = tree_with gap shapes threshold id tree in
    omega (
      arith,
      listings_rise children gap measure shapes done threshold id tree plane shallow fit,
      entered_listings children law gap measure shapes (add id done) more threshold next plane (rises_add id done rise)
          (shallow_grown (meets_block gap shapes) threshold id root_block tree shallow) (law gap measure shapes done threshold id tree plane rise shallow fit),
    )
