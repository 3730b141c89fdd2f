-- What shapes decide: quarters, fits and growth by rows of shapes.
use Rattle.std.proofs.Common.{◌≡◌, ℕ, zero, suc, ◌<◌, Bool, true, false, cond, ◌&&◌, ◌||◌, List, [], ◌∷◌, length, refl, sym, ◌∙◌, ap, ap₂, subst, arith}
use Rattle.std.specs.Prelude.{filter, nat_eq, nat_lt, Contains, slice_index_or, Option, None, Some}
use Rattle.std.proofs.lemmas.Bool.{false≢true}
use Rattle.std.proofs.lemmas.Bool.Decides.{nat_tests}
use Rattle.sand_base.specs.Grid.{IsInPlane, IsInClosedPlane}
use Rattle.sand_base.specs.Plane.{IsShapeInPlane, IsShapeInClosedPlane}
use Rattle.sand_base.specs.declared.TheConstants.{COORDINATE_BITS}
use Rattle.sand_base.specs.declared.point.Point.{Point}
use Rattle.sand_base.specs.declared.shape.Shape.{Shape}
use Rattle.sand_base.specs.declared.shape.Shape.TheVariants as shape
use Rattle.z_code.specs.Block.{IsBlock, child}
use Rattle.z_code.specs.declared.block.Block.{Block}
use Rattle.sand_model.specs.Measure.{Measure, IsMeasure}
use Rattle.sand_model.specs.Database.{shape_at, meets_block}
use Rattle.sand_model.specs.Tree.{Tree, Leaf, Inner, root_block, add, split, settled, grown, merged, shrunk, union_of_four, Fits, IsShallow}
use Rattle.ring_geom.specs.MeasureLaws.{ChildrenMeet}
use Rattle.pmr_tree.specs.Lists.{Each}
use Rattle.pmr_tree.specs.Laws.{AreInPlane}
use Rattle.pmr_tree.specs.Changes.{Quarters, ListsWhere}
use Rattle.pmr_tree.proofs.AscendingLists.{holds, fails, test, filter_same}

-- the plane lies in the closed plane
in_closed : (p : Point) → IsInPlane p → IsInClosedPlane p
in_closed p h = record { x = omega (arith, h.x); y = omega (arith, h.y) }

pub shape_in_closed : (s : Shape) → IsShapeInPlane s → IsShapeInClosedPlane s
shape_in_closed (shape.Point p) h = in_closed p h
shape_in_closed (shape.Segment s) h = record { a = in_closed s.a h.a; b = in_closed s.b h.b }
shape_in_closed (shape.Polygon corners) h = h

-- the shape of a row lies in the plane where all do
pub here_shape : (row : ℕ × Shape) (rows : List (ℕ × Shape)) (id : ℕ) → nat_eq row.0 id ≡ true → shape_at (row ∷ rows) id ≡ Some row.1
here_shape row rows id h = rw h refl

pub there_shape : (row : ℕ × Shape) (rows : List (ℕ × Shape)) (id : ℕ) → nat_eq row.0 id ≡ false → shape_at (row ∷ rows) id ≡ shape_at rows id
there_shape row rows id h = rw h refl

pub some_same : (x y : Shape) → Some x ≡ Some y → x ≡ y
some_same x y e = cc

none_some : (s : Shape) → None ≡ Some s → ⊥
none_some s e = cc

pub row_in_plane : (rows : List (ℕ × Shape)) (id : ℕ) (s : Shape) → AreInPlane rows → shape_at rows id ≡ Some s → IsShapeInPlane s
row_in_plane [] id s h e = absurd (none_some s e)
row_in_plane (row ∷ rows) id s h e =
    elim (test (nat_eq row.0 id)) [
      | holds t ↦ subst IsShapeInPlane (some_same row.1 s (sym (here_shape row rows id t) ∙ e)) h.0
      | fails t ↦ row_in_plane rows id s h.1 (sym (there_shape row rows id t) ∙ e)
    ]

pub is_root : IsBlock root_block
is_root = record { in_tree = omega arith; in_plane = omega arith; aligned = refl }

-- a row's shape meets a square exactly where it meets one of the four quarters
pub rows_quarters : ChildrenMeet → (gap : Measure) → IsMeasure gap → (rows : List (ℕ × Shape)) → AreInPlane rows → Quarters (meets_block gap rows)
rows_quarters laws gap measure rows plane b id block up = go (shape_at rows id) refl where
  go : (o : Option Shape) → shape_at rows id ≡ o
      → meets_block gap rows b id ≡ (meets_block gap rows (child b 0) id || (meets_block gap rows (child b 1) id || (meets_block gap rows (child b 2) id || meets_block gap rows (child b 3) id)))
  go None e = rw e refl
  go (Some s) e = rw e (laws gap measure s b (shape_in_closed s (row_in_plane rows id s plane e)) block up)

-- equal shapes meet alike
pub meets_alike : (gap : Measure) (rows others : List (ℕ × Shape)) (b : Block) (id : ℕ) → shape_at rows id ≡ shape_at others id → meets_block gap rows b id ≡ meets_block gap others b id
meets_alike gap rows others b id e = rw e refl

-- trees grow alike by functions that agree
each_all : {A : Type 0} (P : A → Type 0) → ((x : A) → P x) → (xs : List A) → Each P xs
each_all P f [] = tt
each_all P f (x ∷ xs) = (f x, each_all P f xs)

inner_same : (p q r s p' q' r' s' : Tree) → p ≡ p' → q ≡ q' → r ≡ r' → s ≡ s' → Inner p q r s ≡ Inner p' q' r' s'
inner_same p q r s p' q' r' s' a b c d = cc

filter_alike : (f h : ℕ → Bool) → ((id : ℕ) → f id ≡ h id) → (ids : List ℕ) → Leaf (filter f ids) ≡ Leaf (filter h ids)
filter_alike f h e ids = ap Leaf (filter_same f h ids (each_all (λ x. f x ≡ h x) e ids))

pub grown_alike : (f h : Block → ℕ → Bool) → ((b : Block) (id : ℕ) → f b id ≡ h b id) → (n id : ℕ) (b : Block) (t : Tree) → grown f n id b t ≡ grown h n id b t
grown_alike f h e n id b (Leaf ids) =
    let one = inner_same (Leaf (filter (f (child b 0)) (add id ids))) (Leaf (filter (f (child b 1)) (add id ids))) (Leaf (filter (f (child b 2)) (add id ids)))
    (Leaf (filter (f (child b 3)) (add id ids)))
    (Leaf (filter (h (child b 0)) (add id ids))) (Leaf (filter (h (child b 1)) (add id ids))) (Leaf (filter (h (child b 2)) (add id ids))) (Leaf (filter (h (child b 3)) (add id ids)))
    (filter_alike (f (child b 0)) (h (child b 0)) (e (child b 0)) (add id ids)) (filter_alike (f (child b 1)) (h (child b 1)) (e (child b 1)) (add id ids))
    (filter_alike (f (child b 2)) (h (child b 2)) (e (child b 2)) (add id ids)) (filter_alike (f (child b 3)) (h (child b 3)) (e (child b 3)) (add id ids)) in
    ap₂ (λ c t. cond c (cond (nat_lt n (length (add id ids)) && nat_lt b.level COORDINATE_BITS) t (Leaf (add id ids))) (Leaf ids)) (e b id) one
grown_alike f h e n id b (Inner p q r s) =
    inner_same (grown f n id (child b 0) p) (grown f n id (child b 1) q) (grown f n id (child b 2) r) (grown f n id (child b 3) s)
    (grown h n id (child b 0) p) (grown h n id (child b 1) q) (grown h n id (child b 2) r) (grown h n id (child b 3) s)
    (grown_alike f h e n id (child b 0) p) (grown_alike f h e n id (child b 1) q) (grown_alike f h e n id (child b 2) r) (grown_alike f h e n id (child b 3) s)

-- and fit alike
pub fits_alike : (f h : Block → ℕ → Bool) (ids : List ℕ) → ((b : Block) → Each (λ id. f b id ≡ h b id) ids) → (b : Block) (t : Tree) → Fits f ids b t → Fits h ids b t
fits_alike f h ids e b (Leaf listed) fit = fit ∙ filter_same (f b) (h b) ids (e b)
fits_alike f h ids e b (Inner p q r s) fit =
    (fits_alike f h ids e (child b 0) p fit.0, (fits_alike f h ids e (child b 1) q fit.1.0, (fits_alike f h ids e (child b 2) r fit.1.1.0, fits_alike f h ids e (child b 3) s fit.1.1.1)))

-- a tree that has grown is as shallow as it was
shallow_split : (m : Block → ℕ → Bool) (n : ℕ) (b : Block) (ids : List ℕ) → IsShallow b (settled m n b ids)
shallow_split m n b ids =
    let go : (c d : Bool) → nat_lt b.level COORDINATE_BITS ≡ d → IsShallow b (cond (c && d) (split m b ids) (Leaf ids)) =
    elim [ true ↦ elim [ true ↦ λ e. (e, (tt, (tt, (tt, tt)))) | false ↦ λ e. tt ] | false ↦ λ d e. tt ] in
    go (nat_lt n (length ids)) (nat_lt b.level COORDINATE_BITS) refl

pub shallow_grown : (m : Block → ℕ → Bool) (n id : ℕ) (b : Block) (t : Tree) → IsShallow b t → IsShallow b (grown m n id b t)
shallow_grown m n id b (Leaf ids) h = elim (m b id) as (λ c. IsShallow b (cond c (settled m n b (add id ids)) (Leaf ids))) [ true ↦ shallow_split m n b (add id ids) | false ↦ tt ]
shallow_grown m n id b (Inner p q r s) h =
    (h.0, (shallow_grown m n id (child b 0) p h.1.0, (shallow_grown m n id (child b 1) q h.1.1.0, (shallow_grown m n id (child b 2) r h.1.1.1.0, shallow_grown m n id (child b 3) s h.1.1.1.1))))

shallow_merged : (n : ℕ) (b : Block) (p q r s : Tree) → IsShallow b (Inner p q r s) → IsShallow b (merged n p q r s)
shallow_merged n b (Leaf p) (Leaf q) (Leaf r) (Leaf s) h =
    elim (nat_lt (length (union_of_four p q r s)) n) as (λ c. IsShallow b (cond c (Leaf (union_of_four p q r s)) (Inner (Leaf p) (Leaf q) (Leaf r) (Leaf s)))) [ true ↦ tt | false ↦ h ]
shallow_merged n b (Inner a c d e) q r s h = h
shallow_merged n b (Leaf p) (Inner a c d e) r s h = h
shallow_merged n b (Leaf p) (Leaf q) (Inner a c d e) s h = h
shallow_merged n b (Leaf p) (Leaf q) (Leaf r) (Inner a c d e) h = h

pub shallow_shrunk : (n id : ℕ) (b : Block) (t : Tree) → IsShallow b t → IsShallow b (shrunk n id t)
shallow_shrunk n id b (Leaf ids) h = tt
shallow_shrunk n id b (Inner p q r s) h =
    shallow_merged n b (shrunk n id p) (shrunk n id q) (shrunk n id r) (shrunk n id s)
    (h.0, (shallow_shrunk n id (child b 0) p h.1.0, (shallow_shrunk n id (child b 1) q h.1.1.0, (shallow_shrunk n id (child b 2) r h.1.1.1.0, shallow_shrunk n id (child b 3) s h.1.1.1.1))))

-- what a filter lists passes it
pub each_contains : (P : ℕ → Type 0) (ids : List ℕ) (id : ℕ) → Each P ids → Contains ids id → P id
each_contains P [] id h c = absurd (omega (arith, c.1))
each_contains P (x ∷ xs) id h c = at (λ d. each_contains P xs id h.1 d) c.0 c.1 c.2 where
  at : (Contains xs id → P id) → (k : ℕ) → k < length (x ∷ xs) → slice_index_or (x ∷ xs) k id ≡ id → P id
  at next zero l e = subst P e h.0
  at next (suc k) l e = next (k, omega (arith, l), e)

all_pass : (f : ℕ → Bool) (ids : List ℕ) → Each (λ x. f x ≡ true) (filter f ids)
all_pass f [] = tt
all_pass f (x ∷ xs) =
    let go : (b : Bool) → f x ≡ b → Each (λ x. f x ≡ true) (cond b (x ∷ filter f xs) (filter f xs)) = elim [ true ↦ λ e. (e, all_pass f xs) | false ↦ λ e. all_pass f xs ] in
    go (f x) refl

pub passes_filter : (f : ℕ → Bool) (ids : List ℕ) (id : ℕ) → Contains (filter f ids) id → f id ≡ true
passes_filter f ids id c = each_contains (λ x. f x ≡ true) (filter f ids) id (all_pass f ids) c

itself : (id : ℕ) → nat_eq id id ≡ true
itself id = grind (arith, nat_tests)

-- a tree that fits rows lists an id only where its shape meets
pub fits_lists : (gap : Measure) (rows : List (ℕ × Shape)) (ids : List ℕ) (id : ℕ) (s : Shape) → shape_at rows id ≡ Some s → (b : Block) (t : Tree) → Fits (meets_block gap rows) ids b t
    → ListsWhere (meets_block gap ((id, s) ∷ [])) id b t
fits_lists gap rows ids id s e b (Leaf listed) fit = λ none c. false≢true
    (sym none ∙ meets_alike gap ((id, s) ∷ []) rows b id (alone id s ∙ sym e) ∙ passes_filter (meets_block gap rows b) ids id (subst (λ l. Contains l id) fit c))
  where
    alone : (id : ℕ) (s : Shape) → shape_at ((id, s) ∷ []) id ≡ Some s
    alone id s = rw (itself id) refl
fits_lists gap rows ids id s e b (Inner p q r t) fit = (
  fits_lists gap rows ids id s e (child b 0) p fit.0,
  (
    fits_lists gap rows ids id s e (child b 1) q fit.1.0,
    (fits_lists gap rows ids id s e (child b 2) r fit.1.1.0, fits_lists gap rows ids id s e (child b 3) t fit.1.1.1),
  ),
)
