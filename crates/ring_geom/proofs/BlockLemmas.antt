-- The squares of a block's children are the quarters of its square, so the leaves of a quadtree tile the square of its root.
use Rattle.std.proofs.Common.{◌≡◌, ◌⊎◌, inl, inr, ℕ, zero, suc, ◌<◌, ◌||◌, List, [], ◌∷◌, ◌++◌, refl, ap, ap₂, sym, ◌∙◌, subst, lit<, lit≤, arith}
use Rattle.std.specs.Prelude.{◌↔◌, IsTrue, Decides, map}
use Rattle.std.proofs.lemmas.Bool.{ltb-true, eqb-true, eq-eqb}
use Rattle.std.proofs.lemmas.Bool.Decides.{same_from_decides, Decides-or, Decides-like}
use Rattle.sand_base.specs.Plane.{IsRectInClosedPlane, IsShapeInClosedPlane}
use Rattle.sand_base.specs.declared.TheConstants.{COORDINATE_BITS}
use Rattle.sand_base.specs.declared.goal.Goal.{Goal}
use Rattle.sand_base.specs.declared.goal.Goal.TheVariants as goal
use Rattle.sand_base.specs.declared.point.Point.{Point}
use Rattle.sand_base.specs.declared.rect.Rect.{Rect}
use Rattle.sand_base.specs.declared.shape.Shape.{Shape}
use Rattle.z_code.specs.Block.{IsBlock, child, corner_of, square_of}
use Rattle.z_code.specs.Code.{even_bits}
use Rattle.z_code.specs.declared.block.Block.{Block}
use Rattle.z_code.proofs.Blocks.{square_in_closed_plane}
use Rattle.z_code.proofs.Children.{quarter, child_block}
use Rattle.sand_model.specs.FigureGap.{IsMeeting}
use Rattle.sand_model.specs.Measure.{Measure, IsMeasure, meets}
use Rattle.sand_model.specs.Rings.{SomeOf, EachOf}
use Rattle.sand_model.specs.Tree.{Tree, Leaf, Inner, IsShallow, leaves, root_block}
use Rattle.plane_geom.specs.Rectangles.{IsCovered}
use Rattle.ring_geom.specs.Bounding.{IsPartOf, whole_square}
use Rattle.ring_geom.specs.Quarters.{low_low, high_low, low_high, high_high, MeetsAQuarter, Tiles}
use Rattle.ring_geom.proofs.QuarterLemmas.{meets_a_quarter, low_low_part, high_low_part, low_high_part, high_high_part, tiles_whole, tiles_quarters}
use Rattle.ring_geom.proofs.Zero.{meets_of_zero, zero_of_meets}

-- rectangles with equal bounds are one
pub same_rect : (r t : Rect) → r.low.x ≡ t.low.x → r.low.y ≡ t.low.y → r.high.x ≡ t.high.x → r.high.y ≡ t.high.y → r ≡ t
same_rect r t lx ly hx hy =
    ap₂ (λ (p : Point) (q : Point). record { low = p; high = q }) (same_point r.low t.low lx ly) (same_point r.high t.high hx hy)
  where
    same_point : (p q : Point) → p.x ≡ q.x → p.y ≡ q.y → p ≡ q
    same_point p q x y = ap₂ (λ (s : ℕ) (t : ℕ). record { x = s; y = t }) x y

-- a part stays one under another name
at : (b : Block) (q r : Rect) → q ≡ r → IsPartOf q (square_of b) → IsPartOf r (square_of b)
at b q r e p = subst (λ (t : Rect). IsPartOf t (square_of b)) e p

-- what is mapped over two lists in a row is mapped over each
map_append : {A B : Type 0} (f : A → B) (xs ys : List A) → map f (xs ++ ys) ≡ map f xs ++ map f ys
map_append f [] ys = refl
map_append f (x ∷ xs) ys = ap (λ t. f x ∷ t) (map_append f xs ys)

module _ (b : Block) (h : IsBlock b) (above : b.level < COORDINATE_BITS) where
  -- where the four children meet
  abbrev pub centre : Point
  centre = corner_of (child b 3)

  pub centre_covered : IsCovered centre (square_of b)
  centre_covered = let q = quarter b h above 3 (omega arith) in record {
    left = omega (arith, q.x, q.half);
    right = omega (arith, q.x, q.half);
    bottom = omega (arith, q.y, q.half);
    top = omega (arith, q.y, q.half);
  }

  -- the children's squares, in their order
  pub child_0 : low_low (square_of b) centre ≡ square_of (child b 0)
  child_0 = let q = quarter b h above 3 (omega arith) in let p = quarter b h above 0 (omega arith) in
      same_rect (low_low (square_of b) centre) (square_of (child b 0)) (omega (arith, p.x)) (omega (arith, p.y)) (omega (arith, p.x, q.x)) (omega (arith, p.y, q.y))

  pub child_1 : high_low (square_of b) centre ≡ square_of (child b 1)
  child_1 = let q = quarter b h above 3 (omega arith) in let p = quarter b h above 1 (omega arith) in
      same_rect (high_low (square_of b) centre) (square_of (child b 1)) (omega (arith, p.x, q.x)) (omega (arith, p.y)) (omega (arith, p.x, p.half)) (omega (arith, p.y, q.y))

  pub child_2 : low_high (square_of b) centre ≡ square_of (child b 2)
  child_2 = let q = quarter b h above 3 (omega arith) in let p = quarter b h above 2 (omega arith) in
      same_rect (low_high (square_of b) centre) (square_of (child b 2)) (omega (arith, p.x)) (omega (arith, p.y, q.y)) (omega (arith, p.x, q.x)) (omega (arith, p.y, p.half))

  pub child_3 : high_high (square_of b) centre ≡ square_of (child b 3)
  child_3 = let p = quarter b h above 3 (omega arith) in
      same_rect (high_high (square_of b) centre) (square_of (child b 3)) refl refl (omega (arith, p.x, p.half)) (omega (arith, p.y, p.half))

  -- a figure meets the square of a block where it meets that of a child
  pub meets_a_child : (a : Goal) → IsMeeting a (goal.Rect (square_of b))
      ↔ (IsMeeting a (goal.Rect (square_of (child b 0))) ⊎ (IsMeeting a (goal.Rect (square_of (child b 1)))
      ⊎ (IsMeeting a (goal.Rect (square_of (child b 2))) ⊎ IsMeeting a (goal.Rect (square_of (child b 3))))))
  meets_a_child a = (λ m. to_child ((meets_a_quarter a (square_of b) centre centre_covered).0 m), λ k. (meets_a_quarter a (square_of b) centre centre_covered).1 (from_child k))
    where
      at : (q r : Rect) → q ≡ r → IsMeeting a (goal.Rect q) → IsMeeting a (goal.Rect r)
      at q r e m = subst (λ (t : Rect). IsMeeting a (goal.Rect t)) e m

      to_child : MeetsAQuarter a (square_of b) centre
          → IsMeeting a (goal.Rect (square_of (child b 0))) ⊎ (IsMeeting a (goal.Rect (square_of (child b 1)))
          ⊎ (IsMeeting a (goal.Rect (square_of (child b 2))) ⊎ IsMeeting a (goal.Rect (square_of (child b 3)))))
      to_child m =
          elim m [
            | inl k ↦ inl (at _ _ child_0 k)
            | inr m ↦ inr (elim m [
              | inl k ↦ inl (at _ _ child_1 k)
              | inr m ↦ inr (elim m [
                | inl k ↦ inl (at _ _ child_2 k)
                | inr m ↦ inr (elim m [ inl k ↦ at _ _ child_3 k | inr none ↦ absurd none ])
              ])
            ])
          ]

      from_child : IsMeeting a (goal.Rect (square_of (child b 0))) ⊎ (IsMeeting a (goal.Rect (square_of (child b 1)))
          ⊎ (IsMeeting a (goal.Rect (square_of (child b 2))) ⊎ IsMeeting a (goal.Rect (square_of (child b 3)))))
          → MeetsAQuarter a (square_of b) centre
      from_child m =
          elim m [
            | inl k ↦ inl (at _ _ (sym child_0) k)
            | inr m ↦ inr (elim m [
              | inl k ↦ inl (at _ _ (sym child_1) k)
              | inr m ↦ inr (elim m [
                | inl k ↦ inl (at _ _ (sym child_2) k)
                | inr k ↦ inr (inl (at _ _ (sym child_3) k))
              ])
            ])
          ]

-- a child's square is a part
pub child_part : (b : Block) → IsBlock b → b.level < COORDINATE_BITS → (number : ℕ) → number < 4 → IsPartOf (square_of (child b number)) (square_of b)
child_part b h above zero small = at b _ _ (child_0 b h above) (low_low_part (square_of b) (centre b h above) (centre_covered b h above))
child_part b h above (suc zero) small = at b _ _ (child_1 b h above) (high_low_part (square_of b) (centre b h above) (centre_covered b h above))
child_part b h above (suc (suc zero)) small = at b _ _ (child_2 b h above) (low_high_part (square_of b) (centre b h above) (centre_covered b h above))
child_part b h above (suc (suc (suc zero))) small = at b _ _ (child_3 b h above) (high_high_part (square_of b) (centre b h above) (centre_covered b h above))
child_part b h above (suc (suc (suc (suc n)))) small = absurd (omega arith)

-- the square of the root is the whole square
pub root_square : square_of root_block ≡ whole_square
unfolding even_bits
root_square = refl

-- the root is a block
pub root_is_block : IsBlock root_block
root_is_block = record { in_tree = lit≤ tt; in_plane = lit< tt; aligned = refl }

-- the squares of the leaves under a block tile its square
pub leaves_tile : (b : Block) (tree : Tree) → IsBlock b → IsShallow b tree → Tiles (square_of b) (map (λ leaf. square_of leaf.0) (leaves b tree))
leaves_tile b (Leaf ids) h shallow = tiles_whole (square_of b)
leaves_tile b (Inner p q r s) h shallow =
    let above = ltb-true b.level COORDINATE_BITS shallow.0 in
    subst (λ (rs : List Rect). Tiles (square_of b) rs) (sym (four _ (leaves (child b 0) p) (leaves (child b 1) q) (leaves (child b 2) r) (leaves (child b 3) s)))
    (tiles_quarters (square_of b) (centre b h above) _ _ _ _ (centre_covered b h above)
    (over _ _ _ (child_0 b h above) (leaves_tile (child b 0) p (child_block b h above 0 (omega arith)) shallow.1.0))
    (over _ _ _ (child_1 b h above) (leaves_tile (child b 1) q (child_block b h above 1 (omega arith)) shallow.1.1.0))
    (over _ _ _ (child_2 b h above) (leaves_tile (child b 2) r (child_block b h above 2 (omega arith)) shallow.1.1.1.0))
    (over _ _ _ (child_3 b h above) (leaves_tile (child b 3) s (child_block b h above 3 (omega arith)) shallow.1.1.1.1)))
  where
    over : (q r : Rect) (rs : List Rect) → q ≡ r → Tiles r rs → Tiles q rs
    over q r rs e t = subst (λ (u : Rect). Tiles u rs) (sym e) t

    four : {A B : Type 0} (f : A → B) (ls ms ns os : List A) → map f (ls ++ (ms ++ (ns ++ os))) ≡ map f ls ++ (map f ms ++ (map f ns ++ map f os))
    four f ls ms ns os = map_append f ls (ms ++ (ns ++ os)) ∙ ap (λ t. map f ls ++ t) (map_append f ms (ns ++ os) ∙ ap (λ t. map f ms ++ t) (map_append f ns os))

-- some term of a mapped list
pub some_unmapped : {A B : Type 0} (P : B → Type 0) (f : A → B) (xs : List A) → SomeOf P (map f xs) → SomeOf (λ x. P (f x)) xs
some_unmapped P f [] h = h
some_unmapped P f (x ∷ xs) h = elim h [ inl p ↦ inl p | inr more ↦ inr (some_unmapped P f xs more) ]

-- the shape meets the square of the block, as a test
module _ (gap : Measure) (m : IsMeasure gap) where
  pub meets_is_meeting : (s : Shape) (r : Rect) → IsShapeInClosedPlane s → IsRectInClosedPlane r → IsTrue (meets gap s r) ↔ IsMeeting (goal.Shape s) (goal.Rect r)
  meets_is_meeting s r hs hr = let f = gap (goal.Shape s) (goal.Rect r) in let g = m (goal.Shape s) (goal.Rect r) hs hr in (
    λ t. meets_of_zero (goal.Shape s) (goal.Rect r) f.num f.den f.positive (eqb-true f.num 0 t) g,
    λ k. eq-eqb f.num 0 (zero_of_meets (goal.Shape s) (goal.Rect r) f.num f.den k g),
  )

  pub meets_children : (s : Shape) (b : Block) → IsShapeInClosedPlane s → IsBlock b → b.level < COORDINATE_BITS
      → meets gap s (square_of b)
      ≡ (meets gap s (square_of (child b 0)) || (meets gap s (square_of (child b 1))
      || (meets gap s (square_of (child b 2)) || meets gap s (square_of (child b 3)))))
  meets_children s b hs h above =
      same_from_decides (meets gap s (square_of b)) _ (here b h)
      (Decides-like _ (meets_a_child b h above (goal.Shape s)).1 (meets_a_child b h above (goal.Shape s)).0
      (Decides-or _ _ (there 0 (omega arith)) (Decides-or _ _ (there 1 (omega arith)) (Decides-or _ _ (there 2 (omega arith)) (there 3 (omega arith))))))
    where
      here : (c : Block) → IsBlock c → Decides (meets gap s (square_of c)) (IsMeeting (goal.Shape s) (goal.Rect (square_of c)))
      here c k = meets_is_meeting s (square_of c) hs (square_in_closed_plane c k)

      there : (number : ℕ) → number < 4 → Decides (meets gap s (square_of (child b number))) (IsMeeting (goal.Shape s) (goal.Rect (square_of (child b number))))
      there number small = here (child b number) (child_block b h above number small)

-- each leaf of a tree has a block
pub leaf_blocks : (b : Block) (tree : Tree) → IsBlock b → IsShallow b tree → EachOf (λ leaf. IsBlock leaf.0) (leaves b tree)
leaf_blocks b (Leaf ids) h shallow = (h, tt)
leaf_blocks b (Inner p q r s) h shallow =
    let above = ltb-true b.level COORDINATE_BITS shallow.0 in
    each_both _ _ _ (leaf_blocks (child b 0) p (child_block b h above 0 (omega arith)) shallow.1.0)
    (each_both _ _ _ (leaf_blocks (child b 1) q (child_block b h above 1 (omega arith)) shallow.1.1.0)
    (each_both _ _ _ (leaf_blocks (child b 2) r (child_block b h above 2 (omega arith)) shallow.1.1.1.0)
    (leaf_blocks (child b 3) s (child_block b h above 3 (omega arith)) shallow.1.1.1.1)))
  where
    each_both : (P : Block × List ℕ → Type 0) (xs ys : List (Block × List ℕ)) → EachOf P xs → EachOf P ys → EachOf P (xs ++ ys)
    each_both P [] ys h k = k
    each_both P (x ∷ xs) ys h k = (h.0, each_both P xs ys h.1 k)

-- what some term has, where each has something else
pub some_with_each : {A : Type 0} {P Q R : A → Type 0} → ((x : A) → P x → Q x → R x) → (xs : List A) → EachOf P xs → SomeOf Q xs → SomeOf R xs
some_with_each f [] h k = absurd k
some_with_each f (x ∷ xs) h k = elim k [ inl q ↦ inl (f x h.0 q) | inr more ↦ inr (some_with_each f xs h.1 more) ]
