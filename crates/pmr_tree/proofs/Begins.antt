-- Growth at a leaf that alone has the shape in its square is growth from the root.
use Rattle.std.proofs.Common.{◌≡◌, ◌≢◌, ℕ, suc, ◌+◌, ◌*◌, ◌-◌, ◌<◌, ◌≤◌, ◌↔◌, ◌&&◌, Bool, true, false, List, [], ◌∷◌, ◌++◌, refl, sym, ◌∙◌, ap, inl, inr, subst, arith}
use Rattle.std.specs.Prelude.{Contains, IsTrue, nat_lt}
use Rattle.std.proofs.lemmas.Bool.{false≢true, cases_lt}
use Rattle.std.proofs.lemmas.Bool.Decides.{nat_tests}
use Rattle.std.proofs.lemmas.Nat.{pow_pos}
use Rattle.std.proofs.Math.Nat.{mul-le-mul_right}
use Rattle.sand_base.specs.Grid.{IsInPlane}
use Rattle.sand_base.specs.Plane.{IsShapeInPlane}
use Rattle.sand_base.specs.declared.TheConstants.{COORDINATE_BITS}
use Rattle.sand_base.specs.declared.goal.Goal.TheVariants as figure
use Rattle.sand_base.specs.declared.point.Point.{Point}
use Rattle.sand_base.specs.declared.shape.Shape.{Shape}
use Rattle.sand_base.specs.declared.shape.Shape.TheVariants as shape
use Rattle.z_code.specs.Block.{IsBlock, HasCode, HasPoint, child, code_count, side_length, square_of}
use Rattle.z_code.specs.Code.{code_of}
use Rattle.z_code.specs.declared.block.Block.{Block}
use Rattle.z_code.proofs.Blocks.{HasCode-from_point, HasPoint-from_code}
use Rattle.sand_model.specs.FigureGap.{IsMeeting}
use Rattle.sand_model.specs.Tree.{Tree, Leaf, Inner, places, root_block}
use Rattle.ring_geom.specs.Bounding.{Overlap}
use Rattle.ring_geom.specs.Laws.{HoldersMeet}
use Rattle.ring_geom.proofs.Overlaps.{rejected}
use Rattle.pmr_tree.specs.Lists.{Each, RiseStrictly}
use Rattle.pmr_tree.specs.Keys.{IsShaped, ReadsKeys, own}
use Rattle.pmr_tree.specs.Plot.{TellsOf}
use Rattle.pmr_tree.specs.Changes.{KeysStand, Becomes, grown_where, below_grown}
use Rattle.pmr_tree.specs.Starts.{has_inside, IsLeafIn, IsPointInside, MayBeginAt, AreApart, MeetsAlone, HasLeaf}
use Rattle.pmr_tree.proofs.AscendingLists.{each_map, each_append}
use Rattle.pmr_tree.proofs.KeyLists.{Parts, reads_children, own_inner}
use Rattle.pmr_tree.proofs.LeafSteps.{becomes_unmet, becomes_grown_inner}
use Rattle.pmr_tree.proofs.Places.{each_has}
use Rattle.pmr_tree.proofs.Quarter.{quarter_count, child_block}
use Rattle.pmr_tree.proofs.ShapeLaws.{is_root, shape_in_closed, some_same}
use Rattle.pmr_tree.proofs.Grown.{first_shape}
use Rattle.pmr_tree.proofs.Steps.{stands_sibling, becomes_four}

-- a place that is a leaf is one in its tree
abbrev At : Block → Tree → Block × Tree → Type 0
At b t (l, Leaf ids) = IsLeafIn b t l
At b t (l, Inner p q r s) = Unit {0}

first_at : (b : Block) (p q r s : Tree) (y : Block × Tree) → At (child b 0) p y → At b (Inner p q r s) y
first_at b p q r s (l, Leaf ids) h = inl h
first_at b p q r s (l, Inner a c d e) h = tt

second_at : (b : Block) (p q r s : Tree) (y : Block × Tree) → At (child b 1) q y → At b (Inner p q r s) y
second_at b p q r s (l, Leaf ids) h = inr (inl h)
second_at b p q r s (l, Inner a c d e) h = tt

third_at : (b : Block) (p q r s : Tree) (y : Block × Tree) → At (child b 2) r y → At b (Inner p q r s) y
third_at b p q r s (l, Leaf ids) h = inr (inr (inl h))
third_at b p q r s (l, Inner a c d e) h = tt

fourth_at : (b : Block) (p q r s : Tree) (y : Block × Tree) → At (child b 3) s y → At b (Inner p q r s) y
fourth_at b p q r s (l, Leaf ids) h = inr (inr (inr h))
fourth_at b p q r s (l, Inner a c d e) h = tt

each_at : (b : Block) (t : Tree) → Each (At b t) (places b t)
each_at b (Leaf ids) = (refl, tt)
each_at b (Inner p q r s) =
    let P : Block × Tree → Type 0 = At b (Inner p q r s) in (
      tt,
      each_append P (places (child b 0) p) (places (child b 1) q ++ (places (child b 2) r ++ places (child b 3) s))
          (each_map (At (child b 0) p) P (first_at b p q r s) (places (child b 0) p) (each_at (child b 0) p))
          (each_append P (places (child b 1) q) (places (child b 2) r ++ places (child b 3) s)
          (each_map (At (child b 1) q) P (second_at b p q r s) (places (child b 1) q) (each_at (child b 1) q))
          (each_append P (places (child b 2) r) (places (child b 3) s)
          (each_map (At (child b 2) r) P (third_at b p q r s) (places (child b 2) r) (each_at (child b 2) r))
          (each_map (At (child b 3) s) P (fourth_at b p q r s) (places (child b 3) s) (each_at (child b 3) s)))),
    )

pub leaf_in : (b : Block) (t : Tree) (l : Block) (ids : List ℕ) → Contains (places b t) (l, Leaf ids) → IsLeafIn b t l
leaf_in b t l ids c = each_has (At b t) (places b t) (l, Leaf ids) (each_at b t) c

-- the codes of a child are codes of its block, and of no other child
code_up : (b : Block) → b.level < COORDINATE_BITS → (i : ℕ) → i < 4 → (z : ℕ) → HasCode (child b i) z → HasCode b z
code_up b up i small z h =
    let c = code_count (b.level + 1) in
    let before : i * c ≤ 3 * c = mul-le-mul_right c (omega arith) in
    let four = quarter_count b.level up in
    record { from_first = omega (arith, h.from_first); below_next = omega (arith, h.below_next, before, four) }

code_before : (b : Block) (i j : ℕ) → i < j → (z : ℕ) → HasCode (child b i) z → HasCode (child b j) z → ⊥
code_before b i j l z h k =
    let c = code_count (b.level + 1) in
    let next : suc i * c ≤ j * c = mul-le-mul_right c l in
    omega (arith, next, h.below_next, k.from_first)

code_apart : (b : Block) (i j : ℕ) → i ≢ j → (z : ℕ) → HasCode (child b i) z → HasCode (child b j) z → ⊥
code_apart b i j differ z h k =
    elim (cases_lt i j) [ inl l ↦ code_before b i j l z h k | inr l ↦ (let less : j < i = omega arith in code_before b j i less z k h) ]

-- the codes of a leaf are codes of the block of its tree
pub codes_in : (b : Block) (t : Tree) → IsShaped b t → (l : Block) → IsLeafIn b t l → (z : ℕ) → HasCode l z → HasCode b z
codes_in b (Leaf ids) sh l at z h = subst (λ x. HasCode x z) at h
codes_in b (Inner p q r s) sh l (inl a) z h = code_up b sh.0 0 (omega arith) z (codes_in (child b 0) p sh.1.0 l a z h)
codes_in b (Inner p q r s) sh l (inr (inl a)) z h = code_up b sh.0 1 (omega arith) z (codes_in (child b 1) q sh.1.1.0 l a z h)
codes_in b (Inner p q r s) sh l (inr (inr (inl a))) z h = code_up b sh.0 2 (omega arith) z (codes_in (child b 2) r sh.1.1.1.0 l a z h)
codes_in b (Inner p q r s) sh l (inr (inr (inr a))) z h = code_up b sh.0 3 (omega arith) z (codes_in (child b 3) s sh.1.1.1.1 l a z h)

-- a block beside the child of a leaf has no code of it
pub apart_child : (b : Block) (i j : ℕ) → i ≢ j → (t : Tree) → IsShaped (child b i) t → (l : Block) → IsLeafIn (child b i) t l → AreApart (child b j) l
apart_child b i j differ t sh l at z h k = code_apart b i j differ z (codes_in (child b i) t sh l at z k) h

-- the leaf stands for itself
pub stands_at : (ks : List ℕ) → RiseStrictly ks → (b : Block) (t : Tree) → ReadsKeys b ks t → (l : Block) → IsLeafIn b t l → KeysStand l ks
stands_at ks rise b (Leaf ids) reads l at = record { rises = rise; tree = Leaf ids; reads = subst (λ x. ReadsKeys x ks (Leaf ids)) (sym at) reads }
stands_at ks rise b (Inner p q r s) reads l at =
    let parts = reads_children b ks p q r s reads in
    elim at [
      | inl a ↦ stands_at ks rise (child b 0) p parts.first l a
      | inr k ↦ elim k [
        | inl a ↦ stands_at ks rise (child b 1) q parts.second l a
        | inr n ↦ elim n [ inl a ↦ stands_at ks rise (child b 2) r parts.third l a | inr a ↦ stands_at ks rise (child b 3) s parts.fourth l a ]
      ]
    ]

-- an inner place whose four children grow one after another
four_grown : (m : Block → ℕ → Bool) (n id : ℕ) (b : Block) (k0 k1 k2 k3 k4 : List ℕ) → KeysStand b k0 → own b k0 ≡ [] → m b id ≡ true
    → Becomes (child b 0) (grown_where m n id (child b 0)) k0 k1
    → Becomes (child b 1) (grown_where m n id (child b 1)) k1 k2
    → Becomes (child b 2) (grown_where m n id (child b 2)) k2 k3
    → Becomes (child b 3) (grown_where m n id (child b 3)) k3 k4
    → Becomes b (grown_where m n id b) k0 k4
four_grown m n id b k0 k1 k2 k3 k4 stands none met g0 g1 g2 g3 =
    becomes_grown_inner m n id b k0 k4 none met
    (becomes_four b (grown_where m n id (child b 0)) (grown_where m n id (child b 1)) (grown_where m n id (child b 2)) (grown_where m n id (child b 3)) k0 k1 k2 k3 k4
    (below_grown m n id b) (λ p q r s. refl) stands none g0 g1 g2 g3)

-- what has grown at a leaf has grown from the block of its tree
grown_up : (m : Block → ℕ → Bool) (n id : ℕ) (l : Block) → MeetsAlone m id l → (old new : List ℕ) → RiseStrictly old → Becomes l (grown_where m n id l) old new
    → (b : Block) (t : Tree) → IsBlock b → ReadsKeys b old t → IsLeafIn b t l → Becomes b (grown_where m n id b) old new
grown_up m n id l h old new rise begun b (Leaf ids) block reads at = subst (λ x. Becomes x (grown_where m n id x) old new) at begun
grown_up m n id l h old new rise begun b (Inner p q r s) block reads at =
    elim at [
      | inl a ↦
          let one = grown_up m n id l h old new rise begun (child b 0) p (kid 0 (omega arith)) parts.first a in
          let u : (j : ℕ) → 0 ≢ j → j < 4 → m (child b j) id ≡ false = λ j differ small. beside 0 j differ small p parts.first.shaped a in
          let f = grown_where m n id (child b 0) in
          four_grown m n id b old new new new new stands none met one
          (after 0 1 (omega arith) f one q parts.second (u 1 (omega arith) (omega arith)))
          (after 0 2 (omega arith) f one r parts.third (u 2 (omega arith) (omega arith)))
          (after 0 3 (omega arith) f one s parts.fourth (u 3 (omega arith) (omega arith)))
      | inr k ↦ elim k [
        | inl a ↦
            let one = grown_up m n id l h old new rise begun (child b 1) q (kid 1 (omega arith)) parts.second a in
            let u : (j : ℕ) → 1 ≢ j → j < 4 → m (child b j) id ≡ false = λ j differ small. beside 1 j differ small q parts.second.shaped a in
            let f = grown_where m n id (child b 1) in
            four_grown m n id b old old new new new stands none met
            (before 0 p parts.first (u 0 (omega arith) (omega arith))) one
            (after 1 2 (omega arith) f one r parts.third (u 2 (omega arith) (omega arith)))
            (after 1 3 (omega arith) f one s parts.fourth (u 3 (omega arith) (omega arith)))
        | inr e ↦ elim e [
          | inl a ↦
              let one = grown_up m n id l h old new rise begun (child b 2) r (kid 2 (omega arith)) parts.third a in
              let u : (j : ℕ) → 2 ≢ j → j < 4 → m (child b j) id ≡ false = λ j differ small. beside 2 j differ small r parts.third.shaped a in
              let f = grown_where m n id (child b 2) in
              four_grown m n id b old old old new new stands none met
              (before 0 p parts.first (u 0 (omega arith) (omega arith))) (before 1 q parts.second (u 1 (omega arith) (omega arith))) one
              (after 2 3 (omega arith) f one s parts.fourth (u 3 (omega arith) (omega arith)))
          | inr a ↦
              let one = grown_up m n id l h old new rise begun (child b 3) s (kid 3 (omega arith)) parts.fourth a in
              let u : (j : ℕ) → 3 ≢ j → j < 4 → m (child b j) id ≡ false = λ j differ small. beside 3 j differ small s parts.fourth.shaped a in
              four_grown m n id b old old old old new stands none met
              (before 0 p parts.first (u 0 (omega arith) (omega arith))) (before 1 q parts.second (u 1 (omega arith) (omega arith))) (before 2 r parts.third (u 2 (omega arith) (omega arith))) one
        ]
      ]
    ]
  where
    parts : Parts b old p q r s
    parts = reads_children b old p q r s reads

    stands : KeysStand b old
    stands = record { rises = rise; tree = Inner p q r s; reads = reads }

    none : own b old ≡ []
    none = own_inner b old p q r s reads

    met : m b id ≡ true
    met = h.met b block (codes_in b (Inner p q r s) reads.shaped l at)

    kid : (i : ℕ) → i < 4 → IsBlock (child b i)
    kid i small = child_block b block reads.shaped.0 i small

    -- a child beside that of the leaf
    beside : (i j : ℕ) → i ≢ j → j < 4 → (t : Tree) → IsShaped (child b i) t → IsLeafIn (child b i) t l → m (child b j) id ≡ false
    beside i j differ small t sh a = h.alone (child b j) (kid j small) (apart_child b i j differ t sh l a)

    -- it stays as it is, before and after
    before : (j : ℕ) (t : Tree) → ReadsKeys (child b j) old t → m (child b j) id ≡ false → Becomes (child b j) (grown_where m n id (child b j)) old old
    before j t r unmet = becomes_unmet m n id (child b j) old (record { rises = rise; tree = t; reads = r }) unmet

    after : (i j : ℕ) → i ≢ j → (f : Tree → Tree) → Becomes (child b i) f old new → (t : Tree) → ReadsKeys (child b j) old t → m (child b j) id ≡ false
        → Becomes (child b j) (grown_where m n id (child b j)) new new
    after i j differ f change t r unmet = becomes_unmet m n id (child b j) new (stands_sibling b i j differ f old new change (record { rises = rise; tree = t; reads = r })) unmet

-- what the test of a point inside a square tells
record Inside (b : Block) (p : Point) : Type 0 where
  low_x : (square_of b).low.x < p.x
  high_x : p.x < (square_of b).high.x
  low_y : (square_of b).low.y < p.y
  high_y : p.y < (square_of b).high.y

inside : (b : Block) (p : Point) → has_inside b p ≡ true → Inside b p
inside b p h = (let f = four (square_of b).low.x (square_of b).high.x p.x (square_of b).low.y (square_of b).high.y p.y h in
    record { low_x = f.0; high_x = f.1.0; low_y = f.1.1.0; high_y = f.1.1.1 }) where
      four : (lx hx x ly hy y : ℕ) → (((nat_lt lx x && nat_lt x hx) && nat_lt ly y) && nat_lt y hy) ≡ true → (lx < x) × ((x < hx) × ((ly < y) × (y < hy)))
      four lx hx x ly hy y t = (grind (arith, nat_tests), (grind (arith, nat_tests), (grind (arith, nat_tests), grind (arith, nat_tests))))

-- a coordinate inside one range, and in another or at its end: it or the one before is in both
record Both (low high x first side : ℕ) : Type 0 where
  at : ℕ
  low_at : low ≤ at
  at_high : at < high
  first_at : first ≤ at
  at_end : at < first + side

both : (low high x first side : ℕ) → low < x → x < high → first ≤ x → x ≤ first + side → 1 ≤ side → Both low high x first side
both low high x first side a b c d some =
    elim (cases_lt x (first + side)) [
      | inl l ↦ record { at = x; low_at = omega (arith, a); at_high = b; first_at = c; at_end = l }
      | inr l ↦ record { at = x - 1; low_at = omega (arith, a); at_high = omega (arith, b); first_at = omega (arith, a, some, l, d); at_end = omega (arith, a, d) }
    ]

-- a block whose closed square has the point has a code in common with one that has it inside
shared_code : (l c : Block) (p : Point) → IsBlock l → IsBlock c → Inside l p → Overlap (record { low = p; high = p }) (square_of c) → (z : ℕ) × (HasCode c z × HasCode l z)
shared_code l c p hl hc i o =
    let side = side_length c.level in
    let some : 1 ≤ side = pow_pos (COORDINATE_BITS - c.level) in
    let x = both (square_of l).low.x (square_of l).high.x p.x (square_of c).low.x side i.low_x i.high_x o.right o.left some in
    let y = both (square_of l).low.y (square_of l).high.y p.y (square_of c).low.y side i.low_y i.high_y o.above o.below some in
    let q : Point = record { x = x.at; y = y.at } in
    let in_c : HasPoint c q = record { from_x = x.first_at; below_x = x.at_end; from_y = y.first_at; below_y = y.at_end } in
    let in_l : HasPoint l q = record { from_x = x.low_at; below_x = x.at_high; from_y = y.low_at; below_y = y.at_high } in
    (code_of q, (HasCode-from_point c hc q in_c, HasCode-from_point l hl q in_l))

-- a point inside the square of a block meets it, and no block apart from it
abbrev TellsPoint : (Block → ℕ → Bool) → ℕ → Point → Type 0
TellsPoint m id p = (b : Block) → IsBlock b → IsTrue (m b id) ↔ IsMeeting (figure.Shape (shape.Point p)) (figure.Rect (square_of b))

point_alone : HoldersMeet → (m : Block → ℕ → Bool) (id : ℕ) (p : Point) → IsInPlane p → (l : Block) → IsBlock l → has_inside l p ≡ true → TellsPoint m id p → MeetsAlone m id l
point_alone holder m id p plane l hl t tells = record { met = met; alone = λ c hc apart. unmet c hc apart (m c id) refl } where
  i : Inside l p
  i = inside l p t

  met : (c : Block) → IsBlock c → ((z : ℕ) → HasCode l z → HasCode c z) → m c id ≡ true
  met c hc within =
      let in_l : HasPoint l p = record { from_x = omega (arith, i.low_x); below_x = i.high_x; from_y = omega (arith, i.low_y); below_y = i.high_y } in
      let in_c = HasPoint-from_code c hc p plane (within (code_of p) (HasCode-from_point l hl p in_l)) in
      (tells c hc).1 (holder (shape.Point p) (square_of c) (shape_in_closed (shape.Point p) plane)
      (record { left = in_c.from_x; right = omega (arith, in_c.below_x); bottom = in_c.from_y; top = omega (arith, in_c.below_y) }, tt))

  unmet : (c : Block) → IsBlock c → AreApart c l → (v : Bool) → m c id ≡ v → m c id ≡ false
  unmet c hc apart false e = e
  unmet c hc apart true e =
      let none : Overlap (record { low = p; high = p }) (square_of c) → IsTrue false = λ o. (let z = shared_code l c p hl hc i o in absurd (apart z.0 z.1.0 z.1.1)) in
      let far = rejected (shape.Point p) (record { low = p; high = p }) (square_of c) false (omega arith) (omega arith)
      (record { left = omega arith; right = omega arith; bottom = omega arith; top = omega arith }, tt) refl none in
      absurd (false≢true (far.1 ((tells c hc).0 e)))

-- a function that tells of rows tells of the shape of the first one
first_tells : (rows : List (ℕ × Shape)) (id : ℕ) (s : Shape) (m : Block → ℕ → Bool) (has : ℕ → Bool) → TellsOf ((id, s) ∷ rows) m has → has id ≡ true
    → (b : Block) → IsBlock b → IsTrue (m b id) ↔ IsMeeting (figure.Shape s) (figure.Rect (square_of b))
first_tells rows id s m has tells one =
    let told = tells id one in
    let same : told.0 ≡ s = some_same told.0 s (sym told.1.0 ∙ first_shape id s rows) in
    subst (λ x. (b : Block) → IsBlock b → IsTrue (m b id) ↔ IsMeeting (figure.Shape x) (figure.Rect (square_of b))) same told.1.1

inside_alone : HoldersMeet → (m : Block → ℕ → Bool) (id : ℕ) (s : Shape) → IsShapeInPlane s → (l : Block) → IsBlock l → IsPointInside s l
    → ((b : Block) → IsBlock b → IsTrue (m b id) ↔ IsMeeting (figure.Shape s) (figure.Rect (square_of b))) → MeetsAlone m id l
inside_alone holder m id (shape.Point p) plane l hl t tells = point_alone holder m id p plane l hl t tells
inside_alone holder m id (shape.Segment e) plane l hl t tells = absurd t
inside_alone holder m id (shape.Polygon corners) plane l hl t tells = absurd t

-- the keys stand at the block where a change begins
pub start_stands : (ks : List ℕ) (s : Shape) (t : Tree) (start : Block) → RiseStrictly ks → ReadsKeys root_block ks t → MayBeginAt s t start → KeysStand start ks
start_stands ks s t start rise reads (inl e) = subst (λ x. KeysStand x ks) (sym e) (record { rises = rise; tree = t; reads = reads })
start_stands ks s t start rise reads (inr h) = stands_at ks rise root_block t reads start h.1

-- what has grown there has grown from the root
pub grown_from_root : HoldersMeet → (rows : List (ℕ × Shape)) (id : ℕ) (s : Shape) (m : Block → ℕ → Bool) (has : ℕ → Bool) → IsShapeInPlane s → TellsOf ((id, s) ∷ rows) m has → has id ≡ true
    → (n : ℕ) (old new : List ℕ) (t : Tree) (start : Block) → RiseStrictly old → ReadsKeys root_block old t → IsBlock start → MayBeginAt s t start
    → Becomes start (grown_where m n id start) old new → Becomes root_block (grown_where m n id root_block) old new
grown_from_root holder rows id s m has plane tells one n old new t start rise reads block (inl e) becomes = subst (λ x. Becomes x (grown_where m n id x) old new) e becomes
grown_from_root holder rows id s m has plane tells one n old new t start rise reads block (inr h) becomes =
    grown_up m n id start (inside_alone holder m id s plane start block h.0 (first_tells rows id s m has tells one)) old new rise becomes root_block t is_root reads h.1

-- a block above the one where a change begins has it as a leaf, which alone has the shape
pub start_place : (ks : List ℕ) (s : Shape) (t : Tree) (start b : Block) → b ≡ root_block → RiseStrictly ks → ReadsKeys root_block ks t → MayBeginAt s t start
    → b.level < start.level → HasLeaf start b ks
start_place ks s t start b is rise reads (inl e) lower = absurd (omega (arith, lower, ap (λ x. x.level) e, ap (λ x. x.level) is))
start_place ks s t start b is rise reads (inr h) lower = subst (λ x. HasLeaf start x ks) (sym is) (record { rises = rise; tree = t; reads = reads; at = h.1 })

pub start_alone : HoldersMeet → (rows : List (ℕ × Shape)) (id : ℕ) (s : Shape) (m : Block → ℕ → Bool) (has : ℕ → Bool) → IsShapeInPlane s → TellsOf ((id, s) ∷ rows) m has → has id ≡ true
    → (t : Tree) (start b : Block) → b ≡ root_block → IsBlock start → MayBeginAt s t start → b.level < start.level → MeetsAlone m id start
start_alone holder rows id s m has plane tells one t start b is block (inl e) lower = absurd (omega (arith, lower, ap (λ x. x.level) e, ap (λ x. x.level) is))
start_alone holder rows id s m has plane tells one t start b is block (inr h) lower = inside_alone holder m id s plane start block h.0 (first_tells rows id s m has tells one)
