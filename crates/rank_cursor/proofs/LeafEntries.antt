-- What the code finds at a place of a quadtree stands for what the ranking finds there.
use Rattle.std.proofs.Common.{◌≡◌, ℕ, ◌*◌, ◌<◌, ◌≤◌, arith, Bool, true, false, cond, not, true≢false, List, [], ◌∷◌, ◌++◌, length, take, map, filter, append-nil}
use Rattle.std.proofs.Common.{filter_map, flat_map, All, Option, None, Some, option_map, refl, sym, ap, ap₂, ◌∙◌, subst}
use Rattle.std.specs.Prelude.{nat_eq}
use Rattle.std.specs.List.{AllZip}
use Rattle.std.specs.Ordering.{is_lt}
use Rattle.std.specs.Cmp.{alike_right}
use Rattle.std.proofs.lemmas.List.{take_all}
use Rattle.std.proofs.lemmas.List.Elements.{All-head, All-tail}
use Rattle.exact_frac.specs.Frac.{value_cmp, value_cmp_total}
use Rattle.exact_frac.specs.declared.frac.Frac.{Frac}
use Rattle.sand_base.specs.Plane.{IsGoalInClosedPlane, IsShapeInPlane}
use Rattle.sand_base.specs.declared.goal.Goal.{Goal}
use Rattle.sand_base.specs.declared.goal.Goal.TheVariants as figure
use Rattle.sand_base.specs.declared.rect.Rect.{Rect}
use Rattle.sand_base.specs.declared.rough.Rough.{Rough}
use Rattle.sand_base.specs.declared.rough.Rough.TheVariants as rough
use Rattle.sand_base.specs.declared.shape.Shape.{Shape}
use Rattle.sand_base.specs.declared.shape.Shape.TheVariants as shape
use Rattle.z_code.specs.Block.{square_of, with_square, children_of}
use Rattle.z_code.specs.declared.block.Block.{Block}
use Rattle.sand_model.specs.Database.{shape_at}
use Rattle.sand_model.specs.FigureGap.{IsFigureGap}
use Rattle.sand_model.specs.Nodes.{LeafItem, single_item, is_queued, is_rough, greater, rough_figure}
use Rattle.ring_geom.proofs.Farther.{gap_unique}
use Rattle.ring_geom.proofs.Measured.{measured}
use Rattle.ring_geom.proofs.TreeLaws.{same_compares}
use Rattle.pmr_tree.specs.Entries.{figure_of}
use Rattle.pmr_tree.specs.Keys.{id_in}
use Rattle.pmr_tree.specs.Listing.{Pair, rough_in, listed_in}
use Rattle.pmr_tree.specs.declared.listed.Listed.{Listed}
use Rattle.best_first.specs.Hierarchy.{FindsAlike}
use Rattle.best_first.specs.Item.{IsAlike}
use Rattle.best_first.specs.Reach.{IsSameGap}
use Rattle.best_first.specs.declared.item.Item.{Item}
use Rattle.best_first.specs.declared.item.Item.TheVariants as item
use Rattle.best_first.proofs.Gaps.{same_itself}
use Rattle.rank_cursor.specs.Cursor.{the_measure, goal_gap, block_found, exact_found, entry_found}
use Rattle.rank_cursor.specs.Ranking.{Ranking, block_gap, leaf_item, shown}
use Rattle.rank_cursor.proofs.AlikeLists.{all_alike_append, none_added}
use Rattle.rank_cursor.proofs.CountedItems.{same_greater}
use Rattle.rank_cursor.proofs.RankedItems.{one_item}

-- what a gap call gives has the value that the measure gives
pub gap_is : (a b : Goal) (f : Frac) → IsGoalInClosedPlane a → IsGoalInClosedPlane b → IsFigureGap a b f → IsSameGap f (the_measure a b)
gap_is a b f ha hb h =
    let g = the_measure a b in
    same_compares (f.num * g.den) (g.num * f.den) (gap_unique a b f.num f.den g.num g.den h (measured.1 a b ha hb))

-- ---- items at gaps of one value

pub exact_same : (leaf : Frac) (id : ℕ) (g h : Frac) → IsSameGap g h → (items : List (Item Block)) → items ≡ exact_found leaf id g → AllZip IsAlike items (exact_found leaf id h)
exact_same leaf id g h same items is =
    subst (λ xs. AllZip IsAlike xs (exact_found leaf id h)) (sym is)
    (subst (λ c. AllZip IsAlike (exact_found leaf id g) (cond c [] (item.Row h id 0 ∷ []))) (ap is_lt (value_cmp_total.congr g h leaf same)) (go (is_lt (value_cmp g leaf))))
  where
    go : (k : Bool) → AllZip (IsAlike {N = Block}) (cond k [] (item.Row g id 0 ∷ [])) (cond k [] (item.Row h id 0 ∷ []))
    go true = tt
    go false = ((same, refl, refl), tt)

pub bound_same : (leaf : Frac) (id : ℕ) (g h : Frac) → IsSameGap g h → (i : Item Block) → i ≡ item.Rough (greater g leaf) id 0 → AllZip IsAlike (i ∷ []) (item.Rough (greater h leaf) id 0 ∷ [])
bound_same leaf id g h same i is =
    subst (λ (x : Item Block). AllZip IsAlike (x ∷ []) (item.Rough (greater h leaf) id 0 ∷ [])) (sym is)
    ((same_greater g leaf h leaf same (same_itself leaf), refl, refl), tt)

pub block_same : (goal : Goal) (pair : Block × Rect) (g : Frac) → pair.1 ≡ square_of pair.0 → IsSameGap g (goal_gap goal (figure.Rect pair.1)) → IsAlike (item.Node g pair.0) (block_found goal pair.0)
block_same goal pair g is same = (subst (λ (r : Rect). IsSameGap g (goal_gap goal (figure.Rect r))) is same, refl)

-- a block has four quarters
pub below_four : (b : Block) (pairs : List (Block × Rect)) (i : ℕ) → pairs ≡ map with_square (children_of b) → i < 4 → i < length pairs
below_four b pairs i is below = subst (λ n. i < n) (sym (ap length is)) below

-- ---- rough shapes

abbrev is_bound : Rough → Bool
is_bound (rough.Point p) = false
is_bound (rough.Segment s) = false
is_bound (rough.Bound r) = true

abbrev is_rect : Goal → Bool
is_rect (figure.Shape s) = false
is_rect (figure.Rect r) = true

bound_rect : (l : Rough) → is_bound l ≡ is_rect (figure_of l)
bound_rect (rough.Point p) = refl
bound_rect (rough.Segment s) = refl
bound_rect (rough.Bound r) = refl

rough_rect : (s : Shape) → IsShapeInPlane s → is_rect (rough_figure s) ≡ is_rough s
rough_rect (shape.Point p) h = refl
rough_rect (shape.Segment s) h = refl
rough_rect (shape.Polygon []) h = absurd (no_corner h.fewest)
  where
    no_corner : 3 ≤ 0 → ⊥
    no_corner h = absurd (omega arith)
rough_rect (shape.Polygon (p ∷ ps)) h = refl

exact_figure : (s : Shape) → is_rough s ≡ false → rough_figure s ≡ figure.Shape s
exact_figure (shape.Point p) e = refl
exact_figure (shape.Segment s) e = refl
exact_figure (shape.Polygon ring) e = absurd (true≢false e)

-- an entry by the figure of its rough shape
abbrev by_figure : Goal → Frac → ℕ → Goal → Bool → List (Item Block)
by_figure goal leaf id f k = cond k (item.Rough (greater (goal_gap goal f) leaf) id 0 ∷ []) (exact_found leaf id (goal_gap goal f))

entry_is : (goal : Goal) (leaf : Frac) (id : ℕ) (l : Rough) → entry_found goal leaf id l ≡ by_figure goal leaf id (figure_of l) (is_bound l)
entry_is goal leaf id (rough.Point p) = refl
entry_is goal leaf id (rough.Segment s) = refl
entry_is goal leaf id (rough.Bound r) = refl

-- ---- an entry

-- one item of a leaf, as the frontier holds it, unless it is nearer than the leaf
abbrev one_shown : Frac → LeafItem → List (Item Block)
one_shown leaf i = map leaf_item (cond (is_queued leaf i) (i ∷ []) [])

-- An entry is that of a row: with the row's id, and its rough shape.
pub record IsEntryOf (rows : List (ℕ × Shape)) (l : Listed) : Type 0 where
  pub shape : Shape
  pub row : shape_at rows l.id ≡ Some shape
  pub plane : IsShapeInPlane shape
  pub rough : figure_of l.rough ≡ rough_figure shape

module _ (r : Ranking) (same : r.measure ≡ the_measure) (b : Block) (leaf : Frac) (near : IsSameGap leaf (block_gap r b)) where
  exact_alike : (id : ℕ) (g : Frac) (k : Bool) → is_lt (value_cmp g (block_gap r b)) ≡ k
      → AllZip IsAlike (cond k [] (item.Row g id 0 ∷ [])) (map leaf_item (cond (not k) (record { left = id; right = 0; is_rough = false; gap = g } ∷ []) []))
  exact_alike id g true e = tt
  exact_alike id g false e = ((same_itself g, refl, refl), tt)

  same_order : (g : Frac) → is_lt (value_cmp g leaf) ≡ is_lt (value_cmp g (block_gap r b))
  same_order g = ap is_lt (alike_right value_cmp_total leaf (block_gap r b) g near)

  entry_alike : (id : ℕ) (s : Shape) (k : Bool) → is_rough s ≡ k
      → AllZip IsAlike (by_figure r.goal leaf id (rough_figure s) k) (one_shown (block_gap r b) (one_item r b id s))
  entry_alike id s true e =
      let g = r.measure r.goal (rough_figure s) in
      let whole : AllZip IsAlike (item.Rough (greater (goal_gap r.goal (rough_figure s)) leaf) id 0 ∷ [])
      (map leaf_item (record { left = id; right = 0; is_rough = true; gap = greater g (block_gap r b) } ∷ [])) = (
        (
          same_greater (goal_gap r.goal (rough_figure s)) leaf g (block_gap r b)
              (subst (λ m. IsSameGap (goal_gap r.goal (rough_figure s)) (m r.goal (rough_figure s))) (sym same) (same_itself (goal_gap r.goal (rough_figure s)))) near,
          refl,
          refl,
        ),
        tt,
      ) in
      subst (λ c. AllZip IsAlike (item.Rough (greater (goal_gap r.goal (rough_figure s)) leaf) id 0 ∷ [])
      (one_shown (block_gap r b) (record { left = id; right = 0; is_rough = c; gap = cond c (greater g (block_gap r b)) (r.measure r.goal (figure.Shape s)) })))
      (sym e) whole
  entry_alike id s false e =
      let g = r.measure r.goal (figure.Shape s) in
      let one : AllZip IsAlike (cond (is_lt (value_cmp g leaf)) [] (item.Row g id 0 ∷ [])) (one_shown (block_gap r b) (record { left = id; right = 0; is_rough = false; gap = g })) =
      subst (λ c. AllZip IsAlike (cond c [] (item.Row g id 0 ∷ [])) (one_shown (block_gap r b) (record { left = id; right = 0; is_rough = false; gap = g }))) (sym (same_order g))
      (exact_alike id g (is_lt (value_cmp g (block_gap r b))) refl) in
      subst (λ f. AllZip IsAlike (exact_found leaf id (goal_gap r.goal f)) (one_shown (block_gap r b) (one_item r b id s))) (sym (exact_figure s e))
      (subst (λ c. AllZip IsAlike (exact_found leaf id (goal_gap r.goal (figure.Shape s)))
      (one_shown (block_gap r b) (record { left = id; right = 0; is_rough = c; gap = cond c (greater (r.measure r.goal (rough_figure s)) (block_gap r b)) g }))) (sym e)
      (subst (λ m. AllZip IsAlike (exact_found leaf id (m r.goal (figure.Shape s))) (one_shown (block_gap r b) (record { left = id; right = 0; is_rough = false; gap = g }))) same one))

  one_entry : (l : Listed) (h : IsEntryOf r.shapes l) → AllZip IsAlike (entry_found r.goal leaf l.id l.rough) (one_shown (block_gap r b) (one_item r b l.id h.shape))
  one_entry l h =
      let kind : is_bound l.rough ≡ is_rough h.shape = bound_rect l.rough ∙ ap is_rect h.rough ∙ rough_rect h.shape h.plane in
      let written : entry_found r.goal leaf l.id l.rough ≡ by_figure r.goal leaf l.id (rough_figure h.shape) (is_rough h.shape) =
      entry_is r.goal leaf l.id l.rough ∙ ap₂ (λ f k. by_figure r.goal leaf l.id f k) h.rough kind in
      subst (λ xs. AllZip IsAlike xs (one_shown (block_gap r b) (one_item r b l.id h.shape))) (sym written) (entry_alike l.id h.shape (is_rough h.shape) refl)

  -- ---- a leaf

  shown_first : (i : LeafItem) (rest : List LeafItem) (k : Bool) → map leaf_item (cond k (i ∷ filter (is_queued (block_gap r b)) rest) (filter (is_queued (block_gap r b)) rest))
      ≡ map leaf_item (cond k (i ∷ []) []) ++ map leaf_item (filter (is_queued (block_gap r b)) rest)
  shown_first i rest true = refl
  shown_first i rest false = refl

  pub leaf_alike : (list : List Listed) → All (IsEntryOf r.shapes) list
      → AllZip IsAlike (flat_map (λ l. entry_found r.goal leaf l.id l.rough) list) (map leaf_item (shown r b (map (λ (l : Listed). l.id) list)))
  leaf_alike [] h = tt
  leaf_alike (l ∷ ls) h =
      let first = All-head (IsEntryOf r.shapes) l ls h in
      let rest = filter_map (single_item r.measure r.goal r.shapes b) (map (λ (m : Listed). m.id) ls) in
      let i = one_item r b l.id first.shape in
      let one : single_item r.measure r.goal r.shapes b l.id ≡ Some i = ap (option_map (one_item r b l.id)) first.row in
      let written : map leaf_item (shown r b (map (λ (m : Listed). m.id) (l ∷ ls))) ≡ one_shown (block_gap r b) i ++ map leaf_item (filter (is_queued (block_gap r b)) rest) =
      ap (λ o. map leaf_item (filter (is_queued (block_gap r b)) (with_first o rest))) one ∙ shown_first i rest (is_queued (block_gap r b) i) in
      subst (λ xs. AllZip IsAlike (entry_found r.goal leaf l.id l.rough ++ flat_map (λ m. entry_found r.goal leaf m.id m.rough) ls) xs) (sym written)
      (all_alike_append (entry_found r.goal leaf l.id l.rough) (one_shown (block_gap r b) i) (flat_map (λ m. entry_found r.goal leaf m.id m.rough) ls)
      (map leaf_item (filter (is_queued (block_gap r b)) rest))
      (one_entry l first) (leaf_alike ls (All-tail (IsEntryOf r.shapes) l ls h)))
    where
      with_first : Option LeafItem → List LeafItem → List LeafItem
      with_first None xs = xs
      with_first (Some x) xs = x ∷ xs

-- ---- entries as pages have them

-- what the id of an entry gives, and nothing where the entry marks an empty leaf
abbrev pub pair_found : Goal → Frac → Pair → List (Item Block)
pair_found goal leaf pair = flat_map (λ l. entry_found goal leaf l.id l.rough) (listed_in (pair ∷ []))

-- what an entry listed was added
pub some_found : (goal : Goal) (leaf : Frac) (pair : Pair) (l : Listed) (old new : List (Item Block)) → l ∷ [] ≡ listed_in (pair ∷ []) → FindsAlike (entry_found goal leaf l.id l.rough) old new
    → FindsAlike (pair_found goal leaf pair) old new
some_found goal leaf pair l old new is h =
    subst (λ list. FindsAlike (flat_map (λ m. entry_found goal leaf m.id m.rough) list) old new) is
    (subst (λ found. FindsAlike found old new) (sym (append-nil (entry_found goal leaf l.id l.rough))) h)

-- an entry that lists nothing adds nothing
pub none_found : (goal : Goal) (leaf : Frac) (pair : Pair) (old : List (Item Block)) → [] ≡ listed_in (pair ∷ []) → FindsAlike (pair_found goal leaf pair) old old
none_found goal leaf pair old is =
    subst (λ list. FindsAlike (flat_map (λ m. entry_found goal leaf m.id m.rough) list) old old) is (none_added old old refl)

-- the entries together give what their list gives
pub pairs_found : (goal : Goal) (leaf : Frac) (pairs : List Pair) → flat_map (pair_found goal leaf) pairs ≡ flat_map (λ l. entry_found goal leaf l.id l.rough) (listed_in pairs)
pairs_found goal leaf [] = refl
pairs_found goal leaf (pair ∷ pairs) = go (not (nat_eq (id_in pair.0) 0)) (pairs_found goal leaf pairs) where
  listed : Listed
  listed = record { id = id_in pair.0; rough = rough_in pair.1 }

  found : Listed → List (Item Block)
  found l = entry_found goal leaf l.id l.rough

  go : (k : Bool) → flat_map (pair_found goal leaf) pairs ≡ flat_map found (listed_in pairs)
      → flat_map found (cond k (listed ∷ []) []) ++ flat_map (pair_found goal leaf) pairs ≡ flat_map found (cond k (listed ∷ listed_in pairs) (listed_in pairs))
  go true rest = ap₂ (λ xs ys. xs ++ ys) (append-nil (found listed)) rest
  go false rest = rest

pub all_found : (goal : Goal) (leaf : Frac) (pairs : List Pair) (i : ℕ) (list : List Listed) (old new : List (Item Block)) → length pairs ≤ i → listed_in pairs ≡ list
    → FindsAlike (flat_map (pair_found goal leaf) (take i pairs)) old new → FindsAlike (flat_map (λ l. entry_found goal leaf l.id l.rough) list) old new
all_found goal leaf pairs i list old new end is h =
    subst (λ found. FindsAlike found old new)
    (ap (flat_map (pair_found goal leaf)) (take_all i pairs end) ∙ pairs_found goal leaf pairs ∙ ap (flat_map (λ l. entry_found goal leaf l.id l.rough)) is) h
