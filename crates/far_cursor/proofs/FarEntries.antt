-- What the code finds at a place of a quadtree stands for what the search farthest first finds there.
use Rattle.sand_model.specs.Sources.{spot_figure}
use Rattle.std.proofs.Common.{◌≡◌, ℕ, ◌*◌, ◌-◌, ◌≤◌, arith, Bool, true, false, cond, not, true≢false, List, [], ◌∷◌, ◌++◌, length, take, map, filter, append-nil}
use Rattle.std.proofs.Common.{filter_map, flat_map, All, Option, None, Some, option_map, refl, sym, ap, ap₂, ◌∙◌, subst}
use Rattle.std.specs.Prelude.{nat_eq}
use Rattle.std.specs.List.{AllZip}
use Rattle.std.specs.Ordering.{is_lt}
use Rattle.std.specs.Cmp.{alike_right}
use Rattle.std.proofs.lemmas.List.{take_all}
use Rattle.std.proofs.lemmas.List.Elements.{All-head, All-tail}
use Rattle.exact_frac.specs.Frac.{value_cmp, value_cmp_total}
use Rattle.exact_frac.specs.declared.frac.Frac.{Frac}
use Rattle.sand_base.specs.Plane.{IsInClosedPlane, IsShapeInPlane, IsShapeInClosedPlane}
use Rattle.sand_base.specs.declared.goal.Goal.{Goal}
use Rattle.sand_base.specs.declared.goal.Goal.TheVariants as figure
use Rattle.sand_base.specs.declared.point.Point.{Point}
use Rattle.sand_base.specs.declared.rect.Rect.{Rect}
use Rattle.sand_base.specs.declared.rough.Rough.{Rough}
use Rattle.sand_base.specs.declared.rough.Rough.TheVariants as rough
use Rattle.sand_base.specs.declared.shape.Shape.{Shape}
use Rattle.sand_base.specs.declared.shape.Shape.TheVariants as shape
use Rattle.z_code.specs.Block.{square_of}
use Rattle.z_code.specs.declared.block.Block.{Block}
use Rattle.sand_model.specs.FigureGap.{IsFigureGap}
use Rattle.sand_model.specs.Nodes.{LeafItem, single_item, is_queued, is_rough, greater, rough_figure}
use Rattle.ring_geom.proofs.Farther.{gap_unique}
use Rattle.ring_geom.proofs.Measured.{measured}
use Rattle.ring_geom.proofs.TreeLaws.{same_compares}
use Rattle.page_pool.specs.Disk.{PageMap}
use Rattle.pmr_tree.specs.Entries.{figure_of}
use Rattle.pmr_tree.specs.Keys.{id_in}
use Rattle.pmr_tree.specs.Listing.{Pair, rough_in, listed_in}
use Rattle.pmr_tree.specs.declared.listed.Listed.{Listed}
use Rattle.pmr_tree.specs.declared.quadtree.Pmr.{Pmr}
use Rattle.best_first.specs.Hierarchy.{FindsAlike}
use Rattle.best_first.specs.Item.{IsAlike}
use Rattle.best_first.specs.Reach.{IsSameGap}
use Rattle.best_first.specs.declared.item.Item.{Item}
use Rattle.best_first.specs.declared.item.Item.TheVariants as item
use Rattle.best_first.proofs.Gaps.{same_itself}
use Rattle.rank_cursor.specs.Cursor.{the_measure}
use Rattle.rank_cursor.specs.Ranking.{Ranking, block_gap, leaf_item, shown}
use Rattle.rank_cursor.proofs.AlikeLists.{all_alike_append, none_added}
use Rattle.rank_cursor.proofs.CountedItems.{same_greater}
use Rattle.rank_cursor.proofs.LeafEntries.{IsEntryOf}
use Rattle.rank_cursor.proofs.RankedItems.{one_item}
use Rattle.far_cursor.specs.Farthest.{diagonal, farthest, key_of_gap, key_of_rect}
use Rattle.far_cursor.specs.FarRanking.{key_from, far_ranking, far_block, far_exact, far_entry}
use Rattle.far_cursor.proofs.KeyOrder.{parts_same, key_same}

-- ---- keys

-- the greatest distance, taken from the diagonal, is the key of the rectangle
pub rect_is : (p : Point) (r : Rect) (far key : Frac) → far.num ≡ farthest p r → far.den ≡ 1 → key.num ≡ diagonal * far.den - far.num → key.den ≡ far.den → IsSameGap key (key_from p (figure.Rect r))
rect_is p r far key num den is under = parts_same key (key_of_rect p r) (is ∙ ap₂ (λ (n d : ℕ). diagonal * d - n) num den) (under ∙ den)

-- a gap that was measured has the value of the model's
gap_one : (p : Point) (s : Shape) (f : Frac) → IsInClosedPlane p → IsShapeInClosedPlane s → IsFigureGap (spot_figure p) (figure.Shape s) f
    → f.num * (the_measure (spot_figure p) (figure.Shape s)).den ≡ (the_measure (spot_figure p) (figure.Shape s)).num * f.den
gap_one p s f hp hs h =
    let g = the_measure (spot_figure p) (figure.Shape s) in
    gap_unique (spot_figure p) (figure.Shape s) f.num f.den g.num g.den h (measured.1 (spot_figure p) (figure.Shape s) hp hs)

-- what it lacks to the diagonal is the key of the shape
pub shape_is : (p : Point) (s : Shape) (f key : Frac) → IsInClosedPlane p → IsShapeInClosedPlane s → IsFigureGap (spot_figure p) (figure.Shape s) f
    → key.num ≡ diagonal * f.den - f.num → key.den ≡ f.den → IsSameGap key (key_from p (figure.Shape s))
shape_is p s f key hp hs h is under =
    let g = the_measure (spot_figure p) (figure.Shape s) in
    value_cmp_total.congr key (key_of_gap f) (key_of_gap g) (parts_same key (key_of_gap f) is under)
    ∙ key_same f g (same_compares (f.num * g.den) (g.num * f.den) (gap_one p s f hp hs h))

-- ---- items at gaps of one value

pub exact_same : (leaf : Frac) (id : ℕ) (g h : Frac) → IsSameGap g h → (items : List (Item Block)) → items ≡ far_exact leaf id g → AllZip IsAlike items (far_exact leaf id h)
exact_same leaf id g h same items is =
    subst (λ xs. AllZip IsAlike xs (far_exact leaf id h)) (sym is)
    (subst (λ c. AllZip IsAlike (far_exact leaf id g) (cond c [] (item.Row h id 0 ∷ []))) (ap is_lt (value_cmp_total.congr g h leaf same)) (go (is_lt (value_cmp g leaf))))
  where
    go : (k : Bool) → AllZip (IsAlike {N = Block}) (cond k [] (item.Row g id 0 ∷ [])) (cond k [] (item.Row h id 0 ∷ []))
    go true = tt
    go false = ((same, refl, refl), tt)

pub bound_same : (leaf : Frac) (id : ℕ) (g h : Frac) → IsSameGap g h → (i : Item Block) → i ≡ item.Rough (greater g leaf) id 0 → AllZip IsAlike (i ∷ []) (item.Rough (greater h leaf) id 0 ∷ [])
bound_same leaf id g h same i is =
    subst (λ (x : Item Block). AllZip IsAlike (x ∷ []) (item.Rough (greater h leaf) id 0 ∷ [])) (sym is)
    ((same_greater g leaf h leaf same (same_itself leaf), refl, refl), tt)

pub block_same : (p : Point) (pair : Block × Rect) (g : Frac) → pair.1 ≡ square_of pair.0 → IsSameGap g (key_from p (figure.Rect pair.1)) → IsAlike (item.Node g pair.0) (far_block p pair.0)
block_same p pair g is same = (subst (λ (r : Rect). IsSameGap g (key_from p (figure.Rect r))) is same, refl)

-- ---- rough shapes

abbrev is_bound : Rough → Bool
is_bound (rough.Point q) = false
is_bound (rough.Segment s) = false
is_bound (rough.Bound r) = true

abbrev is_rect : Goal → Bool
is_rect (figure.Shape s) = false
is_rect (figure.Rect r) = true

bound_rect : (l : Rough) → is_bound l ≡ is_rect (figure_of l)
bound_rect (rough.Point q) = refl
bound_rect (rough.Segment s) = refl
bound_rect (rough.Bound r) = refl

rough_rect : (s : Shape) → IsShapeInPlane s → is_rect (rough_figure s) ≡ is_rough s
rough_rect (shape.Point q) h = refl
rough_rect (shape.Segment s) h = refl
rough_rect (shape.Polygon []) h = absurd (no_corner h.fewest)
  where
    no_corner : 3 ≤ 0 → ⊥
    no_corner h = absurd (omega arith)
rough_rect (shape.Polygon (q ∷ qs)) h = refl

exact_figure : (s : Shape) → is_rough s ≡ false → rough_figure s ≡ figure.Shape s
exact_figure (shape.Point q) e = refl
exact_figure (shape.Segment s) e = refl
exact_figure (shape.Polygon ring) e = absurd (true≢false e)

-- an entry by the figure of its rough shape
abbrev by_figure : Point → Frac → ℕ → Goal → Bool → List (Item Block)
by_figure p leaf id f k = cond k (item.Rough (greater (key_from p f) leaf) id 0 ∷ []) (far_exact leaf id (key_from p f))

entry_is : (p : Point) (leaf : Frac) (id : ℕ) (l : Rough) → far_entry p leaf id l ≡ by_figure p leaf id (figure_of l) (is_bound l)
entry_is p leaf id (rough.Point q) = refl
entry_is p leaf id (rough.Segment s) = refl
entry_is p leaf id (rough.Bound r) = refl

-- ---- an entry

-- one item of a leaf, as the frontier holds it, unless it is nearer than the leaf
abbrev one_shown : Frac → LeafItem → List (Item Block)
one_shown leaf i = map leaf_item (cond (is_queued leaf i) (i ∷ []) [])

module _ (rows : PageMap → List (ℕ × Shape)) (Stands : PageMap → Type 0) (price : ℕ) (t : Pmr) (p : Point) (pages : PageMap) (b : Block) (leaf : Frac)
    (near : IsSameGap leaf (block_gap (far_ranking rows Stands price t p pages) b)) where
  abbrev r : Ranking
  r = far_ranking rows Stands price t p pages

  exact_alike : (id : ℕ) (g : Frac) (k : Bool) → is_lt (value_cmp g (block_gap r b)) ≡ k
      → AllZip IsAlike (cond k [] (item.Row g id 0 ∷ [])) (map leaf_item (cond (not k) (record { left = id; right = 0; is_rough = false; gap = g } ∷ []) []))
  exact_alike id g true e = tt
  exact_alike id g false e = ((same_itself g, refl, refl), tt)

  same_order : (g : Frac) → is_lt (value_cmp g leaf) ≡ is_lt (value_cmp g (block_gap r b))
  same_order g = ap is_lt (alike_right value_cmp_total leaf (block_gap r b) g near)

  entry_alike : (id : ℕ) (s : Shape) (k : Bool) → is_rough s ≡ k
      → AllZip IsAlike (by_figure p leaf id (rough_figure s) k) (one_shown (block_gap r b) (one_item r b id s))
  entry_alike id s true e =
      let g = key_from p (rough_figure s) in
      let whole : AllZip IsAlike (item.Rough (greater (key_from p (rough_figure s)) leaf) id 0 ∷ [])
      (map leaf_item (record { left = id; right = 0; is_rough = true; gap = greater g (block_gap r b) } ∷ [])) =
      ((same_greater (key_from p (rough_figure s)) leaf g (block_gap r b) (same_itself (key_from p (rough_figure s))) near, refl, refl), tt) in
      subst (λ c. AllZip IsAlike (item.Rough (greater (key_from p (rough_figure s)) leaf) id 0 ∷ [])
      (one_shown (block_gap r b) (record { left = id; right = 0; is_rough = c; gap = cond c (greater g (block_gap r b)) (key_from p (figure.Shape s)) })))
      (sym e) whole
  entry_alike id s false e =
      let g = key_from p (figure.Shape s) in
      let one : AllZip IsAlike (cond (is_lt (value_cmp g leaf)) [] (item.Row g id 0 ∷ [])) (one_shown (block_gap r b) (record { left = id; right = 0; is_rough = false; gap = g })) =
      subst (λ c. AllZip IsAlike (cond c [] (item.Row g id 0 ∷ [])) (one_shown (block_gap r b) (record { left = id; right = 0; is_rough = false; gap = g }))) (sym (same_order g))
      (exact_alike id g (is_lt (value_cmp g (block_gap r b))) refl) in
      subst (λ f. AllZip IsAlike (far_exact leaf id (key_from p f)) (one_shown (block_gap r b) (one_item r b id s))) (sym (exact_figure s e))
      (subst (λ c. AllZip IsAlike (far_exact leaf id (key_from p (figure.Shape s)))
      (one_shown (block_gap r b) (record { left = id; right = 0; is_rough = c; gap = cond c (greater (key_from p (rough_figure s)) (block_gap r b)) g }))) (sym e)
      one)

  one_entry : (l : Listed) (h : IsEntryOf r.shapes l) → AllZip IsAlike (far_entry p leaf l.id l.rough) (one_shown (block_gap r b) (one_item r b l.id h.shape))
  one_entry l h =
      let kind : is_bound l.rough ≡ is_rough h.shape = bound_rect l.rough ∙ ap is_rect h.rough ∙ rough_rect h.shape h.plane in
      let written : far_entry p leaf l.id l.rough ≡ by_figure p leaf l.id (rough_figure h.shape) (is_rough h.shape) =
      entry_is p leaf l.id l.rough ∙ ap₂ (λ f k. by_figure p leaf l.id f k) h.rough kind in
      subst (λ xs. AllZip IsAlike xs (one_shown (block_gap r b) (one_item r b l.id h.shape))) (sym written) (entry_alike l.id h.shape (is_rough h.shape) refl)

  -- ---- a leaf

  shown_first : (i : LeafItem) (rest : List LeafItem) (k : Bool) → map leaf_item (cond k (i ∷ filter (is_queued (block_gap r b)) rest) (filter (is_queued (block_gap r b)) rest))
      ≡ map leaf_item (cond k (i ∷ []) []) ++ map leaf_item (filter (is_queued (block_gap r b)) rest)
  shown_first i rest true = refl
  shown_first i rest false = refl

  pub leaf_alike : (list : List Listed) → All (IsEntryOf r.shapes) list
      → AllZip IsAlike (flat_map (λ l. far_entry p leaf l.id l.rough) list) (map leaf_item (shown r b (map (λ (l : Listed). l.id) list)))
  leaf_alike [] h = tt
  leaf_alike (l ∷ ls) h =
      let first = All-head (IsEntryOf r.shapes) l ls h in
      let rest = filter_map (single_item r.measure r.goal r.shapes b) (map (λ (m : Listed). m.id) ls) in
      let i = one_item r b l.id first.shape in
      let one : single_item r.measure r.goal r.shapes b l.id ≡ Some i = ap (option_map (one_item r b l.id)) first.row in
      let written : map leaf_item (shown r b (map (λ (m : Listed). m.id) (l ∷ ls))) ≡ one_shown (block_gap r b) i ++ map leaf_item (filter (is_queued (block_gap r b)) rest) =
      ap (λ o. map leaf_item (filter (is_queued (block_gap r b)) (with_first o rest))) one ∙ shown_first i rest (is_queued (block_gap r b) i) in
      subst (λ xs. AllZip IsAlike (far_entry p leaf l.id l.rough ++ flat_map (λ m. far_entry p leaf m.id m.rough) ls) xs) (sym written)
      (all_alike_append (far_entry p leaf l.id l.rough) (one_shown (block_gap r b) i) (flat_map (λ m. far_entry p leaf m.id m.rough) ls) (map leaf_item (filter (is_queued (block_gap r b)) rest))
      (one_entry l first) (leaf_alike ls (All-tail (IsEntryOf r.shapes) l ls h)))
    where
      with_first : Option LeafItem → List LeafItem → List LeafItem
      with_first None xs = xs
      with_first (Some x) xs = x ∷ xs

-- ---- entries as pages have them

-- what the id of an entry gives, and nothing where the entry marks an empty leaf
abbrev pub pair_found : Point → Frac → Pair → List (Item Block)
pair_found p leaf pair = flat_map (λ l. far_entry p leaf l.id l.rough) (listed_in (pair ∷ []))

-- what an entry listed was added
pub some_found : (p : Point) (leaf : Frac) (pair : Pair) (l : Listed) (old new : List (Item Block)) → l ∷ [] ≡ listed_in (pair ∷ []) → FindsAlike (far_entry p leaf l.id l.rough) old new
    → FindsAlike (pair_found p leaf pair) old new
some_found p leaf pair l old new is h =
    subst (λ list. FindsAlike (flat_map (λ m. far_entry p leaf m.id m.rough) list) old new) is
    (subst (λ found. FindsAlike found old new) (sym (append-nil (far_entry p leaf l.id l.rough))) h)

-- an entry that lists nothing adds nothing
pub none_found : (p : Point) (leaf : Frac) (pair : Pair) (old : List (Item Block)) → [] ≡ listed_in (pair ∷ []) → FindsAlike (pair_found p leaf pair) old old
none_found p leaf pair old is =
    subst (λ list. FindsAlike (flat_map (λ m. far_entry p leaf m.id m.rough) list) old old) is (none_added old old refl)

-- the entries together give what their list gives
pub pairs_found : (p : Point) (leaf : Frac) (pairs : List Pair) → flat_map (pair_found p leaf) pairs ≡ flat_map (λ l. far_entry p leaf l.id l.rough) (listed_in pairs)
pairs_found p leaf [] = refl
pairs_found p leaf (pair ∷ pairs) = go (not (nat_eq (id_in pair.0) 0)) (pairs_found p leaf pairs) where
  listed : Listed
  listed = record { id = id_in pair.0; rough = rough_in pair.1 }

  found : Listed → List (Item Block)
  found l = far_entry p leaf l.id l.rough

  go : (k : Bool) → flat_map (pair_found p leaf) pairs ≡ flat_map found (listed_in pairs)
      → flat_map found (cond k (listed ∷ []) []) ++ flat_map (pair_found p leaf) pairs ≡ flat_map found (cond k (listed ∷ listed_in pairs) (listed_in pairs))
  go true rest = ap₂ (λ xs ys. xs ++ ys) (append-nil (found listed)) rest
  go false rest = rest

pub all_found : (p : Point) (leaf : Frac) (pairs : List Pair) (i : ℕ) (list : List Listed) (old new : List (Item Block)) → length pairs ≤ i → listed_in pairs ≡ list
    → FindsAlike (flat_map (pair_found p leaf) (take i pairs)) old new → FindsAlike (flat_map (λ l. far_entry p leaf l.id l.rough) list) old new
all_found p leaf pairs i list old new end is h =
    subst (λ found. FindsAlike found old new)
    (ap (flat_map (pair_found p leaf)) (take_all i pairs end) ∙ pairs_found p leaf pairs ∙ ap (flat_map (λ l. far_entry p leaf l.id l.rough)) is) h
