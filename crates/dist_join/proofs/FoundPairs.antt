-- What the code finds at a pair of leaves stands for what the join finds there.
use Rattle.std.proofs.Common.{◌≡◌, ℕ, ◌≤◌, arith, Bool, true, false, cond, not, ◌||◌, true≢false, List, [], ◌∷◌, ◌++◌, map, filter, filter_map, flat_map, All, Contains}
use Rattle.std.proofs.Common.{Option, None, Some, option_to_list, refl, sym, ap, ap₂, ◌∙◌, subst}
use Rattle.std.specs.List.{AllZip}
use Rattle.std.specs.Ordering.{is_lt}
use Rattle.std.specs.Cmp.{alike_right}
use Rattle.std.proofs.lemmas.List.Elements.{All-contains}
use Rattle.exact_frac.specs.Frac.{value_cmp, value_cmp_total}
use Rattle.exact_frac.specs.declared.frac.Frac.{Frac}
use Rattle.sand_base.specs.Plane.{IsShapeInPlane}
use Rattle.sand_base.specs.declared.goal.Goal.{Goal}
use Rattle.sand_base.specs.declared.goal.Goal.TheVariants as figure
use Rattle.sand_base.specs.declared.rect.Rect.{Rect}
use Rattle.sand_base.specs.declared.rough.Rough.{Rough}
use Rattle.sand_base.specs.declared.rough.Rough.TheVariants as rough
use Rattle.sand_base.specs.declared.shape.Shape.{Shape}
use Rattle.sand_base.specs.declared.shape.Shape.TheVariants as shape
use Rattle.z_code.specs.Block.{square_of}
use Rattle.z_code.specs.declared.block.Block.{Block}
use Rattle.sand_model.specs.Nodes.{LeafItem, pairs_of, pair_item, is_queued, is_rough, greater, rough_figure, square_figure}
use Rattle.page_pool.specs.Disk.{PageMap}
use Rattle.pmr_tree.specs.Entries.{figure_of}
use Rattle.pmr_tree.specs.declared.listed.Listed.{Listed}
use Rattle.best_first.specs.Item.{IsAlike}
use Rattle.best_first.specs.Reach.{IsSameGap}
use Rattle.best_first.specs.declared.item.Item.{Item}
use Rattle.best_first.specs.declared.item.Item.TheVariants as item
use Rattle.best_first.proofs.Bags.{here, there}
use Rattle.best_first.proofs.Gaps.{same_itself}
use Rattle.rank_cursor.specs.Cursor.{the_measure}
use Rattle.rank_cursor.proofs.AlikeLists.{all_alike_append}
use Rattle.rank_cursor.proofs.CountedItems.{same_greater}
use Rattle.rank_cursor.proofs.LeafEntries.{IsEntryOf}
use Rattle.dist_join.specs.Joining.{Joining, pair_node_at, squares_gap, leaf_pair_item, pairs_shown}
use Rattle.dist_join.specs.OverPages.{PageSide, joining_over, blocks_found, exact_pair_found, is_bound, by_figures, pair_found, row_found}
use Rattle.dist_join.proofs.JoinPlaces.{flat_twice, one_item, pair_given}

-- ---- rough shapes

abbrev is_rect : Goal → Bool
is_rect (figure.Shape s) = false
is_rect (figure.Rect r) = true

bound_rect : (l : Rough) → is_bound l ≡ is_rect (figure_of l)
bound_rect (rough.Point p) = refl
bound_rect (rough.Segment s) = refl
bound_rect (rough.Bound r) = refl

rough_rect : (s : Shape) → IsShapeInPlane s → is_rect (rough_figure s) ≡ is_rough s
rough_rect (shape.Point p) h = refl
rough_rect (shape.Segment s) h = refl
rough_rect (shape.Polygon []) h = absurd (no_corner h.fewest)
  where
    no_corner : 3 ≤ 0 → ⊥
    no_corner h = absurd (omega arith)
rough_rect (shape.Polygon (p ∷ ps)) h = refl

exact_figure : (s : Shape) → is_rough s ≡ false → rough_figure s ≡ figure.Shape s
exact_figure (shape.Point p) e = refl
exact_figure (shape.Segment s) e = refl
exact_figure (shape.Polygon ring) e = absurd (true≢false e)

-- an entry is rough where its row's shape is
same_kind : (rows : List (ℕ × Shape)) (l : Listed) (h : IsEntryOf rows l) → is_bound l.rough ≡ is_rough h.shape
same_kind rows l h = bound_rect l.rough ∙ ap is_rect h.rough ∙ rough_rect h.shape h.plane

neither : (a b : Bool) → (a || b) ≡ false → (a ≡ false) × (b ≡ false)
neither true b e = absurd (true≢false e)
neither false b e = (refl, e)

-- ---- lists

flat_mapped : {X Y Z : Type 0} (f : Y → List Z) (g : X → Y) (xs : List X) → flat_map f (map g xs) ≡ flat_map (λ x. f (g x)) xs
flat_mapped f g [] = refl
flat_mapped f g (x ∷ xs) = ap (λ l. f (g x) ++ l) (flat_mapped f g xs)

flat_alike : {X N : Type 0} (f g : X → List (Item N)) (xs : List X) → ((x : X) → Contains xs x → AllZip IsAlike (f x) (g x)) → AllZip IsAlike (flat_map f xs) (flat_map g xs)
flat_alike f g [] each = tt
flat_alike f g (x ∷ xs) each =
    all_alike_append (f x) (g x) (flat_map f xs) (flat_map g xs) (each x (here x xs)) (flat_alike f g xs (λ y at. each y (there x xs y at)))

-- ---- items at gaps of one value

pub exact_same : (leaf : Frac) (a b : ℕ) (g h : Frac) → IsSameGap g h → (items : List (Item (Block × Block))) → items ≡ exact_pair_found leaf a b g → AllZip IsAlike items (exact_pair_found leaf a b h)
exact_same leaf a b g h same items is =
    subst (λ xs. AllZip IsAlike xs (exact_pair_found leaf a b h)) (sym is)
    (subst (λ c. AllZip IsAlike (exact_pair_found leaf a b g) (cond c [] (item.Row h a b ∷ []))) (ap is_lt (value_cmp_total.congr g h leaf same)) (go (is_lt (value_cmp g leaf))))
  where
    go : (k : Bool) → AllZip (IsAlike {N = Block × Block}) (cond k [] (item.Row g a b ∷ [])) (cond k [] (item.Row h a b ∷ []))
    go true = tt
    go false = ((same, refl, refl), tt)

pub bound_same : (leaf : Frac) (a b : ℕ) (g h : Frac) → IsSameGap g h → (i : Item (Block × Block)) → i ≡ item.Rough (greater g leaf) a b
    → AllZip IsAlike (i ∷ []) (item.Rough (greater h leaf) a b ∷ [])
bound_same leaf a b g h same i is =
    subst (λ (x : Item (Block × Block)). AllZip IsAlike (x ∷ []) (item.Rough (greater h leaf) a b ∷ [])) (sym is)
    ((same_greater g leaf h leaf same (same_itself leaf), refl, refl), tt)

-- ---- two leaves

-- one item of two leaves, as the frontier holds it, unless it is nearer than they
abbrev one_shown : Frac → LeafItem → List (Item (Block × Block))
one_shown leaf i = map leaf_pair_item (cond (is_queued leaf i) (i ∷ []) [])

module _ (left right : PageSide) (ceiling : Option ℕ) (p : PageMap) (pair : Block × Block) (leaf : Frac) (near : IsSameGap leaf (squares_gap (joining_over left right ceiling p) pair)) where
  abbrev j : Joining
  j = joining_over left right ceiling p

  exact_alike : (a b : ℕ) (g : Frac) (k : Bool) → is_lt (value_cmp g (squares_gap j pair)) ≡ k
      → AllZip IsAlike (cond k [] (item.Row g a b ∷ [])) (map leaf_pair_item (cond (not k) (record { left = a; right = b; is_rough = false; gap = g } ∷ []) []))
  exact_alike a b g true e = tt
  exact_alike a b g false e = ((same_itself g, refl, refl), tt)

  same_order : (g : Frac) → is_lt (value_cmp g leaf) ≡ is_lt (value_cmp g (squares_gap j pair))
  same_order g = ap is_lt (alike_right value_cmp_total leaf (squares_gap j pair) g near)

  entry_alike : (a b : ℕ) (s t : Shape) (k : Bool) → (is_rough s || is_rough t) ≡ k
      → AllZip IsAlike (by_figures leaf a b (rough_figure s) (rough_figure t) k) (one_shown (squares_gap j pair) (one_item j pair (a, b) s t))
  entry_alike a b s t true e =
      let g = the_measure (rough_figure s) (rough_figure t) in
      let exact = the_measure (figure.Shape s) (figure.Shape t) in
      let whole : AllZip IsAlike (item.Rough (greater g leaf) a b ∷ []) (map leaf_pair_item (record { left = a; right = b; is_rough = true; gap = greater g (squares_gap j pair) } ∷ [])) =
      ((same_greater g leaf g (squares_gap j pair) (same_itself g) near, refl, refl), tt) in
      subst (λ c. AllZip IsAlike (item.Rough (greater g leaf) a b ∷ [])
      (one_shown (squares_gap j pair) (record { left = a; right = b; is_rough = c; gap = cond c (greater g (squares_gap j pair)) exact })))
      (sym e) whole
  entry_alike a b s t false e =
      let g = the_measure (rough_figure s) (rough_figure t) in
      let exact = the_measure (figure.Shape s) (figure.Shape t) in
      let (no_left, no_right) = neither (is_rough s) (is_rough t) e in
      let one : AllZip IsAlike (cond (is_lt (value_cmp exact leaf)) [] (item.Row exact a b ∷ [])) (one_shown (squares_gap j pair) (record { left = a; right = b; is_rough = false; gap = exact })) =
      subst (λ c. AllZip IsAlike (cond c [] (item.Row exact a b ∷ [])) (one_shown (squares_gap j pair) (record { left = a; right = b; is_rough = false; gap = exact }))) (sym (same_order exact))
      (exact_alike a b exact (is_lt (value_cmp exact (squares_gap j pair))) refl) in
      subst (λ f. AllZip IsAlike (exact_pair_found leaf a b f) (one_shown (squares_gap j pair) (one_item j pair (a, b) s t)))
      (sym (ap₂ (λ f h. the_measure f h) (exact_figure s no_left) (exact_figure t no_right)))
      (subst (λ c. AllZip IsAlike (exact_pair_found leaf a b exact)
      (one_shown (squares_gap j pair) (record { left = a; right = b; is_rough = c; gap = cond c (greater g (squares_gap j pair)) exact }))) (sym e) one)

  one_entry : (l r : Listed) (h : IsEntryOf j.left.shapes l) (k : IsEntryOf j.right.shapes r)
      → AllZip IsAlike (pair_found leaf l r) (one_shown (squares_gap j pair) (one_item j pair (l.id, r.id) h.shape k.shape))
  one_entry l r h k =
      let kind : (is_bound l.rough || is_bound r.rough) ≡ (is_rough h.shape || is_rough k.shape) =
      ap₂ (λ a b. a || b) (same_kind j.left.shapes l h) (same_kind j.right.shapes r k) in
      let written : pair_found leaf l r ≡ by_figures leaf l.id r.id (rough_figure h.shape) (rough_figure k.shape) (is_rough h.shape || is_rough k.shape) =
      ap₂ (λ f g. by_figures leaf l.id r.id f g (is_bound l.rough || is_bound r.rough)) h.rough k.rough
      ∙ ap (by_figures leaf l.id r.id (rough_figure h.shape) (rough_figure k.shape)) kind in
      subst (λ xs. AllZip IsAlike xs (one_shown (squares_gap j pair) (one_item j pair (l.id, r.id) h.shape k.shape))) (sym written)
      (entry_alike l.id r.id h.shape k.shape (is_rough h.shape || is_rough k.shape) refl)

  -- what a list of pairs of ids shows, pair by pair
  abbrev gives : List (ℕ × ℕ) → ℕ × ℕ → Option LeafItem
  gives ids = pair_item j.measure j.left.shapes j.right.shapes (pair_node_at pair ids)

  abbrev queued : LeafItem → Bool
  queued = is_queued (squares_gap j pair)

  abbrev each_shown : List (ℕ × ℕ) → ℕ × ℕ → List (Item (Block × Block))
  each_shown ids one = map leaf_pair_item (filter queued (option_to_list (gives ids one)))

  shown_first : (i : LeafItem) (rest : List LeafItem) (k : Bool) → map leaf_pair_item (cond k (i ∷ filter queued rest) (filter queued rest))
      ≡ map leaf_pair_item (cond k (i ∷ []) []) ++ map leaf_pair_item (filter queued rest)
  shown_first i rest true = refl
  shown_first i rest false = refl

  abbrev with_first : Option LeafItem → List LeafItem → List LeafItem
  with_first None xs = xs
  with_first (Some x) xs = x ∷ xs

  shown_next : (o : Option LeafItem) (rest : List LeafItem) → map leaf_pair_item (filter queued (with_first o rest))
      ≡ map leaf_pair_item (filter queued (option_to_list o)) ++ map leaf_pair_item (filter queued rest)
  shown_next None rest = refl
  shown_next (Some i) rest = shown_first i rest (queued i)

  shown_all : (node ids : List (ℕ × ℕ)) → map leaf_pair_item (filter queued (filter_map (gives node) ids)) ≡ flat_map (each_shown node) ids
  shown_all node [] = refl
  shown_all node (one ∷ ids) =
      shown_next (gives node one) (filter_map (gives node) ids) ∙ ap (λ l. each_shown node one ++ l) (shown_all node ids)

  abbrev ids_in : List Listed → List ℕ
  ids_in list = map (λ (l : Listed). l.id) list

  shown_pairs : (node : List (ℕ × ℕ)) (lefts rights : List Listed)
      → map leaf_pair_item (filter queued (filter_map (gives node) (pairs_of (ids_in lefts) (ids_in rights))))
      ≡ flat_map (λ (l : Listed). flat_map (λ (r : Listed). each_shown node (l.id, r.id)) rights) lefts
  shown_pairs node lefts rights =
      shown_all node (pairs_of (ids_in lefts) (ids_in rights))
      ∙ flat_twice (each_shown node) (λ (l : ℕ). map (λ (r : ℕ). (l, r)) (ids_in rights)) (ids_in lefts)
      ∙ flat_mapped (λ (l : ℕ). flat_map (each_shown node) (map (λ (r : ℕ). (l, r)) (ids_in rights))) (λ (l : Listed). l.id) lefts
      ∙ flat_same (λ (l : Listed). flat_map (each_shown node) (map (λ (r : ℕ). (l.id, r)) (ids_in rights))) (λ (l : Listed). flat_map (λ (r : Listed). each_shown node (l.id, r.id)) rights)
      (λ l. flat_mapped (each_shown node) (λ (r : ℕ). (l.id, r)) (ids_in rights) ∙ flat_mapped (λ (r : ℕ). each_shown node (l.id, r)) (λ (r : Listed). r.id) rights) lefts
    where
      flat_same : (f g : Listed → List (Item (Block × Block))) → ((l : Listed) → f l ≡ g l) → (ls : List Listed) → flat_map f ls ≡ flat_map g ls
      flat_same f g same [] = refl
      flat_same f g same (l ∷ ls) = ap₂ (λ a b. a ++ b) (same l) (flat_same f g same ls)

  one_alike : (node : List (ℕ × ℕ)) (l r : Listed) → IsEntryOf j.left.shapes l → IsEntryOf j.right.shapes r → AllZip IsAlike (pair_found leaf l r) (each_shown node (l.id, r.id))
  one_alike node l r h k =
      subst (λ o. AllZip IsAlike (pair_found leaf l r) (map leaf_pair_item (filter queued (option_to_list o))))
      (sym (pair_given j pair node (l.id, r.id) h.shape k.shape h.row k.row)) (one_entry l r h k)

  -- what two leaves give
  pub leaves_alike : (lefts rights : List Listed) → All (IsEntryOf j.left.shapes) lefts → All (IsEntryOf j.right.shapes) rights
      → AllZip IsAlike (flat_map (row_found leaf rights) lefts) (map leaf_pair_item (pairs_shown j pair (pairs_of (ids_in lefts) (ids_in rights))))
  leaves_alike lefts rights h k =
      let node = pairs_of (ids_in lefts) (ids_in rights) in
      subst (AllZip IsAlike (flat_map (row_found leaf rights) lefts)) (sym (shown_pairs node lefts rights))
      (flat_alike (row_found leaf rights) (λ (l : Listed). flat_map (λ (r : Listed). each_shown node (l.id, r.id)) rights) lefts
      (λ l at. flat_alike (pair_found leaf l) (λ (r : Listed). each_shown node (l.id, r.id)) rights
      (λ r at_too. one_alike node l r (All-contains (IsEntryOf j.left.shapes) lefts l h at) (All-contains (IsEntryOf j.right.shapes) rights r k at_too))))

-- ---- entries

module _ (leaf : Frac) (l r : Listed) (f g : Goal) (gap : Frac) (left_is : f ≡ figure_of l.rough) (right_is : g ≡ figure_of r.rough) (near : IsSameGap gap (the_measure f g)) where
  figures_near : IsSameGap gap (the_measure (figure_of l.rough) (figure_of r.rough))
  figures_near =
      subst (λ x. IsSameGap gap (the_measure x (figure_of r.rough))) left_is (subst (λ y. IsSameGap gap (the_measure f y)) right_is near)

  pub entry_rough : (i : Item (Block × Block)) (k : Bool) → k ≡ (is_bound l.rough || is_bound r.rough) → k ≡ true → i ≡ item.Rough (greater gap leaf) l.id r.id
      → AllZip IsAlike (i ∷ []) (pair_found leaf l r)
  entry_rough i k is holds rough =
      subst (λ c. AllZip IsAlike (i ∷ []) (by_figures leaf l.id r.id (figure_of l.rough) (figure_of r.rough) c)) (sym (sym is ∙ holds))
      (bound_same leaf l.id r.id gap (the_measure (figure_of l.rough) (figure_of r.rough)) figures_near i rough)

  pub entry_exact : (items : List (Item (Block × Block))) (k : Bool) → k ≡ (is_bound l.rough || is_bound r.rough) → k ≡ false → items ≡ exact_pair_found leaf l.id r.id gap
      → AllZip IsAlike items (pair_found leaf l r)
  entry_exact items k is fails exact =
      subst (λ c. AllZip IsAlike items (by_figures leaf l.id r.id (figure_of l.rough) (figure_of r.rough) c)) (sym (sym is ∙ fails))
      (exact_same leaf l.id r.id gap (the_measure (figure_of l.rough) (figure_of r.rough)) figures_near items exact)

-- ---- pairs of blocks

-- two blocks under the gap of their squares
pub blocks_same : (left right : Block × Rect) (g : Frac) → left.1 ≡ square_of left.0 → right.1 ≡ square_of right.0 → IsSameGap g (the_measure (figure.Rect left.1) (figure.Rect right.1))
    → IsAlike (item.Node g (left.0, right.0)) (blocks_found (left.0, right.0))
blocks_same left right g is others same = (
  subst (λ (r : Rect). IsSameGap g (the_measure (figure.Rect r) (square_figure right.0))) is
      (subst (λ (r : Rect). IsSameGap g (the_measure (figure.Rect left.1) (figure.Rect r))) others same),
  refl,
)
