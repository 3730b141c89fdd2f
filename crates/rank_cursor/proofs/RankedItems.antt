-- The greater of two gaps, shapes by their ids, and items of a leaf.
use Rattle.std.proofs.Common.{◌≡◌, ◌≢◌, ⊎_elim, ℕ, Bool, true, false, cond, not, ◌||◌, true≢false, List, [], ◌∷◌, ◌++◌, map, find, filter_map}
use Rattle.std.proofs.Common.{Contains, Some, option_map, refl, sym, ap, ap₂, ◌∙◌, subst, Ordering, Less, Equal, Greater}
use Rattle.std.specs.Ordering.{is_lt}
use Rattle.std.specs.Prelude.{nat_eq}
use Rattle.std.proofs.lemmas.Bool.{eqb-true, eq-eqb}
use Rattle.std.proofs.lemmas.List.Elements.{All-contains}
use Rattle.exact_frac.specs.Frac.{value_cmp}
use Rattle.exact_frac.specs.declared.frac.Frac.{Frac}
use Rattle.sand_base.specs.declared.goal.Goal.TheVariants as figure
use Rattle.sand_base.specs.declared.shape.Shape.{Shape}
use Rattle.z_code.specs.declared.block.Block.{Block}
use Rattle.sand_model.specs.Database.{shape_at}
use Rattle.sand_model.specs.Nodes.{LeafItem, single_item, is_queued, is_rough, greater, rough_figure}
use Rattle.best_first.specs.Item.{gap_of, node_if_any, nodes_of}
use Rattle.best_first.specs.Reach.{IsAtMost}
use Rattle.best_first.specs.declared.item.Item.TheVariants.{Rough, Row}
use Rattle.best_first.proofs.Bags.{cons_cases, none, from_filter}
use Rattle.best_first.proofs.Gaps.{at_most_itself, equal_at_least, greater_is, less_is, below_at_most, not_below}
use Rattle.rank_cursor.specs.Ranking.{Ranking, block_gap, leaf_item, shown, HaveOwnIds}
use Rattle.rank_cursor.proofs.Elements.{from_filter_map}
use Rattle.rank_cursor.proofs.Places.{mapped_some, found_is, some_found}

-- ---- the greater of two gaps

not_less : (f g : Frac) → is_lt (value_cmp f g) ≡ false → IsAtMost g f
not_less f g e =
    let go : (a : Ordering) → value_cmp f g ≡ a → is_lt a ≡ false → IsAtMost g f =
    elim [ Less ↦ λ h k. absurd (true≢false k) | Equal ↦ λ h k. equal_at_least f g h | Greater ↦ λ h k. below_at_most g f (greater_is f g h) ] in
    go (value_cmp f g) refl e

is_less : (f g : Frac) → is_lt (value_cmp f g) ≡ true → IsAtMost f g
is_less f g e =
    let go : (a : Ordering) → value_cmp f g ≡ a → is_lt a ≡ true → IsAtMost f g =
    elim [ Less ↦ λ h k. below_at_most f g (less_is f g h) | Equal ↦ λ h k. absurd (true≢false (sym k)) | Greater ↦ λ h k. absurd (true≢false (sym k)) ] in
    go (value_cmp f g) refl e

-- what is no less is not told to be less
pub at_least_not_less : (f g : Frac) → IsAtMost g f → is_lt (value_cmp f g) ≡ false
at_least_not_less f g h =
    let go : (a : Ordering) → value_cmp f g ≡ a → is_lt a ≡ false = elim [ Less ↦ λ e. absurd (not_below f g (less_is f g e) h) | Equal ↦ λ e. refl | Greater ↦ λ e. refl ] in
    go (value_cmp f g) refl

pub greater_first : (f g : Frac) → IsAtMost f (greater f g)
greater_first f g =
    let go : (b : Bool) → is_lt (value_cmp f g) ≡ b → IsAtMost f (cond b g f) = elim [ true ↦ λ e. is_less f g e | false ↦ λ e. at_most_itself f ] in
    go (is_lt (value_cmp f g)) refl

pub greater_second : (f g : Frac) → IsAtMost g (greater f g)
greater_second f g =
    let go : (b : Bool) → is_lt (value_cmp f g) ≡ b → IsAtMost g (cond b g f) = elim [ true ↦ λ e. at_most_itself g | false ↦ λ e. not_less f g e ] in
    go (is_lt (value_cmp f g)) refl

pub greater_least : (f g h : Frac) → IsAtMost f h → IsAtMost g h → IsAtMost (greater f g) h
greater_least f g h p q =
    let go : (b : Bool) → IsAtMost (cond b g f) h = elim [ true ↦ q | false ↦ p ] in
    go (is_lt (value_cmp f g))

-- ---- shapes by their ids

-- what a look-up gives is the shape of a row
pub shape_is : (shapes : List (ℕ × Shape)) (id : ℕ) (s : Shape) → shape_at shapes id ≡ Some s → Contains shapes (id, s)
shape_is shapes id s h =
    let (pair, found, is) = mapped_some (λ (pair : ℕ × Shape). pair.1) (find (λ (pair : ℕ × Shape). nat_eq pair.0 id) shapes) s h in
    let (at, same) = found_is (λ (pair : ℕ × Shape). nat_eq pair.0 id) shapes pair found in
    subst (λ (t : Shape). Contains shapes (id, t)) is (subst (λ (n : ℕ). Contains shapes (n, pair.1)) (eqb-true pair.0 id same) at)

-- an id is that of one row
pub own_shape : (shapes : List (ℕ × Shape)) → HaveOwnIds shapes → (id : ℕ) (s t : Shape) → Contains shapes (id, s) → Contains shapes (id, t) → s ≡ t
own_shape [] own id s t h k = absurd (none (id, s) h)
own_shape (row ∷ rows) own id s t h k =
    ⊎_elim
    (λ e. ⊎_elim
    (λ f. ap (λ (x : ℕ × Shape). x.1) (sym e ∙ f))
    (λ m. absurd (All-contains (λ (other : ℕ × Shape). row.0 ≢ other.0) rows (id, t) own.0 m (ap (λ (x : ℕ × Shape). x.0) e)))
    (cons_cases row rows (id, t) k))
    (λ m. ⊎_elim
    (λ f. absurd (All-contains (λ (other : ℕ × Shape). row.0 ≢ other.0) rows (id, s) own.0 m (ap (λ (x : ℕ × Shape). x.0) f)))
    (λ n. own_shape rows own.1 id s t m n)
    (cons_cases row rows (id, t) k))
    (cons_cases row rows (id, s) h)

-- so a look-up gives the shape of each row
pub is_shape : (shapes : List (ℕ × Shape)) → HaveOwnIds shapes → (id : ℕ) (s : Shape) → Contains shapes (id, s) → shape_at shapes id ≡ Some s
is_shape shapes own id s h =
    let test : ℕ × Shape → Bool = λ (pair : ℕ × Shape). nat_eq pair.0 id in
    let (pair, found) = some_found test shapes (id, s) h (eq-eqb id id refl) in
    let (at, same) = found_is test shapes pair found in
    ap (option_map (λ (pair : ℕ × Shape). pair.1)) found
    ∙ ap (λ (t : Shape). Some t) (own_shape shapes own id pair.1 s (subst (λ (n : ℕ). Contains shapes (n, pair.1)) (eqb-true pair.0 id same) at) h)

-- ---- items of a leaf

-- the id of a row in a leaf, with the shape of the row
abbrev pub one_item : Ranking → Block → ℕ → Shape → LeafItem
one_item r b id s = record {
  left = id;
  right = 0;
  is_rough = is_rough s;
  gap =
      cond (is_rough s) (greater (r.measure r.goal (rough_figure s)) (block_gap r b)) (r.measure r.goal (figure.Shape s));
}

-- What a leaf shows is the item of a row that is not nearer than the leaf, or rough.
pub record IsShown (r : Ranking) (b : Block) (ids : List ℕ) (item : LeafItem) : Type 0 where
  pub id : ℕ
  pub shape : Shape
  pub listed : Contains ids id
  pub row : Contains r.shapes (id, shape)
  pub is : one_item r b id shape ≡ item
  pub queued : is_queued (block_gap r b) item ≡ true

pub shown_is : (r : Ranking) (b : Block) (ids : List ℕ) (item : LeafItem) → Contains (shown r b ids) item → IsShown r b ids item
shown_is r b ids item h =
    let (among, queued) = from_filter (is_queued (block_gap r b)) (filter_map (single_item r.measure r.goal r.shapes b) ids) item h in
    let (id, at, gives) = from_filter_map (single_item r.measure r.goal r.shapes b) ids item among in
    let (s, found, is) = mapped_some (one_item r b id) (shape_at r.shapes id) item gives in
    record { id = id; shape = s; listed = at; row = shape_is r.shapes id s found; is = is; queued = queued }

pub leaf_item_gap : (item : LeafItem) → gap_of (leaf_item item) ≡ item.gap
leaf_item_gap item =
    let go : (b : Bool) → gap_of {N = Block} (cond b (Rough item.gap item.left item.right) (Row item.gap item.left item.right)) ≡ item.gap = elim [ true ↦ refl | false ↦ refl ] in
    go item.is_rough

leaf_item_node : (item : LeafItem) → node_if_any (leaf_item item) ≡ []
leaf_item_node item =
    let go : (b : Bool) → node_if_any {N = Block} (cond b (Rough item.gap item.left item.right) (Row item.gap item.left item.right)) ≡ [] = elim [ true ↦ refl | false ↦ refl ] in
    go item.is_rough

pub leaf_nodes : (items : List LeafItem) → nodes_of (map leaf_item items) ≡ []
leaf_nodes [] = refl
leaf_nodes (item ∷ items) = ap₂ (λ (xs : List Block) (ys : List Block). xs ++ ys) (leaf_item_node item) (leaf_nodes items)

-- an item that a leaf shows is no nearer than the leaf
pub shown_far : (r : Ranking) (b : Block) (ids : List ℕ) (item : LeafItem) → IsShown r b ids item → IsAtMost (block_gap r b) item.gap
shown_far r b ids item h = subst (λ (x : LeafItem). is_queued (block_gap r b) x ≡ true → IsAtMost (block_gap r b) x.gap) h.is (far (is_rough h.shape)) h.queued
  where
    far : (k : Bool)
        → (k || not (is_lt (value_cmp (cond k (greater (r.measure r.goal (rough_figure h.shape)) (block_gap r b)) (r.measure r.goal (figure.Shape h.shape))) (block_gap r b)))) ≡ true
        → IsAtMost (block_gap r b) (cond k (greater (r.measure r.goal (rough_figure h.shape)) (block_gap r b)) (r.measure r.goal (figure.Shape h.shape)))
    far true e = greater_second (r.measure r.goal (rough_figure h.shape)) (block_gap r b)
    far false e = not_less (r.measure r.goal (figure.Shape h.shape)) (block_gap r b) (not_true (is_lt (value_cmp (r.measure r.goal (figure.Shape h.shape)) (block_gap r b))) e)
      where
        not_true : (c : Bool) → not c ≡ true → c ≡ false
        not_true true e = absurd (true≢false (sym e))
        not_true false e = refl
