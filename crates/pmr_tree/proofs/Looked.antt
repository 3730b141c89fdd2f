-- What the own entries of a block say of its place.
use Rattle.std.proofs.Common.{◌≡◌, ℕ, zero, suc, ◌+◌, ◌*◌, ◌/◌, ◌^◌, ◌<◌, ◌≤◌, Bool, true, false, cond, not, ◌&&◌, List, [], ◌∷◌, length, map, refl, sym, ◌∙◌, ap, subst, arith}
use Rattle.std.specs.Prelude.{filter, nat_eq, nat_lt, All}
use Rattle.std.proofs.lemmas.Bool.Decides.{nat_tests}
use Rattle.std.proofs.lemmas.List.Elements.{All-nil, All-cons}
use Rattle.page_pool.specs.Disk.{PageMap}
use Rattle.sand_base.specs.Plane.{IsShapeInPlane}
use Rattle.sand_base.specs.declared.TheConstants.{COORDINATE_BITS}
use Rattle.sand_base.specs.declared.shape.Shape.{Shape}
use Rattle.z_code.specs.declared.block.Block.{Block}
use Rattle.sand_model.specs.Nodes.{rough_figure}
use Rattle.sand_model.specs.Price.{block_price}
use Rattle.sand_model.specs.Tree.{Tree, Leaf, Inner, root_block, IsPlace}
use Rattle.pmr_tree.specs.Lists.{Each}
use Rattle.pmr_tree.specs.Keys.{key_of, mark_of, leaf_keys, IsId, ReadsKeys, id_in, ids_in}
use Rattle.pmr_tree.specs.Entries.{value_of, figure_of, IsRoughInPlane, listed_of, IsNodeOf, id_count, KeepsIn}
use Rattle.pmr_tree.specs.Leaves.{firsts, own_pairs, place_of_entries}
use Rattle.pmr_tree.specs.Listing.{Pair, rough_in, listed_in}
use Rattle.pmr_tree.specs.Quadtree.{quadtree_entries, keys_at, tree_at, IsPmr}
use Rattle.pmr_tree.specs.Calls.{FindsPlace, HasRoughs, IsFoundInRange}
use Rattle.pmr_tree.specs.declared.listed.Listed.{Listed}
use Rattle.pmr_tree.specs.declared.listed.Node.{Node}
use Rattle.pmr_tree.specs.declared.listed.Node.TheVariants as node
use Rattle.pmr_tree.specs.declared.quadtree.Pmr.{Pmr}
use Rattle.pmr_tree.proofs.AscendingLists.{holds, fails, test, each_map, each_filter}
use Rattle.pmr_tree.proofs.KeyLists.{own_leaf, own_inner}
use Rattle.pmr_tree.proofs.Entries.{firsts_own, map_filter, ids_leaf}
use Rattle.pmr_tree.proofs.Places.{place_reads}
use Rattle.pmr_tree.proofs.Roughs.{rough_in_plane, rough_back}
use Rattle.pmr_tree.proofs.TreeAt.{pmr_reads}

-- what the keys of a place's own entries are
pub own_of : (b : Block) (es : List Pair) (ids : List ℕ) → ReadsKeys b (firsts es) (Leaf ids) → firsts (own_pairs b es) ≡ leaf_keys b ids
own_of b es ids r = firsts_own b es ∙ own_leaf b (firsts es) ids r

nil_of : (es : List Pair) → firsts es ≡ [] → es ≡ []
nil_of [] h = refl
nil_of (e ∷ es) h = cc

none_of : (b : Block) (es : List Pair) (p q r s : Tree) → ReadsKeys b (firsts es) (Inner p q r s) → own_pairs b es ≡ []
none_of b es p q r s h = nil_of (own_pairs b es) (firsts_own b es ∙ own_inner b (firsts es) p q r s h)

tail_of : (e : Pair) (es : List Pair) (k : ℕ) (ks : List ℕ) → firsts (e ∷ es) ≡ k ∷ ks → (e.0 ≡ k) × (firsts es ≡ ks)
tail_of e es k ks h = (cc, cc)

length_firsts : (es : List Pair) → length (firsts es) ≡ length es
length_firsts [] = refl
length_firsts (e ∷ es) = ap suc (length_firsts es)

length_map : (b : Block) (ids : List ℕ) → length (map (key_of b) ids) ≡ length ids
length_map b [] = refl
length_map b (id ∷ ids) = ap suc (length_map b ids)

-- a visit's price
leaf_price : (h n s : ℕ) → s ≤ suc n → (suc h + 1) + s ≤ suc h * (suc n + 2)
leaf_price h n s l = omega (arith, l)

pub price : (b : Block) (es : List Pair) (place : Tree) (height : ℕ) → 1 ≤ height → ReadsKeys b (firsts es) place → (height + 1) + length (own_pairs b es) / 63 ≤ block_price height (id_count place)
price b es place zero some r = absurd (omega (arith, some))
price b es (Leaf []) (suc h) some r =
    let one : length (own_pairs b es) ≡ 1 = sym (length_firsts (own_pairs b es)) ∙ ap length (own_of b es [] r) in
    omega (arith, one)
price b es (Leaf (id ∷ ids)) (suc h) some r =
    let keys : length (own_pairs b es) ≡ suc (length ids) = sym (length_firsts (own_pairs b es)) ∙ ap length (own_of b es (id ∷ ids) r) ∙ length_map b (id ∷ ids) in
    leaf_price h (length ids) (length (own_pairs b es) / 63) (omega (arith, keys))
price b es (Inner p q u v) (suc h) some r =
    let none : length (own_pairs b es) ≡ 0 = ap length (none_of b es p q u v r) in
    omega (arith, none)

-- the ids that are listed
abbrev listing : Pair → Listed
listing e = record { id = id_in e.0; rough = rough_in e.1 }

map_ids : (es : List Pair) → map (λ l. l.id) (map listing es) ≡ map id_in (firsts es)
map_ids [] = refl
map_ids (e ∷ es) = ap (λ t. id_in e.0 ∷ t) (map_ids es)

ids_listed : (es : List Pair) → map (λ l. l.id) (listed_in es) ≡ ids_in (firsts es)
ids_listed es =
    map_filter (λ l. l.id) (λ i. not (nat_eq i 0)) (map listing es)
    ∙ ap (filter (λ i. not (nat_eq i 0))) (map_ids es)

-- a place is what its own entries say
leaf_node : (b : Block) (ids : List ℕ) (xs : List Pair) → Each IsId ids → firsts xs ≡ leaf_keys b ids → IsNodeOf (Leaf ids) (place_of_entries b xs)
leaf_node b [] [] i h = absurd (cc)
leaf_node b (id ∷ ids) [] i h = absurd (cc)
leaf_node b ids (x ∷ xs) i h =
    let some : nat_eq (length (x ∷ xs)) 0 ≡ false = no_zero (length xs) in
    rw some (ids_listed (x ∷ xs) ∙ ap ids_in h ∙ ids_leaf b ids i)
  where
    no_zero : (n : ℕ) → nat_eq (suc n) 0 ≡ false
    no_zero n = grind (arith, nat_tests)

inner_node : (b : Block) (p q r s : Tree) → b.level < COORDINATE_BITS → IsNodeOf (Inner p q r s) (place_of_entries b [])
inner_node b p q r s h = (let above : nat_lt b.level COORDINATE_BITS ≡ true = less b.level COORDINATE_BITS h in rw above tt) where
  less : (a c : ℕ) → a < c → nat_lt a c ≡ true
  less a c l = grind (arith, nat_tests)

node_of : (b : Block) (es : List Pair) (place : Tree) → ReadsKeys b (firsts es) place → IsNodeOf place (place_of_entries b (own_pairs b es))
node_of b es (Leaf ids) r = leaf_node b ids (own_pairs b es) r.shaped.1.1 (own_of b es ids r)
node_of b es (Inner p q u v) r = subst (λ t. IsNodeOf (Inner p q u v) (place_of_entries b t)) (sym (none_of b es p q u v r)) (inner_node b p q u v r.shaped.0)

-- what a place lists
pub node_range : (b : Block) (es : List Pair) → IsFoundInRange (place_of_entries b es)
node_range b es = go (nat_eq (length es) 0 && nat_lt b.level COORDINATE_BITS) where
  some_id : (i : ℕ) → not (nat_eq i 0) ≡ true → 1 ≤ i
  some_id i h = grind (arith, nat_tests)

  each : (es : List Pair) → All (λ l. (1 ≤ l.id) × IsRoughInPlane l.rough) (listed_in es)
  each [] = All-nil (λ l. (1 ≤ l.id) × IsRoughInPlane l.rough)
  each (e ∷ es) =
      elim (test (not (nat_eq (id_in e.0) 0))) [
        | holds h ↦ rw h (All-cons (λ l. (1 ≤ l.id) × IsRoughInPlane l.rough) (listing e) (listed_in es) (some_id (id_in e.0) h, rough_in_plane e.1) (each es))
        | fails h ↦ rw h (each es)
      ]

  go : (c : Bool) → IsFoundInRange (cond c node.Inner (node.Leaf (listed_in es)))
  go true = All-nil (λ l. (1 ≤ l.id) × IsRoughInPlane l.rough)
  go false = each es

leaf_inner : {list : List Listed} → node.Leaf list ≡ node.Inner → ⊥
leaf_inner e = cc

pub node_above : (b : Block) (es : List Pair) → place_of_entries b es ≡ node.Inner → b.level < COORDINATE_BITS
node_above b es e = go (nat_eq (length es) 0) (nat_lt b.level COORDINATE_BITS) refl e where
  less : (a c : ℕ) → nat_lt a c ≡ true → a < c
  less a c l = grind (arith, nat_tests)

  go : (c d : Bool) → nat_lt b.level COORDINATE_BITS ≡ d → cond (c && d) node.Inner (node.Leaf (listed_in es)) ≡ node.Inner → b.level < COORDINATE_BITS
  go true true l e = less b.level COORDINATE_BITS l
  go true false l e = absurd (leaf_inner e)
  go false d l e = absurd (leaf_inner e)

-- each entry of an id has the value of its rough shape, where all have
each_keeps : (es : List Pair) → Each (λ e. (id : ℕ) (s : Shape) → KeepsIn es id s → id_in e.0 ≡ id → e.1 ≡ value_of (rough_figure s)) es
each_keeps [] = tt
each_keeps (x ∷ xs) = (
  λ id s k. k.0,
  each_map (λ e. (id : ℕ) (s : Shape) → KeepsIn xs id s → id_in e.0 ≡ id → e.1 ≡ value_of (rough_figure s))
      (λ e. (id : ℕ) (s : Shape) → KeepsIn (x ∷ xs) id s → id_in e.0 ≡ id → e.1 ≡ value_of (rough_figure s)) (λ e h id s k. h id s k.1) xs (each_keeps xs),
)

node_roughs : (b : Block) (all es : List Pair) → Each (λ e. (id : ℕ) (s : Shape) → KeepsIn all id s → id_in e.0 ≡ id → e.1 ≡ value_of (rough_figure s)) es
    → All (λ l. (s : Shape) → IsShapeInPlane s → KeepsIn all l.id s → figure_of l.rough ≡ rough_figure s) (listed_of (place_of_entries b es))
node_roughs b all es h = go (nat_eq (length es) 0 && nat_lt b.level COORDINATE_BITS) where
  Keeps : Listed → Type 0
  Keeps l = (s : Shape) → IsShapeInPlane s → KeepsIn all l.id s → figure_of l.rough ≡ rough_figure s

  each : (es : List Pair) → Each (λ e. (id : ℕ) (s : Shape) → KeepsIn all id s → id_in e.0 ≡ id → e.1 ≡ value_of (rough_figure s)) es → All Keeps (listed_in es)
  each [] h = All-nil Keeps
  each (e ∷ es) h =
      elim (test (not (nat_eq (id_in e.0) 0))) [
        | holds t ↦ rw t (All-cons Keeps (listing e) (listed_in es) (λ s plane k. rough_back s plane e.1 (h.0 (id_in e.0) s k refl)) (each es h.1))
        | fails t ↦ rw t (each es h.1)
      ]

  go : (c : Bool) → All Keeps (listed_of (cond c node.Inner (node.Leaf (listed_in es))))
  go true = All-nil Keeps
  go false = each es h

-- the same of a quadtree in pages
pub looked : (pages : PageMap) (t : Pmr) (b : Block) (pairs : List Pair) (found : Node) → IsPmr pages t → pairs ≡ own_pairs b (quadtree_entries pages t)
    → found ≡ place_of_entries b pairs → FindsPlace (tree_at pages t) b found
looked pages t b pairs found h is e = λ place at.
    let r = place_reads root_block (keys_at pages t) (tree_at pages t) (pmr_reads pages t h) b place at in
    subst (IsNodeOf place) (sym (e ∙ ap (place_of_entries b) is)) (node_of b (quadtree_entries pages t) place r)

pub looked_roughs : (pages : PageMap) (t : Pmr) (b : Block) (pairs : List Pair) (found : Node) → pairs ≡ own_pairs b (quadtree_entries pages t)
    → found ≡ place_of_entries b pairs → HasRoughs pages t found
looked_roughs pages t b pairs found is e =
    let es = quadtree_entries pages t in
    subst (HasRoughs pages t) (sym (e ∙ ap (place_of_entries b) is))
    (node_roughs b es (own_pairs b es) (each_filter (λ e. (id : ℕ) (s : Shape) → KeepsIn es id s → id_in e.0 ≡ id → e.1 ≡ value_of (rough_figure s))
    (λ e. Rattle.pmr_tree.specs.Lists.is_from_to (mark_of b) (mark_of b + 2 ^ 32) e.0) es (each_keeps es)))

pub looked_price : (pages : PageMap) (t : Pmr) (b : Block) (place : Tree) (old new : ℕ) → IsPmr pages t → 1 ≤ t.map.height → IsPlace (tree_at pages t) b place
    → new ≤ old + ((t.map.height + 1) + length (own_pairs b (quadtree_entries pages t)) / 63) → new ≤ old + block_price t.map.height (id_count place)
looked_price pages t b place old new h some at l =
    let r = place_reads root_block (keys_at pages t) (tree_at pages t) (pmr_reads pages t h) b place at in
    let p = price b (quadtree_entries pages t) place t.map.height some r in
    omega (arith, l, p)
