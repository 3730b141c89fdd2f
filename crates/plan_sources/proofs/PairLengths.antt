-- How many pairs of places and pairs of ids two quadtrees have, by their listings.
use Rattle.std.proofs.Common.{◌≡◌, ℕ, ◌+◌, ◌*◌, ◌≤◌, List, [], ◌∷◌, ◌++◌, map, length, length-append, filter_map, refl, ap, ◌∙◌, arith}
use Rattle.std.proofs.Common.{mul-le-mul_left}
use Rattle.std.proofs.lemmas.List.{length-map}
use Rattle.sand_base.specs.declared.shape.Shape.{Shape}
use Rattle.z_code.specs.Block.{child}
use Rattle.z_code.specs.declared.block.Block.{Block}
use Rattle.sand_model.specs.Measure.{Measure}
use Rattle.sand_model.specs.Nodes.{PairNode, pairs_of, leaf_pairs, under_children, pair_nodes, pair_item, join_items}
use Rattle.sand_model.specs.Tree.{Tree, Leaf, Inner, listings}
use Rattle.plan_sources.proofs.Shorter.{fewer_mapped}

-- ---- pairs of ids

pub pairs_long : (lefts rights : List ℕ) → length (pairs_of lefts rights) ≡ length lefts * length rights
pairs_long [] rights = omega arith
pairs_long (l ∷ lefts) rights =
    let rest = pairs_long lefts rights in
    let first = length-map {B = ℕ × ℕ} rights (λ (r : ℕ). (l, r)) in
    let both = length-append (map (λ (r : ℕ). (l, r)) rights) (pairs_of lefts rights) in
    omega (arith, rest, first, both)

-- ---- a number for each pair of places

-- the sum of a number over the pairs of places
abbrev pub sum_of : (PairNode → ℕ) → List PairNode → ℕ
sum_of f [] = 0
sum_of f (x ∷ xs) = f x + sum_of f xs

sum-append : (f : PairNode → ℕ) (xs ys : List PairNode) → sum_of f (xs ++ ys) ≡ sum_of f xs + sum_of f ys
sum-append f [] ys = omega arith
sum-append f (x ∷ xs) ys = let rest = sum-append f xs ys in omega (arith, rest)

sum-four : (f : PairNode → ℕ) (ws xs ys zs : List PairNode) → sum_of f (ws ++ (xs ++ (ys ++ zs))) ≡ sum_of f ws + (sum_of f xs + (sum_of f ys + sum_of f zs))
sum-four f ws xs ys zs =
    sum-append f ws (xs ++ (ys ++ zs)) ∙ ap (λ n. sum_of f ws + n) (sum-append f xs (ys ++ zs) ∙ ap (λ n. sum_of f xs + n) (sum-append f ys zs))

-- each pair of places counts 1
pub long_is : (nodes : List PairNode) → sum_of (λ node. 1) nodes ≡ length nodes
long_is [] = refl
long_is (node ∷ nodes) = let rest = long_is nodes in omega (arith, rest)

listings_some : (tree : Tree) → 1 ≤ listings tree
listings_some (Leaf ids) = omega arith
listings_some (Inner p q r s) = let some = listings_some p in omega (arith, some)

-- ---- fewer pairs of places than twice the product of the listings

few_leaf_pairs : (b : Block) (lefts : List ℕ) (c : Block) (u : Tree) → sum_of (λ node. 1) (leaf_pairs b lefts c u) + 1 ≤ 2 * listings u
few_leaf_pairs b lefts c (Leaf rights) = omega arith
few_leaf_pairs b lefts c (Inner p q r s) =
    let one = few_leaf_pairs b lefts (child c 0) p in
    let two = few_leaf_pairs b lefts (child c 1) q in
    let three = few_leaf_pairs b lefts (child c 2) r in
    let four = few_leaf_pairs b lefts (child c 3) s in
    let all = sum-four (λ node. 1) (leaf_pairs b lefts (child c 0) p) (leaf_pairs b lefts (child c 1) q) (leaf_pairs b lefts (child c 2) r) (leaf_pairs b lefts (child c 3) s) in
    omega (arith, one, two, three, four, all)

more_than : (b : Block) (ids : List ℕ) (n : ℕ) → n ≤ listings (Leaf ids) * n
more_than b ids n =
    let wide = mul-le-mul_left n (listings_some (Leaf ids)) in omega (arith, wide)

-- what stands under the four children of the right block
few_under : (f : PairNode → ℕ) (here : Block → Tree → List PairNode) (c : Block) (p q r s : Tree) (k : ℕ) (l : ℕ)
    → sum_of f (here (child c 0) p) + k ≤ l * listings p → sum_of f (here (child c 1) q) + k ≤ l * listings q
    → sum_of f (here (child c 2) r) + k ≤ l * listings r → sum_of f (here (child c 3) s) + k ≤ l * listings s
    → sum_of f (under_children here c p q r s) + 4 * k ≤ l * listings (Inner p q r s)
few_under f here c p q r s k l one two three four =
    let all = sum-four f (here (child c 0) p) (here (child c 1) q) (here (child c 2) r) (here (child c 3) s) in
    omega (arith, one, two, three, four, all)

pub few_pairs : (b : Block) (t : Tree) (c : Block) (u : Tree) → sum_of (λ node. 1) (pair_nodes b t c u) + 1 ≤ 2 * listings t * listings u
few_pairs b (Leaf lefts) c u =
    let few = few_leaf_pairs b lefts c u in
    let wide = more_than b lefts (listings u) in
    omega (arith, few, wide)
few_pairs b (Inner p q r s) c (Leaf rights) =
    let u = Leaf rights in
    let one = few_pairs (child b 0) p c u in
    let two = few_pairs (child b 1) q c u in
    let three = few_pairs (child b 2) r c u in
    let four = few_pairs (child b 3) s c u in
    let all = sum-four (λ node. 1) (pair_nodes (child b 0) p c u) (pair_nodes (child b 1) q c u) (pair_nodes (child b 2) r c u) (pair_nodes (child b 3) s c u) in
    omega (arith, one, two, three, four, all)
few_pairs b (Inner p q r s) c (Inner v w x y) =
    let one = few_under (λ node. 1) (pair_nodes (child b 0) p) c v w x y 1 (2 * listings p) (few_pairs (child b 0) p (child c 0) v)
    (few_pairs (child b 0) p (child c 1) w) (few_pairs (child b 0) p (child c 2) x) (few_pairs (child b 0) p (child c 3) y) in
    let two = few_under (λ node. 1) (pair_nodes (child b 1) q) c v w x y 1 (2 * listings q) (few_pairs (child b 1) q (child c 0) v)
    (few_pairs (child b 1) q (child c 1) w) (few_pairs (child b 1) q (child c 2) x) (few_pairs (child b 1) q (child c 3) y) in
    let three = few_under (λ node. 1) (pair_nodes (child b 2) r) c v w x y 1 (2 * listings r) (few_pairs (child b 2) r (child c 0) v)
    (few_pairs (child b 2) r (child c 1) w) (few_pairs (child b 2) r (child c 2) x) (few_pairs (child b 2) r (child c 3) y) in
    let four = few_under (λ node. 1) (pair_nodes (child b 3) s) c v w x y 1 (2 * listings s) (few_pairs (child b 3) s (child c 0) v)
    (few_pairs (child b 3) s (child c 1) w) (few_pairs (child b 3) s (child c 2) x) (few_pairs (child b 3) s (child c 3) y) in
    let all = sum-four (λ node. 1) (under_children (pair_nodes (child b 0) p) c v w x y) (under_children (pair_nodes (child b 1) q) c v w x y)
    (under_children (pair_nodes (child b 2) r) c v w x y) (under_children (pair_nodes (child b 3) s) c v w x y) in
    omega (arith, one, two, three, four, all)

-- ---- no more pairs of ids than the product of the listings

abbrev pub ids_long : PairNode → ℕ
ids_long node = length node.ids

few_leaf_ids : (b : Block) (lefts : List ℕ) (c : Block) (u : Tree) → sum_of ids_long (leaf_pairs b lefts c u) ≤ length lefts * listings u
few_leaf_ids b lefts c (Leaf rights) =
    let long = pairs_long lefts rights in
    let few : length rights ≤ listings (Leaf rights) = omega arith in
    let wide = mul-le-mul_left (length lefts) few in
    omega (arith, long, wide)
few_leaf_ids b lefts c (Inner p q r s) =
    let one = few_leaf_ids b lefts (child c 0) p in
    let two = few_leaf_ids b lefts (child c 1) q in
    let three = few_leaf_ids b lefts (child c 2) r in
    let four = few_leaf_ids b lefts (child c 3) s in
    let all = sum-four ids_long (leaf_pairs b lefts (child c 0) p) (leaf_pairs b lefts (child c 1) q) (leaf_pairs b lefts (child c 2) r) (leaf_pairs b lefts (child c 3) s) in
    omega (arith, one, two, three, four, all)

pub few_ids : (b : Block) (t : Tree) (c : Block) (u : Tree) → sum_of ids_long (pair_nodes b t c u) ≤ listings t * listings u
few_ids b (Leaf lefts) c u =
    let few = few_leaf_ids b lefts c u in
    let some : length lefts ≤ listings (Leaf lefts) = omega arith in
    let wide = mul-le-mul_left (listings u) some in
    omega (arith, few, wide)
few_ids b (Inner p q r s) c (Leaf rights) =
    let u = Leaf rights in
    let one = few_ids (child b 0) p c u in
    let two = few_ids (child b 1) q c u in
    let three = few_ids (child b 2) r c u in
    let four = few_ids (child b 3) s c u in
    let all = sum-four ids_long (pair_nodes (child b 0) p c u) (pair_nodes (child b 1) q c u) (pair_nodes (child b 2) r c u) (pair_nodes (child b 3) s c u) in
    omega (arith, one, two, three, four, all)
few_ids b (Inner p q r s) c (Inner v w x y) =
    let one = few_under ids_long (pair_nodes (child b 0) p) c v w x y 0 (listings p) (omega (arith, few_ids (child b 0) p (child c 0) v))
    (omega (arith, few_ids (child b 0) p (child c 1) w)) (omega (arith, few_ids (child b 0) p (child c 2) x)) (omega (arith, few_ids (child b 0) p (child c 3) y)) in
    let two = few_under ids_long (pair_nodes (child b 1) q) c v w x y 0 (listings q) (omega (arith, few_ids (child b 1) q (child c 0) v))
    (omega (arith, few_ids (child b 1) q (child c 1) w)) (omega (arith, few_ids (child b 1) q (child c 2) x)) (omega (arith, few_ids (child b 1) q (child c 3) y)) in
    let three = few_under ids_long (pair_nodes (child b 2) r) c v w x y 0 (listings r) (omega (arith, few_ids (child b 2) r (child c 0) v))
    (omega (arith, few_ids (child b 2) r (child c 1) w)) (omega (arith, few_ids (child b 2) r (child c 2) x)) (omega (arith, few_ids (child b 2) r (child c 3) y)) in
    let four = few_under ids_long (pair_nodes (child b 3) s) c v w x y 0 (listings s) (omega (arith, few_ids (child b 3) s (child c 0) v))
    (omega (arith, few_ids (child b 3) s (child c 1) w)) (omega (arith, few_ids (child b 3) s (child c 2) x)) (omega (arith, few_ids (child b 3) s (child c 3) y)) in
    let all = sum-four ids_long (under_children (pair_nodes (child b 0) p) c v w x y) (under_children (pair_nodes (child b 1) q) c v w x y)
    (under_children (pair_nodes (child b 2) r) c v w x y) (under_children (pair_nodes (child b 3) s) c v w x y) in
    omega (arith, one, two, three, four, all)

-- no more items than pairs of ids
pub few_items : (gap : Measure) (lefts rights : List (ℕ × Shape)) (nodes : List PairNode) → length (join_items gap lefts rights nodes) ≤ sum_of ids_long nodes
few_items gap lefts rights [] = omega arith
few_items gap lefts rights (node ∷ nodes) =
    let rest = few_items gap lefts rights nodes in
    let first = fewer_mapped (pair_item gap lefts rights node) node.ids in
    let both = length-append (filter_map (pair_item gap lefts rights node) node.ids) (join_items gap lefts rights nodes) in
    omega (arith, rest, first, both)
