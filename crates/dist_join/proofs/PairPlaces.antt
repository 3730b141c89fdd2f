-- Pairs of places of two trees: each pair of leaves is one of them, and each is a place of either tree.
use Rattle.std.proofs.Common.{◌≡◌, ⊎_elim, ℕ, ◌<◌, List, [], ◌++◌, Contains, refl, subst, arith}
use Rattle.std.proofs.lemmas.List.Elements.{Contains-append_left, Contains-append_right}
use Rattle.z_code.specs.Block.{child}
use Rattle.z_code.specs.declared.block.Block.{Block}
use Rattle.sand_model.specs.Nodes.{PairNode, pairs_of, leaf_pairs, under_children, pair_nodes}
use Rattle.sand_model.specs.Tree.{Tree, Leaf, Inner, places, leaves}
use Rattle.best_first.proofs.Bags.{here, there, cons_cases, only}
use Rattle.rank_cursor.proofs.Places.{pick, by_four, four_cases, place_below, place_here}
use Rattle.dist_join.specs.Joining.{ids_of_both}

-- ---- four lists in a row

pub in_four : {X : Type 0} (f : ℕ → List X) (x : X) (i : ℕ) → i < 4 → Contains (f i) x → Contains (f 0 ++ (f 1 ++ (f 2 ++ f 3))) x
in_four f x i small h =
    by_four (λ j. Contains (f j) x → Contains (f 0 ++ (f 1 ++ (f 2 ++ f 3))) x)
    (λ a. Contains-append_left (f 0) (f 1 ++ (f 2 ++ f 3)) x a)
    (λ a. Contains-append_right (f 0) (f 1 ++ (f 2 ++ f 3)) x (Contains-append_left (f 1) (f 2 ++ f 3) x a))
    (λ a. Contains-append_right (f 0) (f 1 ++ (f 2 ++ f 3)) x (Contains-append_right (f 1) (f 2 ++ f 3) x (Contains-append_left (f 2) (f 3) x a)))
    (λ a. Contains-append_right (f 0) (f 1 ++ (f 2 ++ f 3)) x (Contains-append_right (f 1) (f 2 ++ f 3) x (Contains-append_right (f 2) (f 3) x a)))
    i small h

pub from_four : {X : Type 0} (f : ℕ → List X) (x : X) → Contains (f 0 ++ (f 1 ++ (f 2 ++ f 3))) x → (i : ℕ) × (i < 4) × Contains (f i) x
from_four f x h =
    ⊎_elim (λ a. (0, omega arith, a))
    (λ m. ⊎_elim (λ a. (1, omega arith, a)) (λ n. ⊎_elim (λ a. (2, omega arith, a)) (λ a. (3, omega arith, a)) n) m)
    (four_cases (f 0) (f 1) (f 2) (f 3) x h)

-- ---- pairs of leaves

-- two leaves as a pair of places
abbrev pub leaf_node : Block × List ℕ → Block × List ℕ → PairNode
leaf_node leaf other = record { left = leaf.0; right = other.0; ids = pairs_of leaf.1 other.1 }

leaf_row : (b : Block) (lefts : List ℕ) (c : Block) (u : Tree) (other : Block × List ℕ) → Contains (leaves c u) other
    → Contains (leaf_pairs b lefts c u) (leaf_node (b, lefts) other)
leaf_row b lefts c (Leaf rights) other h =
    subst (λ (x : Block × List ℕ). Contains (leaf_pairs b lefts c (Leaf rights)) (leaf_node (b, lefts) x)) (only (c, rights) other h)
    (here (leaf_node (b, lefts) (c, rights)) [])
leaf_row b lefts c (Inner p q s t) other h =
    let (i, small, below) = from_four (λ i. leaves (child c i) (pick p q s t i)) other h in
    there _ _ (leaf_node (b, lefts) other)
    (in_four (λ i. leaf_pairs b lefts (child c i) (pick p q s t i)) (leaf_node (b, lefts) other) i small
    (by_four (λ i. Contains (leaves (child c i) (pick p q s t i)) other → Contains (leaf_pairs b lefts (child c i) (pick p q s t i)) (leaf_node (b, lefts) other))
    (leaf_row b lefts (child c 0) p other) (leaf_row b lefts (child c 1) q other)
    (leaf_row b lefts (child c 2) s other) (leaf_row b lefts (child c 3) t other) i small below))

-- each pair of leaves is a pair of places
pub leaf_pair : (b : Block) (t : Tree) (c : Block) (u : Tree) (leaf other : Block × List ℕ) → Contains (leaves b t) leaf → Contains (leaves c u) other
    → Contains (pair_nodes b t c u) (leaf_node leaf other)
leaf_pair b (Leaf lefts) c u leaf other h k =
    subst (λ (x : Block × List ℕ). Contains (leaf_pairs b lefts c u) (leaf_node x other)) (only (b, lefts) leaf h) (leaf_row b lefts c u other k)
leaf_pair b (Inner p q s t) c (Leaf rights) leaf other h k =
    let node = leaf_node leaf other in
    let (i, small, below) = from_four (λ i. leaves (child b i) (pick p q s t i)) leaf h in
    there _ _ node
    (in_four (λ i. pair_nodes (child b i) (pick p q s t i) c (Leaf rights)) node i small
    (by_four (λ i. Contains (leaves (child b i) (pick p q s t i)) leaf → Contains (pair_nodes (child b i) (pick p q s t i) c (Leaf rights)) node)
    (λ a. leaf_pair (child b 0) p c (Leaf rights) leaf other a k) (λ a. leaf_pair (child b 1) q c (Leaf rights) leaf other a k)
    (λ a. leaf_pair (child b 2) s c (Leaf rights) leaf other a k) (λ a. leaf_pair (child b 3) t c (Leaf rights) leaf other a k) i small below))
leaf_pair b (Inner p q s t) c (Inner v w x y) leaf other h k =
    let node = leaf_node leaf other in
    let (i, small, below) = from_four (λ i. leaves (child b i) (pick p q s t i)) leaf h in
    let (j, little, under) = from_four (λ j. leaves (child c j) (pick v w x y j)) other k in
    let four : (d : Block) (z : Tree) → ((e : Block) (z' : Tree) → Contains (leaves e z') other → Contains (pair_nodes d z e z') node)
    → Contains (under_children (pair_nodes d z) c v w x y) node =
    λ d z each. in_four (λ j. pair_nodes d z (child c j) (pick v w x y j)) node j little (each (child c j) (pick v w x y j) under) in
    there _ _ node
    (in_four (λ i. under_children (pair_nodes (child b i) (pick p q s t i)) c v w x y) node i small
    (by_four (λ i. Contains (leaves (child b i) (pick p q s t i)) leaf → Contains (under_children (pair_nodes (child b i) (pick p q s t i)) c v w x y) node)
    (λ a. four (child b 0) p (λ e z m. leaf_pair (child b 0) p e z leaf other a m))
    (λ a. four (child b 1) q (λ e z m. leaf_pair (child b 1) q e z leaf other a m))
    (λ a. four (child b 2) s (λ e z m. leaf_pair (child b 2) s e z leaf other a m))
    (λ a. four (child b 3) t (λ e z m. leaf_pair (child b 3) t e z leaf other a m)) i small below))

-- ---- places of a pair

-- The pair of places stands at places of both trees, and lists what they list.
pub record StandsAt (b : Block) (t : Tree) (c : Block) (u : Tree) (node : PairNode) : Type 0 where
  pub place : Tree
  pub other : Tree
  pub at_left : Contains (places b t) (node.left, place)
  pub at_right : Contains (places c u) (node.right, other)
  pub lists : node.ids ≡ ids_of_both place other

right_below : (b : Block) (t : Tree) (c : Block) (v w x y : Tree) (node : PairNode) (i : ℕ) → i < 4 → StandsAt b t (child c i) (pick v w x y i) node
    → StandsAt b t c (Inner v w x y) node
right_below b t c v w x y node i small h = record {
  place = h.place;
  other = h.other;
  at_left = h.at_left;
  at_right = place_below c v w x y (node.right, h.other) i small h.at_right;
  lists = h.lists;
}

left_below : (b : Block) (p q s t : Tree) (c : Block) (u : Tree) (node : PairNode) (i : ℕ) → i < 4 → StandsAt (child b i) (pick p q s t i) c u node
    → StandsAt b (Inner p q s t) c u node
left_below b p q s t c u node i small h = record {
  place = h.place;
  other = h.other;
  at_left = place_below b p q s t (node.left, h.place) i small h.at_left;
  at_right = h.at_right;
  lists = h.lists;
}

-- two places themselves
abbrev itself : Block → Tree → Block → Tree → PairNode
itself b t c u = record { left = b; right = c; ids = ids_of_both t u }

stands_itself : (b : Block) (t : Tree) (c : Block) (u : Tree) → StandsAt b t c u (itself b t c u)
stands_itself b t c u = record { place = t; other = u; at_left = place_here b t; at_right = place_here c u; lists = refl }

row_stands : (b : Block) (lefts : List ℕ) (c : Block) (u : Tree) (node : PairNode) → Contains (leaf_pairs b lefts c u) node → StandsAt b (Leaf lefts) c u node
row_stands b lefts c (Leaf rights) node h =
    subst (StandsAt b (Leaf lefts) c (Leaf rights)) (only (itself b (Leaf lefts) c (Leaf rights)) node h) (stands_itself b (Leaf lefts) c (Leaf rights))
row_stands b lefts c (Inner v w x y) node h =
    let u = Inner v w x y in
    ⊎_elim (λ e. subst (StandsAt b (Leaf lefts) c u) e (stands_itself b (Leaf lefts) c u))
    (λ more.
    let (i, small, below) = from_four (λ i. leaf_pairs b lefts (child c i) (pick v w x y i)) node more in
    right_below b (Leaf lefts) c v w x y node i small
    (by_four (λ i. Contains (leaf_pairs b lefts (child c i) (pick v w x y i)) node → StandsAt b (Leaf lefts) (child c i) (pick v w x y i) node)
    (row_stands b lefts (child c 0) v node) (row_stands b lefts (child c 1) w node)
    (row_stands b lefts (child c 2) x node) (row_stands b lefts (child c 3) y node) i small below))
    (cons_cases (itself b (Leaf lefts) c u)
    (leaf_pairs b lefts (child c 0) v ++ (leaf_pairs b lefts (child c 1) w ++ (leaf_pairs b lefts (child c 2) x ++ leaf_pairs b lefts (child c 3) y))) node h)

-- each pair of places stands at places of both trees
pub pair_stands : (b : Block) (t : Tree) (c : Block) (u : Tree) (node : PairNode) → Contains (pair_nodes b t c u) node → StandsAt b t c u node
pair_stands b (Leaf lefts) c u node h = row_stands b lefts c u node h
pair_stands b (Inner p q s t) c (Leaf rights) node h =
    let whole = Inner p q s t in
    ⊎_elim (λ e. subst (StandsAt b whole c (Leaf rights)) e (stands_itself b whole c (Leaf rights)))
    (λ more.
    let (i, small, below) = from_four (λ i. pair_nodes (child b i) (pick p q s t i) c (Leaf rights)) node more in
    left_below b p q s t c (Leaf rights) node i small
    (by_four (λ i. Contains (pair_nodes (child b i) (pick p q s t i) c (Leaf rights)) node → StandsAt (child b i) (pick p q s t i) c (Leaf rights) node)
    (pair_stands (child b 0) p c (Leaf rights) node) (pair_stands (child b 1) q c (Leaf rights) node)
    (pair_stands (child b 2) s c (Leaf rights) node) (pair_stands (child b 3) t c (Leaf rights) node) i small below))
    (cons_cases (itself b whole c (Leaf rights))
    (pair_nodes (child b 0) p c (Leaf rights) ++ (pair_nodes (child b 1) q c (Leaf rights)
    ++ (pair_nodes (child b 2) s c (Leaf rights) ++ pair_nodes (child b 3) t c (Leaf rights)))) node h)
pair_stands b (Inner p q s t) c (Inner v w x y) node h =
    let whole = Inner p q s t in
    let u = Inner v w x y in
    let four : (d : Block) (z : Tree) → ((e : Block) (z' : Tree) → Contains (pair_nodes d z e z') node → StandsAt d z e z' node)
    → Contains (under_children (pair_nodes d z) c v w x y) node → StandsAt d z c u node =
    λ d z each m.
    let (j, little, under) = from_four (λ j. pair_nodes d z (child c j) (pick v w x y j)) node m in
    right_below d z c v w x y node j little (each (child c j) (pick v w x y j) under) in
    ⊎_elim (λ e. subst (StandsAt b whole c u) e (stands_itself b whole c u))
    (λ more.
    let (i, small, below) = from_four (λ i. under_children (pair_nodes (child b i) (pick p q s t i)) c v w x y) node more in
    left_below b p q s t c u node i small
    (by_four (λ i. Contains (under_children (pair_nodes (child b i) (pick p q s t i)) c v w x y) node → StandsAt (child b i) (pick p q s t i) c u node)
    (four (child b 0) p (λ e z m. pair_stands (child b 0) p e z node m)) (four (child b 1) q (λ e z m. pair_stands (child b 1) q e z node m))
    (four (child b 2) s (λ e z m. pair_stands (child b 2) s e z node m)) (four (child b 3) t (λ e z m. pair_stands (child b 3) t e z node m)) i small below))
    (cons_cases (itself b whole c u)
    (under_children (pair_nodes (child b 0) p) c v w x y ++ (under_children (pair_nodes (child b 1) q) c v w x y
    ++ (under_children (pair_nodes (child b 2) s) c v w x y ++ under_children (pair_nodes (child b 3) t) c v w x y))) node h)
