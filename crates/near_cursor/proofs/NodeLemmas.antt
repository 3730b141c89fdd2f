-- What stands at a node of an R-tree: a tree of its own, whose nodes, members and page are the tree's.
use Rattle.std.proofs.Common.{◌≡◌, ⊎_elim, ℕ, zero, suc, ◌-◌, ◌≤◌, ◌++◌, Bool, true, false, cond, true≢false, List, [], ◌∷◌, Contains, find, length, map, Option, None}
use Rattle.std.proofs.Common.{Some, refl, sym, ap, ap₂, ◌∙◌, subst, arith}
use Rattle.std.specs.Prelude.{nat_eq, is_some}
use Rattle.std.proofs.lemmas.Bool.{eqb-true, eq-eqb}
use Rattle.std.proofs.lemmas.List.Elements.{Contains-append_left, Contains-append_right, Contains-append_cases}
use Rattle.code_btree.specs.Items.{Each}
use Rattle.code_btree.specs.Tree.{Store, times, live}
use Rattle.code_btree.proofs.Lists.{times-append, same_self, live_small}
use Rattle.r_tree.specs.declared.entry.NodeEntry.{NodeEntry}
use Rattle.r_tree.specs.declared.tree.RTree.{RTree}
use Rattle.r_tree.specs.Entry.{Member, members_of, bound_of}
use Rattle.r_tree.specs.Tree.{entries_at, members_in, members_under, pages_below, pages_under, Encloses, IsNodeAt, StandsUnder, NodeStandsAt, IsRootAt}
use Rattle.best_first.proofs.Bags.{here, there, cons_cases, none, only, in_flat_map, from_flat_map}
use Rattle.rank_cursor.proofs.Elements.{map_append}
use Rattle.rank_cursor.proofs.Places.{both_true, true_both, found_is, some_found}
use Rattle.near_cursor.specs.TreeNodes.{PageNode, nodes_below, nodes_under, root_node, tree_nodes, same_node, is_tree_node, node_bound}

-- ---- facts of each element

-- what holds of each element holds of one that is in the list
pub each_of : {A : Type 0} (P : A → Type 0) (xs : List A) (x : A) → Each P xs → Contains xs x → P x
each_of P [] x h at = absurd (none x at)
each_of P (y ∷ ys) x h at = ⊎_elim (λ e. subst P e h.0) (λ t. each_of P ys x h.1 t) (cons_cases y ys x at)

-- ---- what stands at a node

-- At this node of the tree under page n stands a tree, as high as the node says; its nodes, its members and its page are among those of the whole.
pub record NodeStands (m : Store) (level n : ℕ) (node : PageNode) : Type 0 where
  pub above : ℕ
  pub height : node.1 ≡ suc above
  pub stands : NodeStandsAt m above node.0
  pub nodes : (x : PageNode) → Contains (nodes_under m above node.0) x → Contains (nodes_under m level n) x
  pub members : (i : Member) → Contains (members_under m above node.0) i → Contains (members_under m level n) i
  pub page : 1 ≤ times node.0 (pages_under m level n)

-- The same under the entries of a node.
record StandsBelow (m : Store) (level : ℕ) (es : List NodeEntry) (node : PageNode) : Type 0 where
  pub above : ℕ
  pub height : node.1 ≡ suc above
  pub stands : NodeStandsAt m above node.0
  pub nodes : (x : PageNode) → Contains (nodes_under m above node.0) x → Contains (nodes_below m (suc level) es) x
  pub members : (i : Member) → Contains (members_under m above node.0) i → Contains (members_in m (suc level) es) i
  pub page : 1 ≤ times node.0 (pages_below m (suc level) es)

-- the whole tree stands at its top
top_stands : (m : Store) (l n : ℕ) → NodeStandsAt m l n → NodeStands m l n (n, suc l)
top_stands m l n s = record {
  above = l;
  height = refl;
  stands = s;
  nodes = λ x at. at;
  members = λ i at. at;
  page = omega (arith, same_self n);
}

-- at each node under the entries of a node stands a tree
row_stands : (m : Store) (l : ℕ) (below : (c : ℕ) (x : PageNode) → NodeStandsAt m l c → Contains (nodes_under m l c) x → NodeStands m l c x) (es : List NodeEntry) → StandsUnder m (suc l) es
    → (node : PageNode) → Contains (nodes_below m (suc l) es) node → StandsBelow m l es node
row_stands m l below [] s node h = absurd (none node h)
row_stands m l below (e ∷ es) s node h =
    ⊎_elim
    (λ left. let r : NodeStands m l e.child node = below e.child node s.0.1.1 left in record {
      above = r.above;
      height = r.height;
      stands = r.stands;
      nodes = λ x at. Contains-append_left (nodes_under m l e.child) (nodes_below m (suc l) es) x (r.nodes x at);
      members = λ i at. Contains-append_left (members_under m l e.child) (members_in m (suc l) es) i (r.members i at);
      page = omega (arith, r.page, times-append node.0 (pages_under m l e.child) (pages_below m (suc l) es));
    })
    (λ right. let r : StandsBelow m l es node = row_stands m l below es s.1 node right in record {
      above = r.above;
      height = r.height;
      stands = r.stands;
      nodes = λ x at. Contains-append_right (nodes_under m l e.child) (nodes_below m (suc l) es) x (r.nodes x at);
      members = λ i at. Contains-append_right (members_under m l e.child) (members_in m (suc l) es) i (r.members i at);
      page = omega (arith, r.page, times-append node.0 (pages_under m l e.child) (pages_below m (suc l) es));
    })
    (Contains-append_cases (nodes_under m l e.child) (nodes_below m (suc l) es) node h)

-- at each node of a tree stands a tree
pub node_stands : (m : Store) (l n : ℕ) (node : PageNode) → NodeStandsAt m l n → Contains (nodes_under m l n) node → NodeStands m l n node
node_stands m zero n node s h = subst (NodeStands m zero n) (only (n, suc zero) node h) (top_stands m zero n s)
node_stands m (suc l) n node s h =
    ⊎_elim (λ e. subst (NodeStands m (suc l) n) e (top_stands m (suc l) n s))
    (λ more. let r : StandsBelow m l (entries_at m n) node = row_stands m l (λ c x t g. node_stands m l c x t g) (entries_at m n) s.1 node more in record {
      above = r.above;
      height = r.height;
      stands = r.stands;
      nodes = λ x at. there (n, suc (suc l)) (nodes_below m (suc l) (entries_at m n)) x (r.nodes x at);
      members = r.members;
      page = omega (arith, r.page);
    })
    (cons_cases (n, suc (suc l)) (nodes_below m (suc l) (entries_at m n)) node h)

-- the child of an entry is a node
pub child_node : (m : Store) (l n : ℕ) (e : NodeEntry) → Contains (entries_at m n) e → Contains (nodes_under m (suc l) n) (e.child, suc l)
child_node m l n e at =
    there (n, suc (suc l)) (nodes_below m (suc l) (entries_at m n)) (e.child, suc l)
    (in_flat_map (λ (x : NodeEntry). (x.child, suc l) ∷ nodes_below m l (entries_at m x.child)) (entries_at m n) e (e.child, suc l) at
    (here (e.child, suc l) (nodes_below m l (entries_at m e.child))))

-- an entry of an inner node is the least rectangle round its child
pub child_leads : (m : Store) (l n : ℕ) (e : NodeEntry) → NodeStandsAt m (suc l) n → Contains (entries_at m n) e → Encloses m e
child_leads m l n e s at =
    (each_of (λ (x : NodeEntry). Encloses m x × ((50 ≤ length (entries_at m x.child)) × (IsNodeAt m l x.child × StandsUnder m l (entries_at m x.child)))) (entries_at m n) e s.1 at).0

-- each member stands in a leaf
pub leaf_of : (m : Store) (l n : ℕ) (i : Member) → Contains (members_under m l n) i → (leaf : ℕ) × Contains (nodes_under m l n) (leaf, suc zero) × Contains (members_of (entries_at m leaf)) i
leaf_of m zero n i h = (n, here (n, suc zero) [], h)
leaf_of m (suc l) n i h =
    let (e, at, inner) = from_flat_map (λ (x : NodeEntry). members_in m l (entries_at m x.child)) (entries_at m n) i h in
    let (leaf, spot, listed) = leaf_of m l e.child i inner in (
      leaf,
      there (n, suc (suc l)) (nodes_below m (suc l) (entries_at m n)) (leaf, suc zero)
          (in_flat_map (λ (x : NodeEntry). (x.child, suc l) ∷ nodes_below m l (entries_at m x.child)) (entries_at m n) e (leaf, suc zero) at spot),
      listed,
    )

-- the pages of the nodes are those of the tree, so no page is that of two nodes
pages_of : (m : Store) (l : ℕ) (es : List NodeEntry) → map (λ (x : PageNode). x.0) (nodes_below m l es) ≡ pages_below m l es
pages_of m zero es = refl
pages_of m (suc l) [] = refl
pages_of m (suc l) (e ∷ es) =
    map_append (λ (x : PageNode). x.0) ((e.child, suc l) ∷ nodes_below m l (entries_at m e.child)) (nodes_below m (suc l) es)
    ∙ ap₂ (λ (xs : List ℕ) (ys : List ℕ). (e.child ∷ xs) ++ ys) (pages_of m l (entries_at m e.child)) (pages_of m (suc l) es)

-- where a tree owns its pages, no page is that of two of its nodes
pub nodes_once : (m : Store) (l n : ℕ) → ((q : ℕ) → times q (pages_under m l n) ≤ live m q) → (q : ℕ) → times q (map (λ (x : PageNode). x.0) (nodes_under m l n)) ≤ 1
nodes_once m l n owns q =
    let same_pages : times q (map (λ (x : PageNode). x.0) (nodes_under m l n)) ≡ times q (pages_under m l n) = ap (λ (xs : List ℕ). times q (n ∷ xs)) (pages_of m l (entries_at m n)) in
    let few = owns q in
    let one = live_small m q in
    omega arith

-- ---- the test of a node

-- nodes that pass the test are one
pub same_node_is : (a b : PageNode) → same_node a b ≡ true → a ≡ b
same_node_is a b e =
    let h = both_true (nat_eq a.0 b.0) (nat_eq a.1 b.1) e in
    ap₂ (λ (page : ℕ) (height : ℕ). (page, height)) (eqb-true a.0 b.0 h.0) (eqb-true a.1 b.1 h.1)

-- a node passes it with itself
same_node_itself : (a : PageNode) → same_node a a ≡ true
same_node_itself a = true_both (nat_eq a.0 a.0) (nat_eq a.1 a.1) (eq-eqb a.0 a.0 refl) (eq-eqb a.1 a.1 refl)

-- a node of the tree passes
pub is_node : (m : Store) (t : RTree) (node : PageNode) → Contains (tree_nodes m t) node → is_tree_node m t node ≡ true
is_node m t node at =
    let (x, found) = some_found (same_node node) (tree_nodes m t) node at (same_node_itself node) in
    ap (λ (o : Option PageNode). is_some o) found

-- and what passes is one
pub node_is : (m : Store) (t : RTree) (node : PageNode) → is_tree_node m t node ≡ true → Contains (tree_nodes m t) node
node_is m t node h = go (find (same_node node) (tree_nodes m t)) refl h
  where
    go : (o : Option PageNode) → find (same_node node) (tree_nodes m t) ≡ o → is_some o ≡ true → Contains (tree_nodes m t) node
    go None e k = absurd (true≢false (sym k))
    go (Some x) e k =
        let (at, same) = found_is (same_node node) (tree_nodes m t) x e in
        subst (Contains (tree_nodes m t)) (sym (same_node_is node x same)) at

-- the rectangle of a node is the least round its entries
pub node_bound_is : (m : Store) (t : RTree) → IsRootAt m (t.height - 1) t.root t.bound → (node : PageNode) → node_bound m t node ≡ bound_of (entries_at m node.0)
node_bound_is m t root node = go (same_node node (root_node t)) refl
  where
    go : (b : Bool) → same_node node (root_node t) ≡ b → cond b t.bound (bound_of (entries_at m node.0)) ≡ bound_of (entries_at m node.0)
    go true e = sym root.least ∙ ap (λ (x : PageNode). bound_of (entries_at m x.0)) (sym (same_node_is node (root_node t) e))
    go false e = refl
