-- A B+-tree over pages: its entries, its pages, its chain of leaves, and what makes pages a tree.
use Rattle.std.specs.Prelude.{◌≡◌, ℕ, zero, suc, ◌+◌, ◌-◌, ◌*◌, ◌^◌, ◌≤◌, ◌==◌, List, [], ◌∷◌, map, length, drop, cond, Option, None, Some, is_some}
use Rattle.std.specs.List.{flat_map}
use Rattle.std.specs.FinMap as fin
use Rattle.page_pool.specs.Pool.{PoolState}
use Rattle.code_btree.specs.declared.map.Tree.{Tree}
use Rattle.code_btree.specs.Node.{Pair, Node, leaf, inner, blank, node_of, entries_of, next_of, keys_of, child_pages, size_of}
use Rattle.code_btree.specs.Items.{Each, Ascending}

-- the live pages by their numbers
abbrev pub Store : Type 0
Store = ℕ → Option (List ℕ)

-- the live pages of a pool
abbrev pub pages_in : PoolState → Store
pages_in s = λ n. fin.get s.pages n

-- what is read at a number: a page that isn't live is blank
abbrev pub node_in : Option (List ℕ) → Node
node_in None = blank
node_in (Some page) = node_of page

-- the node in a page
abbrev pub node : Store → ℕ → Node
node m n = node_in (m n)

-- the entries under page n, which stands so many levels above the leaves, from left to right
abbrev pub items : Store → ℕ → ℕ → List Pair
items m zero n = entries_of (node m n)
items m (suc level) n = flat_map (λ c. items m level c) (child_pages (node m n))

-- page n and the pages under it
abbrev pub pages : Store → ℕ → ℕ → List ℕ
pages m zero n = n ∷ []
pages m (suc level) n = n ∷ flat_map (λ c. pages m level c) (child_pages (node m n))

-- the leaves under page n from left to right, each with the leaf that follows it
abbrev pub links : Store → ℕ → ℕ → List (ℕ × ℕ)
links m zero n = (n, next_of (node m n)) ∷ []
links m (suc level) n = flat_map (λ c. links m level c) (child_pages (node m n))

-- the same of a row of pages of one level
abbrev pub all_items : Store → ℕ → List ℕ → List Pair
all_items m level cs = flat_map (λ c. items m level c) cs

-- the pages of subtrees side by side
abbrev pub all_pages : Store → ℕ → List ℕ → List ℕ
all_pages m level cs = flat_map (λ c. pages m level c) cs

-- the links of leaves of subtrees side by side
abbrev pub all_links : Store → ℕ → List ℕ → List (ℕ × ℕ)
all_links m level cs = flat_map (λ c. links m level c) cs

-- the least key of entries in order
abbrev pub first_key : List Pair → ℕ
first_key [] = 0
first_key (e ∷ es) = e.0

-- the least key under page n
abbrev pub least : Store → ℕ → ℕ → ℕ
least m level n = first_key (items m level n)

-- 1 for the same number
abbrev pub same : ℕ → ℕ → ℕ
same q n = cond (q == n) 1 0

-- how often a number stands in a list
abbrev pub times : ℕ → List ℕ → ℕ
times q [] = 0
times q (x ∷ xs) = same q x + times q xs

-- 1 for a live page
abbrev pub live : Store → ℕ → ℕ
live m q = cond (is_some (m q)) 1 0

-- each page under these is live, and stands there once
abbrev pub Owns : Store → ℕ → List ℕ → Type 0
Owns m level cs = (q : ℕ) → times q (all_pages m level cs) ≤ live m q

-- leaves that lead from page s on to page e; none of them is page 0
abbrev pub Path : ℕ → List (ℕ × ℕ) → ℕ → Type 0
Path s [] e = s ≡ e
Path s (l ∷ ls) e = (s ≡ l.0) × ((1 ≤ s) × Path l.1 ls e)

-- a leaf of at most 127 entries
pub record LeafOk (o : Node) : Type 0 where
  pub is_leaf : o ≡ leaf (entries_of o) (next_of o)
  pub fits : length (entries_of o) ≤ 127

-- an inner page of at most 170 children, whose key i is the least key under child i + 1
pub record TopOk (least_of : ℕ → ℕ) (o : Node) : Type 0 where
  pub is_inner : o ≡ inner (keys_of o) (child_pages o)
  pub some : 1 ≤ length (child_pages o)
  pub fits : length (child_pages o) ≤ 170
  pub separators : keys_of o ≡ drop 1 (map least_of (child_pages o))

-- what a page other than the root holds at least: 63 entries, or 84 keys
abbrev pub few : ℕ → ℕ
few zero = 63
few (suc level) = 84

-- Page n is the top of a tree of leaves of one depth, and every page under it is filled. (Of how full page n itself is nothing is said.)
abbrev pub Sound : Store → ℕ → ℕ → Type 0
Sound m zero n = LeafOk (node m n)
Sound m (suc level) n = TopOk (λ c. least m level c) (node m n) × Each (λ c. Sound m level c × (few level ≤ size_of (node m c))) (child_pages (node m n))

-- the same of a page other than the root
abbrev pub Filled : Store → ℕ → ℕ → Type 0
Filled m level n = Sound m level n × (few level ≤ size_of (node m n))

-- Page n is the root of a tree of so many entries. An inner root has a key. No page stands twice. The entries ascend, and the chain of leaves goes through all leaves in their order and ends with 0.
pub record IsTreeAt (m : Store) (level n count : ℕ) : Type 0 where
  pub sound : Sound m level n
  pub top : 1 ≤ level → 1 ≤ size_of (node m n)
  pub owns : Owns m level (n ∷ [])
  pub ascending : Ascending (items m level n)
  pub chain : (s : ℕ) × Path s (links m level n) 0
  pub counted : count ≡ length (items m level n)

-- a tree's entries: the finite map that it stands for
abbrev pub tree_items : Store → Tree → List Pair
tree_items m t = items m (t.height - 1) t.root

-- a tree's pages, on which alone its entries depend
abbrev pub tree_pages : Store → Tree → List ℕ
tree_pages m t = pages m (t.height - 1) t.root

-- The root's pages are a tree of this height and so many entries; of height 1 is a lone leaf. A tree of height h from 2 on has at least 126 * 85 ^ (h - 2) entries.
pub record IsTree (m : Store) (t : Tree) : Type 0 where
  pub tall : 1 ≤ t.height
  pub at : IsTreeAt m (t.height - 1) t.root t.entries
  pub many : 2 ≤ t.height → 126 * 85 ^ (t.height - 2) ≤ t.entries
