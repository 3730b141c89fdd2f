-- Steps inside a writing call: single pages written, gained and freed, and what becomes of the tree under one page.
use Rattle.std.specs.Prelude.{◌≡◌, ℕ, ◌+◌, ◌-◌, ◌≤◌, ◌<◌, List, [], ◌∷◌, ◌++◌, take, drop, length, Option, None, Some, MatchOption, ◌≢◌}
use Rattle.code_btree.specs.declared.insert.Grown.{Grown}
use Rattle.code_btree.specs.declared.insert.Grown.TheVariants.{Kept, Split}
use Rattle.code_btree.specs.Node.{Pair, Node, leaf, inner, node_of, entries_of, next_of, keys_of, child_pages, size_of, IsInnerOf, key_in, child_in}
use Rattle.code_btree.specs.Items.{Each, Ascending, items_below, items_above, find_item, floor_item}
use Rattle.code_btree.specs.Tree.{Store, items, pages, links, all_items, all_pages, all_links, first_key, least, same, times, live, Owns, Path, few, Sound}

-- page n has these bytes, and no other page changed
pub record Wrote (m w : Store) (n : ℕ) (page : List ℕ) : Type 0 where
  pub before : live m n ≡ 1
  pub now : w n ≡ Some page
  pub others : (q : ℕ) → same q n ≡ 0 → w q ≡ m q

-- page n is new, with these bytes, and no other page changed
pub record Gained (m w : Store) (n : ℕ) (page : List ℕ) : Type 0 where
  pub before : m n ≡ None
  pub now : w n ≡ Some page
  pub others : (q : ℕ) → same q n ≡ 0 → w q ≡ m q
  pub positive : 1 ≤ n

-- page n is no more, and no other page changed
pub record Freed (m w : Store) (n : ℕ) : Type 0 where
  pub before : live m n ≡ 1
  pub now : w n ≡ None
  pub others : (q : ℕ) → same q n ≡ 0 → w q ≡ m q

-- page n, which is read as this node, was written, and no other page changed
pub record Writes (m w : Store) (n : ℕ) (o : Node) : Type 0 where
  pub before : live m n ≡ 1
  pub now : live w n ≡ 1
  pub node : Rattle.code_btree.specs.Tree.node w n ≡ o
  pub others : (q : ℕ) → same q n ≡ 0 → w q ≡ m q

-- page n was written and page r gained, which are read as these nodes, and no other page changed
pub record Cuts (m w : Store) (n r : ℕ) (o p : Node) : Type 0 where
  pub before : live m n ≡ 1
  pub now : live w n ≡ 1
  pub node : Rattle.code_btree.specs.Tree.node w n ≡ o
  pub gained : live m r ≡ 0
  pub right : live w r ≡ 1
  pub right_node : Rattle.code_btree.specs.Tree.node w r ≡ p
  pub positive : 1 ≤ r
  pub others : (q : ℕ) → same q n ≡ 0 → same q r ≡ 0 → w q ≡ m q

-- an element put in at a place
abbrev pub put_at : {A : Type 0} → ℕ → A → List A → List A
put_at i x xs = take i xs ++ ((x ∷ []) ++ drop i xs)

-- entries shared out to two leaves, each filled
pub record HalvesLeaf (left right es : List Pair) : Type 0 where
  pub joined : left ++ right ≡ es
  pub left_full : 63 ≤ length left
  pub right_full : 63 ≤ length right
  pub left_fits : length left ≤ 127
  pub right_fits : length right ≤ 127

-- keys and children shared out to two inner pages, each filled; the key between them goes up
pub record HalvesInner (lk lc : List ℕ) (up : ℕ) (rk rc ks cs : List ℕ) : Type 0 where
  pub keys : lk ++ (up ∷ rk) ≡ ks
  pub children : lc ++ rc ≡ cs
  pub left : length lc ≡ length lk + 1
  pub right : length rc ≡ length rk + 1
  pub left_full : 84 ≤ length lk
  pub right_full : 84 ≤ length rk
  pub left_fits : length lk ≤ 169
  pub right_fits : length rk ≤ 169

-- a leaf split in two, the first of which leads to the second
pub record SplitsLeaf (m w : Store) (n r up : ℕ) (es : List Pair) (next : ℕ) : Type 0 where
  pub left : List Pair
  pub right : List Pair
  pub cuts : Cuts m w n r (leaf left r) (leaf right next)
  pub halves : HalvesLeaf left right es
  pub up_is : up ≡ first_key right

-- an inner page split in two
pub record SplitsInner (m w : Store) (n r up : ℕ) (ks cs : List ℕ) : Type 0 where
  pub lk : List ℕ
  pub lc : List ℕ
  pub rk : List ℕ
  pub rc : List ℕ
  pub cuts : Cuts m w n r (inner lk lc) (inner rk rc)
  pub halves : HalvesInner lk lc up rk rc ks cs

-- an inner page took a child in with its key: it has them, or it was split
abbrev pub Adopts : Store → Store → ℕ → List ℕ → List ℕ → Grown → Type 0
Adopts m w n ks cs Kept = Writes m w n (inner ks cs) × (length cs ≤ 170)
Adopts m w n ks cs (Split up r) = SplitsInner m w n r up ks cs

-- A row of trees of one height became another: sound again; no other live page was touched; what was gained wasn't live, what was lost is freed; and each path through the row's leaves still leads on.
pub record Change (m w : Store) (level : ℕ) (old new : List ℕ) : Type 0 where
  pub sound : Each (λ c. Sound w level c) new
  pub frame : (q : ℕ) → live m q ≡ 1 → times q (all_pages m level old) ≡ 0 → w q ≡ m q
  pub moved : (q : ℕ) → live w q + times q (all_pages m level old) ≡ live m q + times q (all_pages w level new)
  pub linked : (s e : ℕ) → Path s (all_links m level old) e → Path s (all_links w level new) e

-- the pairs of a key, put between those below and those above it
abbrev pub alter : ℕ → List Pair → List Pair → List Pair
alter key o es = items_below key es ++ (o ++ items_above key es)

-- A row of trees became another, whose pairs of a key are these; the key's value of before is `was`.
pub record Alters (m w : Store) (level : ℕ) (old new : List ℕ) (key : ℕ) (o : List Pair) (was : Option ℕ) : Type 0 where
  pub change : Change m w level old new
  pub items : all_items w level new ≡ alter key o (all_items m level old)
  pub found : was ≡ find_item key (all_items m level old)

-- neighbours under page n became one: the pairs are the same, and the page has one key less at most
pub record Packs (m w : Store) (level n : ℕ) : Type 0 where
  pub change : Change m w level (n ∷ []) (n ∷ [])
  pub items : all_items w level (n ∷ []) ≡ all_items m level (n ∷ [])
  pub lost : size_of (Rattle.code_btree.specs.Tree.node m n) ≤ size_of (Rattle.code_btree.specs.Tree.node w n) + 1

-- the page that a split gained
abbrev pub gained_by : Grown → List ℕ
gained_by Kept = []
gained_by (Split up r) = r ∷ []

-- a page that grew holds no less, or it was split in two that are filled, the second with this least key
abbrev pub GrowsPage : Store → Store → ℕ → ℕ → Grown → Type 0
GrowsPage m w level n Kept = size_of (Rattle.code_btree.specs.Tree.node m n) ≤ size_of (Rattle.code_btree.specs.Tree.node w n)
GrowsPage m w level n (Split up r) = (few level ≤ size_of (Rattle.code_btree.specs.Tree.node w n)) × ((few level ≤ size_of (Rattle.code_btree.specs.Tree.node w r)) × (up ≡ least w level r))

-- a sound tree of ascending pairs, on live pages of its own
pub record Subtree (m : Store) (level n : ℕ) : Type 0 where
  pub sound : Sound m level n
  pub owns : Owns m level (n ∷ [])
  pub ascending : Ascending (items m level n)

-- a pair put into the tree under page n
pub record InsertsUnder (m w : Store) (level n key value : ℕ) (was : Option ℕ) (grown : Grown) : Type 0 where
  pub alters : Alters m w level (n ∷ []) (n ∷ gained_by grown) key ((key, value) ∷ []) was
  pub grows : GrowsPage m w level n grown

-- the number of entries after a pair was put, by the value that its key had
abbrev pub count_after : ℕ → Option ℕ → ℕ
count_after n None = n + 1
count_after n (Some was) = n

-- where a key belongs in an inner page
pub record InnerStep (page : List ℕ) (key child : ℕ) : Type 0 where
  pub count : ℕ
  pub at : ℕ
  pub is : IsInnerOf page count
  pub place : at ≤ count
  pub before : 1 ≤ at → key_in page (at - 1) ≤ key
  pub behind : at < count → key < key_in page at
  pub child_is : child ≡ child_in page at

-- the page at this number leads to this child, or it is no inner page
pub record LeadsTo (m : Store) (n key : ℕ) (child : Option ℕ) : Type 0 where
  pub page : List ℕ
  pub read : m n ≡ Some page
  pub step : MatchOption child (node_of page ≢ inner (keys_of (node_of page)) (child_pages (node_of page))) (λ c. InnerStep page key c)

-- the leaf at this number has this value, or it is no leaf
pub record IsFoundIn (m : Store) (n key : ℕ) (found : Option ℕ) : Type 0 where
  pub page : List ℕ
  pub read : m n ≡ Some page
  pub step : node_of page ≡ leaf (entries_of (node_of page)) (next_of (node_of page)) → Ascending (entries_of (node_of page)) → found ≡ find_item key (entries_of (node_of page))

-- the leaf at this number has this pair as that of the greatest key not above, or it is no leaf
pub record IsFloorIn (m : Store) (n key : ℕ) (found : Option Pair) : Type 0 where
  pub page : List ℕ
  pub read : m n ≡ Some page
  pub step : node_of page ≡ leaf (entries_of (node_of page)) (next_of (node_of page)) → Ascending (entries_of (node_of page)) → found ≡ floor_item key (entries_of (node_of page))
