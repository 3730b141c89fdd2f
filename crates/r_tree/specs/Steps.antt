-- Steps inside a writing call: single nodes written and gained, pages and members that move, and what becomes of the tree under one page.
use Rattle.std.specs.Prelude.{◌≡◌, ◌≢◌, ℕ, suc, ◌+◌, ◌-◌, ◌≤◌, take, List, [], ◌∷◌, ◌++◌, Bool, true, map, length, Option, None, Some, IsPermutation}
use Rattle.std.specs.List.{flat_map}
use Rattle.page_pool.specs.Causes.{failures_of}
use Rattle.page_pool.specs.Pool.{PoolState, IsTold}
use Rattle.page_pool.specs.Steps.{InCommand}
use Rattle.code_btree.specs.Items.{Each}
use Rattle.code_btree.specs.Tree.{Store, pages_in, same, times, live}
use Rattle.r_tree.specs.declared.entry.NodeEntry.{NodeEntry}
use Rattle.r_tree.specs.declared.insert.Grown.{Grown}
use Rattle.r_tree.specs.declared.insert.Grown.TheVariants.{Kept, Split}
use Rattle.r_tree.specs.declared.remove.Shrunk.{Shrunk}
use Rattle.r_tree.specs.Entry.{Member, box_of, branch, bound_of}
use Rattle.r_tree.specs.Page.{node}
use Rattle.r_tree.specs.Tree.{node_at, entries_at, members_in, members_under, pages_below, pages_under, Encloses, StandsUnder, NodeStandsAt}
use Rattle.r_tree.specs.Ways.{ways_below}

-- page n was written as this node, and no other page changed
pub record WritesNode (m w : Store) (n : ℕ) (inner : Bool) (es : List NodeEntry) : Type 0 where
  pub before : live m n ≡ 1
  pub now : live w n ≡ 1
  pub is : node_at w n ≡ node inner es
  pub others : (q : ℕ) → same q n ≡ 0 → w q ≡ m q

-- page n is new, with this node, and no other page changed
pub record GainsNode (m w : Store) (n : ℕ) (inner : Bool) (es : List NodeEntry) : Type 0 where
  pub before : live m n ≡ 0
  pub now : live w n ≡ 1
  pub is : node_at w n ≡ node inner es
  pub others : (q : ℕ) → same q n ≡ 0 → w q ≡ m q

-- the sum of a weight over what is listed
abbrev pub weigh : (Member → ℕ) → List Member → ℕ
weigh f [] = 0
weigh f (i ∷ is) = f i + weigh f is

-- A change touched only these pages, which became those, and what they list lost some members and gained others.
pub record Moves (m w : Store) (pages new_pages : List ℕ) (members new_members less more : List Member) : Type 0 where
  pub frame : (q : ℕ) → live m q ≡ 1 → times q pages ≡ 0 → w q ≡ m q
  pub moved : (q : ℕ) → live w q + times q pages ≡ live m q + times q new_pages
  pub weighed : (f : Member → ℕ) → weigh f new_members + weigh f less ≡ weigh f members + weigh f more

-- the child pages of entries
abbrev pub children : List NodeEntry → List ℕ
children es = map (λ e. e.child) es

-- the entries of all their children
abbrev pub grandchildren : Store → List NodeEntry → List NodeEntry
grandchildren m row = flat_map (λ e. entries_at m e.child) row

-- an entry leads to a node of this kind, and is the least rectangle round it
pub record LeadsToNode (m : Store) (inner : Bool) (e : NodeEntry) : Type 0 where
  pub is : node_at m e.child ≡ node inner (entries_at m e.child)
  pub fits : length (entries_at m e.child) ≤ 126
  pub encloses : Encloses m e

-- These pages gave way to the children of a row of entries, which share these entries among them, and no other page changed.
pub record Lays (m w : Store) (old : List ℕ) (row es : List NodeEntry) (inner : Bool) : Type 0 where
  pub frame : (q : ℕ) → live m q ≡ 1 → times q old ≡ 0 → w q ≡ m q
  pub moved : (q : ℕ) → live w q + times q old ≡ live m q + times q (children row)
  pub nodes : Each (LeadsToNode w inner) row
  pub shared : IsPermutation es (grandchildren w row)

-- each child of a row has at least 50 entries
abbrev pub AllFilled : Store → List NodeEntry → Type 0
AllFilled m row = Each (λ e. 50 ≤ length (entries_at m e.child)) row

-- Entries were laid into new nodes, filled where they are enough, and the entries that lead to these were put behind a row.
pub record LaysNodes (m w : Store) (inner : Bool) (es before after : List NodeEntry) : Type 0 where
  pub row : List NodeEntry
  pub joined : after ≡ before ++ row
  pub lays : Lays m w [] row es inner
  pub full : 50 ≤ length es → AllFilled w row

-- Entries of a root at this level, over trees on new pages that list these members.
pub record IsTop (m w : Store) (level : ℕ) (es : List NodeEntry) (is : List Member) : Type 0 where
  pub stands : StandsUnder w level es
  pub top : 1 ≤ level → 2 ≤ length es
  pub moves : Moves m w [] (pages_below w level es) [] (members_in w level es) [] is

-- an entry leads to a tree, and is the least rectangle round it
abbrev pub LeadsToTree : Store → ℕ → NodeEntry → Type 0
LeadsToTree m level e = Encloses m e × NodeStandsAt m level e.child

-- the entries that lead to page n after it grew: one, or two where it was split
abbrev pub raised : ℕ → Grown → List NodeEntry
raised n (Kept bound) = branch bound n ∷ []
raised n (Split bound right_bound right) = branch bound n ∷ (branch right_bound right ∷ [])

-- both halves of a page that was split are filled
abbrev pub IsFilledIfSplit : Store → ℕ → Grown → Type 0
IsFilledIfSplit m n (Kept bound) = Unit {0}
IsFilledIfSplit m n (Split bound right_bound right) = AllFilled m (raised n (Split bound right_bound right))

-- the page has no fewer entries than before, or was split in two that are filled
abbrev pub GrowsNode : Store → Store → ℕ → Grown → Type 0
GrowsNode m w n (Kept bound) = length (entries_at m n) ≤ length (entries_at w n)
GrowsNode m w n (Split bound right_bound right) = AllFilled w (raised n (Split bound right_bound right))

-- a tree under page n, on live pages of its own
pub record NodeTree (m : Store) (level n : ℕ) : Type 0 where
  pub stands : NodeStandsAt m level n
  pub owns : (q : ℕ) → times q (pages_under m level n) ≤ live m q

-- a member was entered under page n
pub record EntersUnder (m w : Store) (level n : ℕ) (i : Member) (grown : Grown) : Type 0 where
  pub leads : Each (LeadsToTree w level) (raised n grown)
  pub grows : GrowsNode m w n grown
  pub moves : Moves m w (pages_under m level n) (pages_below w (suc level) (raised n grown)) (members_under m level n) (members_in w (suc level) (raised n grown)) [] (i ∷ [])

-- a member was taken from under page n, which has one entry less at most
pub record RemovesUnder (m w : Store) (level n : ℕ) (i : Member) (shrunk : Shrunk) : Type 0 where
  pub stands : NodeStandsAt w level n
  pub least : bound_of (entries_at w n) ≡ shrunk.bound
  pub counted : shrunk.size ≡ length (entries_at w n)
  pub lost : length (entries_at m n) ≤ length (entries_at w n) + 1
  pub moves : Moves m w (pages_under m level n) (pages_under w level n) (members_under m level n) (members_under w level n) (i ∷ []) []

-- the tree under page n lacks the member
abbrev pub Lacks : Store → ℕ → ℕ → Member → Type 0
Lacks m level n i = Each (λ j. j ≢ i) (members_under m level n)

-- a member was taken from under page n, or isn't listed there
abbrev pub TakesUnder : Store → Store → ℕ → ℕ → Member → Option Shrunk → Type 0
TakesUnder m w level n i None = Lacks m level n i
TakesUnder m w level n i (Some shrunk) = RemovesUnder m w level n i shrunk

-- two nodes of one level became one, or two others, and all are filled
pub record BalancesNodes (m w : Store) (inner : Bool) (a b : ℕ) (grown : Grown) : Type 0 where
  pub lays : Lays m w (a ∷ (b ∷ [])) (raised a grown) (entries_at m a ++ entries_at m b) inner
  pub full : 99 ≤ length (entries_at m a) + length (entries_at m b) → AllFilled w (raised a grown)

-- A member was taken from under one entry of page n, whose child stands at this level; these are the other entries.
pub record SettlesEntry (m u : Store) (level n : ℕ) (i : Member) (e : NodeEntry) (others : List NodeEntry) (below : Shrunk) : Type 0 where
  pub old : NodeTree m (suc level) n
  pub among : IsPermutation (entries_at m n) (e ∷ others)
  pub removed : RemovesUnder m u level e.child i below

-- Wherever a member was taken from under an entry of page n that leads to this child, it is taken from under page n.
abbrev pub IsTakenFromUnder : Store → Store → ℕ → ℕ → ℕ → List NodeEntry → Shrunk → Shrunk → Type 0
IsTakenFromUnder u w level n child others below shrunk = (m : Store) (i : Member) (e : NodeEntry) → e.child ≡ child → SettlesEntry m u level n i e others below
    → RemovesUnder m w (suc level) n i shrunk

-- page n is an inner node whose one entry leads to this child
pub record LoneChild (m : Store) (n child : ℕ) : Type 0 where
  pub entry : NodeEntry
  pub is : node_at m n ≡ node true (entry ∷ [])
  pub leads : entry.child ≡ child

-- The ways down through the entries so far found nothing: they lack the member, no page changed, and each of their nodes was read once.
pub record PassesBy (old now : PoolState) (level at : ℕ) (es : List NodeEntry) (i : Member) : Type 0 where
  pub same : now.pages ≡ old.pages
  pub within : InCommand old now
  pub failures : failures_of now ≡ failures_of old
  pub lacks : IsTold old → Each (λ j. j ≢ i) (members_in (pages_in old) (suc (level - 1)) (take at es))
  pub gets : IsTold old → now.gets ≤ old.gets + ways_below (pages_in old) (suc (level - 1)) (take at es) (box_of i.1)
