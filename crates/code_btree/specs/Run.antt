-- A run over a tree's pairs from a key on: what it has still to give, and what a step does.
use Rattle.std.specs.Prelude.{◌≡◌, ℕ, ◌+◌, ◌-◌, ◌≤◌, ◌<◌, ◌^◌, OnOk, List, [], ◌∷◌, ◌++◌, Bool, true, false, cond, length, drop, Option, None, Result, Ok, IfSome, min}
use Rattle.std.specs.List.{flat_map}
use Rattle.sand_base.specs.Faults.{next_count, last_count}
use Rattle.page_pool.specs.declared.fault.PageFault.{PageFault}
use Rattle.page_pool.specs.Pool.{PoolState, IsTold}
use Rattle.page_pool.specs.Reads.{IsRead}
use Rattle.page_pool.specs.Causes.{HasPageCause}
use Rattle.code_btree.specs.declared.map.Tree.{Tree}
use Rattle.code_btree.specs.declared.steps.Spot.{Spot}
use Rattle.code_btree.specs.declared.steps.Run.{Run}
use Rattle.code_btree.specs.Node.{Pair, entries_of}
use Rattle.code_btree.specs.Items.{items_from}
use Rattle.code_btree.specs.Tree.{Store, IsTree, tree_items, pages_in, links, node}

-- where a run stands before its first step
abbrev pub first_spot : Tree → ℕ → Spot
first_spot tree from = record { tree = tree; from = from; begun = false; leaf = 0; place = 0 }

-- the least key that may still come: the one that was asked for, and then the one above the last pair
abbrev pub least_left : Spot → ℕ
least_left s = cond s.begun (s.from + 1) s.from

-- the pairs of the tree that are still to come
abbrev pub pairs_to_come : Store → Spot → List Pair
pairs_to_come m s = items_from (least_left s) (tree_items m s.tree)

-- the entries of these leaves
abbrev pub chained : Store → List (ℕ × ℕ) → List Pair
chained m ls = flat_map (λ l. entries_of (node m l.0)) ls

-- a place in a leaf of the tree: these pairs are those from there on, through all leaves behind it
pub record IsPlaceIn (m : Store) (t : Tree) (leaf place : ℕ) (es : List Pair) : Type 0 where
  pub before : List (ℕ × ℕ)
  pub behind : List (ℕ × ℕ)
  pub next : ℕ
  pub chain : links m (t.height - 1) t.root ≡ before ++ ((leaf, next) ∷ behind)
  pub within : place < length (entries_of (node m leaf))
  pub pairs : es ≡ drop place (entries_of (node m leaf)) ++ chained m behind

-- These pairs of the tree begin at a place of a leaf; or there are none, and the leaf is 0.
pub record BeginsAt (m : Store) (t : Tree) (leaf place : ℕ) (es : List Pair) : Type 0 where
  pub none : leaf ≡ 0 → es ≡ []
  pub here : 1 ≤ leaf → IsPlaceIn m t leaf place es

-- A run stands over a tree; where it was begun, it knows the place of its next pair.
pub record StandsAt (m : Store) (s : Spot) : Type 0 where
  pub tree : IsTree m s.tree
  pub place : s.begun ≡ true → BeginsAt m s.tree s.leaf s.place (pairs_to_come m s)

-- A run as contracts see it: the pages that it reads, where it stands, and its outcome.
pub record RunView : Type 0 where
  pub pool : PoolState
  pub spot : Spot
  pub outcome : Result Bool PageFault

-- what contracts see of a run
abbrev pub run_view : {P : Type 0} → (P → PoolState) → Run P → RunView
run_view shown r = record { pool = shown r.pages.now; spot = r.spot; outcome = r.outcome }

-- the pairs that a run has still to give
abbrev pub run_left : RunView → List Pair
run_left r = pairs_to_come (pages_in r.pool) r.spot

-- where the disk tells, a run that hasn't ended stands over its tree
abbrev pub CanRun : RunView → Type 0
CanRun r = IsTold r.pool → r.outcome ≡ Ok false → StandsAt (pages_in r.pool) r.spot

-- how many gets a step makes at most: one more than the height at first, then one
abbrev pub step_gets : Spot → ℕ
step_gets s = cond s.begun 1 (s.tree.height + 1)

-- A step of a run that had ended gives None and does nothing.
pub record Rested (a : RunView) (r : Option Pair) (b : RunView) : Type 0 where
  pub none : r ≡ None
  pub stays : b ≡ a

-- A step of a run that hadn't ended. Where the disk tells, a pair is the first of those left, and without a fault None comes exactly where
-- none was left. Over any disk keys rise. The number of gets doesn't fall, and a first step without a fault makes at least one.
pub record Stepped (a : RunView) (r : Option Pair) (b : RunView) : Type 0 where
  pub given : IfSome r (λ e. IsTold a.pool → run_left a ≡ e ∷ run_left b)
  pub rises : IfSome r (λ e. (least_left a.spot ≤ e.0) × (least_left b.spot ≡ e.0 + 1))
  pub goes_on : IfSome r (λ e. (b.outcome ≡ Ok false) × (b.spot.begun ≡ true))
  pub ended : r ≡ None → b.outcome ≡ Ok false → ⊥
  pub exhausted : b.outcome ≡ Ok true → IsTold a.pool → run_left a ≡ []
  pub tree : b.spot.tree ≡ a.spot.tree
  pub read : IsRead a.pool b.pool
  pub gets : b.pool.gets ≤ a.pool.gets + step_gets a.spot
  pub up : min a.pool.gets last_count ≤ b.pool.gets
  pub some : a.spot.begun ≡ false → OnOk b.outcome (next_count a.pool.gets ≤ b.pool.gets)
  pub cause : HasPageCause a.pool b.pool b.outcome
  pub can : CanRun b

-- a step of a run
pub record RunsOn (a : RunView) (r : Option Pair) (b : RunView) : Type 0 where
  pub steps : a.outcome ≡ Ok false → Stepped a r b
  pub rests : (a.outcome ≡ Ok false → ⊥) → Rested a r b

-- no more pairs come than keys are left
abbrev pub keys_left : Spot → ℕ
keys_left s = 2 ^ 128 - least_left s
