-- What the calls of a quadtree do, and why they are refused.
use Rattle.std.specs.Prelude.{◌≡◌, ◌≢◌, ◌⊎◌, ℕ, ◌+◌, ◌≤◌, List, [], ◌∷◌, ◌++◌, Result, Ok, Err, OnOk, MatchResult, All}
use Rattle.sand_base.specs.Faults.{next_count}
use Rattle.sand_base.specs.declared.shape.Shape.{Shape}
use Rattle.sand_base.specs.declared.visit.Visit.{Visit}
use Rattle.page_pool.specs.Disk.{PageMap}
use Rattle.page_pool.specs.Pool.{PoolState}
use Rattle.page_pool.specs.Desk.{DeskState}
use Rattle.page_pool.specs.Causes.{HasPageCause}
use Rattle.page_pool.specs.declared.fault.PageFault.{PageFault}
use Rattle.page_pool.specs.declared.fault.PageFault.TheVariants as page
use Rattle.code_btree.specs.Calls.{Keeps}
use Rattle.sand_model.specs.Measure.{Measure, IsMeasure}
use Rattle.sand_model.specs.Database.{tree_with}
use Rattle.sand_model.specs.Nodes.{rough_figure}
use Rattle.sand_model.specs.Price.{block_price}
use Rattle.sand_model.specs.Tree.{Tree, empty_tree, shrunk, IsPlace}
use Rattle.sand_base.specs.Plane.{IsShapeInPlane}
use Rattle.z_code.specs.declared.block.Block.{Block}
use Rattle.pmr_tree.specs.Entries.{listed_of, figure_of, IsRoughInPlane, IsNodeOf, id_count}
use Rattle.pmr_tree.specs.declared.listed.Node.{Node}
use Rattle.pmr_tree.specs.Quadtree.{store_of, quadtree_entries, pages_at, tree_at, IsPmr, KeepsShape}
use Rattle.pmr_tree.specs.declared.fault.PmrFault.{PmrFault}
use Rattle.pmr_tree.specs.declared.fault.PmrFault.TheVariants.{Memory, Device, Damaged, IndexFull}
use Rattle.pmr_tree.specs.declared.quadtree.Pmr.{Pmr}

-- a refusal as the pages have it; a full index is none of theirs
abbrev pub of_pages : {T : Type 0} → Result T PmrFault → Result (Unit {0}) PageFault
of_pages (Ok x) = Ok tt
of_pages (Err Memory) = Err page.Memory
of_pages (Err Device) = Err page.Device
of_pages (Err (Damaged n kept read)) = Err (page.Damaged n kept read)
of_pages (Err IndexFull) = Ok tt

-- A call has its cause: that of the pages, or that the index is full.
abbrev pub HasPmrCause : {T : Type 0} → PoolState → PoolState → Result T PmrFault → Type 0
HasPmrCause old new result = HasPageCause old new (of_pages result)

-- a new quadtree of one empty leaf, on pages that weren't live
pub record Plants (m w : PageMap) (t : Pmr) : Type 0 where
  pub is : IsPmr w t
  pub empty : tree_at w t ≡ empty_tree
  pub entries : (id : ℕ) (s : Shape) → 1 ≤ id → KeepsShape w t id s
  pub keeps : Keeps (store_of m) (store_of w) [] (pages_at w t)

-- what both changes keep: the threshold and the number, and all pages but those of the quadtree
pub record QuadtreeStays (m w : PageMap) (t u : Pmr) : Type 0 where
  pub is : IsPmr w u
  pub threshold : u.threshold ≡ t.threshold
  pub number : u.number ≡ t.number
  pub keeps : Keeps (store_of m) (store_of w) (pages_at m t) (pages_at w u)

-- The quadtree has grown by the id with this shape, among these rows. It keeps the rough shape, and those of all other ids.
pub record Grows (m w : PageMap) (t u : Pmr) (rows : List (ℕ × Shape)) (id : ℕ) (s : Shape) : Type 0 where
  pub stays : QuadtreeStays m w t u
  pub grown : (gap : Measure) → IsMeasure gap → tree_at w u ≡ tree_with gap ((id, s) ∷ rows) t.threshold id (tree_at m t)
  pub rough : KeepsShape w u id s
  pub others : (other : ℕ) (o : Shape) → 1 ≤ other → other ≢ id → KeepsShape m t other o → KeepsShape w u other o

-- The quadtree has shrunk by the id, and keeps the rough shapes of all ids that are left.
pub record Shrinks (m w : PageMap) (t u : Pmr) (id : ℕ) : Type 0 where
  pub stays : QuadtreeStays m w t u
  pub shrunk : tree_at w u ≡ shrunk t.threshold id (tree_at m t)
  pub roughs : (other : ℕ) (o : Shape) → 1 ≤ other → KeepsShape m t other o → KeepsShape w u other o

-- the quadtree is in w what it is in m: its entries, its tree, its pages, and that it is one
pub record QuadtreeUnmoved (m w : PageMap) (t : Pmr) : Type 0 where
  pub entries : quadtree_entries w t ≡ quadtree_entries m t
  pub tree : tree_at w t ≡ tree_at m t
  pub pages : pages_at w t ≡ pages_at m t
  pub is : IsPmr m t → IsPmr w t

-- what was found is the place of the block
abbrev pub FindsPlace : Tree → Block → Node → Type 0
FindsPlace tree b found = (place : Tree) → IsPlace tree b place → IsNodeOf place found

-- each id of what was found has its rough shape with it
abbrev pub HasRoughs : PageMap → Pmr → Node → Type 0
HasRoughs pages t found = All (λ l. (s : Shape) → IsShapeInPlane s → KeepsShape pages t l.id s → figure_of l.rough ≡ rough_figure s) (listed_of found)

-- what was found has ids of rows and rough shapes in the plane, over any disk
abbrev pub IsFoundInRange : Node → Type 0
IsFoundInRange found = All (λ l. (1 ≤ l.id) × IsRoughInPlane l.rough) (listed_of found)

-- no more gets were made than a visit of the block may cost
abbrev pub IsWithinPrice : PageMap → Pmr → Block → PoolState → PoolState → Type 0
IsWithinPrice pages t b old new = (place : Tree) → IsPlace (tree_at pages t) b place → new.gets ≤ old.gets + block_price t.map.height (id_count place)

-- the call made at least one get where it was accepted
abbrev pub GetsSome : {T E : Type 0} → PoolState → PoolState → Result T E → Type 0
GetsSome old new result = OnOk result (next_count old.gets ≤ new.gets)

-- the visit was noted where the call was accepted; where it was refused, it was noted, or nothing was done
abbrev pub NotesVisit : {T : Type 0} → Visit → DeskState → DeskState → Result T PageFault → Type 0
NotesVisit visit old new result = MatchResult result
    (λ _. new.visits ≡ old.visits ++ visit ∷ [])
    (λ _. (new.visits ≡ old.visits ++ visit ∷ []) ⊎ ((new.visits ≡ old.visits) × (new.pool ≡ old.pool)))
