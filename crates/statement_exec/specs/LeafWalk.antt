-- The leaves of a quadtree, visited one by one in the order of their codes.
use Rattle.std.specs.Prelude.{◌≡◌, ℕ, ◌+◌, ◌*◌, ◌^◌, List, [], ◌∷◌, ◌++◌, map, Result, Ok, Err}
use Rattle.page_pool.specs.declared.fault.PageFault.{PageFault}
use Rattle.sand_base.specs.declared.TheConstants.{COORDINATE_BITS}
use Rattle.sand_base.specs.Streams.{Stays}
use Rattle.z_code.specs.Block.{IsBlock, HasCode, code_count}
use Rattle.z_code.specs.declared.block.Block.{Block}
use Rattle.sand_model.specs.Cursor.{OutputLine, LeafOf}
use Rattle.sand_model.specs.OutputText.{IsText}
use Rattle.sand_model.specs.Tree.{Tree, Leaf, IsPlace}
use Rattle.output_text.specs.Writing.{Writes, WritesPrefix}
use Rattle.statement_exec.specs.declared.stop.Stop.{Stop}
use Rattle.statement_exec.specs.declared.stop.Stop.TheVariants as stop

-- leaves, each with its block and its ids
abbrev pub Leaves : Type 0
Leaves = List (Block × List ℕ)

-- the lines of leaves
abbrev pub lines_of : Leaves → List OutputLine
lines_of leaves = map (λ leaf. LeafOf leaf.0 leaf.1) leaves

-- the first number behind all codes
abbrev pub code_end : ℕ
code_end = 2 ^ (2 * COORDINATE_BITS)

-- the leaves' blocks lie side by side, from a code up to another
abbrev pub AreSideBySide : ℕ → Leaves → ℕ → Type 0
AreSideBySide from [] to = from ≡ to
AreSideBySide from (leaf ∷ leaves) to = (leaf.0.z ≡ from) × AreSideBySide (from + code_count leaf.0.level) leaves to

-- of all leaves these were visited, and the next one begins at the code
pub record Walked (all visited : Leaves) (code : ℕ) : Type 0 where
  pub rest : Leaves
  pub all_are : all ≡ visited ++ rest
  pub before : AreSideBySide 0 visited code
  pub behind : AreSideBySide code rest code_end

-- of all leaves these are the first
pub record AreFirst (all visited : Leaves) : Type 0 where
  pub rest : Leaves
  pub all_are : all ≡ visited ++ rest

-- a leaf that has the code: one of the tree, where the disk tells its pages
pub record IsLeafAt (told : Type 0) (tree : Tree) (code : ℕ) (leaf : Block × List ℕ) : Type 0 where
  pub block : IsBlock leaf.0
  pub at : HasCode leaf.0 code
  pub place : told → IsPlace tree leaf.0 (Leaf leaf.1)

-- the line of the leaf at a code was written, and the next leaf begins at `next`
pub record WritesLeaf (told : Type 0) (tree : Tree) (code next : ℕ) (before now : List ℕ → Type 0) : Type 0 where
  pub leaf : Block × List ℕ
  pub is : IsLeafAt told tree code leaf
  pub next_is : next ≡ leaf.0.z + code_count leaf.0.level
  pub written : Writes (IsText (LeafOf leaf.0 leaf.1 ∷ [])) before now

-- a prefix of the line of the leaf at a code was written
pub record BreaksLeaf (told : Type 0) (tree : Tree) (code : ℕ) (before now : List ℕ → Type 0) : Type 0 where
  pub leaf : Block × List ℕ
  pub is : IsLeafAt told tree code leaf
  pub broken : WritesPrefix (IsText (LeafOf leaf.0 leaf.1 ∷ [])) before now

-- why no leaf was written: none was found, or the sink failed
abbrev pub WalkStopsAt : Type 0 → Tree → ℕ → (List ℕ → Type 0) → (List ℕ → Type 0) → Stop → Type 0
WalkStopsAt told tree code before now (stop.Refused fault) = Stays before now
WalkStopsAt told tree code before now stop.Failed = BreaksLeaf told tree code before now

-- leaves were written up to a code: where the disk tells, the first ones of all
pub record WritesFirst (told : Type 0) (all : Leaves) (code : ℕ) (before now : List ℕ → Type 0) : Type 0 where
  pub visited : Leaves
  pub walked : told → Walked all visited code
  pub written : Writes (IsText (lines_of visited)) before now

-- all leaves were written
pub record WritesLeaves (told : Type 0) (all : Leaves) (before now : List ℕ → Type 0) : Type 0 where
  pub visited : Leaves
  pub are_all : told → all ≡ visited
  pub written : Writes (IsText (lines_of visited)) before now

-- the first leaves were written, before one that could not be read
pub record WritesSome (told : Type 0) (all : Leaves) (before now : List ℕ → Type 0) : Type 0 where
  pub visited : Leaves
  pub first : told → AreFirst all visited
  pub written : Writes (IsText (lines_of visited)) before now

-- a prefix of the first leaves was written
pub record BreaksLeaves (told : Type 0) (all : Leaves) (before now : List ℕ → Type 0) : Type 0 where
  pub visited : Leaves
  pub first : told → AreFirst all visited
  pub broken : WritesPrefix (IsText (lines_of visited)) before now

-- why not all leaves were written
abbrev pub StopsWith : Type 0 → Leaves → (List ℕ → Type 0) → (List ℕ → Type 0) → Stop → Type 0
StopsWith told all before now (stop.Refused fault) = WritesSome told all before now
StopsWith told all before now stop.Failed = BreaksLeaves told all before now

-- what the pages answered: a fault of the sink is none of theirs
abbrev pub of_walked_pages : {A : Type 0} → Result A Stop → Result (Unit {0}) PageFault
of_walked_pages (Ok a) = Ok tt
of_walked_pages (Err (stop.Refused fault)) = Err fault
of_walked_pages (Err stop.Failed) = Ok tt

-- the sink failed where it is to blame
abbrev pub of_sink : {A : Type 0} → Result A Stop → Result (Unit {0}) (Unit {0})
of_sink (Ok a) = Ok tt
of_sink (Err (stop.Refused fault)) = Ok tt
of_sink (Err stop.Failed) = Err tt
