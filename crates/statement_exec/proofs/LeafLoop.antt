-- What the loop over leaves keeps.
use Rattle.std.proofs.Common.{◌≡◌, ℕ, ◌+◌, ◌≤◌, List, [], ◌∷◌, ◌++◌, refl, sym, subst}
use Rattle.std.proofs.lemmas.List.{map-append}
use Rattle.page_pool.specs.Causes.{failures_of}
use Rattle.page_pool.specs.Pool.{PoolState, IsTold}
use Rattle.page_pool.specs.Reads.{IsRead}
use Rattle.z_code.specs.Block.{code_count}
use Rattle.z_code.specs.declared.block.Block.{Block}
use Rattle.sand_model.specs.Cursor.{OutputLine, LeafOf}
use Rattle.sand_model.specs.OutputText.{IsText}
use Rattle.sand_model.specs.Tree.{Tree, leaves, root_block}
use Rattle.output_text.specs.Writing.{Writes, WritesPrefix}
use Rattle.pmr_tree.specs.Keys.{IsShaped}
use Rattle.pmr_tree.specs.Quadtree.{tree_at}
use Rattle.pmr_tree.specs.declared.quadtree.Pmr.{Pmr}
use Rattle.statement_exec.specs.LeafWalk.{Leaves, lines_of, code_end, WritesFirst, WritesLeaves, WritesLeaf, WalkStopsAt, StopsWith}
use Rattle.statement_exec.specs.declared.stop.Stop.{Stop}
use Rattle.statement_exec.specs.declared.stop.Stop.TheVariants as stop
use Rattle.statement_exec.proofs.LeafSteps.{walked_on, walk_begins, walk_ended, are_first}
use Rattle.statement_exec.proofs.Texts.{writes_none, writes_more, breaks_more, writes_then_stays}

-- the lines so far, the pages only read, and no fault counted
pub record Walking (told : Type 0) (all : Leaves) (code : ℕ) (first now : PoolState) (before after : List ℕ → Type 0) (faults faults' : ℕ) : Type 0 where
  pub walk : WritesFirst told all code before after
  pub read : IsRead first now
  pub disk : failures_of now ≡ failures_of first
  pub sink : faults' ≡ faults

one_more : (visited : Leaves) (leaf : Block × List ℕ) → lines_of visited ++ LeafOf leaf.0 leaf.1 ∷ [] ≡ lines_of (visited ++ leaf ∷ [])
one_more visited leaf = sym (map-append (λ (l : Block × List ℕ). LeafOf l.0 l.1) visited (leaf ∷ []))

module _ (told : Type 0) (tree : Tree) (a b c : List ℕ → Type 0) where
  pub walk_start : (told → IsShaped root_block tree) → WritesFirst told (leaves root_block tree) 0 a a
  walk_start h = record { visited = []; walked = λ t. walk_begins tree (h t); written = writes_none a }

  pub walk_next : (code next : ℕ) → WritesFirst told (leaves root_block tree) code a b → WritesLeaf told tree code next b c → WritesFirst told (leaves root_block tree) next a c
  walk_next code next h k = record {
    visited = h.visited ++ k.leaf ∷ [];
    walked = λ t. walked_on tree h.visited code next k.leaf (h.walked t) k.is.at (k.is.place t) k.next_is;
    written = subst (λ (xs : List OutputLine). Writes (IsText xs) a c) (one_more h.visited k.leaf) (writes_more a b c (lines_of h.visited) (LeafOf k.leaf.0 k.leaf.1 ∷ []) h.written k.written);
  }

  pub walk_end : (code : ℕ) → code_end ≤ code → WritesFirst told (leaves root_block tree) code a b → WritesLeaves told (leaves root_block tree) a b
  walk_end code e h = record { visited = h.visited; are_all = λ t. walk_ended (leaves root_block tree) h.visited code (h.walked t) e; written = h.written }

  pub walk_stops : (code : ℕ) (w : Stop) → WritesFirst told (leaves root_block tree) code a b → WalkStopsAt told tree code b c w → StopsWith told (leaves root_block tree) a c w
  walk_stops code (stop.Refused fault) h k = record {
    visited = h.visited;
    first = λ t. are_first (leaves root_block tree) h.visited code (h.walked t);
    written = writes_then_stays a b c (IsText (lines_of h.visited)) h.written k;
  }
  walk_stops code stop.Failed h k =
      let next : ℕ = k.leaf.0.z + code_count k.leaf.0.level in record {
        visited = h.visited ++ k.leaf ∷ [];
        first = λ t. are_first (leaves root_block tree) (h.visited ++ k.leaf ∷ []) next (walked_on tree h.visited code next k.leaf (h.walked t) k.is.at (k.is.place t) refl);
        broken = subst (λ (xs : List OutputLine). WritesPrefix (IsText xs) a c) (one_more h.visited k.leaf) (breaks_more a b c (lines_of h.visited) (LeafOf k.leaf.0 k.leaf.1 ∷ []) h.written k.broken);
      }

-- a leaf that was written after pages were read is one of before
pub read_leaf : (s t : PoolState) (tree : Pmr) (code next : ℕ) (b c : List ℕ → Type 0) → IsRead s t → WritesLeaf (IsTold t) (tree_at t.pages tree) code next b c
    → WritesLeaf (IsTold s) (tree_at s.pages tree) code next b c
read_leaf s t tree code next b c r h = rw (r.told, r.pages) at h

pub read_stop : (s t : PoolState) (tree : Pmr) (code : ℕ) (b c : List ℕ → Type 0) (w : Stop) → IsRead s t → WalkStopsAt (IsTold t) (tree_at t.pages tree) code b c w
    → WalkStopsAt (IsTold s) (tree_at s.pages tree) code b c w
read_stop s t tree code b c (stop.Refused fault) r h = h
read_stop s t tree code b c stop.Failed r h = rw (r.told, r.pages) at h
