-- What printing the leaves of a column is of the model's outcome.
use Rattle.std.proofs.Common.{◌≡◌, ℕ, ◌<◌, false, List, [], ◌∷◌, ◌++◌, Option, Some, None, refl, sym, ◌∙◌, ap, subst, inl, inr, true≢false}
use Rattle.std.specs.Prelude.{All, Err}
use Rattle.std.specs.List.{list_any}
use Rattle.std.proofs.lemmas.List.{append-nil, map-append}
use Rattle.std.proofs.lemmas.List.Elements.{All-nil, All-cons}
use Rattle.page_pool.specs.Causes.{HasPageCause, IsDamage}
use Rattle.page_pool.specs.Pool.{PoolState, IsTold}
use Rattle.page_pool.specs.Reads.{IsRead}
use Rattle.page_pool.specs.declared.fault.PageFault.{PageFault}
use Rattle.page_pool.specs.declared.fault.PageFault.TheVariants as page
use Rattle.pmr_tree.specs.Quadtree.{tree_at}
use Rattle.pmr_tree.specs.declared.quadtree.Pmr.{Pmr}
use Rattle.sand_base.specs.Faults.{last_count}
use Rattle.sand_base.specs.Shelf.{Files}
use Rattle.sand_base.specs.declared.refusal.Refusal.{Refusal}
use Rattle.sand_base.specs.declared.refusal.Refusal.TheVariants as why
use Rattle.z_code.specs.declared.block.Block.{Block}
use Rattle.sand_model.specs.Cursor.{Cursor, OutputLine, LeafOf, Refused}
use Rattle.sand_model.specs.Outcome.{Rises, IsLicensed, leaf_lines}
use Rattle.sand_model.specs.OutputText.{is_refused}
use Rattle.sand_model.specs.PlainLines.{IsLeafLine}
use Rattle.statements.specs.declared.column.Column.{Column}
use Rattle.statements.specs.Statement.{Blocks}
use Rattle.sand_model.specs.StatementChecks.{Setting, early}
use Rattle.sand_model.specs.Tree.{leaves, root_block}
use Rattle.sand_store.specs.Calls.{refusal_of}
use Rattle.sand_store.specs.Catalog.{CatalogView}
use Rattle.output_text.specs.Writing.{WritesPrefix}
use Rattle.statement_exec.specs.Deciding.{ComesBehind}
use Rattle.statement_exec.specs.Ending.{ReadsStatement, WritesUpTo}
use Rattle.statement_exec.specs.LeafLines.{state_beside, HasQuadtree, LacksTree, IsOfCheck}
use Rattle.statement_exec.specs.LeafWalk.{Leaves, lines_of, AreFirst, WritesLeaves, WritesSome, BreaksLeaves}
use Rattle.statement_exec.specs.Moment.{beside, rises_between}
use Rattle.statement_exec.specs.Printing.{PrintsSome}
use Rattle.statement_exec.proofs.CausedLines.{HasItsCause, caused_plain, caused_behind, caused_refusal, caused_inside, check_blames_none, page_cause}
use Rattle.statement_exec.proofs.Decided.{by_early, by_passing}
use Rattle.statement_exec.proofs.DecidedCalls.{outline_in}
use Rattle.statement_exec.proofs.Outcomes.{outcome_done, outcome_early}
use Rattle.statement_exec.proofs.Refusals.{caused, rose}
use Rattle.statement_exec.proofs.Texts.{breaks_with, writes_none}

none_refused : (visited : Leaves) → list_any is_refused (lines_of visited) ≡ false
none_refused [] = refl
none_refused (leaf ∷ visited) = none_refused visited

-- they are lines of leaves alone
all_leaves : (visited : Leaves) → All IsLeafLine (lines_of visited)
all_leaves [] = All-nil IsLeafLine
all_leaves (leaf ∷ visited) = All-cons IsLeafLine (LeafOf leaf.0 leaf.1) (lines_of visited) tt (all_leaves visited)

module _ (catalog : CatalogView) (column : Column) (old new : PoolState) (read : IsRead old new) where
  same_state : (cursors : List Cursor) → state_beside catalog new.pages cursors ≡ state_beside catalog old.pages cursors
  same_state cursors = ap (λ m. state_beside catalog m cursors) read.pages

  abbrev rises : List Cursor → Option Files → ℕ → Rises
  rises cursors files shelf = rises_between (beside cursors catalog old files shelf) (beside cursors catalog new files shelf)

  -- all leaves
  blocks_done : (tree : Pmr) (visited : Leaves) → HasQuadtree catalog column tree old.pages → (IsTold old → leaves root_block (tree_at old.pages tree) ≡ visited)
      → ReadsStatement (Blocks column) catalog old new (lines_of visited)
  blocks_done tree visited h all = λ cursors files shelf. (
    (
      caused_plain (beside cursors catalog old files shelf) (beside cursors catalog new files shelf) (lines_of visited) (none_refused visited),
      λ setting s. (
        by_passing setting (state_beside catalog old.pages cursors) (Blocks column) (lines_of visited) (h.passes setting cursors) (inl (all_leaves visited)),
        outline_in catalog new.pages old.pages cursors,
      ),
    ),
    λ told disk few setting s.
        let lines : lines_of visited ≡ leaf_lines h.relation column.column = sym (h.lines ∙ ap lines_of (all told)) in
        outcome_done setting (rises cursors files shelf) (state_beside catalog old.pages cursors) (Blocks column) (lines_of visited) (state_beside catalog new.pages cursors)
        (h.passes setting cursors) refl (h.relation, h.named, (inl lines, same_state cursors)),
  )

  -- a fault of a page is licensed
  licensed : {T : Type 0} (cursors : List Cursor) (files : Option Files) (shelf : ℕ) (setting : Setting) (fault : PageFault) → HasPageCause {T = T} old new (Err fault) → IsTold old
      → new.disk.faults < last_count → early setting (state_beside catalog old.pages cursors) (Blocks column) ≡ None
      → IsLicensed setting (rises cursors files shelf) (state_beside catalog old.pages cursors) (Blocks column) (refusal_of fault)
  licensed cursors files shelf setting page.Memory c t l e = tt
  licensed cursors files shelf setting page.Device c t l e = ((refl, e), rose old.disk.faults new.disk.faults (ap (λ (n : ℕ × ℕ). n.0) c.counted) l)
  licensed cursors files shelf setting (page.Damaged n kept read') c t l e =
      let d : IsDamage new n kept read' = c.damaged in absurd (true≢false (sym (read.told ∙ t) ∙ d.untold))

  -- it comes behind the early checks
  page_comes : (fault : PageFault) → ComesBehind (Blocks column) (refusal_of fault)
  page_comes page.Memory = tt
  page_comes page.Device = refl
  page_comes (page.Damaged n kept read') = refl

  -- the first leaves, and a refusal that may come
  blocks_stopped : (tree : Pmr) (visited : Leaves) (w : Refusal) → ComesBehind (Blocks column) w
      → ((cursors : List Cursor) (files : Option Files) (shelf : ℕ) → HasItsCause (beside cursors catalog old files shelf) (beside cursors catalog new files shelf) w)
      → HasQuadtree catalog column tree old.pages → (IsTold old → AreFirst (leaves root_block (tree_at old.pages tree)) visited)
      → ((cursors : List Cursor) (files : Option Files) (shelf : ℕ) (setting : Setting) → IsTold old → new.disk.faults < last_count
      → IsLicensed setting (rises cursors files shelf) (state_beside catalog old.pages cursors) (Blocks column) w)
      → ReadsStatement (Blocks column) catalog old new (lines_of visited ++ Refused w ∷ [])
  blocks_stopped tree visited w comes caused h first may = λ cursors files shelf. (
    (
      caused_behind (beside cursors catalog old files shelf) (beside cursors catalog new files shelf) (lines_of visited) (Refused w ∷ []) (none_refused visited)
          (caused_refusal (beside cursors catalog old files shelf) (beside cursors catalog new files shelf) w (caused cursors files shelf)),
      λ setting s. (
        by_passing setting (state_beside catalog old.pages cursors) (Blocks column) (lines_of visited ++ Refused w ∷ []) (h.passes setting cursors)
            (inr (lines_of visited, w, all_leaves visited, comes, refl)),
        outline_in catalog new.pages old.pages cursors,
      ),
    ),
    λ told disk few setting s.
        let f : AreFirst (leaves root_block (tree_at old.pages tree)) visited = first told in
        let split : leaf_lines h.relation column.column ≡ lines_of visited ++ lines_of f.rest =
        h.lines ∙ (ap lines_of f.all_are ∙ map-append (λ (l : Block × List ℕ). LeafOf l.0 l.1) visited f.rest) in
        outcome_done setting (rises cursors files shelf) (state_beside catalog old.pages cursors) (Blocks column) (lines_of visited ++ Refused w ∷ []) (state_beside catalog new.pages cursors)
        (h.passes setting cursors) refl
        (h.relation, h.named, (inr (lines_of visited, lines_of f.rest, w, may cursors files shelf setting told disk, split, refl), same_state cursors)),
  )

  pub up_to_end : (tree : Pmr) (a b : List ℕ → Type 0) → HasQuadtree catalog column tree old.pages → WritesLeaves (IsTold old) (leaves root_block (tree_at old.pages tree)) a b
      → WritesUpTo (ReadsStatement (Blocks column) catalog old new) None a b
  up_to_end tree a b h k = record {
    lines = lines_of k.visited;
    written = k.written;
    accepted = none_refused k.visited;
    holds = subst (λ (xs : List OutputLine). ReadsStatement (Blocks column) catalog old new xs) (sym (append-nil (lines_of k.visited))) (blocks_done tree k.visited h k.are_all);
  }

  pub up_to_fault : {T : Type 0} (tree : Pmr) (a b : List ℕ → Type 0) (fault : PageFault) → HasQuadtree catalog column tree old.pages → HasPageCause {T = T} old new (Err fault)
      → WritesSome (IsTold old) (leaves root_block (tree_at old.pages tree)) a b → WritesUpTo (ReadsStatement (Blocks column) catalog old new) (Some (refusal_of fault)) a b
  up_to_fault {T} tree a b fault h cause k = record {
    lines = lines_of k.visited;
    written = k.written;
    accepted = none_refused k.visited;
    holds = blocks_stopped tree k.visited (refusal_of fault) (page_comes fault)
        (λ cursors files shelf. page_cause cursors cursors catalog catalog old new read.told files files shelf shelf {T = T} fault cause) h k.first
        (λ cursors files shelf setting told disk. licensed {T = T} cursors files shelf setting fault cause told disk (h.passes setting cursors));
  }

  pub broken_off : (tree : Pmr) (a b : List ℕ → Type 0) → HasQuadtree catalog column tree old.pages → BreaksLeaves (IsTold old) (leaves root_block (tree_at old.pages tree)) a b
      → WritesPrefix (PrintsSome (ReadsStatement (Blocks column) catalog old new)) a b
  broken_off tree a b h k =
      breaks_with (ReadsStatement (Blocks column) catalog old new) a b (lines_of k.visited) why.Memory
      (blocks_stopped tree k.visited why.Memory tt (λ cursors files shelf. tt) h k.first (λ cursors files shelf setting told disk. tt)) k.broken

-- an early check refuses
pub up_to_check : (catalog : CatalogView) (column : Column) (old : PoolState) (a : List ℕ → Type 0) (w : Refusal) → LacksTree catalog column w old.pages → IsOfCheck w
    → WritesUpTo (ReadsStatement (Blocks column) catalog old old) (Some w) a a
up_to_check catalog column old a w h o = record {
  lines = [];
  written = writes_none a;
  accepted = refl;
  holds = λ cursors files shelf. (
    (
      caused_inside (beside cursors catalog old files shelf) (beside cursors catalog old files shelf) w (check_blames_none w o),
      λ setting s. (by_early setting (state_beside catalog old.pages cursors) (Blocks column) w (h setting cursors), refl),
    ),
    λ told disk few setting s.
        outcome_early setting (rises_between (beside cursors catalog old files shelf) (beside cursors catalog old files shelf)) (state_beside catalog old.pages cursors)
        (Blocks column) (Refused w ∷ []) (state_beside catalog old.pages cursors)
        w (h setting cursors) (caused (rises_between (beside cursors catalog old files shelf) (beside cursors catalog old files shelf)) w o) (refl, refl),
  );
}
