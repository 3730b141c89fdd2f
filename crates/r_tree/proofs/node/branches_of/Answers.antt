-- one branch more is read
use Rattle.std.proofs.Common.{◌++◌, ◌∷◌, [], ℕ, List, sym, ◌∙◌, ap, ap₂, arith}
use Rattle.sand_base.specs.declared.rect.Rect.{Rect}
use Rattle.r_tree.specs.declared.entry.NodeEntry.{NodeEntry}
use Rattle.r_tree.specs.Entry.{box_of}
use Rattle.r_tree.proofs.Cells.{branches_read_more}
use Rattle.r_tree.proofs.node.branches_of.Goals as goal

pub cells-preserved : goal.cells-preserved
cells-preserved c = record {
  listed = c.push_reserved.ensures.items
      ∙ (ap₂ (λ (x : List (Rect × ℕ)) (y : Rect × ℕ). x ++ y ∷ []) c.cells.invariant.listed
      (ap (λ (r : Rect). (r, c.entry_at-entry.result.child)) c.box_of.ensures ∙ ap (λ (e : NodeEntry). (box_of e.rough, e.child)) c.entry_at-entry.ensures)
      ∙ sym (branches_read_more c.args.page.now c.cells.i));
  room = omega (arith, c.cells.invariant.room, c.push_reserved.ensures.len, c.push_reserved.ensures.capacity);
}
