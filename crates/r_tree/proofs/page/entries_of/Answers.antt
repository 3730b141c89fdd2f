-- one entry more is read
use Rattle.std.proofs.Common.{◌++◌, ◌∷◌, [], List, sym, ◌∙◌, ap₂, arith}
use Rattle.r_tree.specs.declared.entry.NodeEntry.{NodeEntry}
use Rattle.r_tree.proofs.Cells.{entries_read_more}
use Rattle.r_tree.proofs.page.entries_of.Goals as goal

pub cells-preserved : goal.cells-preserved
cells-preserved c = record {
  read = c.push_reserved.ensures.items ∙ (ap₂ (λ (x : List NodeEntry) (y : NodeEntry). x ++ y ∷ []) c.cells.invariant.read c.entry_at.ensures ∙ sym (entries_read_more c.args.page.now c.cells.i));
  room = omega (arith, c.cells.invariant.room, c.push_reserved.ensures.len, c.push_reserved.ensures.capacity);
}
