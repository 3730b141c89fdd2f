-- one member more is read
use Rattle.std.proofs.Common.{◌++◌, ◌∷◌, [], List, sym, ◌∙◌, ap, ap₂, arith}
use Rattle.r_tree.specs.declared.entry.NodeEntry.{NodeEntry}
use Rattle.r_tree.specs.Entry.{Member, member_of}
use Rattle.r_tree.proofs.Cells.{members_read_more}
use Rattle.r_tree.proofs.node.members_of.Goals as goal

pub cells-preserved : goal.cells-preserved
cells-preserved c = record {
  listed = c.push_reserved.ensures.items
      ∙ (ap₂ (λ (x : List Member) (y : Member). x ++ y ∷ []) c.cells.invariant.listed (ap (λ (e : NodeEntry). member_of e) c.entry_at-entry.ensures)
      ∙ sym (members_read_more c.args.page.now c.cells.i));
  room = omega (arith, c.cells.invariant.room, c.push_reserved.ensures.len, c.push_reserved.ensures.capacity);
}
