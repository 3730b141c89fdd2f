-- the head, then the entries
use Rattle.std.proofs.Common.{ℕ, length, refl, arith, replicate}
use Rattle.std.proofs.lemmas.List.{length-replicate}
use Rattle.r_tree.proofs.Cells.{node_written, head_put, head_long}
use Rattle.r_tree.proofs.page.node_page.Goals as goal

pub returns : goal.returns
returns c =
    let z = replicate {A = ℕ} 4096 0 in
    let lz = length-replicate {A = ℕ} 4096 0 in
    node_written c.paste.new.page c.put_half.new.page c.write_entries.new.page c.args.entries.now (length c.args.entries.now) c.kind_of.result c.args.inner
    (head_long z c.paste.new.page c.kind_of.result lz c.paste.ensures) c.write_entries.array_long (omega (arith, c.requires)) refl c.requires
    c.kind_of.ensures (head_put z c.paste.new.page c.kind_of.result (omega (arith, lz)) c.paste.ensures) c.put_half.ensures c.write_entries.ensures.head c.write_entries.ensures.entries
