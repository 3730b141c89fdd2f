-- the two bytes read are those of the piece
use Rattle.std.proofs.Common.{arith}
use Rattle.code_btree.proofs.Numbers.{half_read}
use Rattle.r_tree.proofs.page.half_at.Goals as goal

pub returns : goal.returns
returns c = half_read c.args.at _ c.args.page.now (omega arith) c.from_be_bytes.ensures
