-- the eight bytes read are those of the piece
use Rattle.std.proofs.Common.{arith}
use Rattle.code_btree.proofs.Numbers.{word_read}
use Rattle.r_tree.proofs.page.word_at.Goals as goal

pub returns : goal.returns
returns c = word_read c.args.at _ c.args.bytes.now (omega arith) c.from_be_bytes.ensures
