-- the tuple is alone in a blank page
use Rattle.code_btree.specs.Tree.{pages_in}
use Rattle.tuple_file.proofs.Settles.{begun}
use Rattle.tuple_file.proofs.steps.begin_page.Goals as goal

pub returns-clause-value : goal.returns-clause-value
returns-clause-value g c =
    begun (pages_in c.args.pool.now) (pages_in c.gain.new.pool) c.in_ok-n.n c.add_tuple-slot.result.0 c.add_tuple-slot.result.1 c.args.bytes.now c.blank-page.result c.add_tuple-slot.new.page
    c.in_ok-n.ensures.value (c.add_tuple-slot.ensures c.blank-page.ensures.sound) c.blank-page.ensures.none
