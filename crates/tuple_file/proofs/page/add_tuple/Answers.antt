-- four writes: the tuple, its place, its length, the number of slots
use Rattle.std.proofs.Common.{refl}
use Rattle.tuple_file.proofs.Pastes.{added_by}
use Rattle.tuple_file.proofs.page.add_tuple.Goals as goal

pub returns : goal.returns
returns c =
    added_by c.args.page.now c.paste.new.page c.paste_half.new.page c.paste_half-2.new.page c.paste_half-3.new.page c.args.bytes.now c.count_of-slot.result c.low_of.result c.from.result c.from-2.result _ _ _
    c.count_of-slot.ensures c.low_of.ensures c.requires c.from.ensures c.from-2.ensures refl refl refl c.paste.ensures c.paste_half.ensures c.paste_half-2.ensures c.paste_half-3.ensures
