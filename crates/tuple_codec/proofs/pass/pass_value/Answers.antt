-- Why the value is passed over.
use Rattle.tuple_codec.proofs.Passes.{passes}
use Rattle.tuple_codec.proofs.pass.pass_value.Goals as goal

pub returns : goal.returns
returns c = λ v rest is e.
    let ahead = c.in-Some.ensures v rest is e in
    passes c.count_of.new.reader.left.now c.piece.new.self.left.now rest ahead.0 c.in-Some.count c.is_some.result c.piece.result ahead.1.0 ahead.1.1 c.piece.ensures c.is_some.ensures
