-- the words and the numbers, one after the other
use Rattle.output_text.proofs.Forming.{Forms-more}
use Rattle.output_text.proofs.Parts.{stats-appended}
use Rattle.output_text.proofs.pending.Pending.put_stats.Goals as goal

pub returns-clause-formed : goal.returns-clause-formed
returns-clause-formed g c =
    Forms-more _ _ _ _ _ _ c.in_ok-reserve.ensures.formed
    (stats-appended c.reserve.new.self c.append.new.self c.append_number.new.self c.append-2.new.self c.append_number-2.new.self c.append-3.new.self c.append_number-3.new.self
    c.append-4.new.self c.append_number-4.new.self c.args.blocks c.args.pairs c.args.geometries c.args.rows
    c.append.ensures.text c.append_number.ensures.text c.append-2.ensures.text c.append_number-2.ensures.text c.append-3.ensures.text
    c.append_number-3.ensures.text c.append-4.ensures.text c.append_number-4.ensures.text)
