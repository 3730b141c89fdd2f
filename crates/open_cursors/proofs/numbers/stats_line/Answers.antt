-- the numbers of the cursor of the name, or none has the name
use Rattle.std.proofs.Common.{sym, ◌∙◌}
use Rattle.open_cursors.proofs.OpenNames.{named_open}
use Rattle.open_cursors.proofs.NumberLines.{numbers_by_name, numbers_written, no_numbers_by_name, no_numbers_written}
use Rattle.open_cursors.proofs.numbers.stats_line.Goals as goal

pub returns-in-Some-clause-written : goal.returns-in-Some-clause-written
returns-in-Some-clause-written g c = λ pages cs own all counted catalog pool.
    numbers_written catalog cs pool c.args.name.now (g.K.Sink.took c.args.out.now) (g.K.Sink.took c.write_numbers.new.out) counted c.in-Some.numbers
    (c.in-Some.ensures.numbers pages cs own all) c.write_numbers.result c.write_numbers.ensures.written c.write_numbers.ensures.prefix

pub returns-in-None-clause-written : goal.returns-in-None-clause-written
returns-in-None-clause-written g c = λ pages cs own all counted catalog pool.
    no_numbers_written catalog cs pool c.args.name.now (g.K.Sink.took c.args.out.now) (g.K.Sink.took c.refuse.new.out)
    (c.in-None.ensures.numbers pages cs own all) c.refuse.result c.refuse.ensures.written c.refuse.ensures.prefix

-- by the names, whatever the numbers
pub returns-in-Some-clause-named : goal.returns-in-Some-clause-named
returns-in-Some-clause-named g c = λ cs all catalog pool untold.
    numbers_by_name catalog cs pool c.args.name.now (g.K.Sink.took c.args.out.now) (g.K.Sink.took c.write_numbers.new.out) untold
    (named_open c.args.cursors.now cs c.args.name.now all ∙ sym c.in-Some.ensures.known) c.in-Some.numbers
    c.write_numbers.result c.write_numbers.ensures.written c.write_numbers.ensures.prefix

pub returns-in-None-clause-named : goal.returns-in-None-clause-named
returns-in-None-clause-named g c = λ cs all catalog pool untold.
    no_numbers_by_name catalog cs pool c.args.name.now (g.K.Sink.took c.args.out.now) (g.K.Sink.took c.refuse.new.out)
    (named_open c.args.cursors.now cs c.args.name.now all ∙ sym c.in-None.ensures.known)
    c.refuse.result c.refuse.ensures.written c.refuse.ensures.prefix
