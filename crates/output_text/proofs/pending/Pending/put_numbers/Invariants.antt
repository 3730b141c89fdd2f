use Rattle.std.proofs.Common.{◌≡◌, drop, map}
use Rattle.std.specs.Fmt.{decimal}
use Rattle.output_text.specs.Joined.{led}
use Rattle.output_text.proofs.Listed.{FormsUpTo}
use Rattle.output_text.proofs.pending.Pending.put_numbers.Given as goal

-- all but the rest was formed, and no write failed
abbrev pub invariant-numbers : goal.invariant-numbers
invariant-numbers g l =
    FormsUpTo (g.K.Sink.took l.initial.out) (g.K.Sink.took l.out) l.initial.self l.self (led l.before (map decimal l.numbers)) (led l.before (map decimal (drop l.number-index l.numbers)))
    × (g.K.Sink.faults l.out ≡ g.K.Sink.faults l.initial.out)
