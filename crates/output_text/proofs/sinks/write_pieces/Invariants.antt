use Rattle.std.proofs.Common.{◌-◌, length}
use Rattle.output_text.proofs.sinks.write_pieces.Given as goal
use Rattle.output_text.proofs.WrittenPrefix.{WrittenPrefix}

abbrev pub invariant-pieces : goal.invariant-pieces
invariant-pieces g l =
    WrittenPrefix l.at l.text (g.K.Sink.took l.initial.out) (g.K.Sink.took l.out) (g.K.Sink.faults l.initial.out) (g.K.Sink.faults l.out)

abbrev pub decreases-pieces : goal.decreases-pieces
decreases-pieces g l = length l.text - l.at
