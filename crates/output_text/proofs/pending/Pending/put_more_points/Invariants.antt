use Rattle.std.proofs.Common.{◌≡◌, drop, map}
use Rattle.std.specs.Prelude.{codes}
use Rattle.sand_model.specs.OutputText.{point_text}
use Rattle.output_text.specs.Joined.{led}
use Rattle.output_text.proofs.Listed.{FormsUpTo}
use Rattle.output_text.proofs.pending.Pending.put_more_points.Given as goal

-- all but the rest was formed, and no write failed
abbrev pub invariant-points : goal.invariant-points
invariant-points g l =
    FormsUpTo (g.K.Sink.took l.initial.out) (g.K.Sink.took l.out) l.initial.self l.self (led (codes " ") (map point_text l.points)) (led (codes " ") (map point_text (drop l.at-index l.points)))
    × (g.K.Sink.faults l.out ≡ g.K.Sink.faults l.initial.out)
