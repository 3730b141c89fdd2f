use Rattle.std.proofs.Common.{◌≡◌, ◌∷◌, [], drop, map}
use Rattle.sand_model.specs.OutputText.{value_text}
use Rattle.output_text.specs.Joined.{led}
use Rattle.output_text.proofs.Listed.{FormsUpTo}
use Rattle.output_text.proofs.pending.Pending.put_more_values.Given as goal

-- all but the rest was formed, and no write failed
abbrev pub invariant-values : goal.invariant-values
invariant-values g l =
    FormsUpTo (g.K.Sink.took l.initial.out) (g.K.Sink.took l.out) l.initial.self l.self (led (9 ∷ []) (map value_text l.values)) (led (9 ∷ []) (map value_text (drop l.value-index l.values)))
    × (g.K.Sink.faults l.out ≡ g.K.Sink.faults l.initial.out)
