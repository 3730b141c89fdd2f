-- each write adds what it takes to the prefix of the text
use Rattle.output_text.proofs.Forming.{on_err}
use Rattle.output_text.proofs.WrittenPrefix.{WrittenPrefix-grows, AddsPrefix-stop}
use Rattle.output_text.proofs.sinks.write_pieces.Goals as goal

pub pieces-preserved : goal.pieces-preserved
pieces-preserved g c =
    WrittenPrefix-grows _ _ _ _ _ _ _ _ _ c.pieces.invariant c.in_ok-at.ensures.count.1 c.in_ok-at.ensures.bytes c.in_ok-at.ensures.cause.done

pub returns-in_err-at-clause-prefix : goal.returns-in_err-at-clause-prefix
returns-in_err-at-clause-prefix g c =
    on_err c.from_residual.result (AddsPrefix-stop c.pieces.at _ _ _ _ c.pieces.invariant.taken c.in_err-at.ensures.bytes)
