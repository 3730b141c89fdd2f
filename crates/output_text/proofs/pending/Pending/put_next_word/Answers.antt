-- the space broke off, or the word
use Rattle.std.proofs.Common.{◌∷◌, ap, refl}
use Rattle.output_text.proofs.Forming.{on_err, AddsPrefix-first, AddsPrefix-second, Forms-both}
use Rattle.output_text.proofs.pending.Pending.put_next_word.Goals as goal

pub returns-in_err-put-clause-prefix : goal.returns-in_err-put-clause-prefix
returns-in_err-put-clause-prefix g c =
    on_err c.from_residual.result (AddsPrefix-first _ _ _ _ c.args.word.now _ c.in_err-put.ensures.prefix refl)

pub returns-in_err-put-2-clause-prefix : goal.returns-in_err-put-2-clause-prefix
returns-in_err-put-2-clause-prefix g c =
    on_err c.from_residual-in_err-put-2.result
    (AddsPrefix-second _ _ _ _ _ _ _ _ c.in_ok-put.ensures.formed c.in_err-put-2.ensures.prefix (ap (λ t. 32 ∷ t) c.as_bytes.ensures.value))

pub returns-clause-formed : goal.returns-clause-formed
returns-clause-formed g c =
    Forms-both _ _ _ _ _ _ _ _ _ c.in_ok-put.ensures.formed c.in_ok-put-2.ensures.formed (ap (λ t. 32 ∷ t) c.as_bytes.ensures.value)
