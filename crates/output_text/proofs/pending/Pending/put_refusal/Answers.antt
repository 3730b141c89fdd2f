-- the number broke off, the word, or what stands behind them
use Rattle.std.proofs.Common.{◌∙◌, ◌∷◌, refl}
use Rattle.std.specs.Prelude.{codes}
use Rattle.sand_model.specs.OutputText.{detail}
use Rattle.output_text.specs.Joined.{led}
use Rattle.output_text.proofs.Forming.{on_err, AddsPrefix-first, AddsPrefix-second, Forms-both}
use Rattle.output_text.proofs.Parts.{refused-whole}
use Rattle.output_text.proofs.pending.Pending.put_refusal.Goals as goal

pub returns-in_err-put_number-clause-prefix : goal.returns-in_err-put_number-clause-prefix
returns-in_err-put_number-clause-prefix g c =
    on_err c.from_residual.result
    (AddsPrefix-first _ _ _ _ _ _ c.in_err-put_number.ensures.prefix
    (refused-whole c.args.why c.from.result _ (c.from.ensures ∙ c.number.ensures) refl))

pub returns-in_err-put_next_word-clause-prefix : goal.returns-in_err-put_next_word-clause-prefix
returns-in_err-put_next_word-clause-prefix g c =
    on_err c.from_residual-in_err-put_next_word.result
    (AddsPrefix-second _ _ _ _ _ _ _ _ c.in_ok-put_number.ensures.formed
    (AddsPrefix-first _ _ c.put_number.new.self (32 ∷ c.word.result.now) (led (codes " ") (detail c.args.why)) _ c.in_err-put_next_word.ensures.prefix refl)
    (refused-whole c.args.why c.from.result c.word.result.now (c.from.ensures ∙ c.number.ensures) c.word.ensures))

pub returns-in_err-put_detail-clause-prefix : goal.returns-in_err-put_detail-clause-prefix
returns-in_err-put_detail-clause-prefix g c =
    on_err c.from_residual-in_err-put_detail.result
    (AddsPrefix-second _ _ _ _ _ _ _ _ c.in_ok-put_number.ensures.formed
    (AddsPrefix-second _ _ _ _ _ _ _ _ c.in_ok-put_next_word.ensures.formed c.in_err-put_detail.ensures.prefix refl)
    (refused-whole c.args.why c.from.result c.word.result.now (c.from.ensures ∙ c.number.ensures) c.word.ensures))

pub returns-clause-formed : goal.returns-clause-formed
returns-clause-formed g c =
    Forms-both _ _ _ _ _ _ _ _ _ c.in_ok-put_number.ensures.formed
    (Forms-both _ _ _ _ _ _ _ _ _ c.in_ok-put_next_word.ensures.formed c.in_ok-put_detail.ensures.formed refl)
    (refused-whole c.args.why c.from.result c.word.result.now (c.from.ensures ∙ c.number.ensures) c.word.ensures)
