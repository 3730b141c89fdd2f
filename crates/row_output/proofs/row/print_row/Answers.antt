-- The line that is written is that of the row in lowest terms.
use Rattle.std.proofs.Common.{[], ◌∷◌, subst}
use Rattle.sand_model.specs.Cursor.{Row}
use Rattle.sand_model.specs.OutputText.{IsText}
use Rattle.output_text.proofs.Forming.{on_err}
use Rattle.output_text.specs.Writing.{Writes, WritesPrefix}
use Rattle.row_output.proofs.RowLines.{writes_row, breaks_row, lent_row}
use Rattle.row_output.proofs.row.print_row.Goals as goal

pub returns-in_err-write_line-clause-prefix : goal.returns-in_err-write_line-clause-prefix
returns-in_err-write_line-clause-prefix g c =
    on_err c.from_residual.result
    (breaks_row c.args.row.now (g.K.Sink.took c.args.out.now) (g.K.Sink.took c.write_line.new.out)
    (subst (λ r. WritesPrefix (IsText (Row r ∷ [])) (g.K.Sink.took c.args.out.now) (g.K.Sink.took c.write_line.new.out))
    (lent_row c.args.row.now c.as_slice.result.now c.values.result.now c.as_slice.ensures c.values.ensures) c.in_err-write_line.ensures.prefix))

pub returns-clause-written : goal.returns-clause-written
returns-clause-written g c =
    writes_row c.args.row.now (g.K.Sink.took c.args.out.now) (g.K.Sink.took c.write_line.new.out)
    (subst (λ r. Writes (IsText (Row r ∷ [])) (g.K.Sink.took c.args.out.now) (g.K.Sink.took c.write_line.new.out))
    (lent_row c.args.row.now c.as_slice.result.now c.values.result.now c.as_slice.ensures c.values.ensures) c.in_ok-write_line.ensures.written)
