-- the record of rows, and none where none is to be made
use Rattle.std.proofs.Common.{◌≡◌, true, true≢false, sym, ◌∙◌}
use Rattle.journal_replay.specs.KeptBody.{IsKeptOfRows}
use Rattle.line_exec.proofs.ToKeep.{made_so}
use Rattle.line_exec.proofs.loads.record_for_rows.Goals as goal

pub returns-then-keeps : goal.returns-then-keeps
returns-then-keeps c = made_so (IsKeptOfRows c.args.catalog.now c.args.name.now c.args.rows.now) (c.args.keeps ≡ true) c.record_of_rows.result c.record_of_rows.ensures

pub returns : goal.returns
returns c = λ k. absurd (true≢false (sym k ∙ c.if-keeps.false))
