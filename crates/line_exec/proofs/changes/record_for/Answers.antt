-- the statement of the record is the one in range
use Rattle.std.proofs.Common.{◌≡◌, true, true≢false, sym, ◌∙◌}
use Rattle.journal_replay.specs.KeptBody.{IsKeptOf}
use Rattle.sand_journal.specs.ChangeBody.{line_value}
use Rattle.line_exec.proofs.Kept.{kept_in_range}
use Rattle.line_exec.proofs.ToKeep.{made_so}
use Rattle.line_exec.proofs.changes.record_for.Goals as goal

pub record_of-requires : goal.record_of-requires
record_of-requires c = kept_in_range c.args.statement.now c.requires

-- what is kept is the record that was made, and nothing where none is to be made
pub returns-then-keeps : goal.returns-then-keeps
returns-then-keeps c = made_so (IsKeptOf c.args.catalog.now (line_value c.args.statement.now)) (c.args.keeps ≡ true) c.record_of.result c.record_of.ensures

pub returns : goal.returns
returns c = λ k. absurd (true≢false (sym k ∙ c.if-keeps.false))
