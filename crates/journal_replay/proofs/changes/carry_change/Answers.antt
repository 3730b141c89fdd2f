use Rattle.std.proofs.Common.{List, ℕ, sym, subst, ◌∙◌, ap}
use Rattle.std.specs.Prelude.{OnOk, IfErr}
use Rattle.sand_journal.specs.ChangeBody.{ChangeValue, Rows, IsChange}
use Rattle.journal_replay.specs.LedBy.{LedByOne}
use Rattle.journal_replay.specs.Replayed.{IsDeclined}
use Rattle.journal_replay.proofs.Lines.{line_is, rows_are}
use Rattle.journal_replay.proofs.changes.carry_change.Goals as goal

-- the statement is one that a journal keeps
pub carry_line-requires-clause-kept : goal.carry_line-requires-clause-kept
carry_line-requires-clause-kept g c = (subst IsChange (line_is c.args.change c.in-Line.statement c.in-Line.is) c.requires).0

pub carry_line-requires-clause-in_range : goal.carry_line-requires-clause-in_range
carry_line-requires-clause-in_range g c = (subst IsChange (line_is c.args.change c.in-Line.statement c.in-Line.is) c.requires).1

-- the change is the statement
pub returns-in-Line-clause-led : goal.returns-in-Line-clause-led
returns-in-Line-clause-led g c =
    subst (λ (v : ChangeValue). OnOk c.carry_line.result (LedByOne v c.args.store.now c.carry_line.new.store)) (sym (line_is c.args.change c.in-Line.statement c.in-Line.is)) c.carry_line.ensures.led

pub returns-in-Line-clause-declined : goal.returns-in-Line-clause-declined
returns-in-Line-clause-declined g c =
    subst (λ (v : ChangeValue). IfErr c.carry_line.result (IsDeclined c.args.store.now v)) (sym (line_is c.args.change c.in-Line.statement c.in-Line.is)) c.carry_line.ensures.declined

-- the change is the rows
pub returns-in-Rows-clause-led : goal.returns-in-Rows-clause-led
returns-in-Rows-clause-led g c =
    subst (λ (v : ChangeValue). OnOk c.carry_rows.result (LedByOne v c.args.store.now c.carry_rows.new.store))
    (ap (λ (n : List ℕ). Rows n c.in-Rows.rows) c.as_str.ensures ∙ sym (rows_are c.args.change c.in-Rows.relation c.in-Rows.rows c.in-Rows.is)) c.carry_rows.ensures.led

pub returns-in-Rows-clause-declined : goal.returns-in-Rows-clause-declined
returns-in-Rows-clause-declined g c =
    subst (λ (v : ChangeValue). IfErr c.carry_rows.result (IsDeclined c.args.store.now v))
    (ap (λ (n : List ℕ). Rows n c.in-Rows.rows) c.as_str.ensures ∙ sym (rows_are c.args.change c.in-Rows.relation c.in-Rows.rows c.in-Rows.is)) c.carry_rows.ensures.declined
