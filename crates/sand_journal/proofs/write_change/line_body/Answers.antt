use Rattle.std.proofs.Common.{List, ℕ, ◌∷◌, ◌++◌, ap, ◌∙◌}
use Rattle.sand_journal.proofs.Writes.{line_made}
use Rattle.sand_journal.proofs.write_change.line_body.Goals as goal

-- the byte and the printed form are the body
pub returns : goal.returns
returns c =
    line_made c.args.statement.now c.in_ok-text.text.items c.extend_from_slice.new.self.items c.in_ok-text.ensures
    (c.in_ok-extend_from_slice.ensures.items ∙ ap (λ (l : List ℕ). l ++ c.deref.result.now) c.in_ok-body.ensures.items ∙ ap (λ (l : List ℕ). 1 ∷ l) c.deref.ensures.value)
