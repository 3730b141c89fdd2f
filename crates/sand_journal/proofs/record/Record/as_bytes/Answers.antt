use Rattle.std.proofs.Common.{[], ◌∷◌, ◌++◌, ap, subst, ◌∙◌}
use Rattle.sand_journal.specs.Images.{IsShort, framed}
use Rattle.sand_journal.proofs.Frames.{entry_is, entry_short}
use Rattle.sand_journal.proofs.record.Record.as_bytes.Goals as goal

-- the bytes are the body in its frame, and a shut gate
pub returns-clause-bytes : goal.returns-clause-bytes
returns-clause-bytes c = c.deref.ensures.value ∙ entry_is c.self.inside.bytes.items c.self.invariant ∙ ap (λ body. framed body ++ 0 ∷ []) c.self.view_is

pub returns-clause-short : goal.returns-clause-short
returns-clause-short c = subst IsShort c.self.view_is (entry_short c.self.inside.bytes.items c.self.invariant)
