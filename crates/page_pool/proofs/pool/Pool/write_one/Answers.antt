use Rattle.std.proofs.Common.{◌⊎◌, Some, IsTrue, sym, ap, subst, ◌∙◌}
use Rattle.std.specs.FinSet as set
use Rattle.page_pool.proofs.Overlay.{is_page, is_gone, contains-dirty, contains-freed}
use Rattle.page_pool.proofs.WritesAdd.{waits_not}
use Rattle.page_pool.proofs.pool.Pool.write_one.Goals as goal

pub write_page-requires-clause-dirty : goal.write_page-requires-clause-dirty
write_page-requires-clause-dirty g c =
    subst (λ s. IsTrue (set.contains s.dirty c.args.n)) c.self.view_is
    (contains-dirty c.self.inside.staged.changes c.args.n ∙ ap is_page (sym c.in-Some-Some.ensures ∙ ap (λ change. Some change) c.in-Some-Some.field-0-is))

pub let_go-requires-clause-freed : goal.let_go-requires-clause-freed
let_go-requires-clause-freed g c =
    subst (λ s. IsTrue (set.contains s.freed c.args.n)) c.self.view_is
    (contains-freed c.self.inside.staged.changes c.args.n ∙ ap is_gone (sym c.in-Some-None.ensures ∙ ap (λ change. Some change) c.in-Some-None.field-0-is))

-- a waiting number has a staged change
pub returns-in-None : goal.returns-in-None
returns-in-None g c = waits_not c.self.inside.staged.changes c.args.n (sym c.in-None.ensures)
    (subst (λ s. IsTrue (set.contains s.dirty c.args.n) ⊎ IsTrue (set.contains s.freed c.args.n)) (sym c.self.view_is) c.requires.waiting) _
