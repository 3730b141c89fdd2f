use Rattle.std.proofs.Common.{sym, ◌∙◌}
use Rattle.sand_base.proofs.NamedFiles.{named-nowhere, named-there, there-is, opened-is}
use Rattle.sand_base.proofs.files.DataFiles.open.Goals as goal

pub returns-in_default-clause-there : goal.returns-in_default-clause-there
returns-in_default-clause-there c =
    there-is _ c.args.self.now _ _ c.self.view_is
    (named-nowhere (λ f. (f.0, f.1.items)) c.args.name.now c.self.inside.files.items (rw c.deref.ensures.value at (sym c.place_of.ensures ∙ c.in_default.is)))

pub returns-in_default-clause-opened : goal.returns-in_default-clause-opened
returns-in_default-clause-opened c =
    opened-is _ c.args.self.now _ _ c.self.view_is
    (named-nowhere (λ f. (f.0, f.1.items)) c.args.name.now c.self.inside.files.items (rw c.deref.ensures.value at (sym c.place_of.ensures ∙ c.in_default.is)))

pub returns-clause-there : goal.returns-clause-there
returns-clause-there c =
    there-is _ c.args.self.now _ _ c.self.view_is
    (named-there (λ f. (f.0, f.1.items)) c.args.name.now c.self.inside.files.items c.in-Some.file (rw c.deref.ensures.value at (sym c.place_of.ensures ∙ c.in-Some.is)))

pub returns-clause-opened : goal.returns-clause-opened
returns-clause-opened c =
    opened-is _ c.args.self.now _ _ c.self.view_is
    (named-there (λ f. (f.0, f.1.items)) c.args.name.now c.self.inside.files.items c.in-Some.file (rw c.deref.ensures.value at (sym c.place_of.ensures ∙ c.in-Some.is)))
