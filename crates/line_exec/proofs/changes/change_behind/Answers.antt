-- a change is carried out whatever cursors are open, and whatever the shelf, and where it is accepted the counts stay
use Rattle.std.proofs.Common.{[], ◌∷◌, refl, sym, subst}
use Rattle.journal_replay.proofs.KeptLines.{insert_is}
use Rattle.journal_replay.proofs.Leading.{led_by_create, led_by_delete, led_by_index, led_by_rtree}
use Rattle.journal_replay.proofs.Lines.{create_is, delete_is, index_is, rtree_is}
use Rattle.journal_replay.specs.KeptBody.{IsKeptOf}
use Rattle.script_text.specs.InRange.{IsInRange}
use Rattle.statements.specs.Statement as model
use Rattle.statements.specs.Statement.{statement_value}
use Rattle.statements.specs.declared.statement.Statement.{Statement}
use Rattle.statement_exec.specs.Moment.{while_open}
use Rattle.statement_exec.specs.Performing.{Performs, line_of_answer}
use Rattle.line_exec.proofs.ShelfChanges.{counted_alike}
use Rattle.line_exec.proofs.ToKeep.{keep_line, keep_row, on_accepted}
use Rattle.line_exec.specs.KeptChanges.{IsToKeep}
use Rattle.line_exec.proofs.changes.change_behind.Goals as goal

pub returns-in-Create-clause-answers : goal.returns-in-Create-clause-answers
returns-in-Create-clause-answers g c = λ cs.
    subst (λ (s : Statement). Performs (statement_value s) (while_open c.args.store.now (g.H.Shelf.files c.args.shelf.now) (g.H.Shelf.faults c.args.shelf.now) cs)
    (while_open c.create.new.store (g.H.Shelf.files c.args.shelf.now) (g.H.Shelf.faults c.args.shelf.now) cs) (line_of_answer c.create.result ∷ [])) (sym c.in-Create.is)
    (c.create.ensures.performs cs (g.H.Shelf.files c.args.shelf.now) (g.H.Shelf.faults c.args.shelf.now))

pub returns-in-Insert-clause-answers : goal.returns-in-Insert-clause-answers
returns-in-Insert-clause-answers g c = λ cs.
    subst (λ (s : Statement). Performs (statement_value s) (while_open c.args.store.now (g.H.Shelf.files c.args.shelf.now) (g.H.Shelf.faults c.args.shelf.now) cs)
    (while_open c.insert.new.store (g.H.Shelf.files c.args.shelf.now) (g.H.Shelf.faults c.args.shelf.now) cs) (line_of_answer c.insert.result ∷ [])) (sym c.in-Insert.is)
    (c.insert.ensures.performs cs (g.H.Shelf.files c.args.shelf.now) (g.H.Shelf.faults c.args.shelf.now))

pub returns-in-Delete-clause-answers : goal.returns-in-Delete-clause-answers
returns-in-Delete-clause-answers g c = λ cs.
    subst (λ (s : Statement). Performs (statement_value s) (while_open c.args.store.now (g.H.Shelf.files c.args.shelf.now) (g.H.Shelf.faults c.args.shelf.now) cs)
    (while_open c.delete.new.store (g.H.Shelf.files c.args.shelf.now) (g.H.Shelf.faults c.args.shelf.now) cs) (line_of_answer c.delete.result ∷ [])) (sym c.in-Delete.is)
    (c.delete.ensures.performs cs (g.H.Shelf.files c.args.shelf.now) (g.H.Shelf.faults c.args.shelf.now))

pub returns-in-Index-clause-answers : goal.returns-in-Index-clause-answers
returns-in-Index-clause-answers g c = λ cs.
    subst (λ (s : Statement). Performs (statement_value s) (while_open c.args.store.now (g.H.Shelf.files c.args.shelf.now) (g.H.Shelf.faults c.args.shelf.now) cs)
    (while_open c.index.new.store (g.H.Shelf.files c.args.shelf.now) (g.H.Shelf.faults c.args.shelf.now) cs) (line_of_answer c.index.result ∷ [])) (sym c.in-Index.is)
    (c.index.ensures.performs cs (g.H.Shelf.files c.args.shelf.now) (g.H.Shelf.faults c.args.shelf.now))

pub returns-in-Rtree-clause-answers : goal.returns-in-Rtree-clause-answers
returns-in-Rtree-clause-answers g c = λ cs.
    subst (λ (s : Statement). Performs (statement_value s) (while_open c.args.store.now (g.H.Shelf.files c.args.shelf.now) (g.H.Shelf.faults c.args.shelf.now) cs)
    (while_open c.rtree.new.store (g.H.Shelf.files c.args.shelf.now) (g.H.Shelf.faults c.args.shelf.now) cs) (line_of_answer c.rtree.result ∷ [])) (sym c.in-Rtree.is)
    (c.rtree.ensures.performs cs (g.H.Shelf.files c.args.shelf.now) (g.H.Shelf.faults c.args.shelf.now))

-- the relation of a load has a name
pub load-requires : goal.load-requires
load-requires g c = (subst (λ (s : Statement). IsInRange (statement_value s)) c.in-Load.is c.requires.in_range).0

-- a load over its shelf
pub returns-in-Load-clause-answers : goal.returns-in-Load-clause-answers
returns-in-Load-clause-answers g c = λ cs.
    subst (λ (s : Statement). Performs (statement_value s) (while_open c.args.store.now (g.H.Shelf.files c.args.shelf.now) (g.H.Shelf.faults c.args.shelf.now) cs)
    (while_open c.load.new.store (g.H.Shelf.files c.load.new.shelf) (g.H.Shelf.faults c.load.new.shelf) cs) (line_of_answer c.load.result.answer ∷ [])) (sym c.in-Load.is)
    (c.load.ensures.performs cs)

pub returns-in-Create-clause-counts : goal.returns-in-Create-clause-counts
returns-in-Create-clause-counts g c = counted_alike c.args.store.now.pool c.create.new.store.pool (g.H.Shelf.faults c.args.shelf.now)
    (g.H.Shelf.faults c.args.shelf.now) c.create.result c.create.ensures.cause refl

pub returns-in-Insert-clause-counts : goal.returns-in-Insert-clause-counts
returns-in-Insert-clause-counts g c = counted_alike c.args.store.now.pool c.insert.new.store.pool (g.H.Shelf.faults c.args.shelf.now)
    (g.H.Shelf.faults c.args.shelf.now) c.insert.result c.insert.ensures.cause refl

pub returns-in-Delete-clause-counts : goal.returns-in-Delete-clause-counts
returns-in-Delete-clause-counts g c = counted_alike c.args.store.now.pool c.delete.new.store.pool (g.H.Shelf.faults c.args.shelf.now)
    (g.H.Shelf.faults c.args.shelf.now) c.delete.result c.delete.ensures.cause refl

pub returns-in-Index-clause-counts : goal.returns-in-Index-clause-counts
returns-in-Index-clause-counts g c = counted_alike c.args.store.now.pool c.index.new.store.pool (g.H.Shelf.faults c.args.shelf.now)
    (g.H.Shelf.faults c.args.shelf.now) c.index.result c.index.ensures.cause refl

pub returns-in-Rtree-clause-counts : goal.returns-in-Rtree-clause-counts
returns-in-Rtree-clause-counts g c = counted_alike c.args.store.now.pool c.rtree.new.store.pool (g.H.Shelf.faults c.args.shelf.now)
    (g.H.Shelf.faults c.args.shelf.now) c.rtree.result c.rtree.ensures.cause refl

-- what is kept of a change that was accepted

pub returns-in-Create-clause-kept : goal.returns-in-Create-clause-kept
returns-in-Create-clause-kept g c =
    subst (λ (s : Statement). IsToKeep c.args.keeps (statement_value s) c.create.result c.args.kept c.args.store.now c.create.new.store) (sym c.in-Create.is)
    (keep_line c.args.keeps c.create.result c.args.kept (model.Create c.in-Create.relation c.in-Create.columns) c.args.store.now c.create.new.store
    (λ k. subst (λ (v : model.Statement). IsKeptOf c.args.store.now.catalog v c.args.kept) (create_is c.args.statement c.in-Create.relation c.in-Create.columns c.in-Create.is) (c.requires.kept k))
    (tt, subst (λ (s : Statement). IsInRange (statement_value s)) c.in-Create.is c.requires.in_range) refl
    (on_accepted _ _ c.create.result (λ h. led_by_create c.args.store.now c.create.new.store c.in-Create.relation c.in-Create.columns h c.create.ensures.carries) c.create.ensures.created) c.create.ensures.unchanged)

pub returns-in-Delete-clause-kept : goal.returns-in-Delete-clause-kept
returns-in-Delete-clause-kept g c =
    subst (λ (s : Statement). IsToKeep c.args.keeps (statement_value s) c.delete.result c.args.kept c.args.store.now c.delete.new.store) (sym c.in-Delete.is)
    (keep_line c.args.keeps c.delete.result c.args.kept (model.Delete c.in-Delete.relation c.in-Delete.id) c.args.store.now c.delete.new.store
    (λ k. subst (λ (v : model.Statement). IsKeptOf c.args.store.now.catalog v c.args.kept) (delete_is c.args.statement c.in-Delete.relation c.in-Delete.id c.in-Delete.is) (c.requires.kept k))
    (tt, subst (λ (s : Statement). IsInRange (statement_value s)) c.in-Delete.is c.requires.in_range) refl
    (on_accepted _ _ c.delete.result (λ h. led_by_delete c.args.store.now c.delete.new.store c.in-Delete.relation c.in-Delete.id h c.delete.ensures.carries) c.delete.ensures.deleted) c.delete.ensures.unchanged)

pub returns-in-Index-clause-kept : goal.returns-in-Index-clause-kept
returns-in-Index-clause-kept g c =
    subst (λ (s : Statement). IsToKeep c.args.keeps (statement_value s) c.index.result c.args.kept c.args.store.now c.index.new.store) (sym c.in-Index.is)
    (keep_line c.args.keeps c.index.result c.args.kept (model.Index c.in-Index.column c.in-Index.threshold) c.args.store.now c.index.new.store
    (λ k. subst (λ (v : model.Statement). IsKeptOf c.args.store.now.catalog v c.args.kept) (index_is c.args.statement c.in-Index.column c.in-Index.threshold c.in-Index.is) (c.requires.kept k))
    (tt, subst (λ (s : Statement). IsInRange (statement_value s)) c.in-Index.is c.requires.in_range) refl
    (on_accepted _ _ c.index.result (λ h. led_by_index c.args.store.now c.index.new.store c.in-Index.column c.in-Index.threshold h c.index.ensures.carries) c.index.ensures.indexed) c.index.ensures.unchanged)

pub returns-in-Rtree-clause-kept : goal.returns-in-Rtree-clause-kept
returns-in-Rtree-clause-kept g c =
    subst (λ (s : Statement). IsToKeep c.args.keeps (statement_value s) c.rtree.result c.args.kept c.args.store.now c.rtree.new.store) (sym c.in-Rtree.is)
    (keep_line c.args.keeps c.rtree.result c.args.kept (model.Rtree c.in-Rtree.column) c.args.store.now c.rtree.new.store
    (λ k. subst (λ (v : model.Statement). IsKeptOf c.args.store.now.catalog v c.args.kept) (rtree_is c.args.statement c.in-Rtree.column c.in-Rtree.is) (c.requires.kept k))
    (tt, subst (λ (s : Statement). IsInRange (statement_value s)) c.in-Rtree.is c.requires.in_range) refl
    (on_accepted _ _ c.rtree.result (λ h. led_by_rtree c.args.store.now c.rtree.new.store c.in-Rtree.column h c.rtree.ensures.carries) c.rtree.ensures.treed) c.rtree.ensures.unchanged)

pub returns-in-Insert-clause-kept : goal.returns-in-Insert-clause-kept
returns-in-Insert-clause-kept g c =
    subst (λ (s : Statement). IsToKeep c.args.keeps (statement_value s) c.insert.result c.args.kept c.args.store.now c.insert.new.store) (sym c.in-Insert.is)
    (keep_row c.args.keeps c.args.kept c.args.store.now c.insert.new.store c.in-Insert.relation c.insert.result c.in-Insert.values
    (λ k. subst (λ (v : model.Statement). IsKeptOf c.args.store.now.catalog v c.args.kept) (insert_is c.args.statement c.in-Insert.relation c.in-Insert.values c.in-Insert.is) (c.requires.kept k))
    c.insert.ensures.inserted c.insert.ensures.unchanged c.insert.ensures.carries)

-- a load kept its rows
pub returns-in-Load-clause-kept : goal.returns-in-Load-clause-kept
returns-in-Load-clause-kept g c =
    subst (λ (s : Statement). IsToKeep c.args.keeps (statement_value s) c.load.result.answer c.load.result.kept c.args.store.now c.load.new.store) (sym c.in-Load.is) c.load.ensures.kept
