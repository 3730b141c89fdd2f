-- the cursor of the name makes steps over the pages that its stamp holds, or none has the name
use Rattle.std.proofs.Common.{ℕ, ◌<◌, Bool, Some, Ok, refl, ap, sym, subst}
use Rattle.std.specs.Prelude.{IfSome}
use Rattle.best_first.specs.Visits.{told_pages}
use Rattle.page_pool.specs.Desk.{DeskState}
use Rattle.page_pool.specs.Reads.{IsRead}
use Rattle.page_pool.specs.Steps.{IsRead-refl}
use Rattle.plan_iterator.specs.Standing.{IsAt}
use Rattle.plan_iterator.specs.Rows.{counts_of}
use Rattle.sand_base.specs.declared.source.Failed.{Failed}
use Rattle.sand_model.specs.Cursor.{Cursor}
use Rattle.sand_model.specs.Database.{same_name}
use Rattle.page_pool.specs.Pool.{back}
use Rattle.sand_store.specs.Catalog.{CatalogView, StoreState}
use Rattle.sand_store.specs.Standing.{IsStore}
use Rattle.statement_exec.specs.Ending.{PagesHaveCause}
use Rattle.sand_base.specs.declared.refusal.Refusal.TheVariants as why
use Rattle.open_cursors.proofs.HeldStamps.{held_in_hand, held_key, held_set}
use Rattle.open_cursors.proofs.NamedCursors.{next_none, next_in_hand, in_hand_stands, first_below, first_shown, none_shown}
use Rattle.open_cursors.proofs.OpenNames.{names_in_hand, next_known, next_open, next_unknown, others_in_hand}
use Rattle.open_cursors.proofs.StampSteps.{stands_at, steps_at, store_back, read_back, cause_back}
use Rattle.open_cursors.specs.OpenCursors.{AnswersNext, AtStamp}
use Rattle.open_cursors.specs.OverPages.{told_stamps}
use Rattle.open_cursors.specs.Steps.{StepsOn}
use Rattle.open_cursors.proofs.next_rows.print_next.Goals as goal

pub returns-in_default-clause-steps : goal.returns-in_default-clause-steps
returns-in_default-clause-steps g c =
    next_none (AtStamp (λ r. IsAt g.S.RowSource.At g.T.RowStage.Stands g.T.RowStage.closed (λ s. counts_of (g.S.RowSource.seen s)) r))
    (told_stamps c.args.store.pool) c.args.cursors.now.items c.args.name.now c.args.count
    (none_shown c.deref.result.now c.args.cursors.now.items c.as_str.result.now c.args.name.now c.place_of.result c.place_of.ensures c.as_str.ensures c.deref.ensures.value c.in_default.is)
    (g.K.Sink.took c.args.out.now)

pub index_mut-open-requires : goal.index_mut-open-requires
index_mut-open-requires g c =
    subst (λ (n : ℕ). c.in-Some.at < n) (sym c.args.cursors.now.ok.0)
    (first_below (λ x. same_name x.name c.args.name.now) c.args.cursors.now.items c.in-Some.at
    (first_shown c.deref.result.now c.args.cursors.now.items c.as_str.result.now c.args.name.now c.place_of.result c.in-Some.at c.place_of.ensures c.as_str.ensures c.deref.ensures.value c.in-Some.is))

pub part_at-catalog-requires : goal.part_at-catalog-requires
part_at-catalog-requires g c = record {
  held = held_key c.args.store.pool.stamps c.index_mut-open.result.now.stamp
      (held_in_hand c.args.store.pool.stamps c.args.cursors.now.items
      (λ x. same_name x.name c.args.name.now) c.in-Some.at c.index_mut-open.result.now c.index_mut-open.ensures.value c.requires.held
      (first_shown c.deref.result.now c.args.cursors.now.items c.as_str.result.now c.args.name.now c.place_of.result c.in-Some.at c.place_of.ensures c.as_str.ensures c.deref.ensures.value c.in-Some.is));
}

-- the desk shows the map that the cursor's stamp holds
pub print_steps-printed-requires : goal.print_steps-printed-requires
print_steps-printed-requires g c =
    let held = (held_in_hand c.args.store.pool.stamps c.args.cursors.now.items
    (λ x. same_name x.name c.args.name.now) c.in-Some.at c.index_mut-open.result.now c.index_mut-open.ensures.value c.requires.held
    (first_shown c.deref.result.now c.args.cursors.now.items c.as_str.result.now c.args.name.now c.place_of.result c.in-Some.at c.place_of.ensures c.as_str.ensures c.deref.ensures.value c.in-Some.is)) in
    record {
      stands = subst (λ (d : DeskState). IfSome (told_pages d) (λ pages. (m : Cursor)
          × IsAt g.S.RowSource.At g.T.RowStage.Stands g.T.RowStage.closed
          (λ s. counts_of (g.S.RowSource.seen s)) c.index_mut-open.result.now.cursor pages m)) (sym (c.part_at-catalog.ensures.desk held.0 held.1))
          (stands_at (λ r. IsAt g.S.RowSource.At g.T.RowStage.Stands g.T.RowStage.closed (λ s. counts_of (g.S.RowSource.seen s)) r) c.args.store.pool c.index_mut-open.result.now held.0 held.1
          (in_hand_stands (AtStamp (λ r. IsAt g.S.RowSource.At g.T.RowStage.Stands g.T.RowStage.closed (λ s. counts_of (g.S.RowSource.seen s)) r))
          (told_stamps c.args.store.pool) c.args.cursors.now.items c.args.name.now c.args.count
          c.in-Some.at c.index_mut-open.result.now (λ x. same_name x.name c.args.name.now) c.index_mut-open.ensures.value
          (first_shown c.deref.result.now c.args.cursors.now.items c.as_str.result.now c.args.name.now c.place_of.result c.in-Some.at c.place_of.ensures c.as_str.ensures c.deref.ensures.value c.in-Some.is) c.requires.stands));
    }

pub rejoin-requires : goal.rejoin-requires
rejoin-requires g c =
    let held = (held_in_hand c.args.store.pool.stamps c.args.cursors.now.items
    (λ x. same_name x.name c.args.name.now) c.in-Some.at c.index_mut-open.result.now c.index_mut-open.ensures.value c.requires.held
    (first_shown c.deref.result.now c.args.cursors.now.items c.as_str.result.now c.args.name.now c.place_of.result c.in-Some.at c.place_of.ensures c.as_str.ensures c.deref.ensures.value c.in-Some.is)) in
    subst (λ (k : CatalogView). IsStore k (back c.print_steps-printed.new.desk.pool)) (sym c.part_at-catalog.ensures.catalog)
    (store_back c.args.store.catalog c.args.store.pool c.print_steps-printed.new.desk.pool held.0 c.part_at-catalog.ensures.whole
    (subst (λ (d : DeskState). IsRead d.pool c.print_steps-printed.new.desk.pool) (c.part_at-catalog.ensures.desk held.0 held.1) c.print_steps-printed.ensures.read))

pub returns-clause-read : goal.returns-clause-read
returns-clause-read g c =
    let held = (held_in_hand c.args.store.pool.stamps c.args.cursors.now.items
    (λ x. same_name x.name c.args.name.now) c.in-Some.at c.index_mut-open.result.now c.index_mut-open.ensures.value c.requires.held
    (first_shown c.deref.result.now c.args.cursors.now.items c.as_str.result.now c.args.name.now c.place_of.result c.in-Some.at c.place_of.ensures c.as_str.ensures c.deref.ensures.value c.in-Some.is)) in
    subst (λ (k : StoreState). IsRead c.args.store.pool k.pool) (sym c.rejoin.ensures)
    (read_back c.args.store.pool c.print_steps-printed.new.desk.pool held.0 c.part_at-catalog.ensures.whole.closed.1
    (subst (λ (d : DeskState). IsRead d.pool c.print_steps-printed.new.desk.pool) (c.part_at-catalog.ensures.desk held.0 held.1) c.print_steps-printed.ensures.read))

pub returns-clause-cause : goal.returns-clause-cause
returns-clause-cause g c =
    let held = (held_in_hand c.args.store.pool.stamps c.args.cursors.now.items
    (λ x. same_name x.name c.args.name.now) c.in-Some.at c.index_mut-open.result.now c.index_mut-open.ensures.value c.requires.held
    (first_shown c.deref.result.now c.args.cursors.now.items c.as_str.result.now c.args.name.now c.place_of.result c.in-Some.at c.place_of.ensures c.as_str.ensures c.deref.ensures.value c.in-Some.is)) in
    subst (λ (k : StoreState). PagesHaveCause c.args.store.pool k.pool c.print_steps-printed.result) (sym c.rejoin.ensures)
    (cause_back Failed c.args.store.pool c.print_steps-printed.new.desk.pool c.index_mut-open.result.now.stamp held.0 held.1
    (subst (λ (d : DeskState). IsRead d.pool c.print_steps-printed.new.desk.pool) (c.part_at-catalog.ensures.desk held.0 held.1) c.print_steps-printed.ensures.read) c.print_steps-printed.result
    (subst (λ (d : DeskState). PagesHaveCause d.pool c.print_steps-printed.new.desk.pool c.print_steps-printed.result)
    (c.part_at-catalog.ensures.desk held.0 held.1) c.print_steps-printed.ensures.cause))

pub returns-clause-steps : goal.returns-clause-steps
returns-clause-steps g c =
    let held = (held_in_hand c.args.store.pool.stamps c.args.cursors.now.items
    (λ x. same_name x.name c.args.name.now) c.in-Some.at c.index_mut-open.result.now c.index_mut-open.ensures.value c.requires.held
    (first_shown c.deref.result.now c.args.cursors.now.items c.as_str.result.now c.args.name.now c.place_of.result c.in-Some.at c.place_of.ensures c.as_str.ensures c.deref.ensures.value c.in-Some.is)) in
    next_in_hand (AtStamp (λ r. IsAt g.S.RowSource.At g.T.RowStage.Stands g.T.RowStage.closed (λ s. counts_of (g.S.RowSource.seen s)) r))
    (told_stamps c.args.store.pool) c.args.cursors.now.items c.args.name.now c.args.count
    c.in-Some.at c.index_mut-open.result.now (record c.index_mut-open.result.now { cursor = c.print_steps-printed.new.cursor }) refl (g.K.Sink.took c.args.out.now)
    (g.K.Sink.took c.print_steps-printed.new.out) c.print_steps-printed.result c.index_mut-open.ensures.value
    (first_shown c.deref.result.now c.args.cursors.now.items c.as_str.result.now c.args.name.now c.place_of.result c.in-Some.at c.place_of.ensures c.as_str.ensures c.deref.ensures.value c.in-Some.is)
    (steps_at (λ r. IsAt g.S.RowSource.At g.T.RowStage.Stands g.T.RowStage.closed (λ s. counts_of (g.S.RowSource.seen s)) r) c.args.store.pool c.index_mut-open.result.now held.0 held.1
    (record c.index_mut-open.result.now { cursor = c.print_steps-printed.new.cursor }) refl c.args.count (g.K.Sink.took c.args.out.now)
    (g.K.Sink.took c.print_steps-printed.new.out) c.print_steps-printed.result
    (subst (λ (d : DeskState). IfSome (told_pages d) (λ pages. (m : Cursor)
    → IsAt g.S.RowSource.At g.T.RowStage.Stands g.T.RowStage.closed (λ s. counts_of (g.S.RowSource.seen s)) c.index_mut-open.result.now.cursor pages m
    → StepsOn m c.args.count (g.K.Sink.took c.args.out.now) (g.K.Sink.took c.print_steps-printed.new.out) c.print_steps-printed.result
    (IsAt g.S.RowSource.At g.T.RowStage.Stands g.T.RowStage.closed (λ s. counts_of (g.S.RowSource.seen s)) c.print_steps-printed.new.cursor pages)))
    (c.part_at-catalog.ensures.desk held.0 held.1) c.print_steps-printed.ensures.steps))

-- the cursor keeps its stamp
pub returns-clause-held : goal.returns-clause-held
returns-clause-held g c = held_set c.args.store.pool.stamps c.args.cursors.now.items c.in-Some.at c.index_mut-open.result.now
    (record c.index_mut-open.result.now { cursor = c.print_steps-printed.new.cursor }) (ap (λ x. x.stamp) c.index_mut-open.ensures.value) c.requires.held

-- no cursor has the name
pub returns-in_default-clause-rows : goal.returns-in_default-clause-rows
returns-in_default-clause-rows g c = λ known.
    absurd (subst (λ (t : Bool). AnswersNext t (Ok (Some why.UnknownCursor))) known (next_unknown c.args.name.now c.args.cursors.now.items
    (none_shown c.deref.result.now c.args.cursors.now.items c.as_str.result.now c.args.name.now c.place_of.result c.place_of.ensures c.as_str.ensures c.deref.ensures.value c.in_default.is)))

pub returns-clause-rows : goal.returns-clause-rows
returns-clause-rows g c = λ known. c.print_steps-printed.ensures.rows

pub returns-in_default-clause-read : goal.returns-in_default-clause-read
returns-in_default-clause-read g c = IsRead-refl c.args.store.pool

-- the names alone decide, whatever the disk tells
pub returns-in_default-clause-unknown : goal.returns-in_default-clause-unknown
returns-in_default-clause-unknown g c = next_unknown c.args.name.now c.args.cursors.now.items
    (none_shown c.deref.result.now c.args.cursors.now.items c.as_str.result.now c.args.name.now c.place_of.result c.place_of.ensures c.as_str.ensures c.deref.ensures.value c.in_default.is)

pub returns-clause-unknown : goal.returns-clause-unknown
returns-clause-unknown g c = next_known c.args.name.now c.args.cursors.now.items c.in-Some.at c.print_steps-printed.result
    (first_shown c.deref.result.now c.args.cursors.now.items c.as_str.result.now c.args.name.now c.place_of.result c.in-Some.at c.place_of.ensures c.as_str.ensures c.deref.ensures.value c.in-Some.is) c.print_steps-printed.ensures.pages

pub returns-clause-names : goal.returns-clause-names
returns-clause-names g c = names_in_hand c.args.name.now c.args.cursors.now.items c.in-Some.at c.index_mut-open.result.now
    (record c.index_mut-open.result.now { cursor = c.print_steps-printed.new.cursor }) refl c.index_mut-open.ensures.value
    (first_shown c.deref.result.now c.args.cursors.now.items c.as_str.result.now c.args.name.now c.place_of.result c.in-Some.at c.place_of.ensures c.as_str.ensures c.deref.ensures.value c.in-Some.is)

pub returns-clause-others : goal.returns-clause-others
returns-clause-others g c = others_in_hand c.args.name.now c.args.cursors.now.items c.in-Some.at c.index_mut-open.result.now
    (record c.index_mut-open.result.now { cursor = c.print_steps-printed.new.cursor }) refl c.index_mut-open.ensures.value
    (first_shown c.deref.result.now c.args.cursors.now.items c.as_str.result.now c.args.name.now c.place_of.result c.in-Some.at c.place_of.ensures c.as_str.ensures c.deref.ensures.value c.in-Some.is)

-- nothing was written where no cursor has the name
pub returns-in_default-clause-silent : goal.returns-in_default-clause-silent
returns-in_default-clause-silent g c = λ closed bytes took. took

pub returns-clause-silent : goal.returns-clause-silent
returns-clause-silent g c = next_open c.args.name.now c.args.cursors.now.items c.in-Some.at (g.K.Sink.took c.args.out.now) (g.K.Sink.took c.print_steps-printed.new.out)
    (first_shown c.deref.result.now c.args.cursors.now.items c.as_str.result.now c.args.name.now c.place_of.result c.in-Some.at c.place_of.ensures c.as_str.ensures c.deref.ensures.value c.in-Some.is)
