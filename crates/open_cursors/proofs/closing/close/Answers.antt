-- the cursor of the name is gone, or none has the name
use Rattle.std.proofs.Common.{sym, ◌∙◌}
use Rattle.std.specs.FinMap as map
use Rattle.std.specs.Prelude.{Ok, Err}
use Rattle.page_pool.specs.Pool.{StampMap}
use Rattle.plan_iterator.specs.Standing.{IsAt}
use Rattle.plan_iterator.specs.Rows.{counts_of}
use Rattle.sand_base.specs.declared.refusal.Refusal.TheVariants as why
use Rattle.sand_model.specs.Database.{same_name}
use Rattle.open_cursors.proofs.ClosedCursors.{closes_none, closes_named, closes_so}
use Rattle.open_cursors.proofs.HeldStamps.{held_in_hand, held_key, held_let_go, stand_let_go}
use Rattle.open_cursors.proofs.Released.{released_alone}
use Rattle.open_cursors.proofs.NamedCursors.{first_shown, none_shown}
use Rattle.open_cursors.proofs.OpenNames.{Anywhere, closes_by_names, named_stand, open_at, open_none, without_at, without_none}
use Rattle.open_cursors.specs.OpenCursors.{AtStamp, StandAll, named}
use Rattle.open_cursors.proofs.closing.close.Goals as goal

pub returns-in_default-clause-closes : goal.returns-in_default-clause-closes
returns-in_default-clause-closes g c = λ cs own h.
    closes_none (AtStamp (λ r. IsAt g.S.RowSource.At g.T.RowStage.Stands g.T.RowStage.closed
    (λ s. counts_of (g.S.RowSource.seen s)) r)) c.args.store.now.pool.stamps c.args.cursors.now.items cs c.args.name.now
    (none_shown c.deref.result.now c.args.cursors.now.items c.as_str.result.now c.args.name.now c.place_of.result c.place_of.ensures c.as_str.ensures c.deref.ensures.value c.in_default.is) h

pub release-requires : goal.release-requires
release-requires g c = record {
  held =
      held_key c.args.store.now.pool.stamps c.remove-ended.result.stamp
      (held_in_hand c.args.store.now.pool.stamps c.args.cursors.now.items (λ x. same_name x.name c.args.name.now) c.in-Some.at c.remove-ended.result c.remove-ended.ensures.value c.requires.held
      (first_shown c.deref.result.now c.args.cursors.now.items c.as_str.result.now c.args.name.now c.place_of.result c.in-Some.at c.place_of.ensures c.as_str.ensures c.deref.ensures.value c.in-Some.is));
}

-- the others stand by the stamps that are left
pub returns-clause-closes : goal.returns-clause-closes
returns-clause-closes g c = λ cs own h.
    closes_so (StandAll (AtStamp (λ r. IsAt g.S.RowSource.At g.T.RowStage.Stands g.T.RowStage.closed
    (λ s. counts_of (g.S.RowSource.seen s)) r)) c.args.store.now.pool.stamps c.remove-ended.new.self.items) (StandAll (AtStamp (λ r.
    IsAt g.S.RowSource.At g.T.RowStage.Stands g.T.RowStage.closed
    (λ s. counts_of (g.S.RowSource.seen s)) r)) c.release.new.self.pool.stamps c.remove-ended.new.self.items) (named cs c.args.name.now) cs c.args.name.now (Ok tt)
    (stand_let_go (λ r. IsAt g.S.RowSource.At g.T.RowStage.Stands g.T.RowStage.closed
    (λ s. counts_of (g.S.RowSource.seen s)) r) c.args.store.now.pool c.release.new.self.pool c.args.cursors.now.items c.remove-ended.new.self.items (λ x.
    same_name x.name c.args.name.now) c.in-Some.at c.remove-ended.result
    c.remove-ended.ensures.value c.remove-ended.ensures.items c.release.ensures.let_go c.requires.held
    (first_shown c.deref.result.now c.args.cursors.now.items c.as_str.result.now c.args.name.now c.place_of.result c.in-Some.at c.place_of.ensures c.as_str.ensures c.deref.ensures.value c.in-Some.is))
    (closes_named (AtStamp (λ r. IsAt g.S.RowSource.At g.T.RowStage.Stands g.T.RowStage.closed
    (λ s. counts_of (g.S.RowSource.seen s)) r)) c.args.store.now.pool.stamps c.args.cursors.now.items c.remove-ended.new.self.items cs c.args.name.now c.in-Some.at
    c.remove-ended.ensures.items (first_shown c.deref.result.now c.args.cursors.now.items c.as_str.result.now c.args.name.now c.place_of.result c.in-Some.at c.place_of.ensures c.as_str.ensures c.deref.ensures.value c.in-Some.is) own h)

pub returns-clause-held : goal.returns-clause-held
returns-clause-held g c =
    held_let_go c.args.store.now.pool c.release.new.self.pool c.args.cursors.now.items c.remove-ended.new.self.items (λ x. same_name x.name c.args.name.now) c.in-Some.at c.remove-ended.result
    c.remove-ended.ensures.value c.remove-ended.ensures.items c.release.ensures.let_go c.requires.held
    (first_shown c.deref.result.now c.args.cursors.now.items c.as_str.result.now c.args.name.now c.place_of.result c.in-Some.at c.place_of.ensures c.as_str.ensures c.deref.ensures.value c.in-Some.is)

pub returns-clause-others : goal.returns-clause-others
returns-clause-others g c = record { catalog = c.release.ensures.catalog; pool = released_alone c.args.store.now.pool c.release.new.self.pool c.remove-ended.result.stamp c.release.ensures.let_go }

-- the names alone decide, whatever the pages
pub returns-in_default-clause-known : goal.returns-in_default-clause-known
returns-in_default-clause-known g c = sym (open_none c.args.name.now c.args.cursors.now.items
    (none_shown c.deref.result.now c.args.cursors.now.items c.as_str.result.now c.args.name.now c.place_of.result c.place_of.ensures c.as_str.ensures c.deref.ensures.value c.in_default.is))

pub returns-in_default-clause-left : goal.returns-in_default-clause-left
returns-in_default-clause-left g c = without_none c.args.name.now c.args.cursors.now.items
    (none_shown c.deref.result.now c.args.cursors.now.items c.as_str.result.now c.args.name.now c.place_of.result c.place_of.ensures c.as_str.ensures c.deref.ensures.value c.in_default.is)

pub returns-clause-known : goal.returns-clause-known
returns-clause-known g c = sym (open_at c.args.name.now c.args.cursors.now.items c.in-Some.at
    (first_shown c.deref.result.now c.args.cursors.now.items c.as_str.result.now c.args.name.now c.place_of.result c.in-Some.at c.place_of.ensures c.as_str.ensures c.deref.ensures.value c.in-Some.is))

pub returns-clause-left : goal.returns-clause-left
returns-clause-left g c = c.remove-ended.ensures.items ∙ without_at c.args.name.now c.args.cursors.now.items c.in-Some.at
    (first_shown c.deref.result.now c.args.cursors.now.items c.as_str.result.now c.args.name.now c.place_of.result c.in-Some.at c.place_of.ensures c.as_str.ensures c.deref.ensures.value c.in-Some.is)

-- by the names, wherever the cursors stand
pub returns-in_default-clause-names : goal.returns-in_default-clause-names
returns-in_default-clause-names g c = λ cs own h.
    let stamps : StampMap = map.empty in
    closes_by_names stamps c.args.cursors.now.items cs c.args.name.now (Err why.UnknownCursor)
    (closes_none Anywhere stamps c.args.cursors.now.items cs c.args.name.now
    (none_shown c.deref.result.now c.args.cursors.now.items c.as_str.result.now c.args.name.now c.place_of.result c.place_of.ensures c.as_str.ensures c.deref.ensures.value c.in_default.is)
    (named_stand stamps c.args.cursors.now.items cs h))

pub returns-clause-names : goal.returns-clause-names
returns-clause-names g c = λ cs own h.
    let stamps : StampMap = map.empty in
    closes_by_names stamps c.remove-ended.new.self.items cs c.args.name.now (Ok tt)
    (closes_named Anywhere stamps c.args.cursors.now.items c.remove-ended.new.self.items cs c.args.name.now c.in-Some.at c.remove-ended.ensures.items
    (first_shown c.deref.result.now c.args.cursors.now.items c.as_str.result.now c.args.name.now c.place_of.result c.in-Some.at c.place_of.ensures c.as_str.ensures c.deref.ensures.value c.in-Some.is) own (named_stand stamps c.args.cursors.now.items cs h))
