-- the first check that fails, or memory, or a cursor that stands where the model's does
use Rattle.std.proofs.Common.{Some, None, refl, inl, inr}
use Rattle.statements.specs.Plan.{plan_value}
use Rattle.open_cursors.proofs.Openings.{checks_given, checks_named}
use Rattle.open_cursors.proofs.opening.ready.Goals as goal

pub returns-in-Some-clause-checks : goal.returns-in-Some-clause-checks
returns-in-Some-clause-checks g c = λ stamps pages cs all.
    inr (checks_given c.args.store.now.catalog c.catalog.result.now c.args.cursors.now c.args.cursors.now c.args.name.now (plan_value c.args.plan.now) c.refused_open.result (Some c.in-Some.why)
    c.catalog.ensures.catalog refl c.in-Some.is c.refused_open.ensures.checks stamps pages cs all)

pub returns-in-Some-clause-names : goal.returns-in-Some-clause-names
returns-in-Some-clause-names g c = λ pages cs all.
    inr (checks_named c.args.store.now.catalog c.catalog.result.now c.args.cursors.now c.args.cursors.now c.args.name.now (plan_value c.args.plan.now) c.refused_open.result (Some c.in-Some.why)
    c.catalog.ensures.catalog refl c.in-Some.is c.refused_open.ensures.names pages cs all)

pub returns-in-Err-clause-checks : goal.returns-in-Err-clause-checks
returns-in-Err-clause-checks g c = λ stamps pages cs all. inl refl

pub returns-in-Err-clause-names : goal.returns-in-Err-clause-names
returns-in-Err-clause-names g c = λ pages cs all. inl refl

pub returns-in-Err-copy-clause-checks : goal.returns-in-Err-copy-clause-checks
returns-in-Err-copy-clause-checks g c = λ stamps pages cs all. inl refl

pub returns-in-Err-copy-clause-names : goal.returns-in-Err-copy-clause-names
returns-in-Err-copy-clause-names g c = λ pages cs all. inl refl

pub returns-in-Ok-copy-clause-checks : goal.returns-in-Ok-copy-clause-checks
returns-in-Ok-copy-clause-checks g c = λ stamps pages cs all.
    checks_given c.args.store.now.catalog c.catalog.result.now c.args.cursors.now c.args.cursors.now c.args.name.now (plan_value c.args.plan.now) c.refused_open.result None
    c.catalog.ensures.catalog refl c.in_default.is c.refused_open.ensures.checks stamps pages cs all

pub returns-in-Ok-copy-clause-names : goal.returns-in-Ok-copy-clause-names
returns-in-Ok-copy-clause-names g c = λ pages cs all.
    checks_named c.args.store.now.catalog c.catalog.result.now c.args.cursors.now c.args.cursors.now c.args.name.now (plan_value c.args.plan.now) c.refused_open.result None
    c.catalog.ensures.catalog refl c.in_default.is c.refused_open.ensures.names pages cs all

pub returns-in-Ok-copy-clause-begun : goal.returns-in-Ok-copy-clause-begun
returns-in-Ok-copy-clause-begun g c = (
  c.in-Ok-copy.ensures,
  λ told. (rw c.catalog-2.ensures.catalog at c.in-Ok.ensures) c.args.store.now.pool.pages (c.catalog.ensures.whole.stands told) c.args.name.now,
)
