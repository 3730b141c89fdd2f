-- the row that follows, or the end
use Rattle.std.proofs.Common.{Err, refl, subst, arith, ap, ◌*◌, ◌≤◌}
use Rattle.std.specs.Prelude.{None, Some}
use Rattle.page_pool.specs.Pool.{PoolState, IsTold}
use Rattle.plan_names.specs.LookUpCosts.{entry_price}
use Rattle.plan_names.proofs.LookUpPrices.{none_past_last}
use Rattle.plan_sources.specs.Plain.{IsPickEqual}
use Rattle.plan_sources.specs.Prices.{entries_price}
use Rattle.plan_sources.proofs.PlainSteps.{reads_of, costs_read}
use Rattle.plan_sources.proofs.Picks.{Looks, pick_row, pick_end, pick_refused}
use Rattle.plan_sources.proofs.pick_equal.PickEqualRowSource.next.Goals as goal

pub returns-in-Ok-Some-clause-step : goal.returns-in-Ok-Some-clause-step
returns-in-Ok-Some-clause-step g c =
    let s = c.args.self.now in
    let P : PoolState → Type 0 = λ pool. IsTold pool → Looks s.look_up s.value s.last pool.pages (Some c.in-Ok-Some.id) in
    pick_row s.look_up s.value s.last c.in-Ok-Some.id c.plain_answer.result c.args.desk.now _ (subst P c.pages.ensures.pool (rw c.in-Ok-Some.field-0-is at c.in-Ok-Some.ensures.first))
    c.plain_answer.ensures.row (reads_of c.args.desk.now c.pages.result.now c.next.new.pages c.pages.ensures.pool c.in-Ok-Some.ensures.up)

pub returns-in-Ok-None-clause-step : goal.returns-in-Ok-None-clause-step
returns-in-Ok-None-clause-step g c =
    let s = c.args.self.now in
    let P : PoolState → Type 0 = λ pool. IsTold pool → Looks s.look_up s.value s.last pool.pages None in
    let fits : s.last ≤ 4294967295 = omega arith in
    pick_end s.look_up s.value s.last 4294967295 c.args.desk.now _ fits (subst P c.pages.ensures.pool (rw c.in-Ok-None.field-0-is at c.in-Ok-None.ensures.first))
    (reads_of c.args.desk.now c.pages.result.now c.next.new.pages c.pages.ensures.pool c.in-Ok-None.ensures.up)

pub returns-in-Err-clause-step : goal.returns-in-Err-clause-step
returns-in-Err-clause-step g c =
    let s = c.args.self.now in
    pick_refused s.look_up s.value s.last (Err c.in-Err.fault) c.args.desk.now _ refl
    (reads_of c.args.desk.now c.pages.result.now c.next.new.pages c.pages.ensures.pool c.in-Err.ensures.up)

-- the entries that were passed, and a descent at the end

pub returns-in-Ok-Some-clause-costs : goal.returns-in-Ok-Some-clause-costs
returns-in-Ok-Some-clause-costs g c =
    let s = c.args.self.now in
    let spent = rw c.in-Ok-Some.field-0-is at c.in-Ok-Some.ensures.costs in
    costs_read _ _ (λ pages. entries_price pages s.look_up s.value s.last) (λ pages. entries_price pages s.look_up s.value c.in-Ok-Some.id) (IsPickEqual s.look_up s.value s.last) c.args.desk.now
    c.pages.result.now c.next.new.pages _ c.pages.ensures.pool (λ told. let most = (spent told).1 in omega (arith, most))

pub returns-in-Ok-None-clause-costs : goal.returns-in-Ok-None-clause-costs
returns-in-Ok-None-clause-costs g c =
    let s = c.args.self.now in
    let spent = rw c.in-Ok-None.field-0-is at c.in-Ok-None.ensures.costs in
    costs_read _ _ (λ pages. entries_price pages s.look_up s.value s.last) (λ pages. entries_price pages s.look_up s.value 4294967295) (IsPickEqual s.look_up s.value s.last) c.args.desk.now
    c.pages.result.now c.next.new.pages _ c.pages.ensures.pool
    (λ told.
    let most = spent told in
    let none = ap (λ n. n * entry_price s.look_up s.value) (none_past_last c.pages.result.now.pages s.look_up s.value) in
    omega (arith, most, none))

pub returns-in-Err-clause-costs : goal.returns-in-Err-clause-costs
returns-in-Err-clause-costs g c =
    let s = c.args.self.now in
    let spent = c.in-Err.ensures.costs in
    costs_read _ _ (λ pages. entries_price pages s.look_up s.value s.last) (λ pages. entries_price pages s.look_up s.value s.last) (IsPickEqual s.look_up s.value s.last) c.args.desk.now
    c.pages.result.now c.next.new.pages _ c.pages.ensures.pool (λ told. let most = spent told in omega (arith, most))
