-- the entry that follows, or the end
use Rattle.std.proofs.Common.{subst, arith}
use Rattle.std.specs.Prelude.{None, Some}
use Rattle.page_pool.specs.Pool.{PoolState, IsTold}
use Rattle.plan_sources.specs.Plain.{IsPickBetween}
use Rattle.plan_sources.proofs.PlainSteps.{reads_of, costs_read}
use Rattle.plan_sources.proofs.Bounds.{Finds, index_asked, between_row, between_end, between_refused}
use Rattle.plan_sources.proofs.pick_between.PickBetweenRowSource.next.Goals as goal

pub between-requires : goal.between-requires
between-requires g c =
    let s = c.args.self.now in
    index_asked s.low s.high s.last s.look_up c.args.desk.now c.pages.result.now c.pages.ensures.pool c.requires.stands

pub returns-in-Ok-Some-clause-step : goal.returns-in-Ok-Some-clause-step
returns-in-Ok-Some-clause-step g c =
    let s = c.args.self.now in
    let P : PoolState → Type 0 = λ pool. IsTold pool → Finds s.look_up s.low s.high s.last pool.pages (Some c.in-Ok-Some.entry) in
    between_row s.look_up s.low s.high s.last c.in-Ok-Some.entry c.plain_answer.result c.args.desk.now _ (subst P c.pages.ensures.pool (rw c.in-Ok-Some.field-0-is at c.in-Ok-Some.ensures.value))
    c.plain_answer.ensures.row (reads_of c.args.desk.now c.pages.result.now c.between.new.pages c.pages.ensures.pool c.in-Ok-Some.ensures.peeks.up)

pub returns-in-Ok-None-clause-step : goal.returns-in-Ok-None-clause-step
returns-in-Ok-None-clause-step g c =
    let s = c.args.self.now in
    let P : PoolState → Type 0 = λ pool. IsTold pool → Finds s.look_up s.low s.high s.last pool.pages None in
    between_end s.look_up s.low s.high s.last c.args.desk.now _ (subst P c.pages.ensures.pool (rw c.in-Ok-None.field-0-is at c.in-Ok-None.ensures.value))
    (reads_of c.args.desk.now c.pages.result.now c.between.new.pages c.pages.ensures.pool c.in-Ok-None.ensures.peeks.up)

pub returns-in-Err-clause-step : goal.returns-in-Err-clause-step
returns-in-Err-clause-step g c =
    let s = c.args.self.now in
    between_refused s.look_up s.low s.high s.last c.in-Err.fault c.args.desk.now _
    (reads_of c.args.desk.now c.pages.result.now c.between.new.pages c.pages.ensures.pool c.in-Err.ensures.peeks.up)

-- a descent of the index, whatever the answer

pub returns-in-Ok-Some-clause-costs : goal.returns-in-Ok-Some-clause-costs
returns-in-Ok-Some-clause-costs g c =
    let s = c.args.self.now in
    let most = c.in-Ok-Some.ensures.peeks.within in
    costs_read _ _ (λ pages. 0) (λ pages. 0) (IsPickBetween s.look_up s.low s.high s.last) c.args.desk.now c.pages.result.now c.between.new.pages _ c.pages.ensures.pool (λ told. omega (arith, most))

pub returns-in-Ok-None-clause-costs : goal.returns-in-Ok-None-clause-costs
returns-in-Ok-None-clause-costs g c =
    let s = c.args.self.now in
    let most = c.in-Ok-None.ensures.peeks.within in
    costs_read _ _ (λ pages. 0) (λ pages. 0) (IsPickBetween s.look_up s.low s.high s.last) c.args.desk.now c.pages.result.now c.between.new.pages _ c.pages.ensures.pool (λ told. omega (arith, most))

pub returns-in-Err-clause-costs : goal.returns-in-Err-clause-costs
returns-in-Err-clause-costs g c =
    let s = c.args.self.now in
    let most = c.in-Err.ensures.peeks.within in
    costs_read _ _ (λ pages. 0) (λ pages. 0) (IsPickBetween s.look_up s.low s.high s.last) c.args.desk.now c.pages.result.now c.between.new.pages _ c.pages.ensures.pool (λ told. omega (arith, most))
