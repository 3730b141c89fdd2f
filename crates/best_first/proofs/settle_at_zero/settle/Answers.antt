-- Each step takes the search on from where it stands.
use Rattle.std.proofs.Common.{◌≡◌, IfSome, Ok, refl, sym, ◌∙◌, subst, arith}
use Rattle.best_first.specs.Visits.{told_pages, state, Goes, Fails}
use Rattle.best_first.specs.Steps.{steps}
use Rattle.best_first.specs.Inside.{StepFalls}
use Rattle.best_first.proofs.Passing.{read_itself, read_both, told_read, cause_later, all_over, stays_over, goes_over, fails_over}
use Rattle.best_first.specs.ZeroItems.{items_of, AreRows}
use Rattle.best_first.specs.WithinZero.{StandsWithin}
use Rattle.best_first.specs.InsideZero.{ZeroStepSettles}
use Rattle.best_first.proofs.OverPages.{within_goes}
use Rattle.best_first.proofs.settle_at_zero.settle.Goals as goal

pub steps-init : goal.steps-init
steps-init g c =
    let f = c.args.frontier.now in
    record {
      read = read_itself c.args.desk.now.pool;
      failures = refl;
      last = refl;
      falls = omega arith;
      stands = c.requires;
      near = all_over (told_pages c.args.desk.now) (λ p. g.H.Hierarchy.IsNear c.args.hierarchy.now p c.nowhere-near.result) c.nowhere-near.ensures;
      moves = stays_over g.H.Node.Ord.cmp (g.H.Hierarchy.meaning c.args.hierarchy.now) (g.H.Hierarchy.note c.args.hierarchy.now) (told_pages c.args.desk.now)
          (state (items_of f.queue) f.last f.counts c.args.desk.now);
      still = λ _. (refl, refl);
    }

pub steps-smaller : goal.steps-smaller
steps-smaller g c =
    let weight = g.H.Hierarchy.weight c.args.hierarchy.now in
    subst (λ b. StepFalls (steps weight (items_of c.steps.frontier.queue)) (steps weight (items_of c.step.new.frontier.queue)) (Ok b)) c.in-Ok-true.field-0-test c.in-Ok-true.ensures.falls

pub steps-preserved : goal.steps-preserved
steps-preserved g c =
    let f = c.args.frontier.now in
    let m = c.steps.frontier in
    let n = c.step.new.frontier in
    let cmp = g.H.Node.Ord.cmp in
    let weight = g.H.Hierarchy.weight c.args.hierarchy.now in
    let meaning = g.H.Hierarchy.meaning c.args.hierarchy.now in
    let note = g.H.Hierarchy.note c.args.hierarchy.now in
    let i = c.steps.invariant in
    let e = c.in-Ok-true.ensures in
    let old = state (items_of f.queue) f.last f.counts c.args.desk.now in
    let mid = state (items_of m.queue) m.last m.counts c.steps.desk in
    let new = state (items_of n.queue) n.last n.counts c.step.new.desk in
    let same : told_pages c.steps.desk ≡ told_pages c.args.desk.now = told_read c.args.desk.now c.steps.desk i.read in
    let later : told_pages c.step.new.desk ≡ told_pages c.steps.desk = told_read c.steps.desk c.step.new.desk e.read in
    let moves : IfSome (told_pages c.steps.desk) (λ p. Goes cmp (meaning p) note mid new) = e.moves in
    let less = subst (λ b. StepFalls (steps weight (items_of m.queue)) (steps weight (items_of n.queue)) (Ok b)) c.in-Ok-true.field-0-test e.falls in
    let before = i.falls in
    let apart = subst (λ b. ZeroStepSettles m n c.steps.desk c.step.new.desk (Ok b)) c.in-Ok-true.field-0-test e.settles in
    record {
      read = read_both c.args.desk.now.pool c.steps.desk.pool c.step.new.desk.pool i.read e.read;
      failures = e.cause.counted ∙ i.failures;
      last = e.last ∙ i.last;
      falls = omega arith;
      stands = subst (λ t. IfSome t (λ p. StandsWithin cmp (meaning p) (items_of n.queue) n.last)) (sym later) (within_goes cmp meaning note (told_pages c.steps.desk) mid new i.stands moves);
      near = subst (λ t. IfSome t (λ p. g.H.Hierarchy.IsNear c.args.hierarchy.now p c.step.new.near)) (sym later) e.near;
      moves = goes_over cmp meaning note (told_pages c.args.desk.now) old mid new i.moves (subst (λ t. IfSome t (λ p. Goes cmp (meaning p) note mid new)) same moves);
      still = λ s. absurd (apart (subst AreRows (sym (i.still s).1) s));
    }

pub returns-in-Ok-false-clause-settled : goal.returns-in-Ok-false-clause-settled
returns-in-Ok-false-clause-settled g c =
    let m = c.steps.frontier in
    let n = c.step.new.frontier in
    let (same, desk, rows) = subst (λ b. ZeroStepSettles m n c.steps.desk c.step.new.desk (Ok b)) c.in-Ok-false.field-0-test c.in-Ok-false.ensures.settles in
    subst (λ f. AreRows f.queue) (sym same) rows

pub returns-in-Ok-false-clause-still : goal.returns-in-Ok-false-clause-still
returns-in-Ok-false-clause-still g c s =
    let m = c.steps.frontier in
    let n = c.step.new.frontier in
    let (same, desk, rows) = subst (λ b. ZeroStepSettles m n c.steps.desk c.step.new.desk (Ok b)) c.in-Ok-false.field-0-test c.in-Ok-false.ensures.settles in
    (desk ∙ (c.steps.invariant.still s).0, refl)

pub returns-in-Ok-false-clause-moves : goal.returns-in-Ok-false-clause-moves
returns-in-Ok-false-clause-moves g c =
    let f = c.args.frontier.now in
    let m = c.steps.frontier in
    let n = c.step.new.frontier in
    let cmp = g.H.Node.Ord.cmp in
    let meaning = g.H.Hierarchy.meaning c.args.hierarchy.now in
    let note = g.H.Hierarchy.note c.args.hierarchy.now in
    let old = state (items_of f.queue) f.last f.counts c.args.desk.now in
    let mid = state (items_of m.queue) m.last m.counts c.steps.desk in
    let new = state (items_of n.queue) n.last n.counts c.step.new.desk in
    goes_over cmp meaning note (told_pages c.args.desk.now) old mid new c.steps.invariant.moves
    (subst (λ t. IfSome t (λ p. Goes cmp (meaning p) note mid new)) (told_read c.args.desk.now c.steps.desk c.steps.invariant.read) c.in-Ok-false.ensures.moves)

pub returns-in-Ok-false-clause-read : goal.returns-in-Ok-false-clause-read
returns-in-Ok-false-clause-read g c = read_both c.args.desk.now.pool c.steps.desk.pool c.step.new.desk.pool c.steps.invariant.read c.in-Ok-false.ensures.read

pub returns-in-Ok-false-clause-cause : goal.returns-in-Ok-false-clause-cause
returns-in-Ok-false-clause-cause g c = record { counted = c.in-Ok-false.ensures.cause.counted ∙ c.steps.invariant.failures; damaged = tt }

pub returns-in-Ok-false-clause-last : goal.returns-in-Ok-false-clause-last
returns-in-Ok-false-clause-last g c = c.in-Ok-false.ensures.last ∙ c.steps.invariant.last

pub returns-in-Ok-false-clause-falls : goal.returns-in-Ok-false-clause-falls
returns-in-Ok-false-clause-falls g c =
    let weight = g.H.Hierarchy.weight c.args.hierarchy.now in
    let same = subst (λ b. StepFalls (steps weight (items_of c.steps.frontier.queue)) (steps weight (items_of c.step.new.frontier.queue))
    (Ok b)) c.in-Ok-false.field-0-test c.in-Ok-false.ensures.falls in
    let before = c.steps.invariant.falls in
    omega arith

pub returns-in-Err-clause-moves : goal.returns-in-Err-clause-moves
returns-in-Err-clause-moves g c =
    let f = c.args.frontier.now in
    let m = c.steps.frontier in
    let n = c.step.new.frontier in
    let cmp = g.H.Node.Ord.cmp in
    let meaning = g.H.Hierarchy.meaning c.args.hierarchy.now in
    let note = g.H.Hierarchy.note c.args.hierarchy.now in
    let old = state (items_of f.queue) f.last f.counts c.args.desk.now in
    let mid = state (items_of m.queue) m.last m.counts c.steps.desk in
    let new = state (items_of n.queue) n.last n.counts c.step.new.desk in
    fails_over cmp meaning note (told_pages c.args.desk.now) old mid new c.steps.invariant.moves
    (subst (λ t. IfSome t (λ p. Fails cmp (meaning p) note mid new)) (told_read c.args.desk.now c.steps.desk c.steps.invariant.read) c.in-Err.ensures.moves)

pub returns-in-Err-clause-still : goal.returns-in-Err-clause-still
returns-in-Err-clause-still g c s = absurd (c.in-Err.ensures.settles (subst AreRows (sym (c.steps.invariant.still s).1) s))

pub returns-in-Err-clause-read : goal.returns-in-Err-clause-read
returns-in-Err-clause-read g c = read_both c.args.desk.now.pool c.steps.desk.pool c.step.new.desk.pool c.steps.invariant.read c.in-Err.ensures.read

pub returns-in-Err-clause-cause : goal.returns-in-Err-clause-cause
returns-in-Err-clause-cause g c = cause_later c.args.desk.now.pool c.steps.desk.pool c.step.new.desk.pool c.in-Err.fault c.steps.invariant.failures c.in-Err.ensures.cause

pub returns-in-Err-clause-last : goal.returns-in-Err-clause-last
returns-in-Err-clause-last g c = c.in-Err.ensures.last ∙ c.steps.invariant.last

pub returns-in-Err-clause-falls : goal.returns-in-Err-clause-falls
returns-in-Err-clause-falls g c = let same = c.in-Err.ensures.falls in let before = c.steps.invariant.falls in omega arith
