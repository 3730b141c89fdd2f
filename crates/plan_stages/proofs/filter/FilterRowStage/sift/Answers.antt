-- The tests stand over the pages that are told.
use Rattle.std.proofs.Common.{List, subst, sym}
use Rattle.plan_stages.specs.Tests.{TestsStand}
use Rattle.plan_stages.specs.declared.tests.SpotTest.{SpotTest}
use Rattle.plan_stages.proofs.Ready.{filter_ready}
use Rattle.plan_stages.proofs.filter.FilterRowStage.sift.Goals as goal

pub passes_all-requires : goal.passes_all-requires
passes_all-requires g c = record {
  stands = subst (λ (tests : List SpotTest). TestsStand c.pages.result.now tests) (sym c.deref.ensures.value)
      (filter_ready c.args.self.now c.args.desk.now c.requires.stands c.pages.result.now c.pages.ensures.pool);
}
