-- The streams of a workload's run count no fault, and its script isn't too long.
use Rattle.std.proofs.Common.{sym, subst}
use Rattle.work_gen.specs.Workload.{workload}
use Rattle.work_gen.specs.Script.{IsScriptOf, bytes_left}
use Rattle.session.proofs.WorkloadEndings.{Tallies-run}
use Rattle.session.proofs.workload.run_tallied.Goals as goal

pub returns : goal.returns
returns g c = record {
  tallied =
      Tallies-run c.args.n c.args.limits (bytes_left c.new-script.result) (bytes_left c.run_started-status.new.script)
      (g.D.Disk.seen c.args.disk) (g.D.Disk.seen c.run_started-status.result.1) c.new-tally.result
      c.run_started-status.new.out (subst (IsScriptOf (workload c.args.n)) (sym c.new-script.ensures.left) c.new-script.ensures.script) c.new-tally.ensures c.run_started-status.result.0
      c.run_started-status.ensures.promise c.run_started-status.ensures.cause c.run_started-status.ensures.taken;
}
