-- The summary of the text that was counted, or a prefix of it.
use Rattle.session.proofs.WorkloadEndings.{Ends-summed, Ends-unsummed}
use Rattle.session.proofs.workload.run_workload.Goals as goal

pub returns-in-Ok-sum_up-clause-promise : goal.returns-in-Ok-sum_up-clause-promise
returns-in-Ok-sum_up-clause-promise g c = λ left reads files opens.
    Ends-summed c.args.n c.args.limits left reads files opens
    (g.D.Disk.seen c.args.disk) (g.D.Disk.seen c.run_tallied-status.result.1) c.run_tallied-status.result.2 (g.K.Sink.took c.args.out.now)
    (g.K.Sink.took c.sum_up.new.out) (g.K.Sink.faults c.args.out.now)
    (g.K.Sink.faults c.sum_up.new.out) c.run_tallied-status.result.0 c.in-Done.is c.run_tallied-status.ensures.tallied c.in-Ok-sum_up.ensures.written

pub returns-in-Err-sum_up-clause-promise : goal.returns-in-Err-sum_up-clause-promise
returns-in-Err-sum_up-clause-promise g c = λ left reads files opens.
    Ends-unsummed c.args.n c.args.limits left reads files opens
    (g.D.Disk.seen c.args.disk) (g.D.Disk.seen c.run_tallied-status.result.1) c.run_tallied-status.result.2 (g.K.Sink.took c.args.out.now)
    (g.K.Sink.took c.sum_up.new.out) (g.K.Sink.faults c.args.out.now)
    (g.K.Sink.faults c.sum_up.new.out) c.run_tallied-status.result.0 c.in-Done.is c.run_tallied-status.ensures.tallied c.in-Err-sum_up.ensures.prefix
