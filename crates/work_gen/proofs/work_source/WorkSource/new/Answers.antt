-- The script of a workload is taken whole.
use Rattle.work_gen.proofs.WorkLines.{IsScriptOf-workload}
use Rattle.work_gen.proofs.work_source.WorkSource.new.Goals as goal

pub returns-clause-script : goal.returns-clause-script
returns-clause-script c = IsScriptOf-workload c.args.n c.requires.most
