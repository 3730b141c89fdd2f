-- line by line
use Rattle.std.proofs.Common.{Some, refl}
use Rattle.run_laws.proofs.ShelfRuns.{run_told, run_unloaded, run_split}
use Rattle.run_laws.proofs.a_run_over_a_shelf_is_a_run.Goals as goal

-- each load finds what is told, or no line is a load; and the parts of a run
pub returns : goal.returns
returns c = record {
  told = λ files setting old new script rises printed has h. run_told (Some files) setting files old new script rises printed refl has h;
  unloaded = run_unloaded;
  parts = run_split;
}
