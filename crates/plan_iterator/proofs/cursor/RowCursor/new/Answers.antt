-- A cursor that has given nothing has taken nothing of its source.
use Rattle.std.proofs.Common.{[], refl}
use Rattle.plan_iterator.specs.SourceSteps.{nothing_taken}
use Rattle.plan_iterator.proofs.StepCalls.{counted_none}
use Rattle.plan_iterator.proofs.NextNeeds.{needed_none}
use Rattle.plan_iterator.specs.Rows.{plan_measure}
use Rattle.plan_iterator.proofs.cursor.RowCursor.new.Goals as goal

pub returns-clause-starts : goal.returns-clause-starts
returns-clause-starts g c none pages name p d follows = record {
  keeps = record {
    taken = nothing_taken;
    rows = [];
    follows = follows;
    given = refl;
    needed = needed_none plan_measure d p 0;
    counted = counted_none d p 0;
    counts = none;
  };
  number = refl;
}
