use Rattle.session.proofs.GoodRecords.{good_records}
use Rattle.session.proofs.laws.no_run_begins_behind_a_bad_record.Goals as goal

pub returns : goal.returns
returns c = good_records c.a_body_has_one_change.ensures
