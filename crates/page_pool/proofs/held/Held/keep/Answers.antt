use Rattle.page_pool.proofs.Sights.{kept_few}
use Rattle.page_pool.proofs.held.Held.keep.Goals as goal

-- the slot is one of the first sixteen
pub invariant_of-self-2 : goal.invariant_of-self-2
invariant_of-self-2 c = kept_few c.self.inside.stamps c.insert.new.self c.in-Some.slot c.args.at c.self.invariant c.in-Some.ensures.few c.in_ok-insert.ensures.changed
