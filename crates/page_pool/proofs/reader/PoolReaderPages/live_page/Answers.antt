use Rattle.page_pool.proofs.Viewed.{viewed_read}
use Rattle.page_pool.proofs.reader.PoolReaderPages.live_page.Goals as goal

-- what is viewed stays while pages are read
pub invariant_of-self-in-Alike : goal.invariant_of-self-in-Alike
invariant_of-self-in-Alike g c = viewed_read c.self.inside.pool c.find_alike.follows.lender-at-none c.self.inside.view c.find_alike.follows.holds-at-none.0 c.self.invariant

pub invariant_of-self-in-Older : goal.invariant_of-self-in-Older
invariant_of-self-in-Older g c = viewed_read c.self.inside.pool c.find_older.follows.lender-at-none c.self.inside.view c.find_older.follows.holds-at-none.0 c.self.invariant
