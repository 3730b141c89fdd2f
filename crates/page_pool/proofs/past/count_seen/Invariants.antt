use Rattle.std.proofs.Common.{◌≡◌, ◌+◌}
use Rattle.page_pool.proofs.Entries.{seen_among}
use Rattle.page_pool.proofs.past.count_seen.Given as goal

-- how many were seen so far, those that are left tell
abbrev pub invariant-images : goal.invariant-images
invariant-images l = l.count + seen_among l.held l.past-iterator ≡ seen_among l.held l.images.entries
