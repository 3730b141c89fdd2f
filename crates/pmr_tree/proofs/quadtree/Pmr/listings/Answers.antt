-- Each listing has an entry of its own.
use Rattle.pmr_tree.proofs.Counts.{entries_are_listings}
use Rattle.pmr_tree.proofs.quadtree.Pmr.listings.Goals as goal

pub returns-clause-listings : goal.returns-clause-listings
returns-clause-listings c = λ pages h. entries_are_listings pages c.args.self.now h
