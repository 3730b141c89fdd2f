-- the look-up begins at the root
use Rattle.std.proofs.Common.{◌-◌}
use Rattle.code_btree.specs.Tree.{pages_in}
use Rattle.code_btree.proofs.Roots.{subtree_of}
use Rattle.code_btree.proofs.map.Tree.get.Goals as goal

pub find_under-requires : goal.find_under-requires
find_under-requires g c = λ told. subtree_of (pages_in (g.P.Pages.shown c.args.pages.now)) (c.args.self.now.height - 1) c.args.self.now.root c.args.self.now.entries (c.requires told).at
