-- The entries of the block itself are those of its leaf, and there are none where it is an inner place.
use Rattle.std.proofs.Common.{List, sym, subst}
use Rattle.pmr_tree.specs.Listing.{Pair}
use Rattle.pmr_tree.specs.FirstIds.{AreFirstPairs}
use Rattle.pmr_tree.proofs.Entries.{leaf_read, passes_read}
use Rattle.pmr_tree.proofs.leaf.leaf_of.Goals as goal

pub few_pairs-requires-clause-rises : goal.few_pairs-requires-clause-rises
few_pairs-requires-clause-rises g c = λ k. (c.requires.stands k).rises

pub returns-clause-found : goal.returns-clause-found
returns-clause-found g c = λ k.
    let es : List Pair = g.S.Ground.pairs c.args.ground.now c.args.pages.now in
    leaf_read (λ v. v.items) c.args.block c.args.most es _ _ (c.requires.stands k) (subst (AreFirstPairs c.args.block c.args.most es) (sym c.deref.ensures.value) (c.in_ok-pairs.ensures.found k)) c.in_ok-found.ensures

pub returns-clause-values : goal.returns-clause-values
returns-clause-values g c = λ k test w.
    let es : List Pair = g.S.Ground.pairs c.args.ground.now c.args.pages.now in
    passes_read (λ v. v.items) test c.args.block c.args.most es _ _ (subst (AreFirstPairs c.args.block c.args.most es) (sym c.deref.ensures.value) (c.in_ok-pairs.ensures.found k)) w c.in_ok-found.ensures
