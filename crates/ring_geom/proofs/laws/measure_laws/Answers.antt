-- Each law is a lemma.
use Rattle.ring_geom.proofs.BlockLemmas.{meets_is_meeting, meets_children, root_square, child_part}
use Rattle.ring_geom.proofs.RoughLemmas.{rough_is_bounding, rough_in_closed_plane, rough_no_farther, roughs_no_farther}
use Rattle.ring_geom.proofs.TreeLaws.{root_meets, block_no_farther, leaves_cover, leaf_pairs_cover}
use Rattle.ring_geom.proofs.laws.measure_laws.Goals as goal

-- all of them
pub returns : goal.returns
returns c = record {
  tested = meets_is_meeting;
  children = meets_children;
  root = root_meets;
  whole = root_square;
  part = λ b number h above small. child_part b h above number small;
  block = block_no_farther;
  bounding = rough_is_bounding;
  reach = rough_in_closed_plane;
  rough = rough_no_farther;
  roughs = roughs_no_farther;
  leaves = leaves_cover;
  leaf_pairs = leaf_pairs_cover;
}
