-- The law is the lemma `ring`.
use Rattle.plane_geom.proofs.Ring.{ring}
use Rattle.plane_geom.proofs.ring_is_sound.Goals as goal

pub returns : goal.returns
returns c = ring
