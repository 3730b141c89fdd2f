-- An edge at a time: the point lies on it, or its crossing is added to the parity.
use Rattle.std.proofs.Common.{◌≡◌, Bool, true, false, List, not, refl, sym, ap, ◌∙◌, subst}
use Rattle.std.specs.Bool.{beq}
use Rattle.std.specs.Prelude.{IsTrue, ◌↔◌}
use Rattle.std.proofs.lemmas.Bool.{false≢true}
use Rattle.sand_base.specs.declared.point.Point.{Point}
use Rattle.sand_model.specs.Rings.{differ, IsInside}
use Rattle.ring_geom.proofs.InsideLoop.{found, passed, finished, none_left, lies_anywhere}
use Rattle.ring_geom.proofs.point_in_ring.inside.Goals as goal

-- what holds of the list of vertices holds of the ring
of_ring : {t : Bool} (v : Point) (ps qs : List Point) → ps ≡ qs → IsTrue t ↔ IsInside ps v → IsTrue t ↔ IsInside qs v
of_ring {t} v ps qs e h = subst (λ (xs : List Point). IsTrue t ↔ IsInside xs v) e h

-- the code's way of telling that two tests differ
differs : (a b c : Bool) → b ≡ c → not (beq a b) ≡ differ a c
differs false false c e = e
differs false true c e = e
differs true false c e = ap not e
differs true true c e = ap not e

-- the point lies on the edge at hand
pub returns-then-on_segment : goal.returns-then-on_segment
returns-then-on_segment c =
    of_ring c.args.v _ _ c.corners-corners.ensures.all (
      λ t. found c.args.v c.edges.odd c.edge-side.result _ _ c.edges.invariant c.edge-side.ensures.at (c.on_segment.ensures.0 c.if-on_segment.true),
      λ h. refl,
    )

-- the edge is passed, and added to the parity
pub edges-preserved : goal.edges-preserved
edges-preserved c =
    passed c.args.v c.edges.odd _ c.edge-side.result _ _ c.edges.invariant c.edge-side.ensures.at
    (λ h. false≢true (sym c.if-on_segment.false ∙ c.on_segment.ensures.1 h)) (lies_anywhere c.args.v c.edge-side.result)
    (differs c.edges.odd c.is_crossed-odd.result _ c.is_crossed-odd.ensures)

-- no edge is left
pub returns : goal.returns
returns c =
    of_ring c.args.v _ _ c.corners-corners.ensures.all
    (finished c.args.v c.edges.odd _ c.edges.invariant (none_left c.corners-corners.result.now c.edges.i c.edges-test.false))
