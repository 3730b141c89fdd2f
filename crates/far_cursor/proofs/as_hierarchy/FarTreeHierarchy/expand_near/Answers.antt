-- A visit finds what the ranking has at a place, at its price; no other value than a block is asked for where pages are told.
use Rattle.z_code.specs.Block.{IsBlock}
use Rattle.pmr_tree.specs.Quadtree.{IsNearIn}
use Rattle.rank_cursor.proofs.SearchPages.{by_told, at_told, refused_block, nothing_falls}
use Rattle.far_cursor.proofs.FarSearching.{asked_place, never, found_ok, visits_ok, visits_tried, visits_refused}
use Rattle.far_cursor.proofs.FarWeights.{found_falls}
use Rattle.far_cursor.proofs.as_hierarchy.FarTreeHierarchy.expand_near.Goals as goal

pub returns-then-not-is_block-clause-found : goal.returns-then-not-is_block-clause-found
returns-then-not-is_block-clause-found g c =
    never (g.G.ShapeOf.rows c.args.self.now.shapes) (g.G.ShapeOf.Stands c.args.self.now.shapes) (g.G.ShapeOf.price c.args.self.now.shapes) c.args.self.now.pmr c.args.self.now.goal
    (g.met.G.ShapeOf.in_plane c.args.self.now.shapes) c.args.self.now.plane c.args.desk.now c.args.node c.args.gap c.requires.node
    (refused_block c.is_block.result (IsBlock c.args.node) c.is_block.ensures c.if-not-is_block.true) _

pub returns-then-not-is_block-clause-falls : goal.returns-then-not-is_block-clause-falls
returns-then-not-is_block-clause-falls g c = nothing_falls c.args.node c.args.found.now.items

pub returns-then-not-is_block-clause-visits : goal.returns-then-not-is_block-clause-visits
returns-then-not-is_block-clause-visits g c =
    never (g.G.ShapeOf.rows c.args.self.now.shapes) (g.G.ShapeOf.Stands c.args.self.now.shapes) (g.G.ShapeOf.price c.args.self.now.shapes) c.args.self.now.pmr c.args.self.now.goal
    (g.met.G.ShapeOf.in_plane c.args.self.now.shapes) c.args.self.now.plane c.args.desk.now c.args.node c.args.gap c.requires.node
    (refused_block c.is_block.result (IsBlock c.args.node) c.is_block.ensures c.if-not-is_block.true) _

pub returns-then-not-is_block-clause-gets : goal.returns-then-not-is_block-clause-gets
returns-then-not-is_block-clause-gets g c =
    never (g.G.ShapeOf.rows c.args.self.now.shapes) (g.G.ShapeOf.Stands c.args.self.now.shapes) (g.G.ShapeOf.price c.args.self.now.shapes) c.args.self.now.pmr c.args.self.now.goal
    (g.met.G.ShapeOf.in_plane c.args.self.now.shapes) c.args.self.now.plane c.args.desk.now c.args.node c.args.gap c.requires.node
    (refused_block c.is_block.result (IsBlock c.args.node) c.is_block.ensures c.if-not-is_block.true) _

pub visit_near-requires-clause-place : goal.visit_near-requires-clause-place
visit_near-requires-clause-place g c =
    asked_place (g.G.ShapeOf.rows c.args.self.now.shapes) (g.G.ShapeOf.Stands c.args.self.now.shapes) (g.G.ShapeOf.price c.args.self.now.shapes) c.args.self.now.pmr c.args.self.now.goal
    (g.met.G.ShapeOf.in_plane c.args.self.now.shapes) c.args.self.now.plane c.args.desk.now c.args.node c.args.gap c.requires.node

pub visit_near-requires-clause-near : goal.visit_near-requires-clause-near
visit_near-requires-clause-near g c = at_told c.args.desk.now (λ p. IsNearIn p c.args.self.now.pmr c.args.near.now) c.requires.near

pub returns-in-Ok-add_found-clause-found : goal.returns-in-Ok-add_found-clause-found
returns-in-Ok-add_found-clause-found g c =
    found_ok (g.G.ShapeOf.rows c.args.self.now.shapes) (g.G.ShapeOf.Stands c.args.self.now.shapes) (g.G.ShapeOf.price c.args.self.now.shapes) c.args.self.now.pmr c.args.self.now.goal
    (g.met.G.ShapeOf.in_plane c.args.self.now.shapes) c.args.self.now.plane c.args.desk.now c.args.node c.args.gap c.requires.node
    c.in-Ok.place c.in-Ok.ensures.place c.in-Ok.ensures.roughs c.args.found.now.items c.add_found.new.found.items c.in-Ok-add_found.ensures.added

pub returns-in-Ok-add_found-clause-falls : goal.returns-in-Ok-add_found-clause-falls
returns-in-Ok-add_found-clause-falls g c =
    found_falls c.args.self.now.goal c.args.gap c.args.node c.in-Ok.place c.in-Ok.ensures.above_points c.args.found.now.items c.add_found.new.found.items c.in-Ok-add_found.ensures.added

pub returns-in-Ok-add_found-clause-visits : goal.returns-in-Ok-add_found-clause-visits
returns-in-Ok-add_found-clause-visits g c =
    visits_ok (g.G.ShapeOf.rows c.args.self.now.shapes) (g.G.ShapeOf.Stands c.args.self.now.shapes) (g.G.ShapeOf.price c.args.self.now.shapes) c.args.self.now.pmr c.args.self.now.goal
    (g.met.G.ShapeOf.in_plane c.args.self.now.shapes) c.args.self.now.plane c.args.desk.now c.visit_near.new.desk c.args.node c.args.gap c.requires.node
    c.in-Ok.ensures.noted c.visit_near.ensures.up c.visit_near.ensures.price

pub returns-in-Ok-clause-visits : goal.returns-in-Ok-clause-visits
returns-in-Ok-clause-visits g c =
    visits_tried (g.G.ShapeOf.rows c.args.self.now.shapes) (g.G.ShapeOf.Stands c.args.self.now.shapes) (g.G.ShapeOf.price c.args.self.now.shapes) c.args.self.now.pmr c.args.self.now.goal
    (g.met.G.ShapeOf.in_plane c.args.self.now.shapes) c.args.self.now.plane c.args.desk.now c.visit_near.new.desk c.args.node c.args.gap c.requires.node
    c.in-Ok.ensures.noted c.visit_near.ensures.up c.visit_near.ensures.price

pub returns-clause-visits : goal.returns-clause-visits
returns-clause-visits g c =
    visits_refused (g.G.ShapeOf.rows c.args.self.now.shapes) (g.G.ShapeOf.Stands c.args.self.now.shapes) (g.G.ShapeOf.price c.args.self.now.shapes) c.args.self.now.pmr c.args.self.now.goal
    (g.met.G.ShapeOf.in_plane c.args.self.now.shapes) c.args.self.now.plane c.args.desk.now c.visit_near.new.desk c.args.node c.args.gap c.requires.node
    c.in-Err.ensures.noted c.visit_near.ensures.up c.visit_near.ensures.price

pub returns-in-Ok-add_found-clause-near : goal.returns-in-Ok-add_found-clause-near
returns-in-Ok-add_found-clause-near g c = by_told c.args.desk.now (λ p. IsNearIn p c.args.self.now.pmr c.visit_near.new.near) c.visit_near.ensures.near

pub returns-in-Ok-clause-near : goal.returns-in-Ok-clause-near
returns-in-Ok-clause-near g c = by_told c.args.desk.now (λ p. IsNearIn p c.args.self.now.pmr c.visit_near.new.near) c.visit_near.ensures.near

pub returns-clause-near : goal.returns-clause-near
returns-clause-near g c = by_told c.args.desk.now (λ p. IsNearIn p c.args.self.now.pmr c.visit_near.new.near) c.visit_near.ensures.near
