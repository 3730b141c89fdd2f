-- A visit puts into the queue what the ranking has at a place, at its price; no other value than a block is asked for where pages are told.
use Rattle.z_code.specs.Block.{IsBlock}
use Rattle.pmr_tree.specs.Quadtree.{IsNearIn}
use Rattle.best_first.specs.RowsAtZero.{zero_gap}
use Rattle.rank_cursor.proofs.OpenedAtZero.{opens_nothing, opens_place}
use Rattle.rank_cursor.proofs.SearchPages.{by_told, at_told, refused_block}
use Rattle.rank_cursor.proofs.Searching.{asked_place, never, visits_ok, visits_tried, visits_refused}
use Rattle.rank_cursor.proofs.as_zero_hierarchy.RankTreeZeroHierarchy.open_near.Goals as goal

pub returns-then-not-is_block-clause-opened : goal.returns-then-not-is_block-clause-opened
returns-then-not-is_block-clause-opened g c =
    opens_nothing (g.G.ShapeOf.rows c.args.self.now.shapes) (g.G.ShapeOf.Stands c.args.self.now.shapes)
    (g.G.ShapeOf.price c.args.self.now.shapes) c.args.self.now.pmr c.args.self.now.goal c.args.self.now.ceiling
    (g.met.G.ShapeOf.in_plane c.args.self.now.shapes) c.args.self.now.plane c.args.desk.now c.args.node
    (never (g.G.ShapeOf.rows c.args.self.now.shapes) (g.G.ShapeOf.Stands c.args.self.now.shapes)
    (g.G.ShapeOf.price c.args.self.now.shapes) c.args.self.now.pmr c.args.self.now.goal c.args.self.now.ceiling
    (g.met.G.ShapeOf.in_plane c.args.self.now.shapes) c.args.self.now.plane c.args.desk.now c.args.node zero_gap c.requires.node
    (refused_block c.is_block.result (IsBlock c.args.node) c.is_block.ensures c.if-not-is_block.true) _)
    c.args.queue.now c.take_node.new.self c.take_node.ensures

pub returns-then-not-is_block-clause-visits : goal.returns-then-not-is_block-clause-visits
returns-then-not-is_block-clause-visits g c =
    never (g.G.ShapeOf.rows c.args.self.now.shapes) (g.G.ShapeOf.Stands c.args.self.now.shapes)
    (g.G.ShapeOf.price c.args.self.now.shapes) c.args.self.now.pmr c.args.self.now.goal c.args.self.now.ceiling
    (g.met.G.ShapeOf.in_plane c.args.self.now.shapes) c.args.self.now.plane c.args.desk.now c.args.node zero_gap c.requires.node
    (refused_block c.is_block.result (IsBlock c.args.node) c.is_block.ensures c.if-not-is_block.true) _

pub returns-then-not-is_block-clause-gets : goal.returns-then-not-is_block-clause-gets
returns-then-not-is_block-clause-gets g c =
    never (g.G.ShapeOf.rows c.args.self.now.shapes) (g.G.ShapeOf.Stands c.args.self.now.shapes)
    (g.G.ShapeOf.price c.args.self.now.shapes) c.args.self.now.pmr c.args.self.now.goal c.args.self.now.ceiling
    (g.met.G.ShapeOf.in_plane c.args.self.now.shapes) c.args.self.now.plane c.args.desk.now c.args.node zero_gap c.requires.node
    (refused_block c.is_block.result (IsBlock c.args.node) c.is_block.ensures c.if-not-is_block.true) _

pub visit_near-requires-clause-place : goal.visit_near-requires-clause-place
visit_near-requires-clause-place g c =
    asked_place (g.G.ShapeOf.rows c.args.self.now.shapes) (g.G.ShapeOf.Stands c.args.self.now.shapes)
    (g.G.ShapeOf.price c.args.self.now.shapes) c.args.self.now.pmr c.args.self.now.goal c.args.self.now.ceiling
    (g.met.G.ShapeOf.in_plane c.args.self.now.shapes) c.args.self.now.plane c.args.desk.now c.args.node zero_gap c.requires.node

pub visit_near-requires-clause-near : goal.visit_near-requires-clause-near
visit_near-requires-clause-near g c = at_told c.args.desk.now (λ p. IsNearIn p c.args.self.now.pmr c.args.near.now) c.requires.near

pub returns-in-Ok-open_place-clause-opened : goal.returns-in-Ok-open_place-clause-opened
returns-in-Ok-open_place-clause-opened g c =
    opens_place (g.G.ShapeOf.rows c.args.self.now.shapes) (g.G.ShapeOf.Stands c.args.self.now.shapes)
    (g.G.ShapeOf.price c.args.self.now.shapes) c.args.self.now.pmr c.args.self.now.goal c.args.self.now.ceiling
    (g.met.G.ShapeOf.in_plane c.args.self.now.shapes) c.args.self.now.plane c.args.desk.now c.args.node c.requires.node
    c.in-Ok.place c.in-Ok.ensures.place c.in-Ok.ensures.roughs c.in-Ok.ensures.above_points c.args.queue.now c.open_place.new.queue c.in-Ok-open_place.ensures.opened

pub returns-in-Ok-open_place-clause-visits : goal.returns-in-Ok-open_place-clause-visits
returns-in-Ok-open_place-clause-visits g c =
    visits_ok (g.G.ShapeOf.rows c.args.self.now.shapes) (g.G.ShapeOf.Stands c.args.self.now.shapes)
    (g.G.ShapeOf.price c.args.self.now.shapes) c.args.self.now.pmr c.args.self.now.goal c.args.self.now.ceiling
    (g.met.G.ShapeOf.in_plane c.args.self.now.shapes) c.args.self.now.plane c.args.desk.now c.visit_near.new.desk c.args.node zero_gap c.requires.node
    c.in-Ok.ensures.noted c.visit_near.ensures.up c.visit_near.ensures.price

pub returns-in-Ok-clause-visits : goal.returns-in-Ok-clause-visits
returns-in-Ok-clause-visits g c =
    visits_tried (g.G.ShapeOf.rows c.args.self.now.shapes) (g.G.ShapeOf.Stands c.args.self.now.shapes)
    (g.G.ShapeOf.price c.args.self.now.shapes) c.args.self.now.pmr c.args.self.now.goal c.args.self.now.ceiling
    (g.met.G.ShapeOf.in_plane c.args.self.now.shapes) c.args.self.now.plane c.args.desk.now c.visit_near.new.desk c.args.node zero_gap c.requires.node
    c.in-Ok.ensures.noted c.visit_near.ensures.up c.visit_near.ensures.price

pub returns-clause-visits : goal.returns-clause-visits
returns-clause-visits g c =
    visits_refused (g.G.ShapeOf.rows c.args.self.now.shapes) (g.G.ShapeOf.Stands c.args.self.now.shapes)
    (g.G.ShapeOf.price c.args.self.now.shapes) c.args.self.now.pmr c.args.self.now.goal c.args.self.now.ceiling
    (g.met.G.ShapeOf.in_plane c.args.self.now.shapes) c.args.self.now.plane c.args.desk.now c.visit_near.new.desk c.args.node zero_gap c.requires.node
    c.in-Err.ensures.noted c.visit_near.ensures.up c.visit_near.ensures.price

pub returns-in-Ok-open_place-clause-near : goal.returns-in-Ok-open_place-clause-near
returns-in-Ok-open_place-clause-near g c = by_told c.args.desk.now (λ p. IsNearIn p c.args.self.now.pmr c.visit_near.new.near) c.visit_near.ensures.near

pub returns-in-Ok-clause-near : goal.returns-in-Ok-clause-near
returns-in-Ok-clause-near g c = by_told c.args.desk.now (λ p. IsNearIn p c.args.self.now.pmr c.visit_near.new.near) c.visit_near.ensures.near

pub returns-clause-near : goal.returns-clause-near
returns-clause-near g c = by_told c.args.desk.now (λ p. IsNearIn p c.args.self.now.pmr c.visit_near.new.near) c.visit_near.ensures.near
