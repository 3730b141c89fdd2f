-- A visit finds what the ranking has at a node, for one page get.
use Rattle.near_cursor.proofs.NearSearching.{asked_node, found_ok, visits_ok, visits_tried, visits_refused}
use Rattle.near_cursor.proofs.as_hierarchy.NearTreeHierarchy.expand_near.Goals as goal

pub visit_node-requires : goal.visit_node-requires
visit_node-requires g c =
    asked_node (g.G.ShapeOf.rows c.args.self.now.shapes) (g.G.ShapeOf.Stands c.args.self.now.shapes)
    (g.G.ShapeOf.price c.args.self.now.shapes) c.args.self.now.tree c.args.self.now.goal c.args.self.now.ceiling
    (g.met.G.ShapeOf.in_plane c.args.self.now.shapes) c.args.self.now.plane c.args.desk.now c.args.node c.args._gap c.requires.node

pub returns-in-Ok-add_found-clause-found : goal.returns-in-Ok-add_found-clause-found
returns-in-Ok-add_found-clause-found g c =
    found_ok (g.G.ShapeOf.rows c.args.self.now.shapes) (g.G.ShapeOf.Stands c.args.self.now.shapes)
    (g.G.ShapeOf.price c.args.self.now.shapes) c.args.self.now.tree c.args.self.now.goal c.args.self.now.ceiling
    (g.met.G.ShapeOf.in_plane c.args.self.now.shapes) c.args.self.now.plane c.args.desk.now c.args.node c.args._gap c.requires.node
    c.in-Ok.entries c.in-Ok.ensures.shows c.args.found.now.items c.add_found.new.found.items c.in-Ok-add_found.ensures.added

pub returns-in-Ok-add_found-clause-visits : goal.returns-in-Ok-add_found-clause-visits
returns-in-Ok-add_found-clause-visits g c =
    visits_ok (g.G.ShapeOf.rows c.args.self.now.shapes) (g.G.ShapeOf.Stands c.args.self.now.shapes)
    (g.G.ShapeOf.price c.args.self.now.shapes) c.args.self.now.tree c.args.self.now.goal c.args.self.now.ceiling
    (g.met.G.ShapeOf.in_plane c.args.self.now.shapes) c.args.self.now.plane c.args.desk.now c.visit_node.new.desk c.args.node c.args._gap
    c.in-Ok.ensures.noted c.visit_node.ensures.up c.visit_node.ensures.price

pub returns-in-Ok-clause-visits : goal.returns-in-Ok-clause-visits
returns-in-Ok-clause-visits g c =
    visits_tried (g.G.ShapeOf.rows c.args.self.now.shapes) (g.G.ShapeOf.Stands c.args.self.now.shapes)
    (g.G.ShapeOf.price c.args.self.now.shapes) c.args.self.now.tree c.args.self.now.goal c.args.self.now.ceiling
    (g.met.G.ShapeOf.in_plane c.args.self.now.shapes) c.args.self.now.plane c.args.desk.now c.visit_node.new.desk c.args.node c.args._gap
    c.in-Ok.ensures.noted c.visit_node.ensures.up c.visit_node.ensures.price

pub returns-clause-visits : goal.returns-clause-visits
returns-clause-visits g c =
    visits_refused (g.G.ShapeOf.rows c.args.self.now.shapes) (g.G.ShapeOf.Stands c.args.self.now.shapes)
    (g.G.ShapeOf.price c.args.self.now.shapes) c.args.self.now.tree c.args.self.now.goal c.args.self.now.ceiling
    (g.met.G.ShapeOf.in_plane c.args.self.now.shapes) c.args.self.now.plane c.args.desk.now c.visit_node.new.desk c.args.node c.args._gap
    c.in-Err.ensures.noted c.visit_node.ensures.up c.visit_node.ensures.price
