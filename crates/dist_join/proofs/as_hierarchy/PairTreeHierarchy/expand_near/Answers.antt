-- A look at both places finds what the join has there, at its price; no other values than blocks are asked for where pages are told.
use Rattle.std.proofs.Common.{ap, refl, ◌∙◌}
use Rattle.z_code.specs.Block.{IsBlock}
use Rattle.page_pool.specs.Desk.{DeskState}
use Rattle.rank_cursor.proofs.SearchPages.{refused_block}
use Rattle.dist_join.specs.Looks.{AreNear}
use Rattle.dist_join.specs.OverPages.{paged}
use Rattle.dist_join.proofs.Expanding.{at_desk, by_desk, never, can_look, found_ok, visits_ok, visits_tried, found_falls, nothing_falls}
use Rattle.dist_join.proofs.as_hierarchy.PairTreeHierarchy.expand_near.Goals as goal

pub returns-then-not-are_blocks-clause-found : goal.returns-then-not-are_blocks-clause-found
returns-then-not-are_blocks-clause-found g c =
    never (paged (g.G.ShapeOf.rows c.args.self.now.left_shapes) (g.G.ShapeOf.Stands c.args.self.now.left_shapes) (g.G.ShapeOf.price c.args.self.now.left_shapes) c.args.self.now.left)
    (paged (g.G.ShapeOf.rows c.args.self.now.right_shapes) (g.G.ShapeOf.Stands c.args.self.now.right_shapes) (g.G.ShapeOf.price c.args.self.now.right_shapes) c.args.self.now.right)
    c.args.self.now.ceiling (g.met.G.ShapeOf.in_plane c.args.self.now.left_shapes) (g.met.G.ShapeOf.in_plane c.args.self.now.right_shapes)
    c.args.desk.now c.args.node c.args.gap c.requires.node (refused_block c.are_blocks.result (IsBlock c.args.node.0 × IsBlock c.args.node.1) c.are_blocks.ensures c.if-not-are_blocks.true) _

pub returns-then-not-are_blocks-clause-falls : goal.returns-then-not-are_blocks-clause-falls
returns-then-not-are_blocks-clause-falls g c =
    nothing_falls c.args.node c.args.found.now.items

pub returns-then-not-are_blocks-clause-visits : goal.returns-then-not-are_blocks-clause-visits
returns-then-not-are_blocks-clause-visits g c =
    never (paged (g.G.ShapeOf.rows c.args.self.now.left_shapes) (g.G.ShapeOf.Stands c.args.self.now.left_shapes) (g.G.ShapeOf.price c.args.self.now.left_shapes) c.args.self.now.left)
    (paged (g.G.ShapeOf.rows c.args.self.now.right_shapes) (g.G.ShapeOf.Stands c.args.self.now.right_shapes) (g.G.ShapeOf.price c.args.self.now.right_shapes) c.args.self.now.right)
    c.args.self.now.ceiling (g.met.G.ShapeOf.in_plane c.args.self.now.left_shapes) (g.met.G.ShapeOf.in_plane c.args.self.now.right_shapes)
    c.args.desk.now c.args.node c.args.gap c.requires.node (refused_block c.are_blocks.result (IsBlock c.args.node.0 × IsBlock c.args.node.1) c.are_blocks.ensures c.if-not-are_blocks.true) _

pub returns-then-not-are_blocks-clause-gets : goal.returns-then-not-are_blocks-clause-gets
returns-then-not-are_blocks-clause-gets g c =
    never (paged (g.G.ShapeOf.rows c.args.self.now.left_shapes) (g.G.ShapeOf.Stands c.args.self.now.left_shapes) (g.G.ShapeOf.price c.args.self.now.left_shapes) c.args.self.now.left)
    (paged (g.G.ShapeOf.rows c.args.self.now.right_shapes) (g.G.ShapeOf.Stands c.args.self.now.right_shapes) (g.G.ShapeOf.price c.args.self.now.right_shapes) c.args.self.now.right)
    c.args.self.now.ceiling (g.met.G.ShapeOf.in_plane c.args.self.now.left_shapes) (g.met.G.ShapeOf.in_plane c.args.self.now.right_shapes)
    c.args.desk.now c.args.node c.args.gap c.requires.node (refused_block c.are_blocks.result (IsBlock c.args.node.0 × IsBlock c.args.node.1) c.are_blocks.ensures c.if-not-are_blocks.true) _

pub look_at_both-requires-clause-left : goal.look_at_both-requires-clause-left
look_at_both-requires-clause-left g c =
    λ told.
    (can_look (paged (g.G.ShapeOf.rows c.args.self.now.left_shapes) (g.G.ShapeOf.Stands c.args.self.now.left_shapes) (g.G.ShapeOf.price c.args.self.now.left_shapes) c.args.self.now.left)
    (paged (g.G.ShapeOf.rows c.args.self.now.right_shapes) (g.G.ShapeOf.Stands c.args.self.now.right_shapes) (g.G.ShapeOf.price c.args.self.now.right_shapes) c.args.self.now.right)
    c.args.self.now.ceiling (g.met.G.ShapeOf.in_plane c.args.self.now.left_shapes) (g.met.G.ShapeOf.in_plane c.args.self.now.right_shapes)
    c.args.desk.now c.args.node c.args.gap c.requires.node c.pages.result.now (c.pages.ensures.pool ∙ ap (λ (d : DeskState). d.pool) c.in-Ok.ensures.noted) told).0

pub look_at_both-requires-clause-right : goal.look_at_both-requires-clause-right
look_at_both-requires-clause-right g c =
    λ told.
    (can_look (paged (g.G.ShapeOf.rows c.args.self.now.left_shapes) (g.G.ShapeOf.Stands c.args.self.now.left_shapes) (g.G.ShapeOf.price c.args.self.now.left_shapes) c.args.self.now.left)
    (paged (g.G.ShapeOf.rows c.args.self.now.right_shapes) (g.G.ShapeOf.Stands c.args.self.now.right_shapes) (g.G.ShapeOf.price c.args.self.now.right_shapes) c.args.self.now.right)
    c.args.self.now.ceiling (g.met.G.ShapeOf.in_plane c.args.self.now.left_shapes) (g.met.G.ShapeOf.in_plane c.args.self.now.right_shapes)
    c.args.desk.now c.args.node c.args.gap c.requires.node c.pages.result.now (c.pages.ensures.pool ∙ ap (λ (d : DeskState). d.pool) c.in-Ok.ensures.noted) told).1

pub look_at_both-requires-clause-near : goal.look_at_both-requires-clause-near
look_at_both-requires-clause-near g c =
    at_desk c.args.desk.now (λ p. AreNear p c.args.self.now.left c.args.self.now.right c.args.near.now) c.pages.result.now
    (c.pages.ensures.pool ∙ ap (λ (d : DeskState). d.pool) c.in-Ok.ensures.noted) c.requires.near

pub returns-in-Ok-add_found-clause-found : goal.returns-in-Ok-add_found-clause-found
returns-in-Ok-add_found-clause-found g c =
    found_ok (paged (g.G.ShapeOf.rows c.args.self.now.left_shapes) (g.G.ShapeOf.Stands c.args.self.now.left_shapes) (g.G.ShapeOf.price c.args.self.now.left_shapes) c.args.self.now.left)
    (paged (g.G.ShapeOf.rows c.args.self.now.right_shapes) (g.G.ShapeOf.Stands c.args.self.now.right_shapes) (g.G.ShapeOf.price c.args.self.now.right_shapes) c.args.self.now.right)
    c.args.self.now.ceiling (g.met.G.ShapeOf.in_plane c.args.self.now.left_shapes) (g.met.G.ShapeOf.in_plane c.args.self.now.right_shapes)
    c.args.desk.now c.args.node c.args.gap c.requires.node c.pages.result.now
    (c.pages.ensures.pool ∙ ap (λ (d : DeskState). d.pool) c.in-Ok.ensures.noted) c.in-Ok-look_at_both.place c.in-Ok-look_at_both.second
    (λ told. (c.in-Ok-look_at_both.ensures.left told, c.in-Ok-look_at_both.ensures.right told))
    c.args.found.now.items c.add_found.new.found.items c.in-Ok-add_found.ensures.added

pub returns-in-Ok-add_found-clause-falls : goal.returns-in-Ok-add_found-clause-falls
returns-in-Ok-add_found-clause-falls g c =
    found_falls c.args.gap c.args.node c.in-Ok-look_at_both.place c.in-Ok-look_at_both.second c.in-Ok-look_at_both.ensures.above_points c.in-Ok-look_at_both.ensures.other_above c.args.found.now.items c.add_found.new.found.items c.in-Ok-add_found.ensures.added

pub returns-in-Ok-add_found-clause-visits : goal.returns-in-Ok-add_found-clause-visits
returns-in-Ok-add_found-clause-visits g c =
    visits_ok (paged (g.G.ShapeOf.rows c.args.self.now.left_shapes) (g.G.ShapeOf.Stands c.args.self.now.left_shapes) (g.G.ShapeOf.price c.args.self.now.left_shapes) c.args.self.now.left)
    (paged (g.G.ShapeOf.rows c.args.self.now.right_shapes) (g.G.ShapeOf.Stands c.args.self.now.right_shapes) (g.G.ShapeOf.price c.args.self.now.right_shapes) c.args.self.now.right)
    c.args.self.now.ceiling (g.met.G.ShapeOf.in_plane c.args.self.now.left_shapes) (g.met.G.ShapeOf.in_plane c.args.self.now.right_shapes)
    c.args.desk.now c.note.new.self (record { pool = c.look_at_both.new.pages; visits = c.note.new.self.visits }) c.args.node c.args.gap c.requires.node c.in-Ok.ensures.noted refl
    c.pages.result.now c.pages.ensures.pool c.look_at_both.ensures.up c.look_at_both.ensures.price

pub returns-in-Ok-look_at_both-clause-visits : goal.returns-in-Ok-look_at_both-clause-visits
returns-in-Ok-look_at_both-clause-visits g c =
    visits_tried (paged (g.G.ShapeOf.rows c.args.self.now.left_shapes) (g.G.ShapeOf.Stands c.args.self.now.left_shapes) (g.G.ShapeOf.price c.args.self.now.left_shapes) c.args.self.now.left)
    (paged (g.G.ShapeOf.rows c.args.self.now.right_shapes) (g.G.ShapeOf.Stands c.args.self.now.right_shapes) (g.G.ShapeOf.price c.args.self.now.right_shapes) c.args.self.now.right)
    c.args.self.now.ceiling (g.met.G.ShapeOf.in_plane c.args.self.now.left_shapes) (g.met.G.ShapeOf.in_plane c.args.self.now.right_shapes)
    c.args.desk.now c.note.new.self (record { pool = c.look_at_both.new.pages; visits = c.note.new.self.visits }) c.args.node c.args.gap c.requires.node c.in-Ok.ensures.noted refl
    c.pages.result.now c.pages.ensures.pool c.look_at_both.ensures.up c.look_at_both.ensures.price

pub returns-clause-visits : goal.returns-clause-visits
returns-clause-visits g c =
    visits_tried (paged (g.G.ShapeOf.rows c.args.self.now.left_shapes) (g.G.ShapeOf.Stands c.args.self.now.left_shapes) (g.G.ShapeOf.price c.args.self.now.left_shapes) c.args.self.now.left)
    (paged (g.G.ShapeOf.rows c.args.self.now.right_shapes) (g.G.ShapeOf.Stands c.args.self.now.right_shapes) (g.G.ShapeOf.price c.args.self.now.right_shapes) c.args.self.now.right)
    c.args.self.now.ceiling (g.met.G.ShapeOf.in_plane c.args.self.now.left_shapes) (g.met.G.ShapeOf.in_plane c.args.self.now.right_shapes)
    c.args.desk.now c.note.new.self (record { pool = c.look_at_both.new.pages; visits = c.note.new.self.visits }) c.args.node c.args.gap c.requires.node c.in-Ok.ensures.noted refl
    c.pages.result.now c.pages.ensures.pool c.look_at_both.ensures.up c.look_at_both.ensures.price

pub returns-in-Ok-add_found-clause-near : goal.returns-in-Ok-add_found-clause-near
returns-in-Ok-add_found-clause-near g c =
    by_desk c.args.desk.now (λ p. AreNear p c.args.self.now.left c.args.self.now.right c.look_at_both.new.near) c.pages.result.now
    (c.pages.ensures.pool ∙ ap (λ (d : DeskState). d.pool) c.in-Ok.ensures.noted) c.look_at_both.ensures.near

pub returns-in-Ok-look_at_both-clause-near : goal.returns-in-Ok-look_at_both-clause-near
returns-in-Ok-look_at_both-clause-near g c =
    by_desk c.args.desk.now (λ p. AreNear p c.args.self.now.left c.args.self.now.right c.look_at_both.new.near) c.pages.result.now
    (c.pages.ensures.pool ∙ ap (λ (d : DeskState). d.pool) c.in-Ok.ensures.noted) c.look_at_both.ensures.near

pub returns-clause-near : goal.returns-clause-near
returns-clause-near g c =
    by_desk c.args.desk.now (λ p. AreNear p c.args.self.now.left c.args.self.now.right c.look_at_both.new.near) c.pages.result.now
    (c.pages.ensures.pool ∙ ap (λ (d : DeskState). d.pool) c.in-Ok.ensures.noted) c.look_at_both.ensures.near
