-- An item at the distance 0 joins what is queued, by its kind.
use Rattle.std.proofs.Common.{◌≡◌, ap, sym, ◌∙◌}
use Rattle.best_first.specs.Item.{gap_of}
use Rattle.best_first.proofs.Queued.{node_joins, rough_joins, row_joins, puts_one}
use Rattle.best_first.proofs.zero_queue.add.Goals as goal

pub returns-in-Node-clause-added : goal.returns-in-Node-clause-added
returns-in-Node-clause-added g c =
    let zero : (gap_of c.args.item.now).num ≡ 0 = ap (λ f. f.num) (sym c.gap.ensures) ∙ sym c.num.ensures ∙ c.if-num-ne0.false in
    node_joins c.args.item.now c.in-Node.gap c.in-Node.node
    (record {
      nodes = c.args.nodes.now.items;
      roughs = c.args.roughs.now.ids;
      rows = c.args.rows.now.ids;
      below = c.args.rows.now.below;
    }) c.push_reserved.new.self.items c.in-Node.is zero c.push_reserved.ensures.items

pub returns-in-Rough-clause-added : goal.returns-in-Rough-clause-added
returns-in-Rough-clause-added g c =
    let zero : (gap_of c.args.item.now).num ≡ 0 = ap (λ f. f.num) (sym c.gap.ensures) ∙ sym c.num.ensures ∙ c.if-num-ne0.false in
    rough_joins c.args.item.now c.in-Rough.gap c.in-Rough.left c.in-Rough.right
    (record { nodes = c.args.nodes.now.items; roughs = c.args.roughs.now.ids; rows = c.args.rows.now.ids; below = c.args.rows.now.below }) c.insert.new.self.ids c.in-Rough.is zero
    (puts_one c.insert.result c.in-Rough.left c.args.roughs.now.ids c.insert.new.self.ids c.insert.ensures.ids)

pub returns-in-Row-clause-added : goal.returns-in-Row-clause-added
returns-in-Row-clause-added g c =
    let zero : (gap_of c.args.item.now).num ≡ 0 = ap (λ f. f.num) (sym c.gap.ensures) ∙ sym c.num.ensures ∙ c.if-num-ne0.false in
    row_joins c.args.item.now c.in-Row.gap c.in-Row.left c.in-Row.right
    (record {
      nodes = c.args.nodes.now.items;
      roughs = c.args.roughs.now.ids;
      rows = c.args.rows.now.ids;
      below = c.args.rows.now.below;
    }) c.insert-in-Row.new.self.ids c.insert-in-Row.new.self.below c.in-Row.is zero c.insert-in-Row.ensures.bits
    (puts_one c.insert-in-Row.result c.in-Row.left c.args.rows.now.ids c.insert-in-Row.new.self.ids c.insert-in-Row.ensures.ids)
