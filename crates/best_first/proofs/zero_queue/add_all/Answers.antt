-- The item at the place joins after those behind it.
use Rattle.std.proofs.Common.{◌≡◌, ◌+◌, ◌-◌, ◌<◌, ◌∷◌, List, length, drop, ap, ap₂, sym, ◌∙◌, subst, arith}
use Rattle.std.proofs.lemmas.List.{drop_more}
use Rattle.best_first.specs.declared.item.Item.{Item}
use Rattle.best_first.specs.ZeroItems.{ZeroItems, OpensNode}
use Rattle.best_first.proofs.Queued.{opens_more}
use Rattle.best_first.proofs.zero_queue.add_all.Goals as goal

pub found-preserved : goal.found-preserved
found-preserved g c =
    let found = c.args.found.now in
    let before = c.found.at - 1 in
    let item = c.index-found-at.result in
    let below : before < length found = let positive = c.found-test.true in let most = c.found.invariant.inside in omega arith in
    let next : before + 1 ≡ c.found.at = let positive = c.found-test.true in omega arith in
    let here : drop before found ≡ item ∷ drop c.found.at found = drop_more found before item below ∙ ap₂ (λ x xs. x ∷ xs) (sym c.index-found-at.is) (ap (λ n. drop n found) next) in
    let old : ZeroItems g.row.N.Denot = record { nodes = c.args.nodes.now.items; roughs = c.args.roughs.now.ids; rows = c.args.rows.now.ids; below = c.args.rows.now.below } in
    let mid : ZeroItems g.row.N.Denot = record { nodes = c.found.nodes.items; roughs = c.found.roughs.ids; rows = c.found.rows.ids; below = c.found.rows.below } in
    let new : ZeroItems g.row.N.Denot = record { nodes = c.add.new.nodes.items; roughs = c.add.new.roughs.ids; rows = c.add.new.rows.ids; below = c.add.new.rows.below } in
    let room = c.found.invariant.room in
    let len = c.add.ensures.len in
    let capacity = c.add.ensures.capacity in
    record {
      added = subst (λ (l : List (Item g.row.N.Denot)). OpensNode c.args.nodes.now.items l old new) (sym here)
          (opens_more c.args.nodes.now.items item (drop c.found.at found) old mid new c.found.invariant.added c.add.ensures.added);
      inside = omega arith;
      room = omega arith;
      roughs = c.add.ensures.bits.0 ∙ c.found.invariant.roughs;
      rows = c.add.ensures.bits.1 ∙ c.found.invariant.rows;
    }
