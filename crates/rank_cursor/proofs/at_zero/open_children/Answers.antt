-- The four children stand for what the block gives.
use Rattle.std.proofs.Common.{[], ◌∷◌, lit<}
use Rattle.rank_cursor.proofs.AtZeroEntries.{four_alike, passed_on}
use Rattle.rank_cursor.proofs.at_zero.open_children.Goals as goal

pub returns-clause-opened : goal.returns-clause-opened
returns-clause-opened c =
    passed_on c.open.result
    (λ opens. record {
      found = c.child_item.result ∷ c.child_item-2.result ∷ c.child_item-3.result ∷ c.child_item-4.result ∷ [];
      alike = four_alike c.args.goal.now c.args.block c.quarters.result _ c.quarters.ensures.value
          c.child_item.result c.child_item-2.result c.child_item-3.result c.child_item-4.result
          c.child_item.ensures c.child_item-2.ensures c.child_item-3.ensures c.child_item-4.ensures;
      few = lit< tt;
      opens = λ rest ends. opens c.args.block rest ends;
    })
    c.open.ensures.opened
