-- pair by pair, up to the first one behind the range
use Rattle.std.proofs.Common.{◌≡◌, ℕ, ◌+◌, ◌-◌, ap, refl, arith}
use Rattle.code_btree.specs.Node.{node_of, next_of, entry_key}
use Rattle.code_btree.proofs.BetweenLeaf.{take_step, takes_inside, takes_on}
use Rattle.code_btree.proofs.between.take_page.Goals as goal

pub entries-init : goal.entries-init
entries-init c = record { within = c.rank_from-from.ensures.bound; before = λ l. absurd (omega (arith, l)); taken = refl }

pub entries-preserved : goal.entries-preserved
entries-preserved c = record {
  within = omega (arith, c.entries-test.true);
  before = λ l.
      let here : (c.entries.at + 1) - 1 ≡ c.entries.at = omega arith in
      omega (arith, ap (λ (i : ℕ). entry_key c.args.page.now i) here, c.entry_key_at-key.ensures, c.if-key-high.false);
  taken = take_step c.args.page.now c.args.count c.entries.at c.args.high c.entries.found.items _ _ c.entry_key_at-key.result c.entry_value_at.result c.requires c.entries-test.true c.entry_key_at-key.ensures c.entry_value_at.ensures c.if-key-high.false c.in_ok-add.ensures c.entries.invariant.taken;
}

pub returns-then-key-high : goal.returns-then-key-high
returns-then-key-high c = λ asc.
    takes_inside c.args.page.now c.args.count c.rank_from-from.result c.entries.at c.args.low c.args.high (next_of (node_of c.args.page.now)) c.args.found.now.items _ c.requires
    (record { place = c.rank_from-from.ensures.bound; before = c.rank_from-from.ensures.before; behind = c.rank_from-from.ensures.behind })
    c.entries-test.true (omega (arith, c.entry_key_at-key.ensures, c.if-key-high.true)) c.entries.invariant.taken asc

pub returns : goal.returns
returns c = λ asc.
    takes_on c.args.page.now c.args.count c.rank_from-from.result c.entries.at c.args.low c.args.high (next_of (node_of c.args.page.now)) c.next_at.result c.args.found.now.items _ c.requires
    (record { place = c.rank_from-from.ensures.bound; before = c.rank_from-from.ensures.before; behind = c.rank_from-from.ensures.behind })
    c.entries-test.false c.entries.invariant.within c.entries.invariant.before (c.next_at.ensures c.requires.is_leaf) c.entries.invariant.taken asc
