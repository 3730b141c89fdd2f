-- A row whose left id isn't wanted is not queued.
use Rattle.std.proofs.Common.{◌≡◌, [], true, true≢false, sym, ◌∙◌, arith}
use Rattle.std.proofs.lemmas.List.Elements.{All-nil}
use Rattle.std.proofs.lemmas.List.Sorted.{IsPermutation-refl}
use Rattle.best_first.specs.Item.{row_item}
use Rattle.best_first.specs.Reach.{IsAtMost, within}
use Rattle.best_first.proofs.push_wanted.push_wanted.Goals as goal

pub returns-else-wants : goal.returns-else-wants
returns-else-wants g c = record {
  added = [];
  only = All-nil (λ item. (item ≡ row_item c.args.hit) × IsAtMost c.args.rough.now c.args.hit.gap × (within c.args.ceiling c.args.hit.gap ≡ true));
  whole = λ e _ _. absurd (true≢false (sym e ∙ sym c.wants.ensures ∙ c.if-wants.false));
  put = IsPermutation-refl (g.Q.Queue.held c.args.queue.now);
  few = omega arith;
}
