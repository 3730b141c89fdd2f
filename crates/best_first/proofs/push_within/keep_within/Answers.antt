-- What lies within the ceiling stays in the list, and all does where there is no ceiling.
use Rattle.std.proofs.Common.{◌≡◌, Option, Some, None, is_some, true, false, ℕ, refl, sym, ◌∙◌, true≢false, rules}
use Rattle.std.proofs.lemmas.Fn.{filter_same}
use Rattle.exact_frac.specs.declared.frac.Frac.{Frac}
use Rattle.best_first.specs.Item.{gap_of}
use Rattle.best_first.specs.Reach.{within}
use Rattle.best_first.proofs.Bags.{filter_all, All-by}
use Rattle.best_first.proofs.push_within.keep_within.Goals as goal

unlimited : (ceiling : Option ℕ) → is_some ceiling ≡ false → (gap : Frac) → within ceiling gap ≡ true
unlimited None e gap = refl
unlimited (Some most) e gap = absurd (true≢false e)

pub returns-then-is_some : goal.returns-then-is_some
returns-then-is_some g c = filter_same _ (λ item. within c.args.ceiling (gap_of item)) _ (λ x b f' k. search rules) _ _ c.retain.ensures.filtered

pub returns-else-is_some : goal.returns-else-is_some
returns-else-is_some g c =
    sym (filter_all (λ item. within c.args.ceiling (gap_of item)) c.args.found.now.items
    (All-by (λ item. within c.args.ceiling (gap_of item) ≡ true) c.args.found.now.items (λ item _. unlimited c.args.ceiling (sym c.is_some.ensures ∙ c.if-is_some.false) (gap_of item))))
