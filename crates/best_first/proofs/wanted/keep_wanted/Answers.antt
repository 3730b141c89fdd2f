-- What is of use stays in the list.
use Rattle.std.proofs.Common.{rules}
use Rattle.std.proofs.lemmas.Fn.{filter_same}
use Rattle.best_first.specs.Wanted.{is_wanted}
use Rattle.best_first.proofs.wanted.keep_wanted.Goals as goal

pub returns : goal.returns
returns g c = filter_same _ (is_wanted (g.W.Wanted.lefts c.args.wanted.now)) _ (λ x b f' k. search rules) _ _ c.retain.ensures.filtered
