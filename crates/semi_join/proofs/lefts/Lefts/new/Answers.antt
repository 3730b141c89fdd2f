-- Zeros have no id.
use Rattle.std.proofs.Common.{◌∙◌, ap, get_or, List, ℕ, ◌*◌}
use Rattle.std.specs.Prelude.{vec_len}
use Rattle.semi_join.proofs.Bits.{zeros, zeros_have_none}
use Rattle.semi_join.proofs.lefts.Lefts.new.Goals as goal

pub returns-clause-given : goal.returns-clause-given
returns-clause-given c =
    let is = c.in_ok-words.ensures.items_if_clones_equal (λ y same. same) in
    zeros_have_none c.in_ok-words.words.items (λ k. ap (λ (l : List ℕ). get_or l k 0) is ∙ zeros _ k) (64 * vec_len c.in_ok-words.words)
