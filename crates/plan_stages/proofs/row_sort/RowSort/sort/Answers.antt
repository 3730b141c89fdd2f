-- a stable sort is unique
use Rattle.std.proofs.Common.{List, ◌∙◌, ap, rules}
use Rattle.sand_model.specs.Sources.{sorted}
use Rattle.plan_stages.specs.Keyed.{by_key}
use Rattle.plan_stages.specs.declared.keyed.Keyed.{Keyed}
use Rattle.plan_stages.proofs.Closures.{sort_by_closure}
use Rattle.plan_stages.proofs.row_sort.RowSort.sort.Goals.{in-Ok, in-Err}
use Rattle.plan_stages.proofs.row_sort.RowSort.sort.Goals as goal

pub returns-clause-sorted : goal.returns-clause-sorted
returns-clause-sorted g c = elim c.match-sort_by_key.branch [
  | in-Ok w ↦
      let back = c.make_contiguous-rows.ensures.writes_back c.sort_by_key.new.self (c.sort_by_key.ensures.len ∙ c.make_contiguous-rows.ensures.len) in
      let same =
      sort_by_closure g.K.Ord.cmp (λ x. x.key) c.make_contiguous-rows.result.now c.sort_by_key.new.self g.met.K.Ord.total w.in-Ok.ensures.sorted c.sort_by_key.ensures.stable
      (λ a r q k. search rules) in
      rw w.result-is (back ∙ (same ∙ ap (λ (xs : List (Keyed g.row.K.Denot)). sorted (by_key g.K.Ord.cmp) xs) (c.make_contiguous-rows.ensures.value ∙ c.self.view_is)))
  | in-Err w ↦ rw w.result-is tt
]
