-- One list after the other, from the last.
use Rattle.std.proofs.Common.{ap, ap₂, sym, ◌∙◌, subst}
use Rattle.sand_model.specs.Tree.{union}
use Rattle.pmr_tree.specs.Leaves.{ids_of, ListPasses}
use Rattle.pmr_tree.proofs.shrink.joined.Goals as goal

pub returns-clause-ids : goal.returns-clause-ids
returns-clause-ids c =
    c.in_ok-join-4.ensures.ids ∙ ap₂ union (ap ids_of c.deref-4.ensures.value) (c.in_ok-join-3.ensures.ids ∙ ap₂ union (ap ids_of c.deref-3.ensures.value)
    (c.in_ok-join-2.ensures.ids ∙ ap₂ union (ap ids_of c.deref-2.ensures.value) (c.in_ok-join.ensures.ids ∙ ap₂ union (ap ids_of c.deref.ensures.value) (ap ids_of c.new-all.ensures.items))))

pub returns-clause-values : goal.returns-clause-values
returns-clause-values c = λ test pass.
    let j1 = c.in_ok-join.ensures.values test (subst (ListPasses test) (sym c.deref.ensures.value) pass.fourth) (subst (ListPasses test) (sym c.new-all.ensures.items) tt) in
    let j2 = c.in_ok-join-2.ensures.values test (subst (ListPasses test) (sym c.deref-2.ensures.value) pass.third) j1 in
    let j3 = c.in_ok-join-3.ensures.values test (subst (ListPasses test) (sym c.deref-3.ensures.value) pass.second) j2 in
    c.in_ok-join-4.ensures.values test (subst (ListPasses test) (sym c.deref-4.ensures.value) pass.first) j3
