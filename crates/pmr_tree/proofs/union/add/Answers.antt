-- An id that is there stays; another one goes before the first that is above it.
use Rattle.std.proofs.Common.{ap, sym, ◌∙◌, subst}
use Rattle.pmr_tree.specs.Lists.{place_in, is_at}
use Rattle.pmr_tree.specs.Leaves.{ids_of, ListPasses}
use Rattle.pmr_tree.proofs.Unions.{add_there, add_new, insert_passes}
use Rattle.pmr_tree.proofs.union.add.Goals as goal

pub returns-then-is_at-clause-ids : goal.returns-then-is_at-clause-ids
returns-then-is_at-clause-ids c =
    add_there c.args.list.now.items c.args.kept.id c.place_of-at.result (c.place_of-at.ensures.value ∙ ap (λ t. place_in c.args.kept.id (ids_of t)) c.deref.ensures.value)
    (ap (λ t. is_at (ids_of t) c.place_of-at.result c.args.kept.id) (sym c.deref-2.ensures.value) ∙ sym c.is_at.ensures ∙ c.if-is_at.true)

pub returns-clause-ids : goal.returns-clause-ids
returns-clause-ids c =
    ap ids_of c.in_ok-insert.ensures.items
    ∙ add_new c.args.list.now.items c.args.kept c.place_of-at.result (c.place_of-at.ensures.value ∙ ap (λ t. place_in c.args.kept.id (ids_of t)) c.deref.ensures.value)
    (ap (λ t. is_at (ids_of t) c.place_of-at.result c.args.kept.id) (sym c.deref-2.ensures.value) ∙ sym c.is_at.ensures ∙ c.if-is_at.false)

pub returns-clause-values : goal.returns-clause-values
returns-clause-values c = λ test one all. subst (ListPasses test) (sym c.in_ok-insert.ensures.items) (insert_passes test c.args.list.now.items c.args.kept c.place_of-at.result one all)
