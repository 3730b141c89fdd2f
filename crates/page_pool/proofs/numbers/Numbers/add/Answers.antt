use Rattle.std.proofs.Common.{◌≡◌, take, arith, sym, ap, subst, ◌∙◌, nat_eq}
use Rattle.std.specs.Ordering.{nat_cmp}
use Rattle.std.specs.Cmp.{nat_cmp_total, nat_eq_equiv}
use Rattle.std.specs.List.{IsDistinct}
use Rattle.std.specs.FinSet as set
use Rattle.std.specs.FinSet.{nat_cmp-IsAntisymmetric}
use Rattle.std.proofs.lemmas.List.{take_all}
use Rattle.std.proofs.lemmas.Map.Keys.{IsDistinct-push}
use Rattle.page_pool.proofs.Spare.{not_in_list}
use Rattle.page_pool.proofs.numbers.Numbers.add.Goals as goal

-- all of the list are free again, and the number is its last
pub returns-clause-spare : goal.returns-clause-spare
returns-clause-spare c =
    ap (λ n. set.from_list {R = nat_cmp} (take n c.push.new.self.items)) c.len-self-inside.ensures
    ∙ ap (λ xs. set.from_list {R = nat_cmp} xs) (take_all _ c.push.new.self.items (omega arith) ∙ c.in_ok-push.ensures.items)
    ∙ set.from_list_push nat_cmp_total nat_cmp-IsAntisymmetric c.self.inside.free.items c.args.n
    ∙ ap (λ s. set.insert s.past_spare c.args.n) (c.self.view_is ∙ c.settle.ensures)

-- it was none of them
pub invariant_of-self-2 : goal.invariant_of-self-2
invariant_of-self-2 c =
    let free : set.from_list {R = nat_cmp} c.self.inside.free.items ≡ c.args.self.now.spare = ap (λ s. s.past_spare) (c.self.view_is ∙ c.settle.ensures) in (
      omega arith,
      subst (IsDistinct nat_eq) (sym c.in_ok-push.ensures.items)
          (IsDistinct-push nat_eq_equiv c.self.inside.free.items c.args.n c.self.invariant.1 (not_in_list c.self.inside.free.items c.args.n (ap (λ s. set.contains s c.args.n) free ∙ c.requires))),
    )
