-- One id more, from the last to the first.
use Rattle.std.proofs.Common.{◌≡◌, suc, ◌-◌, ◌<◌, true, length, arith}
use Rattle.pmr_tree.proofs.Entries.{each_at}
use Rattle.pmr_tree.proofs.Unions.{join_step}
use Rattle.pmr_tree.proofs.union.join.Goals as goal

pub ids-preserved : goal.ids-preserved
ids-preserved c =
    let here = c.ids.invariant in
    let lt : c.ids.i - 1 < length c.args.more.now = omega (arith, here.bound, c.ids-test.true) in
    let next : c.ids.i ≡ suc (c.ids.i - 1) = omega (arith, c.ids-test.true) in record {
      bound = omega (arith, here.bound);
      ids = join_step c.args.more.now (c.ids.i - 1) _ c.ids.i lt next _ _ _ here.ids c.in_ok-add.ensures.ids;
      values = λ test a w. c.in_ok-add.ensures.values test (each_at (λ x. test x.id x.value ≡ true) c.args.more.now (c.ids.i - 1) _ lt a) (here.values test a w);
    }
