use Rattle.std.proofs.Common.{◌≡◌, ℕ, Bool, map, drop}
use Rattle.std.specs.Prelude.{None}
use Rattle.pmr_tree.specs.Lists.{take_all}
use Rattle.pmr_tree.specs.Keys.{key_of}
use Rattle.pmr_tree.specs.Leaves.{firsts, ids_of, Passes}
use Rattle.pmr_tree.proofs.fill.take_ids.Given as goal

abbrev pub invariant-loop-kept : goal.invariant-loop-kept
invariant-loop-kept g l = record {
  leads : g.S.Ground.Leads l.fn.ground l.fn.pages l.ground l.pages None;
  keys : g.S.Ground.IsKnown l.fn.ground l.fn.pages → take_all (map (key_of l.block) (ids_of (drop l.kept-index l.list))) (firsts (g.S.Ground.pairs l.ground l.pages))
      ≡ take_all (map (key_of l.block) (ids_of l.list)) (firsts (g.S.Ground.pairs l.fn.ground l.fn.pages));
  values : g.S.Ground.IsKnown l.fn.ground l.fn.pages → (test : ℕ → ℕ → Bool) → Passes test (g.S.Ground.pairs l.fn.ground l.fn.pages) → Passes test (g.S.Ground.pairs l.ground l.pages);
}
