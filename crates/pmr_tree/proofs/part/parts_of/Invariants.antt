use Rattle.std.proofs.Common.{◌≡◌, ℕ, Bool, take}
use Rattle.std.specs.Prelude.{None}
use Rattle.z_code.specs.declared.block.Block.{Block}
use Rattle.pmr_tree.specs.Leaves.{ListPasses, id_test}
use Rattle.pmr_tree.specs.Parts.{AreParts, PartsPass}
use Rattle.pmr_tree.proofs.part.parts_of.Given as goal

abbrev pub invariant-loop-kept : goal.invariant-loop-kept
invariant-loop-kept g l = record {
  leads : g.S.Ground.Leads l.ground l.fn.pages l.ground l.pages None;
  found : g.S.Ground.IsKnown l.ground l.fn.pages → (m : Block → ℕ → Bool) (has : ℕ → Bool) → g.S.Ground.Tells l.ground l.fn.pages m has → ListPasses (id_test has) l.list
      → AreParts m l.block (take l.kept-index l.list) l.parts;
  values : (test : ℕ → ℕ → Bool) → ListPasses test l.list → PartsPass test l.parts;
  same : g.S.Ground.IsKnown l.ground l.fn.pages → g.S.Ground.pairs l.ground l.pages ≡ g.S.Ground.pairs l.ground l.fn.pages;
}
