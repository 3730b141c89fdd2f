-- the members before this one are in their parts, and nothing was changed
use Rattle.std.proofs.Common.{◌≡◌, ℕ, Bool, take}
use Rattle.page_pool.specs.Causes.{failures_of}
use Rattle.page_pool.specs.Pool.{IsTold}
use Rattle.page_pool.specs.Reads.{IsRead}
use Rattle.z_code.specs.declared.block.Block.{Block}
use Rattle.pmr_build.specs.Members.{TellsRows, AreMembersIn}
use Rattle.pmr_build.specs.Parts.{PartsTake}
use Rattle.pmr_build.proofs.divide.divide.Given as goal

abbrev pub invariant-members : goal.invariant-members
invariant-members g l = record {
  read : IsRead (g.P.Pages.shown l.fn.pages) (g.P.Pages.shown l.pages);
  counted : failures_of (g.P.Pages.shown l.pages) ≡ failures_of (g.P.Pages.shown l.fn.pages);
  taken : IsTold (g.P.Pages.shown l.fn.pages) → (m : Block → ℕ → Bool) → TellsRows (g.S.ShapeOf.rows l.shapes (g.P.Pages.shown l.fn.pages).pages) m
      → AreMembersIn (g.S.ShapeOf.rows l.shapes (g.P.Pages.shown l.fn.pages).pages) m l.block l.list → PartsTake m l.block (take l.member-index l.list) l.fn.parts l.parts;
}
