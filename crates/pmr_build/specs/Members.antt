-- The rows of a tree as a build takes them: ids with rough shapes.
use Rattle.std.specs.Prelude.{◌≡◌, ℕ, Bool, true, is_some, List, map, Some}
use Rattle.sand_base.specs.declared.rough.Rough.{Rough}
use Rattle.sand_base.specs.declared.shape.Shape.{Shape}
use Rattle.z_code.specs.declared.block.Block.{Block}
use Rattle.sand_model.specs.Database.{shape_at}
use Rattle.sand_model.specs.Roughs.{rough_figure, row_figure}
use Rattle.pmr_tree.specs.Changes.{Quarters}
use Rattle.pmr_tree.specs.Entries.{figure_of, value_of}
use Rattle.pmr_tree.specs.Keys.{IsId}
use Rattle.pmr_tree.specs.Lists.{Each, RiseStrictly}
use Rattle.pmr_tree.specs.Plot.{TellsOf}

-- an id with its rough shape
abbrev pub Member : Type 0
Member = ℕ × Rough

-- the ids alone
abbrev pub member_ids : List Member → List ℕ
member_ids list = map (λ i. i.0) list

-- rows under ids that rows may have, in ascending order
pub record AreRowsById (rows : List (ℕ × Shape)) : Type 0 where
  pub rise : RiseStrictly (map (λ row. row.0) rows)
  pub ids : Each IsId (map (λ row. row.0) rows)

-- members are the rows' ids with their rough shapes, in the rows' order
abbrev pub AreMembersOf : List Member → List (ℕ × Shape) → Type 0
AreMembersOf members rows = map (λ i. (i.0, figure_of i.1)) members ≡ map row_figure rows

-- the member is the id of a row with its rough shape
pub record IsMemberOf (rows : List (ℕ × Shape)) (i : Member) : Type 0 where
  pub is_id : IsId i.0
  pub shape : Shape
  pub at : shape_at rows i.0 ≡ Some shape
  pub rough : figure_of i.1 ≡ rough_figure shape

-- members of rows whose shapes meet the square of the block
abbrev pub AreMembersIn : List (ℕ × Shape) → (Block → ℕ → Bool) → Block → List Member → Type 0
AreMembersIn rows meets b list = Each (λ i. IsMemberOf rows i × (meets b i.0 ≡ true)) list

-- the function tells which squares the shapes of rows meet
pub record TellsRows (rows : List (ℕ × Shape)) (meets : Block → ℕ → Bool) : Type 0 where
  pub tells : TellsOf rows meets (λ id. is_some (shape_at rows id))
  pub quarters : Quarters meets

-- each member passes the test, which is of its id and the value that its entries have
abbrev pub MembersPass : (ℕ → ℕ → Bool) → List Member → Type 0
MembersPass test list = Each (λ i. test i.0 (value_of (figure_of i.1)) ≡ true) list
