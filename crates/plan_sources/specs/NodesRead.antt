-- Which nodes of its R-tree a search has read: none of them twice.
use Rattle.std.specs.Prelude.{◌≡◌, ℕ, ◌≤◌, List, [], ◌∷◌, ◌++◌, length, map, Option, Result, OnOk}
use Rattle.std.specs.List.{flat_map}
use Rattle.sand_base.specs.declared.visit.Visit.{Visit}
use Rattle.sand_base.specs.declared.visit.Visit.TheVariants as visit
use Rattle.page_pool.specs.Desk.{DeskState}
use Rattle.page_pool.specs.Disk.{PageMap}
use Rattle.page_pool.specs.declared.fault.PageFault.{PageFault}
use Rattle.code_btree.specs.Tree.{times}
use Rattle.sand_store.specs.declared.column.FileShapes.{FileShapes}
use Rattle.best_first.specs.Frontier.{Stands}
use Rattle.best_first.specs.Item.{nodes_of}
use Rattle.best_first.specs.declared.hit.Hit.{Hit}
use Rattle.best_first.specs.declared.item.Item.{Item}
use Rattle.near_cursor.specs.declared.near_tree.NearTree.{NearTree}
use Rattle.near_cursor.specs.TreeNodes.{PageNode}
use Rattle.plan_iterator.specs.declared.answer.Answer.{Answer}
use Rattle.plan_sources.specs.NearPlans.{nearing, by_page}

-- the page of the R-tree that a visit reads, if it is that of a node
abbrev pub page_read : Visit → List ℕ
page_read (visit.Tree number page) = page ∷ []
page_read _ = []

-- the pages of the R-tree that these visits read, in their order
abbrev pub pages_read : List Visit → List ℕ
pages_read visits = flat_map page_read visits

-- So far the search by an R-tree has read the nodes in these pages, in this order.
pub record HasReadNodes (tree : NearTree FileShapes) (pages : PageMap) (held : List (Item PageNode)) (last : Option Hit) (read : List ℕ) : Type 0 where
  pub done : List (Item PageNode)
  pub stands : Stands by_page (nearing tree pages) held last done
  pub are : map (λ node. node.0) (nodes_of done) ≡ read

-- A call completes its visits, none of a node that it or a call before it has read; only behind a refusal one visit more may be noted, which
-- isn't completed.
pub record ReadsNodesOnce (After : List ℕ → Type 0) (read : List ℕ) (old new : DeskState) (result : Result (Option Answer) PageFault) : Type 0 where
  pub completed : List Visit
  pub attempted : List Visit
  pub log : new.visits ≡ old.visits ++ (completed ++ attempted)
  pub settled : OnOk result (attempted ≡ [])
  pub few : length attempted ≤ 1
  pub once : (page : ℕ) → times page (read ++ pages_read completed) ≤ 1
  pub after : After (read ++ pages_read completed)
