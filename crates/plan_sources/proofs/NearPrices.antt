-- What a call of a ranking by an R-tree costs: the prices of its visits, as the model tells them.
use Rattle.std.proofs.Common.{◌≡◌, ℕ, ◌≤◌, List, [], ◌∷◌, ◌++◌, map, Option, None, Some, IfSome, Result, Ok, Err, refl, ap, arith}
use Rattle.std.specs.Prelude.{sum_by}
use Rattle.std.proofs.lemmas.List.Sums.{sum_by-cons}
use Rattle.sand_base.specs.declared.visit.Visit.{Visit}
use Rattle.page_pool.specs.Disk.{PageMap}
use Rattle.page_pool.specs.declared.fault.PageFault.{PageFault}
use Rattle.sand_model.specs.Database.{Database}
use Rattle.statements.specs.Plan.{Plan}
use Rattle.sand_model.specs.Taken.{Taken}
use Rattle.sand_store.specs.declared.column.FileShapes.{FileShapes}
use Rattle.best_first.specs.Visits.{SearchState, MakesVisits}
use Rattle.best_first.specs.declared.hit.Hit.{Hit}
use Rattle.best_first.specs.declared.item.Item.{Item}
use Rattle.best_first.specs.declared.item.Item.TheVariants.{Node, Rough, Row}
use Rattle.near_cursor.specs.declared.near_tree.NearTree.{NearTree}
use Rattle.near_cursor.specs.NearRanking.{near_price, near_visit}
use Rattle.near_cursor.specs.TreeNodes.{PageNode}
use Rattle.plan_iterator.specs.Prices.{near_visit_price, visit_price, unless_refused, Costs}
use Rattle.plan_iterator.specs.declared.answer.Answer.{Answer}
use Rattle.plan_sources.specs.NearPlans.{fetch_of, nearing, near_heights, by_page, HasTakenNear}

module _ (tree : NearTree FileShapes) (number : ℕ) where
  -- an item costs no more than its visit
  item_price : (item : Item PageNode) → near_price (fetch_of tree) item ≤ near_visit_price (near_heights tree) (near_visit number item)
  item_price (Node gap n) = omega arith
  item_price (Rough gap left right) = omega arith
  item_price (Row gap left right) = omega arith

  module _ (d : Database) (p : Plan) (visit_is : (v : Visit) → visit_price (near_heights tree) d p v ≡ near_visit_price (near_heights tree) v) where
    -- items cost no more than their visits
    items_price : (items : List (Item PageNode)) → sum_by (near_price (fetch_of tree)) items ≤ sum_by (visit_price (near_heights tree) d p) (map (near_visit number) items)
    items_price [] = omega arith
    items_price (item ∷ items) =
        let one = item_price item in
        let is = visit_is (near_visit number item) in
        let rest = items_price items in
        let mine = sum_by-cons (near_price (fetch_of tree)) item items in
        let theirs = sum_by-cons (visit_price (near_heights tree) d p) (near_visit number item) (map (near_visit number) items) in
        omega (arith, one, is, rest, mine, theirs)

-- the call of the source, by that of the search
search_costs : (number : ℕ) (tree : NearTree FileShapes) (pages : PageMap) (d : Database) (p : Plan) (t : Taken) (old new : SearchState PageNode) (result : Result (Option Hit) PageFault)
    (answer : Result (Option Answer) PageFault) → HasTakenNear tree pages old.held old.last old.counts d p t → MakesVisits by_page (nearing tree pages) (near_visit number) old new result
    → Costs (near_heights tree) 0 0 0 d p old.desk new.desk answer
search_costs number tree pages d p t old new result answer k makes =
    let call = makes k.done k.stands in
    let noted = call.makes.noted in
    let items = call.makes.taken ++ call.attempt in
    let most = noted.most in
    let price = items_price tree number d p (λ v. ap (λ (q : Plan). visit_price (near_heights tree) d q v) k.is) items in
    let nothing = none_left answer in
    record {
      noted = map (near_visit number) items;
      log = noted.log;
      most = omega (arith, most, price, nothing);
    }
  where
    none_left : (answer : Result (Option Answer) PageFault) → unless_refused answer 0 ≡ 0
    none_left (Ok a) = refl
    none_left (Err fault) = refl

-- over whatever pages the disk tells
pub costs_over : (number : ℕ) (pages : Option PageMap) (tree : NearTree FileShapes) (old new : SearchState PageNode) (result : Result (Option Hit) PageFault)
    (answer : Result (Option Answer) PageFault)
    → IfSome pages (λ m. MakesVisits by_page (nearing tree m) (near_visit number) old new result)
    → IfSome pages (λ m. (d : Database) (p : Plan) (t : Taken) → HasTakenNear tree m old.held old.last old.counts d p t → Costs (near_heights tree) 0 0 0 d p old.desk new.desk answer)
costs_over number None tree old new result answer makes = tt
costs_over number (Some m) tree old new result answer makes = λ d p t k. search_costs number tree m d p t old new result answer k makes
