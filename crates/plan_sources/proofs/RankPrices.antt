-- What a call of a ranking as a source costs: the prices of its visits, as the model tells them.
use Rattle.std.proofs.Common.{◌≡◌, ℕ, ◌+◌, ◌≤◌, List, [], ◌∷◌, ◌++◌, map, Option, None, Some, IfSome, Result, Ok, Err, refl, sym, ap, ◌∙◌, arith}
use Rattle.std.specs.Prelude.{sum_by}
use Rattle.std.proofs.lemmas.List.Sums.{sum_by-cons}
use Rattle.sand_base.specs.declared.goal.Goal.{Goal}
use Rattle.sand_base.specs.declared.visit.Visit.{Visit}
use Rattle.z_code.specs.declared.block.Block.{Block}
use Rattle.page_pool.specs.Disk.{PageMap}
use Rattle.page_pool.specs.declared.fault.PageFault.{PageFault}
use Rattle.sand_model.specs.Database.{Database}
use Rattle.statements.specs.Plan as plan
use Rattle.statements.specs.Plan.{Plan}
use Rattle.statements.specs.declared.column.Column.{Column}
use Rattle.sand_model.specs.Price.{block_price}
use Rattle.sand_model.specs.Reach.{quadtree_of}
use Rattle.sand_model.specs.Taken.{Taken}
use Rattle.sand_model.specs.Tree.{Tree, Leaf, Inner}
use Rattle.sand_store.specs.declared.column.FileShapes.{FileShapes}
use Rattle.best_first.specs.Visits.{SearchState, MakesVisits}
use Rattle.best_first.specs.declared.hit.Hit.{Hit}
use Rattle.best_first.specs.declared.item.Item.{Item}
use Rattle.best_first.specs.declared.item.Item.TheVariants.{Node, Rough, Row}
use Rattle.rank_cursor.specs.Cursor.{visit_of}
use Rattle.rank_cursor.specs.declared.rank_tree.RankTree.{RankTree}
use Rattle.rank_cursor.specs.Ranking.{Ranking, place_at, listed_count, block_visit_price, rank_meaning}
use Rattle.plan_iterator.specs.Prices.{Heights, ids_of_place, rank_visit_price, visit_price as plan_price, unless_refused, Costs}
use Rattle.plan_iterator.specs.declared.answer.Answer.{Answer}
use Rattle.plan_sources.specs.Rankings.{Ranks, RanksColumn, by_code, ranking_of, heights_of, HasTaken}

-- a place lists what the model says
pub same_count : (o : Option Tree) → listed_count o ≡ ids_of_place o
same_count (Some (Leaf ids)) = refl
same_count (Some (Inner p q s t)) = refl
same_count None = refl

-- the price of a visit of a plan that ranks a column
by_plan : (h : Heights) (d : Database) (p : Plan) (column : Column) (goal : Goal) (ceiling : Option ℕ) → Ranks p column goal ceiling → (v : Visit)
    → plan_price h d p v ≡ rank_visit_price h (quadtree_of d column) v
by_plan h d (plan.Rank c s within) column goal ceiling k v = ap (λ (x : Column). rank_visit_price h (quadtree_of d x) v) k.0
by_plan h d (plan.Window c window) column goal ceiling k v = ap (λ (x : Column). rank_visit_price h (quadtree_of d x) v) k.0
by_plan h d (plan.Near c s within) column goal ceiling k v = absurd k
by_plan h d (plan.Scan name) column goal ceiling k v = absurd k
by_plan h d (plan.PickEqual c w) column goal ceiling k v = absurd k
by_plan h d (plan.PickBetween c low high) column goal ceiling k v = absurd k
by_plan h d (plan.Join c e within) column goal ceiling k v = absurd k
by_plan h d (plan.Semi c e within) column goal ceiling k v = absurd k
by_plan h d (plan.Knn n c e within) column goal ceiling k v = absurd k
by_plan h d (plan.Filter q tests) column goal ceiling k v = absurd k
by_plan h d (plan.Match q place c) column goal ceiling k v = absurd k
by_plan h d (plan.Fetch q places) column goal ceiling k v = absurd k
by_plan h d (plan.First count q) column goal ceiling k v = absurd k
by_plan h d (plan.SortBy q place) column goal ceiling k v = absurd k
by_plan h d (plan.SortNear q place s) column goal ceiling k v = absurd k

-- the heights that a ranking knows
abbrev pub KnowsHeights : Heights → Ranking → Type 0
KnowsHeights h r = (h.index ≡ r.height) × (h.rows + 1 ≡ r.fetch_price)

module _ (h : Heights) (r : Ranking) (knows : KnowsHeights h r) (number : ℕ) where
  -- an item costs no more than its visit
  item_price : (item : Item Block) → block_visit_price r item ≤ rank_visit_price h r.tree (visit_of number item)
  item_price (Node gap b) =
      let same : block_price r.height (listed_count (place_at r.tree b)) ≡ block_price h.index (ids_of_place (place_at r.tree b)) =
      ap (λ n. block_price r.height n) (same_count (place_at r.tree b)) ∙ ap (λ n. block_price n (ids_of_place (place_at r.tree b))) (sym knows.0) in
      omega (arith, same)
  item_price (Rough gap left right) = (let same = knows.1 in omega (arith, same))
  item_price (Row gap left right) = omega arith

  module _ (d : Database) (p : Plan) (ranks : RanksColumn r d p) where
    visit_is : (v : Visit) → plan_price h d p v ≡ rank_visit_price h r.tree v
    visit_is v = by_plan h d p ranks.column r.goal r.ceiling ranks.ranks v ∙ ap (λ (t : Tree). rank_visit_price h t v) ranks.tree

    -- items cost no more than their visits
    pub items_price : (items : List (Item Block)) → sum_by (block_visit_price r) items ≤ sum_by (plan_price h d p) (map (visit_of number) items)
    items_price [] = omega arith
    items_price (item ∷ items) =
        let one = item_price item in
        let is = visit_is (visit_of number item) in
        let rest = items_price items in
        let mine = sum_by-cons (block_visit_price r) item items in
        let theirs = sum_by-cons (plan_price h d p) (visit_of number item) (map (visit_of number) items) in
        omega (arith, one, is, rest, mine, theirs)

-- the call of the source, by that of the search
search_costs : (number : ℕ) (h : Heights) (r : Ranking) → KnowsHeights h r → (d : Database) (p : Plan) (t : Taken) (old new : SearchState Block) (result : Result (Option Hit) PageFault)
    (answer : Result (Option Answer) PageFault) → HasTaken by_code r old.held old.last old.counts d p t → MakesVisits by_code (rank_meaning r) (visit_of number) old new result
    → Costs h 0 0 0 d p old.desk new.desk answer
search_costs number h r knows d p t old new result answer k makes =
    let call = makes k.done k.stands in
    let noted = call.makes.noted in
    let items = call.makes.taken ++ call.attempt in
    let most = noted.most in
    let price = items_price h r knows number d p k.ranks items in
    let nothing = none_left answer in
    record {
      noted = map (visit_of number) items;
      log = noted.log;
      most = omega (arith, most, price, nothing);
    }
  where
    none_left : (answer : Result (Option Answer) PageFault) → unless_refused answer 0 ≡ 0
    none_left (Ok a) = refl
    none_left (Err fault) = refl

-- over whatever pages the disk tells, by a search that has its ceiling
pub costs_over : (number : ℕ) (pages : Option PageMap) (ceiled : Type 0) (tree : RankTree FileShapes) (old new : SearchState Block)
    (result : Result (Option Hit) PageFault) (answer : Result (Option Answer) PageFault)
    → IfSome pages (λ m. MakesVisits by_code (rank_meaning (ranking_of tree m)) (visit_of number) old new result)
    → IfSome pages (λ m. (d : Database) (p : Plan) (t : Taken) → ceiled × HasTaken by_code (ranking_of tree m) old.held old.last old.counts d p t
    → Costs (heights_of tree) 0 0 0 d p old.desk new.desk answer)
costs_over number None ceiled tree old new result answer makes = tt
costs_over number (Some m) ceiled tree old new result answer makes =
    λ d p t k. search_costs number (heights_of tree) (ranking_of tree m) (refl, refl) d p t old new result answer k.1 makes
