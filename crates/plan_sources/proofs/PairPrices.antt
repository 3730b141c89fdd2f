-- What a call of a join or a semi-join as a source costs: the prices of its visits, as the model tells them.
use Rattle.std.proofs.Common.{◌≡◌, ⊎_elim, ℕ, ◌+◌, ◌≤◌, ◌<◌, List, [], ◌∷◌, ◌++◌, map, Option, None, Some, IfSome, Result, Ok, Err, refl, sym, ap, ap₂, subst, arith, append-nil}
use Rattle.std.specs.Prelude.{sum_by}
use Rattle.std.proofs.lemmas.List.Sums.{sum_by-cons}
use Rattle.sand_base.specs.declared.visit.Visit.{Visit}
use Rattle.z_code.specs.declared.block.Block.{Block}
use Rattle.page_pool.specs.Desk.{DeskState}
use Rattle.page_pool.specs.Disk.{PageMap}
use Rattle.page_pool.specs.declared.fault.PageFault.{PageFault}
use Rattle.sand_model.specs.Database.{Database}
use Rattle.statements.specs.Plan as plan
use Rattle.statements.specs.Plan.{Plan}
use Rattle.statements.specs.declared.column.Column.{Column}
use Rattle.sand_model.specs.Price.{block_price}
use Rattle.sand_model.specs.Reach.{quadtree_of}
use Rattle.sand_model.specs.Taken.{Taken}
use Rattle.sand_model.specs.Tree.{Tree}
use Rattle.best_first.specs.Visits.{SearchState, MakesVisits, Noted}
use Rattle.best_first.specs.declared.hit.Hit.{Hit}
use Rattle.best_first.specs.declared.item.Item.{Item}
use Rattle.best_first.specs.declared.item.Item.TheVariants.{Node, Rough, Row}
use Rattle.rank_cursor.specs.Ranking.{place_at}
use Rattle.semi_join.specs.LeftRows.{LeftRows}
use Rattle.semi_join.specs.Visits.{MakesPairVisits}
use Rattle.knn_join.specs.PartnerCounts.{PartnerCounts}
use Rattle.knn_join.specs.Visits.{MakesPartnerVisits}
use Rattle.dist_join.specs.Joining.{Joining, pair_visit_price, join_meaning}
use Rattle.dist_join.specs.OverPages.{pair_visit_of}
use Rattle.plan_iterator.specs.Prices.{Heights, join_visit_price, visit_price as plan_price, unless_refused, Costs}
use Rattle.plan_iterator.specs.declared.answer.Answer.{Answer}
use Rattle.plan_sources.proofs.RankPrices.{same_count}
use Rattle.plan_sources.specs.Joins.{JoinView, joining_in, heights_of, IsSideOf, HasTakenPairs, HasTakenFirsts, HasTakenPartners}
use Rattle.plan_sources.proofs.PairOrder.{pair_cmp}
use Rattle.plan_sources.proofs.SemiOverPages.{some_or_none}

module _ (v : JoinView) (m : PageMap) (one other : ℕ) where
  abbrev h : Heights
  h = heights_of v

  abbrev j : Joining
  j = joining_in v m

  -- an item costs no more than its visit
  item_price : (item : Item (Block × Block)) → pair_visit_price j item ≤ join_visit_price h j.left.tree j.right.tree (pair_visit_of one other item)
  item_price (Node gap pair) =
      let left = ap (λ n. block_price j.left.height n) (same_count (place_at j.left.tree pair.0)) in
      let right = ap (λ n. block_price j.right.height n) (same_count (place_at j.right.tree pair.1)) in
      omega (arith, left, right)
  item_price (Rough gap left right) = omega arith
  item_price (Row gap left right) = omega arith

  -- the plan has the quadtrees of both columns
  abbrev Pays : Database → Plan → Type 0
  Pays d p = (v : Visit) → plan_price h d p v ≡ join_visit_price h j.left.tree j.right.tree v

  module _ (d : Database) (p : Plan) (pays : Pays d p) where
    items_price : (items : List (Item (Block × Block))) → sum_by (pair_visit_price j) items ≤ sum_by (plan_price h d p) (map (pair_visit_of one other) items)
    items_price [] = omega arith
    items_price (item ∷ items) =
        let cost = item_price item in
        let is = pays (pair_visit_of one other item) in
        let rest = items_price items in
        let mine = sum_by-cons (pair_visit_price j) item items in
        let theirs = sum_by-cons (plan_price h d p) (pair_visit_of one other item) (map (pair_visit_of one other) items) in
        omega (arith, cost, is, rest, mine, theirs)

    -- the call of the source, by that of the search
    search_costs : (items : List (Item (Block × Block))) (old new : DeskState) (answer : Result (Option Answer) PageFault)
        → Noted (pair_visit_of one other) (pair_visit_price j) items old new → Costs h 0 0 0 d p old new answer
    search_costs items old new answer paid =
        let most = paid.most in
        let price = items_price items in
        let nothing = none_left answer in
        record {
          noted = map (pair_visit_of one other) items;
          log = paid.log;
          most = omega (arith, most, price, nothing);
        }
      where
        none_left : (answer : Result (Option Answer) PageFault) → unless_refused answer 0 ≡ 0
        none_left (Ok a) = refl
        none_left (Err fault) = refl

    -- the search was not asked
    still : (desk : DeskState) (answer : Result (Option Answer) PageFault) → Costs h 0 0 0 d p desk desk answer
    still desk answer = record { noted = []; log = sym (append-nil desk.visits); most = none answer }
      where
        none : (answer : Result (Option Answer) PageFault) → desk.pool.gets + unless_refused answer 0 ≤ desk.pool.gets + 0 + 0 + 0
        none (Ok a) = omega arith
        none (Err fault) = omega arith

  -- joins and semi-joins have them

  by_columns : (d : Database) (left right : Column) → IsSideOf j.left d left → IsSideOf j.right d right → (v : Visit)
      → join_visit_price h (quadtree_of d left) (quadtree_of d right) v ≡ join_visit_price h j.left.tree j.right.tree v
  by_columns d left right side side_too v = ap₂ (λ (t u : Tree). join_visit_price h t u v) side.tree side_too.tree

  join_pays : (d : Database) (p : Plan) (left right : Column) → p ≡ plan.Join left right v.ceiling → IsSideOf j.left d left → IsSideOf j.right d right → Pays d p
  join_pays d p left right is side side_too = subst (Pays d) (sym is) (by_columns d left right side side_too)

  semi_pays : (d : Database) (p : Plan) (left right : Column) → p ≡ plan.Semi left right v.ceiling → IsSideOf j.left d left → IsSideOf j.right d right → Pays d p
  semi_pays d p left right is side side_too = subst (Pays d) (sym is) (by_columns d left right side side_too)

  knn_pays : (d : Database) (p : Plan) (k : ℕ) (left right : Column) → p ≡ plan.Knn k left right v.ceiling → IsSideOf j.left d left → IsSideOf j.right d right → Pays d p
  knn_pays d p k left right is side side_too = subst (Pays d) (sym is) (by_columns d left right side side_too)

-- ---- over whatever pages the disk tells

-- what a call of a join costs
abbrev pub JoinCosts : JoinView → SearchState (Block × Block) → SearchState (Block × Block) → Result (Option Answer) PageFault → PageMap → Type 0
JoinCosts v old new answer m =
    (d : Database) (p : Plan) (t : Taken) → HasTakenPairs pair_cmp (joining_in v m) old.held old.last old.counts d p t → Costs (heights_of v) 0 0 0 d p old.desk new.desk answer

pub join_costs : (one other : ℕ) (pages : Option PageMap) (v : JoinView) (old new : SearchState (Block × Block)) (result : Result (Option Hit) PageFault) (answer : Result (Option Answer) PageFault)
    → IfSome pages (λ m. MakesVisits pair_cmp (join_meaning (joining_in v m)) (pair_visit_of one other) old new result) → IfSome pages (JoinCosts v old new answer)
join_costs one other None v old new result answer makes = tt
join_costs one other (Some m) v old new result answer makes = λ d p t k.
    let call = makes k.searched.done k.searched.stands in
    search_costs v m one other d p (join_pays v m one other d p k.left k.right k.is k.left_side k.right_side) (call.makes.taken ++ call.attempt) old.desk new.desk answer call.makes.noted

pub join_still : (pages : Option PageMap) (v : JoinView) (s : SearchState (Block × Block)) (answer : Result (Option Answer) PageFault) → IfSome pages (JoinCosts v s s answer)
join_still None v s answer = tt
join_still (Some m) v s answer = λ d p t k. still v m 0 0 d p (join_pays v m 0 0 d p k.left k.right k.is k.left_side k.right_side) s.desk answer

-- what a call of a semi-join costs
abbrev pub SemiCosts : JoinView → LeftRows → SearchState (Block × Block) → SearchState (Block × Block) → Result (Option Answer) PageFault → PageMap → Type 0
SemiCosts v lefts old new answer m =
    (d : Database) (p : Plan) (t : Taken) → HasTakenFirsts pair_cmp (joining_in v m) old.held old.counts lefts d p t → Costs (heights_of v) 0 0 0 d p old.desk new.desk answer

pub semi_still : (pages : Option PageMap) (v : JoinView) (lefts : LeftRows) (s : SearchState (Block × Block)) (answer : Result (Option Answer) PageFault) → IfSome pages (SemiCosts v lefts s s answer)
semi_still None v lefts s answer = tt
semi_still (Some m) v lefts s answer = λ d p t k. still v m 0 0 d p (semi_pays v m 0 0 d p k.left k.right k.is k.left_side k.right_side) s.desk answer

pub semi_costs : (one other : ℕ) (pages : Option PageMap) (v : JoinView) (lefts : LeftRows) (old new : SearchState (Block × Block))
    (result : Result (Option Hit) PageFault) (answer : Result (Option Answer) PageFault)
    → (0 < lefts.waiting → IfSome pages (λ m. MakesPairVisits pair_cmp (join_meaning (joining_in v m)) (pair_visit_of one other) lefts old new result)) → (lefts.waiting ≡ 0 → new ≡ old)
    → IfSome pages (SemiCosts v lefts old new answer)
semi_costs one other None v lefts old new result answer makes over = tt
semi_costs one other (Some m) v lefts old new result answer makes over = λ d p t k.
    let pays = semi_pays v m one other d p k.left k.right k.is k.left_side k.right_side in
    ⊎_elim (λ e. subst (λ (s : SearchState (Block × Block)). Costs (heights_of v) 0 0 0 d p old.desk s.desk answer) (sym (over e)) (still v m one other d p pays old.desk answer))
    (λ w.
    let call = makes w k.searched.done k.searched.stands in
    search_costs v m one other d p pays (call.makes.taken ++ call.attempt) old.desk new.desk answer call.makes.noted)
    (some_or_none lefts.waiting)

-- what a call of a join of k partners costs
abbrev pub KnnCosts : JoinView → PartnerCounts → SearchState (Block × Block) → SearchState (Block × Block) → Result (Option Answer) PageFault → PageMap → Type 0
KnnCosts v counts old new answer m =
    (d : Database) (p : Plan) (t : Taken) → HasTakenPartners pair_cmp (joining_in v m) old.held old.last old.counts counts d p t → Costs (heights_of v) 0 0 0 d p old.desk new.desk answer

pub knn_still : (pages : Option PageMap) (v : JoinView) (counts : PartnerCounts) (s : SearchState (Block × Block)) (answer : Result (Option Answer) PageFault)
    → IfSome pages (KnnCosts v counts s s answer)
knn_still None v counts s answer = tt
knn_still (Some m) v counts s answer = λ d p t k. still v m 0 0 d p (knn_pays v m 0 0 d p counts.most k.left k.right k.is k.left_side k.right_side) s.desk answer

pub knn_costs : (one other : ℕ) (pages : Option PageMap) (v : JoinView) (counts : PartnerCounts) (old new : SearchState (Block × Block))
    (result : Result (Option Hit) PageFault) (answer : Result (Option Answer) PageFault)
    → (0 < counts.waiting → IfSome pages (λ m. MakesPartnerVisits pair_cmp (join_meaning (joining_in v m)) (pair_visit_of one other) counts old new result)) → (counts.waiting ≡ 0 → new ≡ old)
    → IfSome pages (KnnCosts v counts old new answer)
knn_costs one other None v counts old new result answer makes over = tt
knn_costs one other (Some m) v counts old new result answer makes over = λ d p t k.
    let pays = knn_pays v m one other d p counts.most k.left k.right k.is k.left_side k.right_side in
    ⊎_elim (λ e. subst (λ (s : SearchState (Block × Block)). Costs (heights_of v) 0 0 0 d p old.desk s.desk answer) (sym (over e)) (still v m one other d p pays old.desk answer))
    (λ w.
    let call = makes w k.searched.done k.searched.stands in
    search_costs v m one other d p pays (call.makes.taken ++ call.attempt) old.desk new.desk answer call.makes.noted)
    (some_or_none counts.waiting)
