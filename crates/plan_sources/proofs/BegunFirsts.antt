-- A semi-join of which nothing was taken: it stands over all pages where both relations do.
use Rattle.std.proofs.Common.{◌≡◌, ℕ, ◌≤◌, true, not, List, [], length, All, refl, sym, ap, ◌∙◌, subst, arith, Option, None}
use Rattle.std.specs.FinSet as set
use Rattle.sand_base.specs.declared.limits.Limits.{Limits}
use Rattle.z_code.specs.declared.block.Block.{Block}
use Rattle.page_pool.specs.Disk.{PageMap}
use Rattle.sand_model.specs.Sources.{Found, first_of_each}
use Rattle.sand_model.specs.Reach.{Nothing}
use Rattle.sand_store.specs.Catalog.{RelationView}
use Rattle.sand_store.specs.Contents.{rows_in}
use Rattle.sand_store.specs.Standing.{RelationStands}
use Rattle.best_first.specs.Frontier.{Stands, StandsOver}
use Rattle.best_first.specs.Hierarchy.{MeetsLaws}
use Rattle.best_first.specs.Visits.{IsCounted}
use Rattle.best_first.specs.declared.counts.Counts.{Counts}
use Rattle.best_first.specs.declared.hit.Hit.{Hit}
use Rattle.best_first.specs.declared.item.Item.{Item}
use Rattle.best_first.proofs.Bags.{All-by, filter_all}
use Rattle.semi_join.specs.FirstPairs.{HasLefts, SemiStands}
use Rattle.semi_join.specs.LeftRows.{LeftRows, IdSet}
use Rattle.semi_join.specs.Listed.{pairs_left}
use Rattle.dist_join.specs.Joining.{join_meaning}
use Rattle.dist_join.proofs.CountedPairs.{nothing_counted}
use Rattle.dist_join.proofs.JoinLaws.{join_laws}
use Rattle.dist_join.proofs.JoinedRows.{has_lefts}
use Rattle.plan_iterator.specs.Rows.{plan_measure}
use Rattle.plan_sources.specs.Joins.{JoinedColumns, JoinView, join_view, joining_in, pairs_in, HasTakenFirsts, BeginsFirsts}
use Rattle.plan_sources.proofs.BegunPairs.{left_side, right_side, is_sound, searched}
use Rattle.plan_sources.proofs.LeftShapes.{shapes_long, shapes_small}
use Rattle.plan_sources.proofs.PairOrder.{pair_cmp}
use Rattle.plan_sources.proofs.PairPlans.{semi_told}

-- of no left row was the first pair given
none_given : (given : IdSet) → given ≡ set.empty → (answer : List Found) → pairs_left given answer ≡ first_of_each answer
none_given given empty answer =
    filter_all (λ (found : Found). not (set.contains given found.left)) (first_of_each answer)
    (All-by (λ (found : Found). not (set.contains given found.left) ≡ true) (first_of_each answer) (λ found at.
    ap (λ (s : IdSet). not (set.contains s found.left)) empty ∙ ap not (set.contains-empty Rattle.std.specs.Ordering.nat_cmp found.left)))

-- the relation has so many rows wherever it stands, and no greater id than this

abbrev pub HasRowCount : RelationView → ℕ → Type 0
HasRowCount r count = (pages : PageMap) (limits : Limits) → RelationStands pages limits r → count ≡ length (rows_in pages r)

abbrev pub HasIdsUpTo : RelationView → ℕ → Type 0
HasIdsUpTo r greatest = (pages : PageMap) (limits : Limits) → RelationStands pages limits r → All (λ row. row.0 ≤ greatest) (rows_in pages r)

-- where the source keeps a search of which nothing was taken
begun_alone : (wanted : JoinedColumns) (kept : JoinView) → kept ≡ join_view wanted → (held : List (Item (Block × Block))) (last : Option Hit) (counts : Counts) → last ≡ None
    → IsCounted {N = Block × Block} [] counts
    → ((m : PageMap) → MeetsLaws (join_meaning (joining_in (join_view wanted) m)) → Stands pair_cmp (join_meaning (joining_in (join_view wanted) m)) held last [])
    → (lefts : LeftRows) (count greatest : ℕ) → lefts.given ≡ set.empty → lefts.waiting ≡ count → HasRowCount wanted.left.relation count → HasIdsUpTo wanted.left.relation greatest
    → ((m : PageMap) → StandsOver pair_cmp (join_meaning (joining_in kept m)) held last → HasLefts (join_meaning (joining_in kept m)) count greatest
    → SemiStands pair_cmp (join_meaning (joining_in kept m)) held lefts)
    → BeginsFirsts (λ m d p t. HasTakenFirsts pair_cmp (joining_in kept m) held counts lefts d p t) wanted
begun_alone wanted kept same held last counts none counted stands lefts count greatest empty all counts_rows bounds_ids semi =
    subst (λ (x : JoinView). ((m : PageMap) → StandsOver pair_cmp (join_meaning (joining_in x m)) held last → HasLefts (join_meaning (joining_in x m)) count greatest
    → SemiStands pair_cmp (join_meaning (joining_in x m)) held lefts) → BeginsFirsts (λ m d p t. HasTakenFirsts pair_cmp (joining_in x m) held counts lefts d p t) wanted) (sym same)
    (λ standing trees column m d left right of.
    let j = joining_in (join_view wanted) m in
    let sound = is_sound wanted trees m d left right of in
    let found = searched wanted trees m d left right of held last counts counted (stands m) in
    let side = left_side wanted trees m d left right of in
    let side_too = right_side wanted trees m d left right of in
    let rows = rows_in m wanted.left.relation in
    let long : length j.left.shapes ≡ count = shapes_long wanted.left.relation.schema wanted.left.at column rows of.left_stands.table.rows ∙ sym (counts_rows m of.limits of.left_stands) in
    let small = shapes_small wanted.left.at greatest rows (bounds_ids m of.limits of.left_stands) in
    let with_lefts = subst (λ n. HasLefts (join_meaning j) n greatest) long (has_lefts j sound greatest small) in
    let semi_stands = standing m (join_laws j sound, (found.done, found.stands)) with_lefts in
    let at_first : Stands pair_cmp (join_meaning j) held None found.done = subst (λ l. Stands pair_cmp (join_meaning j) held l found.done) none found.stands in
    let nothing = nothing_counted plan_measure j.left j.right in
    record {
      left = left;
      right = right;
      is = refl;
      left_side = side;
      right_side = side_too;
      searched = record {
        sound = found.sound;
        done = found.done;
        stands = record { sound = at_first.covers.sound; whole = λ hit answer _. at_first.covers.whole hit answer tt; tracks = at_first.tracks };
        counted = found.counted;
      };
      given = semi_stands.1;
      rows = none_given lefts.given empty (pairs_in j);
      few = omega arith;
      waiting = omega (arith, all, long);
      spent = λ e.
          (λ i. record { blocks = 0; pairs = (counted.0 ∙ nothing.pairs) i; geometries = (counted.1 ∙ nothing.geometries) i }) ∙ sym ((semi_told j d left right side side_too).counts Nothing);
    })
    semi

-- what a search over a join is of, and where it stands
pub record SearchParts : Type 0 where
  pub view : JoinView
  pub held : List (Item (Block × Block))
  pub last : Option Hit
  pub counts : Counts

-- the source that keeps the search that was made has taken nothing, over all pages
pub begun_over : (wanted : JoinedColumns) (made kept : SearchParts) → kept ≡ made → made.view ≡ join_view wanted → made.last ≡ None → IsCounted {N = Block × Block} [] made.counts
    → ((m : PageMap) → MeetsLaws (join_meaning (joining_in (join_view wanted) m)) → Stands pair_cmp (join_meaning (joining_in (join_view wanted) m)) made.held made.last [])
    → (lefts : LeftRows) (count greatest : ℕ) → lefts.given ≡ set.empty → lefts.waiting ≡ count → HasRowCount wanted.left.relation count → HasIdsUpTo wanted.left.relation greatest
    → ((m : PageMap) → StandsOver pair_cmp (join_meaning (joining_in made.view m)) made.held made.last → HasLefts (join_meaning (joining_in made.view m)) count greatest
    → SemiStands pair_cmp (join_meaning (joining_in made.view m)) kept.held lefts)
    → BeginsFirsts (λ m d p t. HasTakenFirsts pair_cmp (joining_in kept.view m) kept.held kept.counts lefts d p t) wanted
begun_over wanted made kept same is none counted stands lefts count greatest empty all counts_rows bounds_ids semi =
    subst (λ (x : SearchParts). ((m : PageMap) → StandsOver pair_cmp (join_meaning (joining_in made.view m)) made.held made.last → HasLefts (join_meaning (joining_in made.view m)) count greatest
    → SemiStands pair_cmp (join_meaning (joining_in made.view m)) x.held lefts)
    → BeginsFirsts (λ m d p t. HasTakenFirsts pair_cmp (joining_in x.view m) x.held x.counts lefts d p t) wanted) (sym same)
    (λ standing. begun_alone wanted made.view is made.held made.last made.counts none counted stands lefts count greatest empty all counts_rows bounds_ids standing)
    semi
