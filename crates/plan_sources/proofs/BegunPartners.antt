-- A join of k partners of which nothing was taken: it stands over all pages where both relations do.
use Rattle.std.proofs.Common.{◌≡◌, ℕ, ◌*◌, ◌≤◌, min, true, List, [], map, length, All, Contains, sym, ap, ap₂, ◌∙◌, subst, subst₂, arith, Option, None}
use Rattle.std.proofs.lemmas.List.{length-map}
use Rattle.sand_base.specs.declared.shape.Shape.{Shape}
use Rattle.z_code.specs.declared.block.Block.{Block}
use Rattle.page_pool.specs.Disk.{PageMap}
use Rattle.statements.specs.Plan as plan
use Rattle.sand_model.specs.Sources.{Found, nearest_of}
use Rattle.sand_model.specs.Reach.{Nothing}
use Rattle.sand_store.specs.Catalog.{IsColumnAt}
use Rattle.sand_store.specs.Contents.{rows_in}
use Rattle.best_first.specs.Frontier.{Stands, StandsOver}
use Rattle.best_first.specs.Hierarchy.{MeetsLaws}
use Rattle.best_first.specs.Visits.{IsCounted}
use Rattle.best_first.specs.declared.counts.Counts.{Counts}
use Rattle.best_first.specs.declared.hit.Hit.{Hit}
use Rattle.best_first.specs.declared.item.Item.{Item}
use Rattle.rank_cursor.proofs.Elements.{in_map}
use Rattle.knn_join.specs.Listed.{partners_left}
use Rattle.knn_join.specs.PartnerCounts.{PartnerCounts}
use Rattle.knn_join.specs.Standing.{HasSides, KnnStands}
use Rattle.semi_join.specs.FirstPairs.{HasLefts}
use Rattle.dist_join.specs.Joining.{Joining, IsSoundJoin, join_meaning}
use Rattle.dist_join.proofs.CountedPairs.{nothing_counted}
use Rattle.dist_join.proofs.JoinLaws.{join_laws, row_is}
use Rattle.dist_join.proofs.JoinedRows.{has_lefts}
use Rattle.plan_iterator.specs.Rows.{plan_measure}
use Rattle.plan_sources.specs.Joins.{JoinedColumns, JoinView, join_view, joining_in, pairs_in, HasTakenPartners, BeginsPartners}
use Rattle.plan_sources.proofs.BegunFirsts.{HasRowCount, HasIdsUpTo, SearchParts}
use Rattle.plan_sources.proofs.BegunPairs.{left_side, right_side, is_sound, searched}
use Rattle.plan_sources.proofs.LeftShapes.{shapes_long, shapes_small}
use Rattle.plan_sources.proofs.PairOrder.{pair_cmp}
use Rattle.plan_sources.proofs.PairPlans.{knn_told}

-- the two sides of a join, as a join of k partners asks for them
has_sides : (j : Joining) → IsSoundJoin j → (greatest : ℕ) → All (λ (row : ℕ × Shape). row.0 ≤ greatest) j.left.shapes
    → HasSides (join_meaning j) (length j.left.shapes) (length j.right.shapes) greatest
has_sides j sound greatest small =
    let lefts : HasLefts (join_meaning j) (length j.left.shapes) greatest = has_lefts j sound greatest small in
    record {
      left_ids = lefts.ids;
      left_count = lefts.count;
      small = lefts.small;
      on_left = lefts.among;
      right_ids = map (λ (row : ℕ × Shape). row.0) j.right.shapes;
      right_count = length-map j.right.shapes (λ (row : ℕ × Shape). row.0);
      on_right = λ hit at.
          let (row, other, among, too, is) = row_is j sound hit at in
          subst (Contains (map (λ (row : ℕ × Shape). row.0) j.right.shapes)) (ap (λ (h : Hit). h.right) is) (in_map (λ (row : ℕ × Shape). row.0) j.right.shapes other too);
    }

-- where the source keeps a search of which nothing was taken
begun_alone : (k : ℕ) (wanted : JoinedColumns) (kept : JoinView) → kept ≡ join_view wanted → (held : List (Item (Block × Block))) (last : Option Hit) (counts : Counts) → last ≡ None
    → IsCounted {N = Block × Block} [] counts
    → ((m : PageMap) → MeetsLaws (join_meaning (joining_in (join_view wanted) m)) → Stands pair_cmp (join_meaning (joining_in (join_view wanted) m)) held last [])
    → (partners : PartnerCounts) (lefts rights greatest : ℕ) → partners.most ≡ k → partners.waiting ≡ lefts * min k rights
    → ((answer : List Found) → partners_left last partners answer ≡ nearest_of k answer)
    → HasRowCount wanted.left.relation lefts → HasRowCount wanted.right.relation rights → HasIdsUpTo wanted.left.relation greatest
    → ((m : PageMap) → StandsOver pair_cmp (join_meaning (joining_in kept m)) held last → HasSides (join_meaning (joining_in kept m)) lefts rights greatest
    → KnnStands pair_cmp (join_meaning (joining_in kept m)) held last partners)
    → BeginsPartners k (λ m d p t. HasTakenPartners pair_cmp (joining_in kept m) held last counts partners d p t) wanted
begun_alone k wanted kept same held last counts none counted stands partners lefts rights greatest most all rest lefts_rows rights_rows bounds_ids knn =
    subst (λ (x : JoinView). ((m : PageMap) → StandsOver pair_cmp (join_meaning (joining_in x m)) held last → HasSides (join_meaning (joining_in x m)) lefts rights greatest
    → KnnStands pair_cmp (join_meaning (joining_in x m)) held last partners) → BeginsPartners k (λ m d p t.
    HasTakenPartners pair_cmp (joining_in x m) held last counts partners d p t) wanted) (sym same)
    (λ standing trees column other m d left right of.
    let j = joining_in (join_view wanted) m in
    let sound = is_sound wanted trees m d left right of in
    let found = searched wanted trees m d left right of held last counts counted (stands m) in
    let side = left_side wanted trees m d left right of in
    let side_too = right_side wanted trees m d left right of in
    let rows = rows_in m wanted.left.relation in
    let long : length j.left.shapes ≡ lefts = shapes_long wanted.left.relation.schema wanted.left.at column rows of.left_stands.table.rows ∙ sym (lefts_rows m of.limits of.left_stands) in
    let long_too : length j.right.shapes ≡ rights = shapes_long wanted.right.relation.schema wanted.right.at other (rows_in m wanted.right.relation) of.right_stands.table.rows
    ∙ sym (rights_rows m of.limits of.right_stands) in
    let small = shapes_small wanted.left.at greatest rows (bounds_ids m of.limits of.left_stands) in
    let sides = subst₂ (λ a b. HasSides (join_meaning j) a b greatest) long long_too (has_sides j sound greatest small) in
    let upto = (standing m (join_laws j sound, (found.done, found.stands)) sides).1 in
    let nothing = nothing_counted plan_measure j.left j.right in
    let total : partners.waiting ≡ length j.left.shapes * min partners.most (length j.right.shapes) =
    all ∙ sym (ap₂ (λ a b. a * min k b) long long_too) ∙ ap (λ n. length j.left.shapes * min n (length j.right.shapes)) (sym most) in
    record {
      left = left;
      right = right;
      is = ap (λ n. plan.Knn n left right wanted.ceiling) (sym most);
      left_side = side;
      right_side = side_too;
      searched = found;
      given = upto;
      rows = rest (pairs_in j) ∙ ap (λ n. nearest_of n (pairs_in j)) (sym most);
      few = omega arith;
      waiting = omega (arith, total);
      spent = λ e.
          (λ i. record { blocks = 0; pairs = (counted.0 ∙ nothing.pairs) i; geometries = (counted.1 ∙ nothing.geometries) i }) ∙ sym ((knn_told k j d left right side side_too).counts Nothing);
    })
    knn

-- the source that keeps the search that was made has taken nothing, over all pages
pub begun_over : (k : ℕ) (wanted : JoinedColumns) (made kept : SearchParts) → kept ≡ made → made.view ≡ join_view wanted → made.last ≡ None → IsCounted {N = Block × Block} [] made.counts
    → ((m : PageMap) → MeetsLaws (join_meaning (joining_in (join_view wanted) m)) → Stands pair_cmp (join_meaning (joining_in (join_view wanted) m)) made.held made.last [])
    → (partners : PartnerCounts) (lefts rights greatest : ℕ) → partners.most ≡ k → partners.waiting ≡ lefts * min k rights
    → ((answer : List Found) → partners_left kept.last partners answer ≡ nearest_of k answer)
    → HasRowCount wanted.left.relation lefts → HasRowCount wanted.right.relation rights → HasIdsUpTo wanted.left.relation greatest
    → ((m : PageMap) → StandsOver pair_cmp (join_meaning (joining_in made.view m)) made.held made.last → HasSides (join_meaning (joining_in made.view m)) lefts rights greatest
    → KnnStands pair_cmp (join_meaning (joining_in made.view m)) kept.held kept.last partners)
    → BeginsPartners k (λ m d p t. HasTakenPartners pair_cmp (joining_in kept.view m) kept.held kept.last kept.counts partners d p t) wanted
begun_over k wanted made kept same is none counted stands partners lefts rights greatest most all rest lefts_rows rights_rows bounds_ids knn =
    subst (λ (x : SearchParts). ((answer : List Found) → partners_left x.last partners answer ≡ nearest_of k answer)
    → ((m : PageMap) → StandsOver pair_cmp (join_meaning (joining_in made.view m)) made.held made.last → HasSides (join_meaning (joining_in made.view m)) lefts rights greatest
    → KnnStands pair_cmp (join_meaning (joining_in made.view m)) x.held x.last partners)
    → BeginsPartners k (λ m d p t. HasTakenPartners pair_cmp (joining_in x.view m) x.held x.last x.counts partners d p t) wanted) (sym same)
    (λ left standing. begun_alone k wanted made.view is made.held made.last made.counts none counted stands partners lefts rights greatest most all left lefts_rows rights_rows bounds_ids standing)
    rest knn
