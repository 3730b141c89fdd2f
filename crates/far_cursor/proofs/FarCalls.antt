-- A call of the search under keys, as one that gives rows by falling gap.
use Rattle.std.proofs.Common.{◌≡◌, ⊎_elim, ℕ, zero, suc, List, [], ◌∷◌, ◌++◌, map, length, Contains, Option, None, Some, Ok, Err, refl, sym, ap, ◌∙◌, subst, Ordering}
use Rattle.std.proofs.lemmas.List.Elements.{All-contains}
use Rattle.exact_frac.specs.declared.frac.Frac.{Frac}
use Rattle.sand_base.specs.declared.point.Point.{Point}
use Rattle.sand_base.specs.declared.shape.Shape.{Shape}
use Rattle.sand_base.specs.declared.visit.Visit.{Visit}
use Rattle.z_code.specs.Block.{square_of}
use Rattle.z_code.specs.declared.block.Block.{Block}
use Rattle.sand_model.specs.Database.{element}
use Rattle.sand_model.specs.Measure.{Measure, IsMeasure}
use Rattle.sand_model.specs.Sources.{Found, far_rows, spot_figure}
use Rattle.page_pool.specs.Disk.{PageMap}
use Rattle.page_pool.specs.declared.fault.PageFault.{PageFault}
use Rattle.pmr_tree.specs.declared.quadtree.Pmr.{Pmr}
use Rattle.best_first.specs.Answer.{IsNext, IsExhausted}
use Rattle.best_first.specs.Frontier.{Stands}
use Rattle.best_first.specs.Hierarchy.{Meaning, HasGap}
use Rattle.best_first.specs.Item.{gap_of, nodes_of}
use Rattle.best_first.specs.Reach.{IsSameGap, IsAtMost}
use Rattle.best_first.specs.Visits.{SearchState, MakesVisits}
use Rattle.best_first.specs.declared.hit.Hit.{Hit}
use Rattle.best_first.specs.declared.item.Item.{Item}
use Rattle.best_first.specs.declared.item.Item.TheVariants.{Node, Rough, Row}
use Rattle.best_first.proofs.Bags.{here, there, cons_cases, none, All-by, All-left}
use Rattle.best_first.proofs.Gaps.{at_most_trans, equal_at_least, same_back, same_trans}
use Rattle.rank_cursor.specs.Ranking.{hit_at, rank_meaning}
use Rattle.rank_cursor.proofs.Elements.{from_map, some_is}
use Rattle.rank_cursor.proofs.SortedRows.{at_is}
use Rattle.far_cursor.specs.Farthest.{key_of_gap}
use Rattle.far_cursor.specs.FarAnswer.{keyed, IsTurned, AreGivenFar, GivesFar, HasFarCorner, FarVisits}
use Rattle.far_cursor.specs.FarLaws.{IsLawfulFar}
use Rattle.far_cursor.specs.FarRanking.{far_ranking}
use Rattle.far_cursor.proofs.FarSound.{far_corner}
use Rattle.far_cursor.proofs.KeyOrder.{IsShort, parts_same, key_same, key_short, key_twice, short_same}

-- an element of a mapped list is that of the list
element_keyed : (fs : List Found) (n : ℕ) (k : Found) → element (map keyed fs) n ≡ Some k → (f : Found) × (element fs n ≡ Some f) × (keyed f ≡ k)
element_keyed [] n k e = absurd (let clash : ⊥ = cc in clash)
element_keyed (f ∷ fs) zero k e = (f, refl, some_is (keyed f) k e)
element_keyed (f ∷ fs) (suc n) k e = element_keyed fs n k e

-- a mapped list is as long as the list
keyed_long : (fs : List Found) → length (map keyed fs) ≡ length fs
keyed_long [] = refl
keyed_long (f ∷ fs) = ap suc (keyed_long fs)

-- a node among items stands in one of them
from_nodes : (items : List (Item Block)) (b : Block) → Contains (nodes_of items) b → (g : Frac) × Contains items (Node g b)
from_nodes [] b h = absurd (none b h)
from_nodes (Node g c ∷ items) b h =
    ⊎_elim (λ e. (g, subst (λ x. Contains (Node g c ∷ items) (Node g x)) e (here (Node g c) items)))
    (λ t. let (k, at) = from_nodes items b t in (k, there (Node g c) items (Node k b) at))
    (cons_cases c (nodes_of items) b h)
from_nodes (Rough g l s ∷ items) b h = let (k, at) = from_nodes items b h in (k, there (Rough g l s) items (Node k b) at)
from_nodes (Row g l s ∷ items) b h = let (k, at) = from_nodes items b h in (k, there (Row g l s) items (Node k b) at)

-- the gap of a turned row is the key of its key
turned_gap : (key hit : Hit) → IsTurned key hit → IsSameGap (key_of_gap key.gap) hit.gap
turned_gap key hit t = parts_same (key_of_gap key.gap) hit.gap (sym t.num) (sym t.den)

-- it is no greater than the diagonal
turned_short : (key hit : Hit) → IsTurned key hit → IsShort hit.gap
turned_short key hit t = short_same (key_of_gap key.gap) hit.gap (turned_gap key hit t) (key_short key.gap)

module _ (rows : PageMap → List (ℕ × Shape)) (Stands_on : PageMap → Type 0) (price : ℕ) (t : Pmr) (goal : Point) (pages : PageMap) where
  abbrev m : Meaning Block
  m = rank_meaning (far_ranking rows Stands_on price t goal pages)

  -- the key of a next row is no greater than the diagonal
  next_short : (last : Option Hit) (key : Hit) → IsNext m last key → IsShort key.gap
  next_short last key next =
      let (row, among, is) = from_map (hit_at (far_ranking rows Stands_on price t goal pages)) (rows pages) next.row next.answer.0 in
      short_same next.row.gap key.gap next.same.0
      (subst (λ (h : Hit). IsShort h.gap) is (key_short (Rattle.rank_cursor.specs.Cursor.the_measure (spot_figure goal) (Rattle.sand_base.specs.declared.goal.Goal.TheVariants.Shape row.1))))

  -- a turned row's key is that of the search
  turned_key : (last : Option Hit) (key hit : Hit) → IsNext m last key → IsTurned key hit → IsSameGap (key_of_gap hit.gap) key.gap
  turned_key last key hit next turned =
      same_trans (key_of_gap hit.gap) (key_of_gap (key_of_gap key.gap)) key.gap
      (key_same hit.gap (key_of_gap key.gap) (same_back (key_of_gap key.gap) hit.gap (turned_gap key hit turned)))
      (key_twice key.gap (next_short last key next))

  -- a row that is given is the next one by falling gap
  pub row_far : IsLawfulFar rows Stands_on price t goal pages → (last : Option Hit) (key hit : Hit) (new : Option Hit) → IsNext m last key → IsTurned key hit → new ≡ Some key
      → (gap : Measure) → IsMeasure gap → (n : ℕ) → AreGivenFar (far_rows gap goal (rows pages)) n last → GivesFar (far_rows gap goal (rows pages)) n new (Ok (Some hit))
  row_far laws last key hit new next turned is gap measure n given =
      let list = far_rows gap goal (rows pages) in
      let (k, at, same) = (laws.answer gap measure).next n last key given next in
      let (f, place, is_keyed) = element_keyed list n k at in
      let short = laws.short gap measure f (at_is list n f place) in
      let keys : IsSameGap (key_of_gap f.gap) key.gap = subst (λ (x : Found). IsSameGap x.gap key.gap) (sym is_keyed) same.0 in (
        (
          f,
          place,
          (
            same_trans f.gap (key_of_gap (key_of_gap f.gap)) hit.gap (same_back (key_of_gap (key_of_gap f.gap)) f.gap (key_twice f.gap short))
                (same_trans (key_of_gap (key_of_gap f.gap)) (key_of_gap key.gap) hit.gap (key_same (key_of_gap f.gap) key.gap keys) (turned_gap key hit turned)),
            ap (λ (x : Found). x.left) is_keyed ∙ same.1 ∙ sym turned.left,
            ap (λ (x : Found). x.right) is_keyed ∙ same.2 ∙ sym turned.right,
          ),
        ),
        subst (λ l. AreGivenFar list (suc n) l) (sym is) (k, at, same),
      )

  -- at the end all were given
  pub end_far : IsLawfulFar rows Stands_on price t goal pages → (last new : Option Hit) → IsExhausted m last → new ≡ last
      → (gap : Measure) → IsMeasure gap → (n : ℕ) → AreGivenFar (far_rows gap goal (rows pages)) n last → GivesFar (far_rows gap goal (rows pages)) n new (Ok None)
  end_far laws last new ended is gap measure n given =
      let list = far_rows gap goal (rows pages) in (
        (laws.answer gap measure).over n last given ended ∙ keyed_long list,
        subst (λ l. AreGivenFar list n l) (sym is) given,
      )

  -- after a refusal as many were given
  pub fault_far : (fault : PageFault) (last new : Option Hit) → new ≡ last
      → (gap : Measure) → IsMeasure gap → (n : ℕ) → AreGivenFar (far_rows gap goal (rows pages)) n last → GivesFar (far_rows gap goal (rows pages)) n new (Err fault)
  fault_far fault last new is gap measure n given = subst (λ l. AreGivenFar (far_rows gap goal (rows pages)) n l) (sym is) given

  -- each block visited before a row was given has a corner at least as far
  pub row_visits : (cmp : Block → Block → Ordering) (note : Item Block → Visit) (old new : SearchState Block) (key hit : Hit) → IsNext m old.last key → IsTurned key hit
      → MakesVisits cmp m note old new (Ok (Some key))
      → (done : List (Item Block)) → Stands cmp m old.held old.last done → FarVisits cmp m note goal done old new (Ok (Some hit))
  row_visits cmp note old new key hit next turned visits done h =
      let call = visits done h in
      let all = done ++ call.makes.taken in
      record {
        attempt = call.attempt;
        makes = call.makes;
        far = (
          call.bounds.settled,
          All-by (λ b. HasFarCorner goal hit.gap (square_of b)) (nodes_of all) (λ b at.
              let (g, among) = from_nodes all b at in
              let own = All-contains (HasGap m) all (Node g b) (All-left (HasGap m) all new.held call.makes.stands.tracks.gaps) among in
              let near = All-contains (λ item. IsAtMost (gap_of item) key.gap) all (Node g b) call.bounds.near among in
              far_corner goal (square_of b) hit.gap (turned_short key hit turned)
              (at_most_trans (m.gap b) key.gap (key_of_gap hit.gap) (at_most_trans (m.gap b) g key.gap (equal_at_least g (m.gap b) own) near)
              (equal_at_least (key_of_gap hit.gap) key.gap (turned_key old.last key hit next turned)))),
        );
      }

  pub end_visits : (cmp : Block → Block → Ordering) (note : Item Block → Visit) (old new : SearchState Block) → MakesVisits cmp m note old new (Ok None)
      → (done : List (Item Block)) → Stands cmp m old.held old.last done → FarVisits cmp m note goal done old new (Ok None)
  end_visits cmp note old new visits done h = let call = visits done h in record { attempt = call.attempt; makes = call.makes; far = call.bounds.settled }

  pub fault_visits : (cmp : Block → Block → Ordering) (note : Item Block → Visit) (old new : SearchState Block) (fault : PageFault) → MakesVisits cmp m note old new (Err fault)
      → (done : List (Item Block)) → Stands cmp m old.held old.last done → FarVisits cmp m note goal done old new (Err fault)
  fault_visits cmp note old new fault visits done h = let call = visits done h in record { attempt = call.attempt; makes = call.makes; far = call.bounds.few }
