-- Members of rows, and what the function that tells of the rows says of them.
use Rattle.std.proofs.Common.{◌≡◌, ℕ, ◌<◌, true, false, List, [], ◌∷◌, map, refl, sym, ◌∙◌, ap, subst, arith, Some, None}
use Rattle.std.specs.Prelude.{nat_eq}
use Rattle.std.proofs.lemmas.Bool.Decides.{nat_tests}
use Rattle.sand_base.specs.declared.goal.Goal.{Goal}
use Rattle.sand_base.specs.declared.shape.Shape.{Shape}
use Rattle.sand_model.specs.Measure.{Measure, IsMeasure}
use Rattle.sand_model.specs.Database.{shape_at, meets_block}
use Rattle.sand_model.specs.Roughs.{row_figure}
use Rattle.sand_model.specs.Tree.{root_block}
use Rattle.ring_geom.specs.MeasureLaws.{ChildrenMeet, TestIsMeeting, RootMeetsAll}
use Rattle.pmr_tree.specs.Entries.{figure_of}
use Rattle.pmr_tree.specs.Keys.{IsId}
use Rattle.pmr_tree.specs.Laws.{AreInPlane}
use Rattle.pmr_tree.specs.Lists.{Each, Above, RiseStrictly}
use Rattle.pmr_tree.proofs.Grown.{measure_tells}
use Rattle.pmr_tree.proofs.AscendingLists.{holds, fails, test, each_of_map}
use Rattle.pmr_tree.proofs.ShapeLaws.{here_shape, there_shape, shape_in_closed, rows_quarters}
use Rattle.pmr_build.specs.Members.{Member, member_ids, AreRowsById, AreMembersOf, AreMembersIn, TellsRows}

-- rows with shapes
abbrev pub Rows : Type 0
Rows = List (ℕ × Shape)

-- their ids
abbrev pub ids_of : Rows → List ℕ
ids_of rows = map (λ row. row.0) rows

pub itself : (x : ℕ) → nat_eq x x ≡ true
itself x = grind (arith, nat_tests)

differs : (x y : ℕ) → x < y → nat_eq x y ≡ false
differs x y h = grind (arith, nat_tests)

pub equal_of : (x y : ℕ) → nat_eq x y ≡ true → x ≡ y
equal_of x y h = grind (arith, nat_tests)

-- Each row's shape is that of its id.

later : (all : Rows) (row : ℕ × Shape) (rest : Rows) → Above row.0 (ids_of rest) → Each (λ r. shape_at all r.0 ≡ Some r.1) rest → Each (λ r. shape_at (row ∷ all) r.0 ≡ Some r.1) rest
later all row [] h k = tt
later all row (r ∷ rest) h k = (there_shape row all r.0 (differs row.0 r.0 h.0) ∙ k.0, later all row rest h.1 k.1)

own_shapes : (rows : Rows) → RiseStrictly (ids_of rows) → Each (λ r. shape_at rows r.0 ≡ Some r.1) rows
own_shapes [] h = tt
own_shapes (r ∷ rows) h = (here_shape r rows r.0 (itself r.0), later rows r rows h.0 (own_shapes rows h.1))

pub row_id : (rows : Rows) (id : ℕ) (s : Shape) → Each IsId (ids_of rows) → shape_at rows id ≡ Some s → IsId id
row_id [] id s h e = absurd (none_some s e) where
  none_some : (s : Shape) → None ≡ Some s → ⊥
  none_some s e = cc
row_id (row ∷ rows) id s h e = elim (test (nat_eq row.0 id)) [
  | holds t ↦ subst IsId (equal_of row.0 id t) h.0
  | fails t ↦ row_id rows id s h.1 (sym (there_shape row rows id t) ∙ e)
]

-- Members of rows are members in the root.

cons_head : {A : Type 0} (x y : A) (xs ys : List A) → x ∷ xs ≡ y ∷ ys → x ≡ y
cons_head x y xs ys e = cc

cons_tail : {A : Type 0} (x y : A) (xs ys : List A) → x ∷ xs ≡ y ∷ ys → xs ≡ ys
cons_tail x y xs ys e = cc

none_some : {A : Type 0} (x : A) (xs : List A) → x ∷ xs ≡ [] → ⊥
none_some x xs e = cc

root_met : RootMeetsAll → (gap : Measure) → IsMeasure gap → (rows : Rows) (id : ℕ) (s : Shape) → AreInPlane ((id, s) ∷ []) → shape_at rows id ≡ Some s → meets_block gap rows root_block id ≡ true
root_met law gap measure rows id s plane e = rw e (law gap measure s (shape_in_closed s plane.0))

members_in : RootMeetsAll → (gap : Measure) → IsMeasure gap → (rows : Rows) (list : List Member) (part : Rows) → AreMembersOf list part → Each IsId (ids_of part)
    → Each (λ r. shape_at rows r.0 ≡ Some r.1) part → AreInPlane part → AreMembersIn rows (meets_block gap rows) root_block list
members_in law gap measure rows [] part e ids own plane = tt
members_in law gap measure rows (i ∷ list) [] e ids own plane = absurd (none_some (i.0, figure_of i.1) (map (λ j. (j.0, figure_of j.1)) list) e)
members_in law gap measure rows (i ∷ list) (r ∷ part) e ids own plane =
    let one : (i.0, figure_of i.1) ≡ row_figure r = cons_head (i.0, figure_of i.1) (row_figure r) (map (λ j. (j.0, figure_of j.1)) list) (map row_figure part) e in
    let rest : map (λ j. (j.0, figure_of j.1)) list ≡ map row_figure part = cons_tail (i.0, figure_of i.1) (row_figure r) (map (λ j. (j.0, figure_of j.1)) list) (map row_figure part) e in
    let same : i.0 ≡ r.0 = ap (λ (q : ℕ × Goal). q.0) one in
    let at : shape_at rows i.0 ≡ Some r.1 = ap (shape_at rows) same ∙ own.0 in (
      (record { is_id = subst IsId (sym same) ids.0; shape = r.1; at = at; rough = ap (λ (q : ℕ × Goal). q.1) one }, root_met law gap measure rows i.0 r.1 (plane.0, tt) at),
      members_in law gap measure rows list part rest ids.1 own.1 plane.1,
    )

pub ids_same : (list : List Member) (rows : Rows) → AreMembersOf list rows → member_ids list ≡ ids_of rows
ids_same list rows e = first_of list ∙ (ap (λ (qs : List (ℕ × Goal)). map (λ q. q.0) qs) e ∙ sym (first_rows rows)) where
  first_of : (is : List Member) → member_ids is ≡ map (λ (q : ℕ × Goal). q.0) (map (λ i. (i.0, figure_of i.1)) is)
  first_of [] = refl
  first_of (i ∷ is) = ap (λ t. i.0 ∷ t) (first_of is)

  first_rows : (rs : Rows) → ids_of rs ≡ map (λ (q : ℕ × Goal). q.0) (map row_figure rs)
  first_rows [] = refl
  first_rows (r ∷ rs) = ap (λ t. r.0 ∷ t) (first_rows rs)

-- What is known of the rows, and of the laws of shapes.
pub record Premises (rows : Rows) (list : List Member) : Type 0 where
  pub children : ChildrenMeet
  pub tests : TestIsMeeting
  pub root : RootMeetsAll
  pub plane : AreInPlane rows
  pub by_id : AreRowsById rows
  pub are : AreMembersOf list rows

pub rows_told : (rows : Rows) (list : List Member) → Premises rows list → (gap : Measure) → IsMeasure gap → TellsRows rows (meets_block gap rows)
rows_told rows list h gap measure = record { tells = measure_tells h.tests gap measure rows h.plane; quarters = rows_quarters h.children gap measure rows h.plane }

pub members_are : (rows : Rows) (list : List Member) → Premises rows list → (gap : Measure) → IsMeasure gap → AreMembersIn rows (meets_block gap rows) root_block list
members_are rows list h gap measure = members_in h.root gap measure rows list rows h.are h.by_id.ids (own_shapes rows h.by_id.rise) h.plane

pub all_met : (rows : Rows) (list : List Member) → Premises rows list → (gap : Measure) → IsMeasure gap → Each (λ id. meets_block gap rows root_block id ≡ true) (ids_of rows)
all_met rows list h gap measure =
    let P : ℕ → Type 0 = λ id. meets_block gap rows root_block id ≡ true in
    subst (Each P) (ids_same list rows h.are) (each_of_map P (λ (i : Member). i.0) list (mets list (members_are rows list h gap measure)))
  where
    mets : (is : List Member) → AreMembersIn rows (meets_block gap rows) root_block is → Each (λ i. meets_block gap rows root_block i.0 ≡ true) is
    mets [] k = tt
    mets (i ∷ is) k = (k.0.1, mets is k.1)
