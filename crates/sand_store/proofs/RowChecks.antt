-- The checks of a row of a load: those that the code makes first, and that of the listings.
use Rattle.std.proofs.Common.{◌≡◌, ◌-◌, Bool, true, false, not, List, [], ◌∷◌, refl, sym, ◌∙◌, ap, subst, Option, Some, None, inl, inr}
use Rattle.std.specs.Prelude.{nat_le, nat_lt}
use Rattle.page_pool.specs.Disk.{PageMap}
use Rattle.sand_base.specs.declared.limits.Limits.{Limits}
use Rattle.sand_base.specs.declared.refusal.Refusal.{Refusal}
use Rattle.sand_base.specs.declared.refusal.Refusal.TheVariants as why
use Rattle.sand_base.specs.declared.value.Value.{Value}
use Rattle.sand_model.specs.Checks.{first_refusal}
use Rattle.sand_model.specs.Database.{Relation, with_row}
use Rattle.sand_model.specs.Kept.{longest_row}
use Rattle.sand_model.specs.Measure.{IsMeasure}
use Rattle.sand_model.specs.RowSize.{row_size}
use Rattle.sand_model.specs.StatementChecks.{Setting, refused_where, is_row_of, check_length, check_ids, check_listings}
use Rattle.sand_store.specs.Calls.{check_kinds, is_of_a_row}
use Rattle.sand_store.specs.Catalog.{RelationView}
use Rattle.sand_store.specs.Contents.{relation_in}
use Rattle.sand_store.specs.Loads.{StopsAt, row_refusal}
use Rattle.sand_store.specs.Steps.{Became, IsOutside, IsRefusedOrSpent, row_check}
use Rattle.sand_store.proofs.InsertCall.{stands_within}

-- three checks and a fourth
pub joined : (a b c d : Option Refusal) → first_refusal (a ∷ b ∷ c ∷ d ∷ []) ≡ first_refusal (first_refusal (a ∷ b ∷ c ∷ []) ∷ d ∷ [])
joined (Some a) b c d = refl
joined None (Some b) c d = refl
joined None None (Some c) d = refl
joined None None None d = refl

-- the checks of a row are those of the code, and that of the listings behind them
pub checks_in : (setting : Setting) (limits : Limits) (m : PageMap) (r : RelationView) (row : List Value) → setting.limits ≡ limits
    → row_refusal setting row (relation_in m r) ≡ first_refusal (row_check limits r row ∷ check_listings limits (with_row setting.gap row (relation_in m r)) ∷ [])
checks_in setting limits m r row e =
    let relation : Relation = relation_in m r in
    let P : Limits → Type 0 = λ l. row_refusal setting row relation ≡ first_refusal (row_check l r row ∷ check_listings l (with_row setting.gap row relation) ∷ []) in
    subst P e (joined (check_kinds relation row) (check_length row) (check_ids setting.limits relation) (check_listings setting.limits (with_row setting.gap row relation)))

-- what the code's checks refuse is of a row
abbrev of_a_row : Option Refusal → Bool
of_a_row None = true
of_a_row (Some w) = is_of_a_row w

of_rows : (a b c : Bool) → of_a_row (first_refusal (refused_where a why.WrongKind ∷ refused_where b why.TupleTooLong ∷ refused_where c why.IdsSpent ∷ [])) ≡ true
of_rows true b c = refl
of_rows false true c = refl
of_rows false false true = refl
of_rows false false false = refl

pub refused_of_a_row : (limits : Limits) (r : RelationView) (row : List Value) (w : Refusal) → row_check limits r row ≡ Some w → is_of_a_row w ≡ true
refused_of_a_row limits r row w e =
    ap of_a_row (sym e) ∙ of_rows (not (is_row_of r.schema row)) (nat_lt longest_row (row_size row)) (nat_le limits.ids (r.next - 1))

-- a row that the code's checks refuse
pub check_stops : (told : Type 0) (m : PageMap) (limits : Limits) (r : RelationView) (row : List Value) (w : Refusal) → IsRefusedOrSpent (row_check limits r row) w
    → StopsAt told limits (λ setting. row_refusal setting row (relation_in m r)) w
check_stops told m limits r row w h = elim h [
  | inl e ↦ (let P : Refusal → Type 0 = λ x. IsOutside x in inl (subst P (sym e) tt))
  | inr e ↦ inr (
    refused_of_a_row limits r row w e,
    λ is setting s l. (
        checks_in setting limits m r row l
        ∙ ap (λ (o : Option Refusal). first_refusal (o ∷ check_listings limits (with_row setting.gap row (relation_in m r)) ∷ [])) e),
  )
]

-- a row that was taken in passes its checks
pub row_passes : (setting : Setting) (m w : PageMap) (limits : Limits) (r u : RelationView) (row : List Value) → IsMeasure setting.gap → setting.limits ≡ limits
    → row_check limits r row ≡ None → Became m w limits r u (λ gap. with_row gap row) → row_refusal setting row (relation_in m r) ≡ None
row_passes setting m w limits r u row is l p b =
    checks_in setting limits m r row l
    ∙ (ap (λ (o : Option Refusal). first_refusal (o ∷ check_listings limits (with_row setting.gap row (relation_in m r)) ∷ [])) p
    ∙ ap (λ (o : Option Refusal). first_refusal (o ∷ [])) (ap (λ (x : Relation). check_listings limits x) (sym (b.means setting.gap is)) ∙ stands_within w limits u b.stands))
