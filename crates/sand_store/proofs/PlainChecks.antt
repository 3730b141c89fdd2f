-- The checks of rows that need no page, row by row.
use Rattle.std.proofs.Common.{◌≡◌, ℕ, ◌+◌, ◌<◌, ◌≤◌, List, [], ◌∷◌, ◌++◌, length, take, get_or, Option, Some, None, refl, sym, ◌∙◌, ap, ap₂, subst, arith, true≢false}
use Rattle.std.proofs.Common.{inl, inr, Bool, true, false, not, ◌-◌}
use Rattle.std.specs.Prelude.{is_some, nat_le, nat_lt}
use Rattle.std.specs.List.{find}
use Rattle.std.proofs.lemmas.List.{length-take-le, take_more, take_all}
use Rattle.page_pool.specs.Pool.{PoolState}
use Rattle.sand_base.specs.declared.kind.Kind.{Kind}
use Rattle.sand_base.specs.declared.limits.Limits.{Limits}
use Rattle.sand_base.specs.declared.refusal.Refusal.{Refusal}
use Rattle.sand_base.specs.declared.refusal.Refusal.TheVariants as why
use Rattle.sand_base.specs.declared.value.Value.{Value}
use Rattle.sand_model.specs.Checks.{first_refusal}
use Rattle.sand_model.specs.Database.{Relation}
use Rattle.sand_model.specs.Kept.{longest_row}
use Rattle.sand_model.specs.RowSize.{row_size}
use Rattle.sand_model.specs.StatementChecks.{refused_where, is_row_of, check_length, check_ids}
use Rattle.sand_store.specs.Calls.{check_kinds, plain_checks, load_plain, RefusesRows}
use Rattle.sand_store.specs.Catalog.{RelationView, is_named}
use Rattle.sand_store.specs.Contents.{relation_in}
use Rattle.sand_store.specs.Loads.{check_from, checks_from, plain_of}
use Rattle.sand_store.specs.Steps.{store_from, row_check, IsRefusedOrSpent}
use Rattle.sand_store.proofs.Places.{named_in}
use Rattle.sand_store.proofs.RowChecks.{joined}

abbrev Columns : Type 0
Columns = List (List ℕ × Kind)

abbrev Rows : Type 0
Rows = List (List Value)

-- they ask of a relation its columns and its next id alone
plain_is : (limits : Limits) (rows : Rows) (relation : Relation) → plain_checks limits rows relation ≡ checks_from limits relation.schema relation.next rows
plain_is limits [] relation = refl
plain_is limits (row ∷ rows) relation =
    let grown : Relation = record relation { next = relation.next + 1 } in
    joined (check_kinds relation row) (check_length row) (check_ids limits relation) (plain_checks limits rows grown)
    ∙ ap (λ (o : Option Refusal). first_refusal (check_from limits relation.schema relation.next row ∷ o ∷ [])) (plain_is limits rows grown)

-- those of a load are those of the relation that is found
pub load_plain_is : (pool : PoolState) (rs : List RelationView) (limits : Limits) (name : List ℕ) (rows : Rows) (r : RelationView) → find (is_named name) rs ≡ Some r
    → load_plain (store_from rs limits pool) name rows ≡ plain_of limits r rows
load_plain_is pool rs limits name rows r e =
    let found : load_plain (store_from rs limits pool) name rows ≡ plain_checks limits rows (relation_in pool.pages r) = rw (named_in pool.pages rs name, e) refl in
    found ∙ plain_is limits rows (relation_in pool.pages r)

single : (o : Option Refusal) → first_refusal (o ∷ []) ≡ o
single None = refl
single (Some w) = refl

-- where the first rows pass, the checks go on with those behind them
after_passed : (limits : Limits) (schema : Columns) (next : ℕ) (front rest : Rows) → checks_from limits schema next front ≡ None
    → checks_from limits schema next (front ++ rest) ≡ checks_from limits schema (next + length front) rest
after_passed limits schema next [] rest e = (let n : next ≡ next + 0 = omega arith in ap (λ (k : ℕ). checks_from limits schema k rest) n)
after_passed limits schema next (row ∷ front) rest e =
    let behind : Option Refusal = checks_from limits schema (next + 1) front in
    let all : Option Refusal = checks_from limits schema (next + 1) (front ++ rest) in
    let n : next + 1 + length front ≡ next + length (row ∷ front) = omega arith in
    let go : (o : Option Refusal) → first_refusal (o ∷ behind ∷ []) ≡ None → first_refusal (o ∷ all ∷ []) ≡ checks_from limits schema (next + length (row ∷ front)) rest =
    elim [
      | None ↦ λ k. single all ∙ (after_passed limits schema (next + 1) front rest (sym (single behind) ∙ k) ∙ ap (λ (i : ℕ). checks_from limits schema i rest) n)
      | Some w ↦ λ k. absurd (true≢false (ap (λ (o : Option Refusal). is_some o) k))
    ] in
    go (check_from limits schema next row) e

-- A relation u that some rows entered, those before the place: the checks go on with the row at it.
plain_rest : (limits : Limits) (r u : RelationView) (rows : Rows) (at : ℕ) (row : List Value) (rest : Rows) → u.schema ≡ r.schema → u.next ≡ r.next + at
    → plain_of limits r (take at rows) ≡ None → at < length rows
    → plain_of limits r (take at rows ++ row ∷ rest) ≡ first_refusal (row_check limits u row ∷ checks_from limits r.schema (r.next + length (take at rows) + 1) rest ∷ [])
plain_rest limits r u rows at row rest schema next passed l =
    let behind : Option Refusal = checks_from limits r.schema (r.next + length (take at rows) + 1) rest in
    let n : r.next + length (take at rows) ≡ u.next = omega (arith, next, length-take-le at rows (omega (arith, l))) in
    after_passed limits r.schema r.next (take at rows) (row ∷ rest) passed
    ∙ ap₂ (λ (s : Columns) (k : ℕ). first_refusal (check_from limits s k row ∷ behind ∷ [])) (sym schema) n

-- a row more passes
pub plain_next : (limits : Limits) (r u : RelationView) (rows : Rows) (at : ℕ) (row : List Value) → u.schema ≡ r.schema → u.next ≡ r.next + at
    → plain_of limits r (take at rows) ≡ None → at < length rows → row ≡ get_or rows at row → row_check limits u row ≡ None → plain_of limits r (take (at + 1) rows) ≡ None
plain_next limits r u rows at row schema next passed l here passes =
    ap (λ (xs : Rows). plain_of limits r xs) (take_more rows at row l ∙ ap (λ (y : List Value). take at rows ++ y ∷ []) (sym here))
    ∙ (plain_rest limits r u rows at row [] schema next passed l ∙ ap (λ (o : Option Refusal). first_refusal (o ∷ None ∷ [])) passes)

-- or it is the first that fails
pub plain_stops : (limits : Limits) (r u : RelationView) (rows : Rows) (at : ℕ) (row : List Value) (rest : Rows) (w : Refusal) → u.schema ≡ r.schema → u.next ≡ r.next + at
    → plain_of limits r (take at rows) ≡ None → at < length rows → rows ≡ take at rows ++ row ∷ rest → row_check limits u row ≡ Some w → plain_of limits r rows ≡ Some w
plain_stops limits r u rows at row rest w schema next passed l split fails =
    let behind : Option Refusal = checks_from limits r.schema (r.next + length (take at rows) + 1) rest in
    ap (λ (xs : Rows). plain_of limits r xs) split
    ∙ (plain_rest limits r u rows at row rest schema next passed l ∙ ap (λ (o : Option Refusal). first_refusal (o ∷ behind ∷ [])) fails)

-- all passed
pub plain_all : (limits : Limits) (r : RelationView) (rows : Rows) (at : ℕ) → length rows ≤ at → plain_of limits r (take at rows) ≡ None → plain_of limits r rows ≡ None
plain_all limits r rows at l passed = ap (λ (xs : Rows). plain_of limits r xs) (sym (take_all at rows l)) ∙ passed

-- what the code's checks of a row refuse is one of three
abbrev is_plain : Refusal → Bool
is_plain why.WrongKind = true
is_plain why.TupleTooLong = true
is_plain why.IdsSpent = true
is_plain _ = false

abbrev of_plain : Option Refusal → Bool
of_plain None = true
of_plain (Some w) = is_plain w

are_plain : (a b c : Bool) → of_plain (first_refusal (refused_where a why.WrongKind ∷ refused_where b why.TupleTooLong ∷ refused_where c why.IdsSpent ∷ [])) ≡ true
are_plain true b c = refl
are_plain false true c = refl
are_plain false false true = refl
are_plain false false false = refl

by_plain : (check : Option Refusal) (passed : Type 0) (w : Refusal) → is_plain w ≡ true → check ≡ Some w → RefusesRows check passed w
by_plain check passed why.WrongKind t e = e
by_plain check passed why.TupleTooLong t e = e
by_plain check passed why.IdsSpent t e = e
by_plain check passed _ t e = absurd (true≢false (sym t))

-- a check of the row fails, or there is no memory
pub row_fails : (limits : Limits) (r : RelationView) (row : List Value) (passed : Type 0) (w : Refusal) → IsRefusedOrSpent (row_check limits r row) w → RefusesRows (row_check limits r row) passed w
row_fails limits r row passed w h = elim h [
  | inl spent ↦ (let P : Refusal → Type 0 = λ x. RefusesRows (row_check limits r row) passed x in subst P (sym spent) tt)
  | inr fails ↦ by_plain (row_check limits r row) passed w
      (ap (λ (o : Option Refusal). of_plain o) (sym fails) ∙ are_plain (not (is_row_of r.schema row)) (nat_lt longest_row (row_size row)) (nat_le limits.ids (r.next - 1))) fails
]

-- what refuses a row, and then the rows
pub refuses_by : (one all : Option Refusal) (p q : Type 0) (w : Refusal) → ((x : Refusal) → one ≡ Some x → all ≡ Some x) → (p → q) → RefusesRows one p w → RefusesRows all q w
refuses_by one all p q why.WrongKind f g h = f why.WrongKind h
refuses_by one all p q why.TupleTooLong f g h = f why.TupleTooLong h
refuses_by one all p q why.IdsSpent f g h = f why.IdsSpent h
refuses_by one all p q why.IndexFull f g h = g h
refuses_by one all p q _ f g h = tt
