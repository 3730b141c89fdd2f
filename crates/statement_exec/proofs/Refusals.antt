-- A refusal of a store's call is one of the outcome.
use Rattle.std.proofs.Common.{◌≡◌, ◌⊎◌, ℕ, ◌<◌, ◌-◌, Bool, true, false, List, ◌∷◌, Option, Some, None, refl, sym, ◌∙◌, ap, subst, inl, inr, arith, true≢false}
use Rattle.std.specs.Prelude.{⊤, Err}
use Rattle.sand_base.specs.Faults.{last_count, next_count}
use Rattle.sand_base.specs.declared.refusal.Refusal.{Refusal}
use Rattle.sand_base.specs.declared.refusal.Refusal.TheVariants as why
use Rattle.page_pool.specs.Causes.{IsDamage}
use Rattle.page_pool.specs.Pool.{PoolState, IsTold}
use Rattle.sand_base.specs.declared.kind.Kind.{Kind}
use Rattle.sand_model.specs.Checks.{first_refusal, kind_named}
use Rattle.sand_model.specs.Cursor.{State, OutputLine}
use Rattle.sand_model.specs.Database.{Database, Relation, relation_named}
use Rattle.sand_model.specs.Outcome.{Rises, Outcome, IsRefusalCaused, IsRefusedBy, uses_pages}
use Rattle.statements.specs.declared.column.Column.{Column}
use Rattle.statements.specs.Statement.{Statement}
use Rattle.sand_model.specs.StatementChecks.{Setting, early, late, refused_where, in_relation, in_column}
use Rattle.sand_store.specs.Calls.{Refuses, HasStoreCause}
use Rattle.statement_exec.specs.LeafLines.{IsOfCheck}
use Rattle.statement_exec.proofs.Outcomes.{outcome_outside, outcome_early, outcome_late}

-- the refusal is one of memory or of a check, or the disk's count rose
abbrev pub Allows : Rises → Refusal → Type 0
Allows rises why.Device = 0 < rises.disk
Allows rises (why.Damaged n kept read) = ⊥
Allows rises why.File = ⊥
Allows rises _ = ⊤

-- where a check refuses, it is an early one or a late one
by_check : (told : Type 0) → told → (is_late : Refusal → Bool) (before behind : Option Refusal) (w : Refusal) → IsOfCheck w
    → Refuses told is_late before behind w → (before ≡ Some w) ⊎ ((before ≡ None) × (behind ≡ Some w))
by_check told is is_late before behind why.Memory o h = absurd o
by_check told is is_late before behind why.Device o h = absurd o
by_check told is is_late before behind (why.Damaged n kept read) o h = absurd o
by_check told is is_late before behind why.File o h = absurd o
by_check told is is_late before behind w o h = elim (is_late w) as (λ b. is_late w ≡ b → (before ≡ Some w) ⊎ ((before ≡ None) × (behind ≡ Some w))) [
  | true ↦ λ e. let k : (before ≡ None) × (told → behind ≡ Some w) = rw e at h in inr (k.0, k.1 is)
  | false ↦ λ e. let k : before ≡ Some w = rw e at h in inl k
] refl

-- no cause is asked for a refusal of a check
pub caused : (rises : Rises) (w : Refusal) → IsOfCheck w → IsRefusalCaused rises w
caused rises why.File o = absurd o
caused rises _ o = tt

module _ (setting : Setting) (rises : Rises) (old : State) (statement : Statement) (lines : List OutputLine) (new : State)
    (told : Type 0) (is : told) (is_late : Refusal → Bool) where
  checked : (w : Refusal) → IsOfCheck w → Refuses told is_late (early setting old statement) (late setting old statement) w → IsRefusedBy w old lines new
      → Outcome setting rises old statement lines new
  checked w o h k = elim (by_check told is is_late (early setting old statement) (late setting old statement) w o h) [
    | inl e ↦ outcome_early setting rises old statement lines new w e (caused rises w o) k
    | inr e ↦ outcome_late setting rises old statement lines new w e.0 e.1 (caused rises w o) k
  ]

  -- a refusal of a store's call
  pub refused : uses_pages statement ≡ true → (w : Refusal) → Allows rises w → Refuses told is_late (early setting old statement) (late setting old statement) w
      → IsRefusedBy w old lines new → Outcome setting rises old statement lines new
  refused uses why.Memory a h k = outcome_outside setting rises old statement lines new why.Memory tt k
  refused uses why.Device a h k = outcome_outside setting rises old statement lines new why.Device ((uses, h), a) k
  refused uses (why.Damaged n kept read) a h k = absurd a
  refused uses why.File a h k = absurd a
  refused uses w a h k = checked w tt h k

-- a count that isn't at its end rose by one
pub rose : (before now : ℕ) → now ≡ next_count before → now < last_count → 0 < now - before
rose before now e l = omega arith

-- the cause of a refusal over a disk that tells its pages
pub allowed : {T : Type 0} (rises : Rises) (old new : PoolState) (w : Refusal) → HasStoreCause {T = T} old new (Err w) → IsTold new → new.disk.faults < last_count
    → rises.disk ≡ new.disk.faults - old.disk.faults → (w ≡ why.File → ⊥) → Allows rises w
allowed rises old new why.Device c t l e n = subst (λ (d : ℕ). 0 < d) (sym e) (rose old.disk.faults new.disk.faults (ap (λ (n : ℕ × ℕ). n.0) c.counted) l)
allowed rises old new (why.Damaged m kept read) c t l e n = let d : IsDamage new m kept read = c.damaged in absurd (true≢false (sym t ∙ d.untold))
allowed rises old new why.File c t l e n = absurd (n refl)
allowed rises old new _ c t l e n = tt

-- the check refuses because of a file
abbrev pub is_file : Option Refusal → Bool
is_file (Some why.File) = true
is_file _ = false

-- no outcome of the check is that the file isn't there
abbrev pub Never : Option Refusal → Type 0
Never check = is_file check ≡ false

pub never_where : (b : Bool) (w : Refusal) → Never (Some w) → Never (refused_where b w)
never_where true w h = h
never_where false w h = refl

pub never_first : (check : Option Refusal) (checks : List (Option Refusal)) → Never check → Never (first_refusal checks) → Never (first_refusal (check ∷ checks))
never_first None checks h k = k
never_first (Some w) checks h k = h

pub never_relation : (d : Database) (name : List ℕ) (check : Relation → Option Refusal) → ((r : Relation) → Never (check r)) → Never (in_relation d name check)
never_relation d name check h =
    let go : (o : Option Relation) → relation_named d name ≡ o → Never (in_relation d name check) = elim [ None ↦ λ e. rw e refl | Some r ↦ λ e. rw e (h r) ] in
    go (relation_named d name) refl

pub never_column : (d : Database) (column : Column) (check : Relation → Kind → Option Refusal) → ((r : Relation) (k : Kind) → Never (check r k))
    → Never (in_column d column check)
never_column d column check h =
    let in_it : (r : Relation) → relation_named d column.relation ≡ Some r → Never (in_column d column check) = λ r e.
    let go : (o : Option Kind) → kind_named r column.column ≡ o → Never (in_column d column check) = elim [ None ↦ λ k. rw (e, k) refl | Some kind ↦ λ k. rw (e, k) (h r kind) ] in
    go (kind_named r column.column) refl in
    let go : (o : Option Relation) → relation_named d column.relation ≡ o → Never (in_column d column check) = elim [ None ↦ λ e. rw e refl | Some r ↦ in_it r ] in
    go (relation_named d column.relation) refl

-- the refusal of a store's call isn't one of a file
pub no_file : (told : Type 0) (is_late : Refusal → Bool) (before behind : Option Refusal) (w : Refusal) → is_late why.File ≡ false → Never before
    → Refuses told is_late before behind w → w ≡ why.File → ⊥
no_file told is_late before behind w l n h e =
    let k : Refuses told is_late before behind why.File = rw e at h in
    let b : before ≡ Some why.File = rw l at k in
    true≢false (sym (ap is_file b) ∙ n)
