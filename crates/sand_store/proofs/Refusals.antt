-- Why a call is refused, from where it stopped.
use Rattle.std.proofs.Common.{◌≡◌, ◌⊎◌, ℕ, ◌<◌, Bool, true, false, ◌||◌, List, [], ◌∷◌, length, map, Option, Some, None, refl, sym, ◌∙◌, ap, subst, inl, inr, true≢false}
use Rattle.pmr_tree.specs.declared.fault.PmrFault.{PmrFault}
use Rattle.pmr_tree.specs.declared.fault.PmrFault.TheVariants as tree
use Rattle.std.specs.Prelude.{nat_le, is_some}
use Rattle.std.specs.List.{find}
use Rattle.std.proofs.lemmas.Bool.{leb-false}
use Rattle.page_pool.specs.Pool.{PoolState, IsTold}
use Rattle.sand_base.specs.declared.kind.Kind.{Kind}
use Rattle.sand_base.specs.declared.limits.Limits.{Limits}
use Rattle.sand_base.specs.declared.refusal.Refusal.{Refusal}
use Rattle.sand_base.specs.declared.refusal.Refusal.TheVariants as why
use Rattle.sand_model.specs.Checks.{first_refusal}
use Rattle.sand_model.specs.Kept.{has_twice, most_relations}
use Rattle.statements.specs.Statement.{Create}
use Rattle.sand_model.specs.StatementChecks.{refused_where, is_there}
use Rattle.sand_store.specs.Calls.{Refuses, IsStatementRefused, is_none, early_at, late_at}
use Rattle.sand_store.specs.Catalog.{RelationView, StoreState, is_named}
use Rattle.sand_store.specs.Steps.{store_from, create_check, IsOutside, IsOutsideOrFull, refusal_of_tree}
use Rattle.sand_store.proofs.Places.{early_create}

-- a refusal from outside comes where the early checks pass
pub outside_refuses : (told : Type 0) (is_late : Refusal → Bool) (before behind : Option Refusal) (w : Refusal) → IsOutside w → before ≡ None → Refuses told is_late before behind w
outside_refuses told is_late before behind why.Memory o e = tt
outside_refuses told is_late before behind why.Device o e = e
outside_refuses told is_late before behind (why.Damaged n kept read) o e = e
outside_refuses told is_late before behind _ o e = absurd o

some_is : {A : Type 0} (d x y : A) → Some x ≡ Some y → y ≡ x
some_is {A} d x y e = sym (ap value e) where
  value : Option A → A
  value None = d
  value (Some a) = a

-- the first of two checks that fails is one of the two
one_of : (a b : Bool) (v w x : Refusal) → first_refusal (refused_where a v ∷ refused_where b w ∷ []) ≡ Some x → (x ≡ v) ⊎ (x ≡ w)
one_of true b v w x e = inl (some_is v v x e)
one_of false true v w x e = inr (some_is v w x e)
one_of false false v w x e = absurd (true≢false (sym (ap (λ (o : Option Refusal). is_some o) e)))

-- the name is taken, or there are too many relations
pub create_refused : (pool : PoolState) (rs : List RelationView) (limits : Limits) (name : List ℕ) (schema : List (List ℕ × Kind)) (w : Refusal)
    → create_check rs name schema ≡ Some w → IsStatementRefused is_none (store_from rs limits pool) (Create name schema) w
create_refused pool rs limits name schema w e =
    let P : Refusal → Type 0 = λ x. create_check rs name schema ≡ Some x → IsStatementRefused is_none (store_from rs limits pool) (Create name schema) x in
    elim (one_of (is_there (find (is_named name) rs) || has_twice (map (λ column. column.0) schema)) (nat_le most_relations (length rs)) why.NameTaken why.TooManyRelations w e) [
      | inl i ↦ subst P (sym i) (λ h setting is l. early_create setting pool.pages rs name schema ∙ h) e
      | inr i ↦ subst P (sym i) (λ h setting is l. early_create setting pool.pages rs name schema ∙ h) e
    ]

-- a refusal of the command of a new relation
pub create_stopped : (pool : PoolState) (rs : List RelationView) (limits : Limits) (name : List ℕ) (schema : List (List ℕ × Kind)) (w : Refusal)
    → create_check rs name schema ≡ None → IsOutside w → IsStatementRefused is_none (store_from rs limits pool) (Create name schema) w
create_stopped pool rs limits name schema w h o = λ setting is l.
    let store : StoreState = store_from rs limits pool in
    outside_refuses (IsTold pool) is_none (early_at setting store (Create name schema)) (late_at setting store (Create name schema)) w o
    (early_create setting pool.pages rs name schema ∙ h)

-- what it says that the checks of a new relation pass
pub record IsNew (rs : List RelationView) (name : List ℕ) (schema : List (List ℕ × Kind)) : Type 0 where
  pub none : find (is_named name) rs ≡ None
  pub once : has_twice (map (λ column. column.0) schema) ≡ false
  pub room : length rs < most_relations

is_new : (rs : List RelationView) (name : List ℕ) (schema : List (List ℕ × Kind)) (f : Option RelationView) (t b : Bool)
    → find (is_named name) rs ≡ f → has_twice (map (λ column. column.0) schema) ≡ t → nat_le most_relations (length rs) ≡ b
    → first_refusal (refused_where (is_there f || t) why.NameTaken ∷ refused_where b why.TooManyRelations ∷ []) ≡ None → IsNew rs name schema
is_new rs name schema None false false h k l e = record { none = h; once = k; room = leb-false most_relations (length rs) l }
is_new rs name schema None false true h k l e = absurd (true≢false (ap (λ (o : Option Refusal). is_some o) e))
is_new rs name schema None true b h k l e = absurd (true≢false (ap (λ (o : Option Refusal). is_some o) e))
is_new rs name schema (Some r) t b h k l e = absurd (true≢false (ap (λ (o : Option Refusal). is_some o) e))

pub create_passes : (rs : List RelationView) (name : List ℕ) (schema : List (List ℕ × Kind)) → create_check rs name schema ≡ None → IsNew rs name schema
create_passes rs name schema e =
    is_new rs name schema (find (is_named name) rs) (has_twice (map (λ column. column.0) schema)) (nat_le most_relations (length rs)) refl refl refl e

-- a tree's refusal comes from outside, or it is full
pub tree_outside : (fault : PmrFault) → IsOutsideOrFull (refusal_of_tree fault)
tree_outside tree.Memory = tt
tree_outside tree.Device = tt
tree_outside (tree.Damaged n kept read) = tt
tree_outside tree.IndexFull = tt

-- it is full only where the tree says so
abbrev is_full_refusal : Refusal → Bool
is_full_refusal why.IndexFull = true
is_full_refusal _ = false

pub tree_is_full : (fault : PmrFault) → refusal_of_tree fault ≡ why.IndexFull → fault ≡ tree.IndexFull
tree_is_full tree.Memory e = absurd (true≢false (sym (ap is_full_refusal e)))
tree_is_full tree.Device e = absurd (true≢false (sym (ap is_full_refusal e)))
tree_is_full (tree.Damaged n kept read) e = absurd (true≢false (sym (ap is_full_refusal e)))
tree_is_full tree.IndexFull e = refl
