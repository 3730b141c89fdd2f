-- What becomes of a sort when it has read a key, and when it takes the end.
use Rattle.std.proofs.Common.{◌≡◌, ℕ, ◌<◌, ◌≤◌, length, arith, Ordering, Bool, true, false, true≢false, List, [], ◌∷◌, ◌++◌, map, All, Option, Some, None, refl, sym, ap}
use Rattle.std.proofs.Common.{◌∙◌, subst, IfSome, if◌then◌else◌}
use Rattle.std.specs.Prelude.{is_some}
use Rattle.std.proofs.lemmas.List.{append-nil, map-append}
use Rattle.std.proofs.lemmas.List.Elements.{All-nil, All-cons, All-append}
use Rattle.page_pool.specs.Desk.{DeskState}
use Rattle.page_pool.specs.Disk.{PageMap}
use Rattle.page_pool.specs.Pool.{IsTold}
use Rattle.sand_model.specs.Database.{Database}
use Rattle.sand_model.specs.Operators.{PlanRow}
use Rattle.statements.specs.Plan.{Plan}
use Rattle.sand_model.specs.Sources.{sorted}
use Rattle.best_first.specs.Visits.{told_pages}
use Rattle.plan_iterator.specs.declared.answer.Answer.{Answer}
use Rattle.plan_stages.specs.Keyed.{keyed_row}
use Rattle.plan_stages.specs.declared.keyed.Keyed.{Keyed}
use Rattle.plan_stages.proofs.SortedRows.{length_sorted}
use Rattle.plan_iterator.specs.Outermost.{made, beneath}
use Rattle.plan_stages.specs.Sorting.{Sorts, sort_waits, sort_steps}

-- what holds over the pages that are told
pub if_told : (desk : DeskState) (X : PageMap → Type 0) → (IsTold desk.pool → X desk.pool.pages) → IfSome (told_pages desk) X
if_told desk X h = go desk.pool.disk.told refl
  where
    go : (b : Bool) → desk.pool.disk.told ≡ b → IfSome (if b then Some desk.pool.pages else None) X
    go true e = h e
    go false e = tt

not_some : {A : Type 0} (x : A) → Some x ≡ None → ⊥
not_some x e = true≢false (ap (λ o. is_some o) e)

module _ {K : Type 0} (HasKey : Keyed K → Type 0) (row : Keyed K → PlanRow) (d : Database) (p : Plan) where
  -- the row that it holds is kept with its key
  kept_of : (closed : Bool) (a : Answer) (key : K) (kept : List (Keyed K)) (taken given : List PlanRow)
      → HasKey (record { key = key; row = a }) → Sorts closed HasKey row d p (Some a) kept taken given
      → Sorts closed HasKey row d p None (kept ++ record { key = key; row = a } ∷ []) taken given
  kept_of true a key kept taken given has s = absurd (not_some a s.free)
  kept_of false a key kept taken given has s = record {
    unbegun = s.unbegun;
    rows = s.rows ∙ (sym (map-append keyed_row kept (record { key = key; row = a } ∷ [])) ∙ sym (append-nil _));
    keys = All-append HasKey kept (record { key = key; row = a } ∷ []) s.keys (All-cons HasKey (record { key = key; row = a }) [] has (All-nil HasKey));
  }

  pub keeps_of : (closed : Bool) (held left : Option Answer) (kept after : List (Keyed K)) (a : Answer) (key : K) (taken given : List PlanRow)
      → held ≡ Some a → left ≡ None → after ≡ kept ++ record { key = key; row = a } ∷ [] → HasKey (record { key = key; row = a })
      → Sorts closed HasKey row d p held kept taken given → Sorts closed HasKey row d p left after taken given
  keeps_of closed held left kept after a key taken given was none more has s =
      subst (λ h. Sorts closed HasKey row d p h after taken given) (sym none)
      (subst (λ ks. Sorts closed HasKey row d p None ks taken given) (sym more)
      (kept_of closed a key kept taken given has (subst (λ h. Sorts closed HasKey row d p h kept taken given) was s)))

  -- at the end what it kept is sorted
  pub sorted_of : (held : Option Answer) (closed : Bool) (kept after : List (Keyed K)) (given : List PlanRow) → sort_waits held closed ≡ false
      → ((rows : List PlanRow) → map keyed_row kept ≡ rows → All HasKey kept → made d p rows ≡ map row after)
      → Sorts closed HasKey row d p held kept (beneath d p) given → Sorts true HasKey row d p held after (beneath d p) given
  sorted_of (Some b) closed kept after given free sorts s = absurd (true≢false free)
  sorted_of None true kept after given free sorts s = absurd (true≢false free)
  sorted_of None false kept after given free sorts s = record {
    free = refl;
    whole = refl;
    split = sorts (beneath d p) (sym (s.rows ∙ append-nil (map keyed_row kept))) s.keys ∙ ap (λ front. front ++ map row after) (sym s.unbegun);
  }

-- taking the end is a step
pub falls_of : {K : Type 0} (cmp : Keyed K → Keyed K → Ordering) (held : Option Answer) (closed : Bool) (kept after : List (Keyed K)) → sort_waits held closed ≡ false → after ≡ sorted cmp kept
    → (m n : ℕ) → m ≤ n → sort_steps held after true m < sort_steps held kept closed n
falls_of cmp (Some b) closed kept after free is m n h = absurd (true≢false free)
falls_of cmp None true kept after free is m n h = absurd (true≢false free)
falls_of cmp None false kept after free is m n h =
    let same : length after ≡ length kept = ap (λ ks. length ks) is ∙ length_sorted cmp kept in omega (arith, h, same)
