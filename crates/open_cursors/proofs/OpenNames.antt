-- The names of the open cursors, whatever the pages.
use Rattle.std.proofs.Common.{◌≡◌, ℕ, zero, suc, Bool, true, false, cond, ◌||◌, List, [], ◌∷◌, length, map, get_or, set, Option, Some, None, refl, sym, ◌∙◌, ap, ap₂, subst, true≢false}
use Rattle.std.proofs.lemmas.List.{length-map}
use Rattle.std.specs.List.{list_any}
use Rattle.std.specs.Prelude.{remove, Result, Ok, ⊤}
use Rattle.page_pool.specs.Pool.{StampMap}
use Rattle.plan_iterator.specs.declared.cursor.RowCursor.{RowCursor}
use Rattle.sand_base.specs.Streams.{Stays}
use Rattle.sand_base.specs.declared.refusal.Refusal.{Refusal}
use Rattle.sand_base.specs.declared.refusal.Refusal.TheVariants as why
use Rattle.sand_base.specs.declared.source.Failed.{Failed}
use Rattle.sand_model.specs.Cursor.{Cursor}
use Rattle.sand_model.specs.Database.{same_name}
use Rattle.sand_model.specs.Outcome.{closed}
use Rattle.sand_model.specs.StatementChecks.{is_there}
use Rattle.open_cursors.specs.OpenCursors.{Places, StandAll, AreNamed, AnswersNext, ClosesOf, is_open, named, cursors_without}
use Rattle.open_cursors.specs.Steps.{AnswersPages}
use Rattle.open_cursors.specs.declared.open_cursor.OpenCursor.{OpenCursor}
use Rattle.open_cursors.proofs.NamedCursors.{FirstAt, NonePasses}

module _ {S T : Type 0} (name : List ℕ) where
  -- one of the name is found, or none
  pub open_at : (xs : List (OpenCursor S T)) (at : ℕ) → FirstAt (λ x. same_name x.name name) xs at → is_open xs name ≡ true
  open_at [] at f = absurd f
  open_at (x ∷ xs) zero f = ap (λ (b : Bool). b || is_open xs name) f
  open_at (x ∷ xs) (suc at) f = ap (λ (b : Bool). b || is_open xs name) f.0 ∙ open_at xs at f.1

  pub open_none : (xs : List (OpenCursor S T)) → NonePasses (λ x. same_name x.name name) xs → is_open xs name ≡ false
  open_none [] n = refl
  open_none (x ∷ xs) n = ap (λ (b : Bool). b || is_open xs name) n.0 ∙ open_none xs n.1

  -- without the first of the name
  pub without_at : (xs : List (OpenCursor S T)) (at : ℕ) → FirstAt (λ x. same_name x.name name) xs at → remove xs at ≡ cursors_without name xs
  without_at [] at f = absurd f
  without_at (x ∷ xs) zero f = sym (ap (λ (b : Bool). cond b xs (x ∷ cursors_without name xs)) f)
  without_at (x ∷ xs) (suc at) f =
      ap (λ (ys : List (OpenCursor S T)). x ∷ ys) (without_at xs at f.1) ∙ sym (ap (λ (b : Bool). cond b xs (x ∷ cursors_without name xs)) f.0)

  pub without_none : (xs : List (OpenCursor S T)) → NonePasses (λ x. same_name x.name name) xs → xs ≡ cursors_without name xs
  without_none [] n = refl
  without_none (x ∷ xs) n =
      ap (λ (ys : List (OpenCursor S T)). x ∷ ys) (without_none xs n.1) ∙ sym (ap (λ (b : Bool). cond b xs (x ∷ cursors_without name xs)) n.0)

  -- another cursor under the name of the one at the place
  names_set : (xs : List (OpenCursor S T)) (at : ℕ) (d y : OpenCursor S T) → y.name ≡ (get_or xs at d).name → FirstAt (λ x. same_name x.name name) xs at
      → map (λ x. x.name) (set xs at y) ≡ map (λ x. x.name) xs
  names_set [] at d y e f = absurd f
  names_set (x ∷ xs) zero d y e f = ap (λ (n : List ℕ). n ∷ map (λ k. k.name) xs) e
  names_set (x ∷ xs) (suc at) d y e f = ap (λ (ns : List (List ℕ)). x.name ∷ ns) (names_set xs at d y e f.1)

  others_set : (xs : List (OpenCursor S T)) (at : ℕ) (d y : OpenCursor S T) → y.name ≡ (get_or xs at d).name → FirstAt (λ x. same_name x.name name) xs at
      → cursors_without name (set xs at y) ≡ cursors_without name xs
  others_set [] at d y e f = absurd f
  others_set (x ∷ xs) zero d y e f =
      ap (λ (b : Bool). cond b xs (y ∷ cursors_without name xs)) (ap (λ (n : List ℕ). same_name n name) e ∙ f) ∙ sym (ap (λ (b : Bool). cond b xs (x ∷ cursors_without name xs)) f)
  others_set (x ∷ xs) (suc at) d y e f =
      ap (λ (b : Bool). cond b (set xs at y) (x ∷ cursors_without name (set xs at y))) f.0
      ∙ (ap (λ (ys : List (OpenCursor S T)). x ∷ ys) (others_set xs at d y e f.1) ∙ sym (ap (λ (b : Bool). cond b xs (x ∷ cursors_without name xs)) f.0))

  -- the same, where the cursor at the place is in hand
  pub names_in_hand : (xs : List (OpenCursor S T)) (at : ℕ) (d r : OpenCursor S T) → r.name ≡ d.name → d ≡ get_or xs at d → FirstAt (λ x. same_name x.name name) xs at
      → map (λ x. x.name) (set xs at r) ≡ map (λ x. x.name) xs
  names_in_hand xs at d r same here f = names_set xs at d r (same ∙ ap (λ (x : OpenCursor S T). x.name) here) f

  pub others_in_hand : (xs : List (OpenCursor S T)) (at : ℕ) (d r : OpenCursor S T) → r.name ≡ d.name → d ≡ get_or xs at d → FirstAt (λ x. same_name x.name name) xs at
      → cursors_without name (set xs at r) ≡ cursors_without name xs
  others_in_hand xs at d r same here f = others_set xs at d r (same ∙ ap (λ (x : OpenCursor S T). x.name) here) f

  -- how `next` is refused
  pub next_unknown : (xs : List (OpenCursor S T)) → NonePasses (λ x. same_name x.name name) xs → AnswersNext (is_open xs name) (Ok (Some why.UnknownCursor))
  next_unknown xs n = subst (λ (b : Bool). AnswersNext b (Ok (Some why.UnknownCursor))) (sym (open_none xs n)) refl

  pub next_known : (xs : List (OpenCursor S T)) (at : ℕ) (result : Result (Option Refusal) Failed) → FirstAt (λ x. same_name x.name name) xs at → AnswersPages result
      → AnswersNext (is_open xs name) result
  next_known xs at result f h = subst (λ (b : Bool). AnswersNext b result) (sym (open_at xs at f)) h

  -- a cursor of the name is open, so nothing is said of what is written where none is
  pub next_open : (xs : List (OpenCursor S T)) (at : ℕ) (a b : List ℕ → Type 0) → FirstAt (λ x. same_name x.name name) xs at → is_open xs name ≡ false → Stays a b
  next_open xs at a b f closed = absurd (true≢false (sym (open_at xs at f) ∙ closed))

-- a name among names
abbrev has_name : List ℕ → List (List ℕ) → Bool
has_name name names = list_any (λ n. same_name n name) names

model_has : (name : List ℕ) (cs : List Cursor) → is_there (named cs name) ≡ has_name name (map (λ c. c.name) cs)
model_has name [] = refl
model_has name (c ∷ cs) =
    let go : (b : Bool) → is_there (cond b (Some c) (named cs name)) ≡ (b || has_name name (map (λ k. k.name) cs)) = elim [ true ↦ refl | false ↦ model_has name cs ] in
    go (same_name c.name name)

module _ {S T : Type 0} where
  open_has : (name : List ℕ) (xs : List (OpenCursor S T)) → is_open xs name ≡ has_name name (map (λ x. x.name) xs)
  open_has name [] = refl
  open_has name (x ∷ xs) = ap (λ (b : Bool). same_name x.name name || b) (open_has name xs)

  -- cursors of the same names: one is open exactly where the model has one
  pub named_open : (xs : List (OpenCursor S T)) (cs : List Cursor) (name : List ℕ) → AreNamed xs cs → is_there (named cs name) ≡ is_open xs name
  named_open xs cs name h = model_has name cs ∙ (ap (λ (ns : List (List ℕ)). has_name name ns) h ∙ sym (open_has name xs))

  pub named_many : (xs : List (OpenCursor S T)) (cs : List Cursor) → AreNamed xs cs → length cs ≡ length xs
  named_many xs cs h = sym (length-map cs (λ c. c.name)) ∙ (ap (λ (ns : List (List ℕ)). length ns) h ∙ length-map xs (λ x. x.name))

  -- cursors that stand have the names
  pub stand_named : (At : Places S T) (stamps : StampMap) (xs : List (OpenCursor S T)) (cs : List Cursor) → StandAll At stamps xs cs → AreNamed xs cs
  stand_named At stamps [] [] h = refl
  stand_named At stamps [] (c ∷ cs) h = absurd h
  stand_named At stamps (x ∷ xs) [] h = absurd h
  stand_named At stamps (x ∷ xs) (c ∷ cs) h = ap₂ (λ (n : List ℕ) (ns : List (List ℕ)). n ∷ ns) h.0 (stand_named At stamps xs cs h.2)

-- no cursor has the name where none is there
pub not_there : (o : Option Cursor) → is_there o ≡ false → o ≡ None
not_there None e = refl
not_there (Some c) e = absurd (true≢false e)

-- a cursor stands anywhere
abbrev pub Anywhere : {S T : Type 0} → Places S T
Anywhere r stamps c = ⊤

abbrev first_name : List (List ℕ) → List ℕ
first_name [] = []
first_name (n ∷ ns) = n

abbrev other_names : List (List ℕ) → List (List ℕ)
other_names [] = []
other_names (n ∷ ns) = ns

abbrev some_names : List (List ℕ) → Bool
some_names [] = false
some_names (n ∷ ns) = true

module _ {S T : Type 0} (stamps : StampMap) where
  -- cursors of the names stand, wherever it is
  pub named_stand : (xs : List (OpenCursor S T)) (cs : List Cursor) → AreNamed xs cs → StandAll Anywhere stamps xs cs
  named_stand [] [] h = tt
  named_stand [] (c ∷ cs) h = absurd (true≢false (ap some_names h))
  named_stand (x ∷ xs) [] h = absurd (true≢false (sym (ap some_names h)))
  named_stand (x ∷ xs) (c ∷ cs) h = (ap first_name h, tt, named_stand xs cs (ap other_names h))

  -- what is said of an end by where the cursors stand is said by their names
  pub closes_by_names : (ys : List (OpenCursor S T)) (cs : List Cursor) (name : List ℕ) (result : Result (Unit {0}) Refusal) → ClosesOf (named cs name) cs name result (StandAll Anywhere stamps ys)
      → ClosesOf (named cs name) cs name result (AreNamed ys)
  closes_by_names ys cs name result h = go (named cs name) h where
    go : (o : Option Cursor) → ClosesOf o cs name result (StandAll Anywhere stamps ys) → ClosesOf o cs name result (AreNamed ys)
    go None k = (k.0, stand_named Anywhere stamps ys cs k.1)
    go (Some c) k = (k.0, stand_named Anywhere stamps ys (closed name cs) k.1)
