-- The open cursor of a name, and the cursors of the model where it makes steps.
use Rattle.std.proofs.Common.{◌≡◌, ℕ, zero, suc, ◌+◌, ◌<◌, ◌≤◌, Bool, true, false, not, cond, ltb, ◌||◌, List, [], ◌∷◌, ◌++◌, length, map, get_or, set, Option, Some}
use Rattle.std.proofs.Common.{None, refl, sym, ◌∙◌, ap, subst, inl, inr, arith, true≢false}
use Rattle.std.specs.Prelude.{is_some, Result, Ok, Err, IfSome}
use Rattle.plan_iterator.specs.Rows.{plan_measure}
use Rattle.sand_base.specs.declared.refusal.Refusal.{Refusal}
use Rattle.sand_base.specs.declared.refusal.Refusal.TheVariants as why
use Rattle.sand_base.specs.declared.source.Failed.{Failed}
use Rattle.sand_model.specs.Answer.{answer}
use Rattle.sand_model.specs.Operators.{PlanRow}
use Rattle.statement_exec.specs.Ending.{refused_line}
use Rattle.open_cursors.specs.Steps.{StepsOn, WritesSteps}
use Rattle.std.specs.List.{position, position_or_len}
use Rattle.std.proofs.lemmas.Bool.{ltb-true, ltb-false}
use Rattle.std.specs.Cmp.Lexicographic.{bytes_decides}
use Rattle.page_pool.specs.Pool.{StampMap}
use Rattle.sand_model.specs.Cursor.{Cursor, OutputLine, Steps, step_of}
use Rattle.sand_model.specs.Database.{same_name, element}
use Rattle.sand_model.specs.Kept.{has_same, has_twice}
use Rattle.sand_model.specs.Outcome.{replaced}
use Rattle.plan_iterator.specs.declared.cursor.RowCursor.{RowCursor}
use Rattle.open_cursors.specs.OpenCursors.{Places, StandAll, HaveOwnNames, NextOf, named}
use Rattle.open_cursors.specs.declared.open_cursor.OpenCursor.{OpenCursor}

-- the first that passes stands at a place; none passes

abbrev pub FirstAt : {X : Type 0} → (X → Bool) → List X → ℕ → Type 0
FirstAt p [] at = ⊥
FirstAt p (x ∷ xs) zero = p x ≡ true
FirstAt p (x ∷ xs) (suc at) = (p x ≡ false) × FirstAt p xs at

abbrev pub NonePasses : {X : Type 0} → (X → Bool) → List X → Type 0
NonePasses p [] = Unit {0}
NonePasses p (x ∷ xs) = (p x ≡ false) × NonePasses p xs

-- its place is one of the list
pub first_below : {X : Type 0} (p : X → Bool) (xs : List X) (at : ℕ) → FirstAt p xs at → at < length xs
first_below p [] at f = absurd f
first_below p (x ∷ xs) zero f = omega arith
first_below p (x ∷ xs) (suc at) f = let rest : at < length xs = first_below p xs at f.1 in omega (arith, rest)

first_at : {X : Type 0} (p : X → Bool) (xs : List X) → position_or_len p xs < length xs → FirstAt p xs (position_or_len p xs)
first_at p [] below = absurd (omega arith)
first_at p (x ∷ xs) below =
    let go : (b : Bool) → p x ≡ b → cond (not b) (1 + position_or_len p xs) 0 < length (x ∷ xs) → FirstAt p (x ∷ xs) (cond (not b) (1 + position_or_len p xs) 0) = elim [
      | true ↦ λ e h. e
      | false ↦ λ e h.
          let one : 1 + position_or_len p xs ≡ suc (position_or_len p xs) = omega arith in
          subst (λ (n : ℕ). FirstAt p (x ∷ xs) n) (sym one) (e, first_at p xs (omega arith))
    ] in
    go (p x) refl below

none_passes : {X : Type 0} (p : X → Bool) (xs : List X) → length xs ≤ position_or_len p xs → NonePasses p xs
none_passes p [] past = tt
none_passes p (x ∷ xs) past =
    let go : (b : Bool) → p x ≡ b → length (x ∷ xs) ≤ cond (not b) (1 + position_or_len p xs) 0 → NonePasses p (x ∷ xs) = elim [
      | true ↦ λ e h. absurd (omega (arith, h))
      | false ↦ λ e h. (e, none_passes p xs (omega (arith, h)))
    ] in
    go (p x) refl past

-- the place that a search gives
pub place_first : {X : Type 0} (p : X → Bool) (xs : List X) (at : ℕ) → position p xs ≡ Some at → FirstAt p xs at
place_first p xs at h =
    let go : (b : Bool) → ltb (position_or_len p xs) (length xs) ≡ b → cond b (Some (position_or_len p xs)) None ≡ Some at → FirstAt p xs at = elim [
      | true ↦ λ e k.
          let same : position_or_len p xs ≡ at = some_same (position_or_len p xs) at k in
          subst (λ (n : ℕ). FirstAt p xs n) same (first_at p xs (ltb-true (position_or_len p xs) (length xs) e))
      | false ↦ λ e k. absurd (true≢false (sym (ap (λ (o : Option ℕ). is_some o) k)))
    ] in
    go (ltb (position_or_len p xs) (length xs)) refl h where
      some_same : (a b : ℕ) → Some a ≡ Some b → a ≡ b
      some_same a b e = ap value e where
        value : Option ℕ → ℕ
        value None = a
        value (Some n) = n

pub place_none : {X : Type 0} (p : X → Bool) (xs : List X) → position p xs ≡ None → NonePasses p xs
place_none p xs h =
    let go : (b : Bool) → ltb (position_or_len p xs) (length xs) ≡ b → cond b (Some (position_or_len p xs)) None ≡ None → NonePasses p xs = elim [
      | true ↦ λ e k. absurd (true≢false (ap (λ (o : Option ℕ). is_some o) k))
      | false ↦ λ e k. none_passes p xs (ltb-false (position_or_len p xs) (length xs) e)
    ] in
    go (ltb (position_or_len p xs) (length xs)) refl h

-- the cursors of the model without one of the name are as they were
unreplaced : (name : List ℕ) (after : Cursor) (cs : List Cursor) → NonePasses (λ c. same_name c.name name) cs → replaced name after cs ≡ cs
unreplaced name after [] h = refl
unreplaced name after (c ∷ cs) h =
    ap (λ (b : Bool). cond b after c ∷ replaced name after cs) h.0 ∙ ap (λ (rest : List Cursor). c ∷ rest) (unreplaced name after cs h.1)

-- names that are told to be one are
pub same_text : (a b : List ℕ) → same_name a b ≡ true → a ≡ b
same_text a b h = (bytes_decides a b).0 h

-- a name that stands once stands in none of the others
pub no_other : (name first : List ℕ) (cs : List Cursor) → first ≡ name → has_same first (map (λ c. c.name) cs) ≡ false → NonePasses (λ c. same_name c.name name) cs
no_other name first [] e h = tt
no_other name first (c ∷ cs) e h =
    let go : (b : Bool) → same_name c.name first ≡ b → b || has_same first (map (λ c. c.name) cs) ≡ false → (same_name c.name first ≡ false) × (has_same first (map (λ c. c.name) cs) ≡ false) = elim [
      | true ↦ λ t k. absurd (true≢false k)
      | false ↦ λ t k. (t, k)
    ] in
    let both = go (same_name c.name first) refl h in
    (subst (λ (n : List ℕ). same_name c.name n ≡ false) e both.0, no_other name first cs e both.1)

pub both_false : (a b : Bool) → a || b ≡ false → (a ≡ false) × (b ≡ false)
both_false true b h = absurd (true≢false h)
both_false false b h = (refl, h)

-- what stands at a place among the open cursors
pub record StandsAt {S T : Type 0} (At : Places S T) (stamps : StampMap) (xs : List (OpenCursor S T)) (cs : List Cursor) (name : List ℕ) (at : ℕ) : Type 0 where
  pub cursor : Cursor
  pub is : named cs name ≡ Some cursor
  pub stands : (d : OpenCursor S T) → At (get_or xs at d) stamps cursor
  pub others : (d : OpenCursor S T) (r : OpenCursor S T) (after : Cursor) → At r stamps after → after.name ≡ cursor.name → r.name ≡ (get_or xs at d).name
      → StandAll At stamps (set xs at r) (replaced name after cs)

module _ {S T : Type 0} (At : Places S T) (stamps : StampMap) where
  pub none_named : (xs : List (OpenCursor S T)) (cs : List Cursor) (name : List ℕ) → StandAll At stamps xs cs → NonePasses (λ x. same_name x.name name) xs → named cs name ≡ None
  none_named [] [] name h n = refl
  none_named [] (c ∷ cs) name h n = absurd h
  none_named (x ∷ xs) [] name h n = absurd h
  none_named (x ∷ xs) (c ∷ cs) name h n =
      let no : same_name c.name name ≡ false = ap (λ (m : List ℕ). same_name m name) h.0 ∙ n.0 in
      ap (λ (b : Bool). cond b (Some c) (named cs name)) no ∙ none_named xs cs name h.2 n.1

  -- some cursor of the model stands at the place
  at_stands : (xs : List (OpenCursor S T)) (cs : List Cursor) (p : OpenCursor S T → Bool) (at : ℕ) (d : OpenCursor S T) → StandAll At stamps xs cs → FirstAt p xs at
      → (c : Cursor) × At (get_or xs at d) stamps c
  at_stands [] cs p at d h f = absurd f
  at_stands (x ∷ xs) [] p at d h f = absurd h
  at_stands (x ∷ xs) (c ∷ cs) p zero d h f = (c, h.1)
  at_stands (x ∷ xs) (c ∷ cs) p (suc at) d h f = at_stands xs cs p at d h.2 f.1

  -- the first of the name
  pub at_place : (xs : List (OpenCursor S T)) (cs : List Cursor) (name : List ℕ) (at : ℕ) → HaveOwnNames cs → StandAll At stamps xs cs → FirstAt (λ x. same_name x.name name) xs at
      → StandsAt At stamps xs cs name at
  at_place [] cs name at own h f = absurd f
  at_place (x ∷ xs) [] name at own h f = absurd h
  at_place (x ∷ xs) (c ∷ cs) name zero own h f =
      let yes : same_name c.name name ≡ true = ap (λ (m : List ℕ). same_name m name) h.0 ∙ f in
      let is : c.name ≡ name = same_text c.name name yes in
      let parts = both_false (has_same c.name (map (λ k. k.name) cs)) (has_twice (map (λ k. k.name) cs)) own in
      let rest : NonePasses (λ k. same_name k.name name) cs = no_other name c.name cs is parts.0 in
      record {
        cursor = c;
        is = ap (λ (b : Bool). cond b (Some c) (named cs name)) yes;
        stands = λ d. h.1;
        others = λ d r after at e same.
            let to : replaced name after (c ∷ cs) ≡ after ∷ cs =
            ap (λ (b : Bool). cond b after c ∷ replaced name after cs) yes ∙ ap (λ (ks : List Cursor). after ∷ ks) (unreplaced name after cs rest) in
            subst (λ (ks : List Cursor). StandAll At stamps (r ∷ xs) ks) (sym to) (e ∙ (h.0 ∙ sym same), at, h.2);
      }
  at_place (x ∷ xs) (c ∷ cs) name (suc at) own h f =
      let no : same_name c.name name ≡ false = ap (λ (m : List ℕ). same_name m name) h.0 ∙ f.0 in
      let parts = both_false (has_same c.name (map (λ k. k.name) cs)) (has_twice (map (λ k. k.name) cs)) own in
      let w : StandsAt At stamps xs cs name at = at_place xs cs name at parts.1 h.2 f.1 in
      record {
        cursor = w.cursor;
        is = ap (λ (b : Bool). cond b (Some c) (named cs name)) no ∙ w.is;
        stands = λ d. w.stands d;
        others = λ d r after k e same.
            let to : replaced name after (c ∷ cs) ≡ c ∷ replaced name after cs = ap (λ (b : Bool). cond b after c ∷ replaced name after cs) no in
            subst (λ (ks : List Cursor). StandAll At stamps (x ∷ set xs at r) ks) (sym to) (h.0, h.1, w.others d r after k e same);
      }

-- a step keeps the name
step_name : (c : Cursor) → (step_of plan_measure c).1.name ≡ c.name
step_name c =
    let go : (o : Option PlanRow) → element (answer plan_measure c.database c.plan) c.given ≡ o → (step_of plan_measure c).1.name ≡ c.name =
    elim [ None ↦ λ e. rw e refl | Some row ↦ λ e. rw e refl ] in
    go (element (answer plan_measure c.database c.plan) c.given) refl

steps_name : (may : Refusal → Type 0) (n : ℕ) (c : Cursor) (lines : List OutputLine) (after : Cursor) → Steps plan_measure may n c lines after → after.name ≡ c.name
steps_name may zero c lines after h = ap (λ (k : Cursor). k.name) h.1
steps_name may (suc n) c lines after (inl row) =
    steps_name may n row.1 row.2 after row.5 ∙ (sym (ap (λ (p : OutputLine × Cursor). p.1.name) row.3) ∙ step_name c)
steps_name may (suc n) c lines after (inr (inl end)) = sym (ap (λ (p : OutputLine × Cursor). p.1.name) end.0) ∙ step_name c
steps_name may (suc n) c lines after (inr (inr refused)) = ap (λ (k : Cursor). k.name) refused.2.2

kept_name : (c : Cursor) (count : ℕ) (a b : List ℕ → Type 0) (result : Result (Option Refusal) Failed) (after : Cursor) → WritesSteps c count after a b result → after.name ≡ c.name
kept_name c count a b (Ok end) after h = steps_name (λ r. end ≡ Some r) count c (h.lines ++ refused_line end) after h.holds.0
kept_name c count a b (Err failed) after h = steps_name (λ r. ⊥) h.1.0 c h.0 after h.1.2

module _ {S T : Type 0} (At : Places S T) (told : Option StampMap) (xs : List (OpenCursor S T)) (name : List ℕ) (count : ℕ) where
  -- no cursor has the name
  pub next_none : NonePasses (λ x. same_name x.name name) xs → (a : List ℕ → Type 0)
      → IfSome told (λ stamps. (cs : List Cursor) → HaveOwnNames cs → StandAll At stamps xs cs
      → NextOf (named cs name) cs name count a a (Ok (Some why.UnknownCursor)) (λ after. StandAll At stamps xs after))
  next_none n a = over told where
    over : (told : Option StampMap)
        → IfSome told (λ stamps. (cs : List Cursor) → HaveOwnNames cs → StandAll At stamps xs cs
        → NextOf (named cs name) cs name count a a (Ok (Some why.UnknownCursor)) (λ after. StandAll At stamps xs after))
    over None = tt
    over (Some stamps) = λ cs own h.
        subst (λ (o : Option Cursor). NextOf o cs name count a a (Ok (Some why.UnknownCursor)) (λ after. StandAll At stamps xs after))
        (sym (none_named At stamps xs cs name h n)) (refl, (λ bytes k. k), h)

  -- the cursor of the name makes steps
  pub next_named : (at : ℕ) (d r : OpenCursor S T) → r.name ≡ (get_or xs at d).name → (a b : List ℕ → Type 0) (result : Result (Option Refusal) Failed) → FirstAt (λ x. same_name x.name name) xs at
      → IfSome told (λ stamps. (c : Cursor) → At (get_or xs at d) stamps c → StepsOn c count a b result (At r stamps))
      → IfSome told (λ stamps. (cs : List Cursor) → HaveOwnNames cs → StandAll At stamps xs cs
      → NextOf (named cs name) cs name count a b result (λ after. StandAll At stamps (set xs at r) after))
  next_named at d r same a b result f h = over told h where
    over : (told : Option StampMap) → IfSome told (λ stamps. (c : Cursor) → At (get_or xs at d) stamps c → StepsOn c count a b result (At r stamps))
        → IfSome told (λ stamps. (cs : List Cursor) → HaveOwnNames cs → StandAll At stamps xs cs
        → NextOf (named cs name) cs name count a b result (λ after. StandAll At stamps (set xs at r) after))
    over None h = tt
    over (Some stamps) h = λ cs own all.
        let w : StandsAt At stamps xs cs name at = at_place At stamps xs cs name at own all f in
        let s : StepsOn w.cursor count a b result (At r stamps) = h w.cursor (w.stands d) in
        let on : StepsOn w.cursor count a b result (λ after. StandAll At stamps (set xs at r) (replaced name after cs)) =
        record { after = s.after; at = w.others d r s.after s.at (kept_name w.cursor count a b result s.after s.steps) same; steps = s.steps; pages = s.pages } in
        subst (λ (o : Option Cursor). NextOf o cs name count a b result (λ after. StandAll At stamps (set xs at r) after)) (sym w.is) on

  -- the cursor at the place stands
  pub place_stands : (at : ℕ) (d : OpenCursor S T) (p : OpenCursor S T → Bool) → FirstAt p xs at → IfSome told (λ stamps. (cs : List Cursor) × StandAll At stamps xs cs)
      → IfSome told (λ stamps. (c : Cursor) × At (get_or xs at d) stamps c)
  place_stands at d p f h = over told h where
    over : (told : Option StampMap) → IfSome told (λ stamps. (cs : List Cursor) × StandAll At stamps xs cs) → IfSome told (λ stamps. (c : Cursor) × At (get_or xs at d) stamps c)
    over None h = tt
    over (Some stamps) h = at_stands At stamps xs h.0 p at d h.1 f

  -- the same, where the cursor at the place is in hand
  pub next_in_hand : (at : ℕ) (d r : OpenCursor S T) → r.name ≡ d.name → (a b : List ℕ → Type 0) (result : Result (Option Refusal) Failed) → d ≡ get_or xs at d
      → FirstAt (λ x. same_name x.name name) xs at
      → IfSome told (λ stamps. (c : Cursor) → At d stamps c → StepsOn c count a b result (At r stamps))
      → IfSome told (λ stamps. (cs : List Cursor) → HaveOwnNames cs → StandAll At stamps xs cs
      → NextOf (named cs name) cs name count a b result (λ after. StandAll At stamps (set xs at r) after))
  next_in_hand at d r same a b result here f =
      subst (λ (y : OpenCursor S T). IfSome told (λ stamps. (c : Cursor) → At y stamps c → StepsOn c count a b result (At r stamps))
      → IfSome told (λ stamps. (cs : List Cursor) → HaveOwnNames cs → StandAll At stamps xs cs
      → NextOf (named cs name) cs name count a b result (λ after. StandAll At stamps (set xs at r) after))) (sym here)
      (next_named at d r (same ∙ ap (λ (x : OpenCursor S T). x.name) here) a b result f)

  pub in_hand_stands : (at : ℕ) (d : OpenCursor S T) (p : OpenCursor S T → Bool) → d ≡ get_or xs at d → FirstAt p xs at → IfSome told (λ stamps. (cs : List Cursor) × StandAll At stamps xs cs)
      → IfSome told (λ stamps. (c : Cursor) × At d stamps c)
  in_hand_stands at d p here f h =
      subst (λ (y : OpenCursor S T). IfSome told (λ stamps. (c : Cursor) × At y stamps c)) (sym here) (place_stands at d p f h)

-- the place that a search over what is shown gives
pub first_shown : {S T : Type 0} (shown xs : List (OpenCursor S T)) (said name : List ℕ) (place : Option ℕ) (at : ℕ) → place ≡ position (λ x. same_name x.name said) shown
    → said ≡ name → shown ≡ xs → place ≡ Some at → FirstAt (λ (x : OpenCursor S T). same_name x.name name) xs at
first_shown {S} {T} shown xs said name place at e n s is =
    place_first (λ (x : OpenCursor S T). same_name x.name name) xs at
    (ap (λ (ys : List (OpenCursor S T)). position (λ (x : OpenCursor S T). same_name x.name name) ys) (sym s)
    ∙ (ap (λ (m : List ℕ). position (λ (x : OpenCursor S T). same_name x.name m) shown) (sym n) ∙ (sym e ∙ is)))

pub none_shown : {S T : Type 0} (shown xs : List (OpenCursor S T)) (said name : List ℕ) (place : Option ℕ) → place ≡ position (λ x. same_name x.name said) shown
    → said ≡ name → shown ≡ xs → place ≡ None → NonePasses (λ (x : OpenCursor S T). same_name x.name name) xs
none_shown {S} {T} shown xs said name place e n s is =
    place_none (λ (x : OpenCursor S T). same_name x.name name) xs
    (ap (λ (ys : List (OpenCursor S T)). position (λ (x : OpenCursor S T). same_name x.name name) ys) (sym s)
    ∙ (ap (λ (m : List ℕ). position (λ (x : OpenCursor S T). same_name x.name m) shown) (sym n) ∙ (sym e ∙ is)))
