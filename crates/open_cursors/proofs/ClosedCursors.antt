-- The cursors where the one of a name is gone.
use Rattle.std.proofs.Common.{◌≡◌, ℕ, zero, suc, Bool, true, false, not, cond, List, [], ◌∷◌, map, Option, None, Some, refl, sym, ◌∙◌, ap, subst}
use Rattle.std.specs.Prelude.{Result, Ok, Err, remove}
use Rattle.page_pool.specs.Pool.{StampMap}
use Rattle.sand_base.specs.declared.refusal.Refusal.{Refusal}
use Rattle.sand_base.specs.declared.refusal.Refusal.TheVariants as why
use Rattle.sand_model.specs.Cursor.{Cursor}
use Rattle.sand_model.specs.Database.{same_name}
use Rattle.sand_model.specs.Kept.{has_same, has_twice}
use Rattle.sand_model.specs.Outcome.{closed}
use Rattle.open_cursors.specs.OpenCursors.{Places, StandAll, HaveOwnNames, ClosesOf, named}
use Rattle.open_cursors.specs.declared.open_cursor.OpenCursor.{OpenCursor}
use Rattle.open_cursors.proofs.NamedCursors.{FirstAt, NonePasses, none_named, no_other, both_false, same_text}

-- cursors without one of the name are as they were
unclosed : (name : List ℕ) (cs : List Cursor) → NonePasses (λ c. same_name c.name name) cs → closed name cs ≡ cs
unclosed name [] h = refl
unclosed name (c ∷ cs) h =
    ap (λ (b : Bool). cond (not b) (c ∷ closed name cs) (closed name cs)) h.0 ∙ ap (λ (rest : List Cursor). c ∷ rest) (unclosed name cs h.1)

-- a cursor of the model of the name
record IsClosed {S T : Type 0} (At : Places S T) (stamps : StampMap) (xs : List (OpenCursor S T)) (cs : List Cursor) (name : List ℕ) (at : ℕ) : Type 0 where
  cursor : Cursor
  is : named cs name ≡ Some cursor
  others : StandAll At stamps (remove xs at) (closed name cs)

module _ {S T : Type 0} (At : Places S T) (stamps : StampMap) where
  is_closed : (xs : List (OpenCursor S T)) (cs : List Cursor) (name : List ℕ) (at : ℕ) → HaveOwnNames cs → StandAll At stamps xs cs → FirstAt (λ x. same_name x.name name) xs at
      → IsClosed At stamps xs cs name at
  is_closed [] cs name at own h f = absurd f
  is_closed (x ∷ xs) [] name at own h f = absurd h
  is_closed (x ∷ xs) (c ∷ cs) name zero own h f =
      let yes : same_name c.name name ≡ true = ap (λ (m : List ℕ). same_name m name) h.0 ∙ f in
      let is : c.name ≡ name = same_text c.name name yes in
      let parts = both_false (has_same c.name (map (λ k. k.name) cs)) (has_twice (map (λ k. k.name) cs)) own in
      let rest : NonePasses (λ k. same_name k.name name) cs = no_other name c.name cs is parts.0 in
      let to : closed name (c ∷ cs) ≡ cs = ap (λ (b : Bool). cond (not b) (c ∷ closed name cs) (closed name cs)) yes ∙ unclosed name cs rest in
      record {
        cursor = c;
        is = ap (λ (b : Bool). cond b (Some c) (named cs name)) yes;
        others = subst (λ (ks : List Cursor). StandAll At stamps (remove (x ∷ xs) 0) ks) (sym to) h.2;
      }
  is_closed (x ∷ xs) (c ∷ cs) name (suc at) own h f =
      let no : same_name c.name name ≡ false = ap (λ (m : List ℕ). same_name m name) h.0 ∙ f.0 in
      let parts = both_false (has_same c.name (map (λ k. k.name) cs)) (has_twice (map (λ k. k.name) cs)) own in
      let w : IsClosed At stamps xs cs name at = is_closed xs cs name at parts.1 h.2 f.1 in
      let to : closed name (c ∷ cs) ≡ c ∷ closed name cs = ap (λ (b : Bool). cond (not b) (c ∷ closed name cs) (closed name cs)) no in
      record {
        cursor = w.cursor;
        is = ap (λ (b : Bool). cond b (Some c) (named cs name)) no ∙ w.is;
        others = subst (λ (ks : List Cursor). StandAll At stamps (x ∷ remove xs at) ks) (sym to) (h.0, h.1, w.others);
      }

  -- no cursor has the name
  pub closes_none : (xs : List (OpenCursor S T)) (cs : List Cursor) (name : List ℕ) → NonePasses (λ x. same_name x.name name) xs → StandAll At stamps xs cs
      → ClosesOf (named cs name) cs name (Err why.UnknownCursor) (StandAll At stamps xs)
  closes_none xs cs name n h =
      subst (λ (o : Option Cursor). ClosesOf o cs name (Err why.UnknownCursor) (StandAll At stamps xs)) (sym (none_named At stamps xs cs name h n)) (refl, h)

  -- the cursor of the name is gone
  pub closes_named : (xs ys : List (OpenCursor S T)) (cs : List Cursor) (name : List ℕ) (at : ℕ) → ys ≡ remove xs at → FirstAt (λ x. same_name x.name name) xs at
      → HaveOwnNames cs → StandAll At stamps xs cs
      → ClosesOf (named cs name) cs name (Ok tt) (StandAll At stamps ys)
  closes_named xs ys cs name at gone f own h =
      let w : IsClosed At stamps xs cs name at = is_closed xs cs name at own h f in
      subst (λ (o : Option Cursor). ClosesOf o cs name (Ok tt) (StandAll At stamps ys)) (sym w.is)
      (refl, subst (λ (zs : List (OpenCursor S T)). StandAll At stamps zs (closed name cs)) (sym gone) w.others)

-- what holds of the cursors that are left holds of them in another way
pub closes_so : (P Q : List Cursor → Type 0) (o : Option Cursor) (cs : List Cursor) (name : List ℕ) (r : Result (Unit {0}) Refusal) → ((ks : List Cursor) → P ks → Q ks)
    → ClosesOf o cs name r P → ClosesOf o cs name r Q
closes_so P Q None cs name r so h = (h.0, so cs h.1)
closes_so P Q (Some c) cs name r so h = (h.0, so (closed name cs) h.1)
