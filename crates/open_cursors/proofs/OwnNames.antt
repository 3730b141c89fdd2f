-- Open cursors keep names of their own.
use Rattle.std.proofs.Common.{◌≡◌, ℕ, Bool, true, false, not, cond, ◌||◌, List, [], ◌∷◌, ◌++◌, map, Option, Some, None, refl, sym, ◌∙◌, ap, ap₂, true≢false}
use Rattle.std.specs.Prelude.{is_some}
use Rattle.std.specs.Cmp.Lexicographic.{bytes_decides}
use Rattle.sand_model.specs.Cursor.{Cursor}
use Rattle.sand_model.specs.Database.{same_name}
use Rattle.sand_model.specs.Kept.{has_same, has_twice}
use Rattle.sand_model.specs.Outcome.{replaced, closed}
use Rattle.open_cursors.specs.OpenCursors.{HaveOwnNames, named}
use Rattle.open_cursors.proofs.NamedCursors.{both_false, same_text}

names : List Cursor → List (List ℕ)
names cs = map (λ c. c.name) cs

some_is : (a b : Cursor) → Some a ≡ Some b → a ≡ b
some_is a b e = ap value e where
  value : Option Cursor → Cursor
  value None = a
  value (Some c) = c

-- the cursor that is found has the name
pub found_name : (cs : List Cursor) (name : List ℕ) (c : Cursor) → named cs name ≡ Some c → c.name ≡ name
found_name [] name c e = absurd (true≢false (sym (ap (λ (o : Option Cursor). is_some o) e)))
found_name (x ∷ cs) name c e =
    let go : (b : Bool) → same_name x.name name ≡ b → cond b (Some x) (named cs name) ≡ Some c → c.name ≡ name = elim [
      | true ↦ λ t k. ap (λ (y : Cursor). y.name) (sym (some_is x c k)) ∙ same_text x.name name t
      | false ↦ λ t k. found_name cs name c k
    ] in
    go (same_name x.name name) refl e

-- with one replaced by another of its name
names_replaced : (name : List ℕ) (after : Cursor) (cs : List Cursor) → after.name ≡ name → names (replaced name after cs) ≡ names cs
unfolding names
names_replaced name after [] e = refl
names_replaced name after (c ∷ cs) e =
    let one : (b : Bool) → same_name c.name name ≡ b → (cond b after c).name ≡ c.name = elim [ true ↦ λ t. e ∙ sym (same_text c.name name t) | false ↦ λ t. refl ] in
    ap₂ (λ (x : List ℕ) (xs : List (List ℕ)). x ∷ xs) (one (same_name c.name name) refl) (names_replaced name after cs e)

pub replaced_names : (cs : List Cursor) (name : List ℕ) (c after : Cursor) → named cs name ≡ Some c → after.name ≡ c.name → map (λ k. k.name) (replaced name after cs) ≡ map (λ k. k.name) cs
unfolding names
replaced_names cs name c after is e = names_replaced name after cs (e ∙ found_name cs name c is)

pub own_replaced : (cs : List Cursor) (name : List ℕ) (c after : Cursor) → named cs name ≡ Some c → after.name ≡ c.name → HaveOwnNames cs → HaveOwnNames (replaced name after cs)
unfolding names
own_replaced cs name c after is e own = ap has_twice (names_replaced name after cs (e ∙ found_name cs name c is)) ∙ own

-- with one closed
same_closed : (name other : List ℕ) (cs : List Cursor) → has_same other (names cs) ≡ false → has_same other (names (closed name cs)) ≡ false
unfolding names
same_closed name other [] h = refl
same_closed name other (c ∷ cs) h =
    let parts = both_false (same_name c.name other) (has_same other (names cs)) h in
    let rest : has_same other (names (closed name cs)) ≡ false = same_closed name other cs parts.1 in
    let go : (b : Bool) → has_same other (names (cond (not b) (c ∷ closed name cs) (closed name cs))) ≡ false = elim [
      | true ↦ rest
      | false ↦ ap (λ (x : Bool). x || has_same other (names (closed name cs))) parts.0 ∙ rest
    ] in
    go (same_name c.name name)

pub own_closed : (cs : List Cursor) (name : List ℕ) → HaveOwnNames cs → HaveOwnNames (closed name cs)
unfolding names
own_closed [] name own = refl
own_closed (c ∷ cs) name own =
    let parts = both_false (has_same c.name (names cs)) (has_twice (names cs)) own in
    let rest : has_twice (names (closed name cs)) ≡ false = own_closed cs name parts.1 in
    let go : (b : Bool) → has_twice (names (cond (not b) (c ∷ closed name cs) (closed name cs))) ≡ false = elim [
      | true ↦ rest
      | false ↦ ap (λ (x : Bool). x || has_twice (names (closed name cs))) (same_closed name c.name cs parts.0) ∙ rest
    ] in
    go (same_name c.name name)

-- with one more, whose name none has
other_way : (a b : List ℕ) → same_name a b ≡ false → same_name b a ≡ false
other_way a b h =
    let go : (t : Bool) → same_name b a ≡ t → t ≡ false = elim [
      | true ↦ λ e. let k : same_name a b ≡ true = (bytes_decides a b).1 (sym (same_text b a e)) in absurd (true≢false (sym k ∙ h))
      | false ↦ λ e. refl
    ] in
    go (same_name b a) refl

same_more : (other name : List ℕ) (cs : List Cursor) (new : Cursor) → new.name ≡ name → has_same other (names cs) ≡ false → same_name other name ≡ false
    → has_same other (names (cs ++ new ∷ [])) ≡ false
unfolding names
same_more other name [] new e h n = ap (λ (m : List ℕ). same_name m other || false) e ∙ ap (λ (b : Bool). b || false) (other_way other name n)
same_more other name (c ∷ cs) new e h n =
    let parts = both_false (same_name c.name other) (has_same other (names cs)) h in
    ap (λ (b : Bool). b || has_same other (names (cs ++ new ∷ []))) parts.0 ∙ same_more other name cs new e parts.1 n

pub own_opened : (cs : List Cursor) (name : List ℕ) (new : Cursor) → named cs name ≡ None → new.name ≡ name → HaveOwnNames cs → HaveOwnNames (cs ++ new ∷ [])
unfolding names
own_opened [] name new none e own = refl
own_opened (c ∷ cs) name new none e own =
    let parts = both_false (has_same c.name (names cs)) (has_twice (names cs)) own in
    let go : (b : Bool) → same_name c.name name ≡ b → cond b (Some c) (named cs name) ≡ None → (same_name c.name name ≡ false) × (named cs name ≡ None) = elim [
      | true ↦ λ t k. absurd (true≢false (ap (λ (o : Option Cursor). is_some o) k))
      | false ↦ λ t k. (t, k)
    ] in
    let both = go (same_name c.name name) refl none in
    ap (λ (b : Bool). b || has_twice (names (cs ++ new ∷ []))) (same_more c.name name cs new e parts.0 both.0) ∙ own_opened cs name new both.1 e parts.1
