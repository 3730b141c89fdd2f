-- The open cursor of a name, where another one is replaced, closed or opened, or it is replaced itself.
use Rattle.std.proofs.Common.{◌≡◌, ℕ, Bool, true, false, List, [], ◌∷◌, ◌++◌, Option, Some, refl, sym, ap, ◌∙◌, true≢false}
use Rattle.std.specs.Prelude.{find}
use Rattle.std.specs.Cmp.Lexicographic.{bytes_decides}
use Rattle.sand_model.specs.Cursor.{Cursor}
use Rattle.sand_model.specs.Database.{same_name}
use Rattle.sand_model.specs.Outcome.{replaced, closed}

-- names that are told to be one are
pub one_name : (a b : List ℕ) → same_name a b ≡ true → a ≡ b
one_name a b h = (bytes_decides a b).0 h

pub same_itself : (a b : List ℕ) → a ≡ b → same_name a b ≡ true
same_itself a b h = (bytes_decides a b).1 h

-- the open cursor of this name
abbrev pub named : List Cursor → List ℕ → Option Cursor
named cursors name = find (λ cursor. same_name cursor.name name) cursors

-- what is found has the name
pub found_name : (cs : List Cursor) (name : List ℕ) (c : Cursor) → named cs name ≡ Some c → c.name ≡ name
found_name [] name c e = absurd cc
found_name (x ∷ cs) name c e = go (same_name x.name name) refl (found_name cs name c) where
  go : (b : Bool) → same_name x.name name ≡ b → (named cs name ≡ Some c → c.name ≡ name) → c.name ≡ name
  go true t behind = let first : Some x ≡ Some c = rw t at e in let is : x ≡ c = cc in ap (λ y. y.name) (sym is) ∙ one_name x.name name t
  go false t behind = let rest : named cs name ≡ Some c = rw t at e in behind rest

-- a name that isn't another
other_name : (a name other : List ℕ) → a ≡ name → same_name other name ≡ false → same_name a other ≡ false
other_name a name other e n = go (same_name a other) refl where
  go : (b : Bool) → same_name a other ≡ b → b ≡ false
  go true t = let other_is : other ≡ name = sym (one_name a other t) ∙ e in absurd (true≢false (sym (same_itself other name other_is) ∙ n))
  go false t = refl

-- the cursor stays where one of another name is replaced by one that has that other name
pub kept_replaced : (cs : List Cursor) (name other : List ℕ) (c after : Cursor) → after.name ≡ other → same_name other name ≡ false → named cs name ≡ Some c
    → named (replaced other after cs) name ≡ Some c
kept_replaced [] name other c after a n e = e
kept_replaced (x ∷ cs) name other c after a n e = go (same_name x.name other) refl (same_name x.name name) refl (kept_replaced cs name other c after a n) where
  go : (t : Bool) → same_name x.name other ≡ t → (b : Bool) → same_name x.name name ≡ b → (named cs name ≡ Some c → named (replaced other after cs) name ≡ Some c)
      → named (replaced other after (x ∷ cs)) name ≡ Some c
  go t same true is behind =
      let no : same_name x.name other ≡ false = other_name x.name name other (one_name x.name name is) n in
      let first : Some x ≡ Some c = rw is at e in
      rw (no, is) first
  go true same false is behind =
      let rest : named cs name ≡ Some c = rw is at e in
      let no : same_name after.name name ≡ false = ap (λ m. same_name m name) a ∙ n in
      rw (same, no) (behind rest)
  go false same false is behind =
      let rest : named cs name ≡ Some c = rw is at e in
      rw (same, is) (behind rest)

-- those of other names are found as before
pub found_as_before : (cs : List Cursor) (name other : List ℕ) (after : Cursor) → after.name ≡ name → same_name name other ≡ false
    → named (replaced name after cs) other ≡ named cs other
found_as_before [] name other after a n = refl
found_as_before (x ∷ cs) name other after a n = go (same_name x.name name) refl (same_name x.name other) refl (found_as_before cs name other after a n) where
  go : (t : Bool) → same_name x.name name ≡ t → (b : Bool) → same_name x.name other ≡ b → named (replaced name after cs) other ≡ named cs other
      → named (replaced name after (x ∷ cs)) other ≡ named (x ∷ cs) other
  go true same b is behind =
      let not_it : same_name x.name other ≡ false = ap (λ m. same_name m other) (one_name x.name name same) ∙ n in
      let not_after : same_name after.name other ≡ false = ap (λ m. same_name m other) a ∙ n in
      rw (same, not_it, not_after) behind
  go false same true is behind = rw (same, is) refl
  go false same false is behind = rw (same, is) behind

-- one that is replaced itself
pub now_replaced : (cs : List Cursor) (name : List ℕ) (c after : Cursor) → after.name ≡ name → named cs name ≡ Some c → named (replaced name after cs) name ≡ Some after
now_replaced [] name c after a e = absurd cc
now_replaced (x ∷ cs) name c after a e = go (same_name x.name name) refl (now_replaced cs name c after a) where
  go : (b : Bool) → same_name x.name name ≡ b → (named cs name ≡ Some c → named (replaced name after cs) name ≡ Some after)
      → named (replaced name after (x ∷ cs)) name ≡ Some after
  go true is behind = let same : same_name after.name name ≡ true = same_itself after.name name a in rw (is, same) refl
  go false is behind = let rest : named cs name ≡ Some c = rw is at e in rw (is, is) (behind rest)

-- one stays where another is closed
pub kept_closed : (cs : List Cursor) (name other : List ℕ) (c : Cursor) → same_name other name ≡ false → named cs name ≡ Some c → named (closed other cs) name ≡ Some c
kept_closed [] name other c n e = e
kept_closed (x ∷ cs) name other c n e = go (same_name x.name other) refl (same_name x.name name) refl (kept_closed cs name other c n) where
  go : (t : Bool) → same_name x.name other ≡ t → (b : Bool) → same_name x.name name ≡ b → (named cs name ≡ Some c → named (closed other cs) name ≡ Some c)
      → named (closed other (x ∷ cs)) name ≡ Some c
  go t same true is behind =
      let no : same_name x.name other ≡ false = other_name x.name name other (one_name x.name name is) n in
      let first : Some x ≡ Some c = rw is at e in
      rw (no, is) first
  go true same false is behind = let rest : named cs name ≡ Some c = rw is at e in rw same (behind rest)
  go false same false is behind = let rest : named cs name ≡ Some c = rw is at e in rw (same, is) (behind rest)

-- and where one more is opened
pub kept_opened : (cs : List Cursor) (name : List ℕ) (c new : Cursor) → named cs name ≡ Some c → named (cs ++ new ∷ []) name ≡ Some c
kept_opened [] name c new e = absurd cc
kept_opened (x ∷ cs) name c new e = go (same_name x.name name) refl (kept_opened cs name c new) where
  go : (b : Bool) → same_name x.name name ≡ b → (named cs name ≡ Some c → named (cs ++ new ∷ []) name ≡ Some c) → named ((x ∷ cs) ++ new ∷ []) name ≡ Some c
  go true is behind = let first : Some x ≡ Some c = rw is at e in rw is first
  go false is behind = let rest : named cs name ≡ Some c = rw is at e in rw is (behind rest)
