-- The open cursors with one more behind them.
use Rattle.std.proofs.Common.{◌≡◌, ◌≤◌, ◌+◌, ℕ, List, [], ◌∷◌, ◌++◌, map, sym, ◌∙◌, ap, ap₂, subst, arith}
use Rattle.std.proofs.lemmas.List.{map-append}
use Rattle.page_pool.specs.Pool.{StampMap}
use Rattle.sand_model.specs.Cursor.{Cursor}
use Rattle.open_cursors.specs.OpenCursors.{AreNamed, Places, StandAll}
use Rattle.open_cursors.specs.declared.open_cursor.OpenCursor.{OpenCursor}
use Rattle.open_cursors.specs.Carried.{GaveAtMost}

module _ {S T : Type 0} (At : Places S T) (stamps : StampMap) (x : OpenCursor S T) (c : Cursor) (name : c.name ≡ x.name) (at : At x stamps c) where
  -- they stand, and the last one too
  behind : (xs : List (OpenCursor S T)) (cs : List Cursor) → StandAll At stamps xs cs → StandAll At stamps (xs ++ x ∷ []) (cs ++ c ∷ [])
  behind [] [] h = (name, at, tt)
  behind [] (k ∷ cs) h = absurd h
  behind (y ∷ xs) [] h = absurd h
  behind (y ∷ xs) (k ∷ cs) h = (h.0, h.1, behind xs cs h.2)

  pub all_stand : (xs ys : List (OpenCursor S T)) (cs : List Cursor) → ys ≡ xs ++ x ∷ [] → StandAll At stamps xs cs → StandAll At stamps ys (cs ++ c ∷ [])
  all_stand xs ys cs is h = subst (λ (zs : List (OpenCursor S T)). StandAll At stamps zs (cs ++ c ∷ [])) (sym is) (behind xs cs h)

-- they have the names, and the last one too
pub all_named : {S T : Type 0} (x : OpenCursor S T) (c : Cursor) → c.name ≡ x.name → (xs ys : List (OpenCursor S T)) (cs : List Cursor) → ys ≡ xs ++ x ∷ []
    → AreNamed xs cs → AreNamed ys (cs ++ c ∷ [])
all_named {S} {T} x c name xs ys cs is h =
    map-append (λ (k : Cursor). k.name) cs (c ∷ [])
    ∙ (ap₂ (λ (ns : List (List ℕ)) (n : List ℕ). ns ++ n ∷ []) h name
    ∙ (sym (map-append (λ (y : OpenCursor S T). y.name) xs (x ∷ [])) ∙ ap (λ (zs : List (OpenCursor S T)). map (λ (y : OpenCursor S T). y.name) zs) (sym is)))

-- one that gave nothing gave no more
pub most_opened : (bound more : ℕ) (cs : List Cursor) (c : Cursor) → c.given ≡ 0 → GaveAtMost bound cs → GaveAtMost (bound + more) (cs ++ c ∷ [])
most_opened bound more [] c none few = (omega (arith, none), tt)
most_opened bound more (k ∷ cs) c none few = let one : k.given ≤ bound = few.0 in (omega (arith, one), most_opened bound more cs c none few.1)
