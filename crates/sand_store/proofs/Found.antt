-- The relation of a name, where a search gave its place or gave none.
use Rattle.std.proofs.Common.{◌≡◌, ℕ, zero, suc, ◌<◌, ◌≤◌, Bool, true, false, cond, ltb, List, [], ◌∷◌, length, get_or, Option, Some, None, refl, sym, ◌∙◌, ap, arith}
use Rattle.std.specs.List.{find, position, position_or_len}
use Rattle.std.specs.Option.{option_map}
use Rattle.std.proofs.lemmas.Bool.{ltb-false}
use Rattle.std.proofs.lemmas.List.Folds.{find_at}
use Rattle.std.proofs.lemmas.Option.{slice_get_past}
use Rattle.page_pool.specs.Disk.{PageMap}
use Rattle.sand_model.specs.Database.{relation_named}
use Rattle.sand_store.specs.Catalog.{RelationView, is_named}
use Rattle.sand_store.specs.Contents.{relation_in, database_in}
use Rattle.sand_store.specs.Steps.{FirstAt}
use Rattle.sand_store.proofs.Places.{named_in}

-- a search that gives no place finds nothing
past_all : (name : List ℕ) (rs : List RelationView) → position (is_named name) rs ≡ None → length rs ≤ position_or_len (is_named name) rs
past_all name rs h =
    let n : ℕ = position_or_len (is_named name) rs in
    let go : (b : Bool) → ltb n (length rs) ≡ b → cond b (Some n) None ≡ None → length rs ≤ n =
    elim [ true ↦ λ e k. let clash : ⊥ = cc in absurd clash | false ↦ λ e k. ltb-false n (length rs) e ] in
    go (ltb n (length rs)) refl h

pub none_found : (name : List ℕ) (rs : List RelationView) → position (is_named name) rs ≡ None → find (is_named name) rs ≡ None
none_found name rs h = find_at (is_named name) rs ∙ slice_get_past rs (position_or_len (is_named name) rs) (past_all name rs h)

-- the first of a name is what is found
pub found_at : (name : List ℕ) (rs : List RelationView) (at : ℕ) (r : RelationView) → FirstAt name rs at → r ≡ get_or rs at r → find (is_named name) rs ≡ Some r
found_at name [] at r first here = absurd first
found_at name (x ∷ rs) zero r first here = rw first (ap (λ (y : RelationView). Some y) (sym here))
found_at name (x ∷ rs) (suc at) r first here = rw first.0 (found_at name rs at r first.1 here)

-- and so it is in the database
pub relation_at : (m : PageMap) (name : List ℕ) (rs : List RelationView) (at : ℕ) (r : RelationView) → FirstAt name rs at → r ≡ get_or rs at r
    → relation_named (database_in m rs) name ≡ Some (relation_in m r)
relation_at m name rs at r first here = named_in m rs name ∙ ap (λ (o : Option RelationView). option_map (relation_in m) o) (found_at name rs at r first here)

-- a search over what a slice shows is one over the list
pub place_seen : (place x : Option ℕ) (name : List ℕ) (slice rs : List RelationView) → place ≡ position (is_named name) slice → slice ≡ rs → place ≡ x → position (is_named name) rs ≡ x
place_seen place x name slice rs found same is = ap (λ (xs : List RelationView). position (is_named name) xs) (sym same) ∙ (sym found ∙ is)

-- what is read at a place twice is one relation
pub read_twice : (rs : List RelationView) (at : ℕ) (r x : RelationView) → at < length rs → r ≡ get_or rs at r → x ≡ get_or rs at x → x ≡ r
read_twice [] at r x l e k = absurd (omega arith)
read_twice (y ∷ rs) zero r x l e k = k ∙ sym e
read_twice (y ∷ rs) (suc at) r x l e k = read_twice rs at r x (omega arith) e k
