-- How many rows the open cursors have given at most.
use Rattle.std.proofs.Common.{◌≡◌, ◌≤◌, ◌+◌, ℕ, Bool, true, false, not, cond, List, [], ◌∷◌, Option, Some, None, sym, ap, subst, arith, true≢false}
use Rattle.std.specs.Prelude.{is_some}
use Rattle.sand_model.specs.Cursor.{Cursor}
use Rattle.sand_model.specs.Database.{same_name}
use Rattle.sand_model.specs.Outcome.{replaced, closed}
use Rattle.open_cursors.specs.OpenCursors.{named}
use Rattle.open_cursors.specs.Carried.{GaveAtMost}

-- the cursor of a name gave no more than all do
pub named_most : (bound : ℕ) (cs : List Cursor) (name : List ℕ) (c : Cursor) → GaveAtMost bound cs → named cs name ≡ Some c → c.given ≤ bound
named_most bound [] name c few is = absurd (true≢false (sym (ap (λ (o : Option Cursor). is_some o) is)))
named_most bound (k ∷ cs) name c few is =
    let go : (b : Bool) → cond b (Some k) (named cs name) ≡ Some c → c.given ≤ bound = elim [
      | true ↦ λ e. subst (λ (n : ℕ). n ≤ bound) (ap given e) few.0
      | false ↦ λ e. named_most bound cs name c few.1 e
    ] in
    go (same_name k.name name) is where
      given : Option Cursor → ℕ
      given None = 0
      given (Some x) = x.given

-- more is allowed
pub most_more : (bound more : ℕ) (cs : List Cursor) → GaveAtMost bound cs → GaveAtMost (bound + more) cs
most_more bound more [] few = tt
most_more bound more (k ∷ cs) few = let one : k.given ≤ bound = few.0 in (omega (arith, one), most_more bound more cs few.1)

-- one is replaced
pub most_replaced : (bound more : ℕ) (cs : List Cursor) (name : List ℕ) (after : Cursor) → after.given ≤ bound + more → GaveAtMost bound cs → GaveAtMost (bound + more) (replaced name after cs)
most_replaced bound more [] name after new few = tt
most_replaced bound more (k ∷ cs) name after new few =
    let one : k.given ≤ bound = few.0 in
    let go : (b : Bool) → (cond b after k).given ≤ bound + more = elim [ true ↦ new | false ↦ omega (arith, one) ] in
    (go (same_name k.name name), most_replaced bound more cs name after new few.1)

-- one is gone
pub most_closed : (bound more : ℕ) (cs : List Cursor) (name : List ℕ) → GaveAtMost bound cs → GaveAtMost (bound + more) (closed name cs)
most_closed bound more [] name few = tt
most_closed bound more (k ∷ cs) name few =
    let one : k.given ≤ bound = few.0 in
    let rest : GaveAtMost (bound + more) (closed name cs) = most_closed bound more cs name few.1 in
    let go : (b : Bool) → GaveAtMost (bound + more) (cond (not b) (k ∷ closed name cs) (closed name cs)) = elim [ true ↦ rest | false ↦ (omega (arith, one), rest) ] in
    go (same_name k.name name)
