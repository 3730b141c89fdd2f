-- Things by id: a list of pairs in the order of their ids.
use Rattle.std.specs.Prelude.{ℕ, nat_eq, nat_lt, nat_le, not, List, ◌∷◌, ◌++◌, Option, option_map}
use Rattle.std.specs.List.{filter, find}

-- what the id has
abbrev pub of_id : {A : Type 0} → ℕ → List (ℕ × A) → Option A
of_id id rows = option_map (λ r. r.1) (find (λ r. nat_eq r.0 id) rows)

-- the list with a new id, between the lesser and the greater ones
abbrev pub with_id : {A : Type 0} → ℕ → A → List (ℕ × A) → List (ℕ × A)
with_id id x rows = filter (λ r. nat_lt r.0 id) rows ++ ((id, x) ∷ filter (λ r. nat_lt id r.0) rows)

-- the list without the id
abbrev pub without_id : {A : Type 0} → ℕ → List (ℕ × A) → List (ℕ × A)
without_id id rows = filter (λ r. not (nat_eq r.0 id)) rows

-- the least id not below this one
abbrev pub least_id_from : {A : Type 0} → ℕ → List (ℕ × A) → Option ℕ
least_id_from from rows = option_map (λ r. r.0) (find (λ r. nat_le from r.0) rows)
