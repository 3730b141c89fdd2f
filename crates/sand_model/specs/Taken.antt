-- How many rows of its source a plan has taken when it has given so many rows, or has come to its end.
use Rattle.std.specs.Prelude.{ℕ, zero, suc, ◌+◌, Bool, true, false, cond, nat_le, nat_eq, ◌||◌, ◌&&◌, not, List, take, length}
use Rattle.sand_model.specs.Answer.{source}
use Rattle.sand_model.specs.Database.{Database}
use Rattle.sand_model.specs.Measure.{Measure}
use Rattle.sand_model.specs.Operators.{PlanRow, over}
use Rattle.statements.specs.Plan as plan
use Rattle.statements.specs.Plan.{Plan}

-- how many rows of the source were taken, and whether its end was
pub record Taken : Type 0 where
  pub rows : ℕ
  pub is_ended : Bool

-- the least number from `at` on that passes the test, or the number that is `left` steps later
abbrev pub least_from : (ℕ → Bool) → ℕ → ℕ → ℕ
least_from test at zero = at
least_from test at (suc left) = cond (test at) at (least_from test (at + 1) left)

-- the least number of source rows over which the plan has at least so many rows
abbrev pub taken : Measure → Database → Plan → ℕ → ℕ
taken gap database p rows =
    let all = source gap database p in
    least_from (λ t. nat_le rows (length (over gap database p (take t all)))) 0 (length all)

-- over these source rows some `first n` of the plan has its n rows, so that it asks for none
abbrev pub is_full : Measure → Database → Plan → List PlanRow → Bool
is_full gap database (plan.First count p) rows =
    nat_le count (length (over gap database p rows)) || is_full gap database p rows
is_full gap database (plan.Filter p tests) rows = is_full gap database p rows
is_full gap database (plan.Match p place column) rows = is_full gap database p rows
is_full gap database (plan.Fetch p places) rows = is_full gap database p rows
is_full gap database (plan.SortBy p place) rows = is_full gap database p rows
is_full gap database (plan.SortNear p place goal) rows = is_full gap database p rows
is_full gap database _ rows = false

-- what a plan that has come to its end took: the fewest rows over which a `first n` is full, or all and the source's end
abbrev pub spent : Measure → Database → Plan → Taken
spent gap database p =
    let all = source gap database p in
    let enough = least_from (λ t. is_full gap database p (take t all)) 0 (length all) in
    cond (is_full gap database p (take enough all)) (record { rows = enough; is_ended = false }) (record { rows = length all; is_ended = true })

-- whether a plan has no sort
abbrev pub is_lazy : Plan → Bool
is_lazy (plan.Filter p tests) = is_lazy p
is_lazy (plan.Match p place column) = is_lazy p
is_lazy (plan.Fetch p places) = is_lazy p
is_lazy (plan.First count p) = is_lazy p
is_lazy (plan.SortBy p place) = false
is_lazy (plan.SortNear p place goal) = false
is_lazy _ = true

-- the plan beneath the innermost sort
abbrev pub beneath_sort : Plan → Plan
beneath_sort (plan.Filter p tests) = cond (is_lazy p) (plan.Filter p tests) (beneath_sort p)
beneath_sort (plan.Match p place column) = cond (is_lazy p) (plan.Match p place column) (beneath_sort p)
beneath_sort (plan.Fetch p places) = cond (is_lazy p) (plan.Fetch p places) (beneath_sort p)
beneath_sort (plan.First count p) = cond (is_lazy p) (plan.First count p) (beneath_sort p)
beneath_sort (plan.SortBy p place) = cond (is_lazy p) p (beneath_sort p)
beneath_sort (plan.SortNear p place goal) = cond (is_lazy p) p (beneath_sort p)
beneath_sort p = p

-- what a cursor that gave so many rows, or came to its end, has taken; with a sort, from its first step on, what the plan beneath the innermost sort spends
abbrev pub has_taken : Measure → Database → Plan → ℕ → Bool → Taken
has_taken gap database p given is_ended =
    cond (is_lazy p)
    (cond is_ended (spent gap database p) (record { rows = taken gap database p given; is_ended = false }))
    (cond (nat_eq given 0 && not is_ended) (record { rows = 0; is_ended = false }) (spent gap database (beneath_sort p)))
