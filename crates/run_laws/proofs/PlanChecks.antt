-- No check of a plan speaks of memory, of the disk or of a damaged page.
use Rattle.std.proofs.Common.{◌≡◌, Bool, true, false, List, [], ◌∷◌, ℕ, Option, Some, None, refl, true≢false}
use Rattle.sand_base.specs.declared.refusal.Refusal.{Refusal}
use Rattle.sand_base.specs.declared.refusal.Refusal.TheVariants as why
use Rattle.sand_model.specs.Checks.{first_refusal, check_relation, check_operators}
use Rattle.sand_model.specs.Database.{Database}
use Rattle.statements.specs.Plan.{Plan}
use Rattle.statement_exec.proofs.PlanChecks as plan

-- the refusal is one of memory, of the disk or of a damaged page
abbrev pub is_outside : Refusal → Bool
is_outside why.Memory = true
is_outside why.Device = true
is_outside (why.Damaged page kept read) = true
is_outside _ = false

-- a check refuses for such a reason
abbrev pub refuses_outside : Option Refusal → Bool
refuses_outside None = false
refuses_outside (Some refusal) = is_outside refusal

-- a check refuses for another reason, or passes
abbrev pub IsInside : Option Refusal → Type 0
IsInside check = refuses_outside check ≡ false

-- the first of checks that refuses, where all are of this kind
pub inside_first : (check : Option Refusal) (checks : List (Option Refusal)) → IsInside check → IsInside (first_refusal checks) → IsInside (first_refusal (check ∷ checks))
inside_first None checks h k = k
inside_first (Some refusal) checks h k = h

pub inside_two : (a b : Option Refusal) → IsInside a → IsInside b → IsInside (first_refusal (a ∷ b ∷ []))
inside_two a b h k = inside_first a (b ∷ []) h (inside_first b [] k refl)

pub inside_three : (a b c : Option Refusal) → IsInside a → IsInside b → IsInside c → IsInside (first_refusal (a ∷ b ∷ c ∷ []))
inside_three a b c h k l = inside_first a (b ∷ c ∷ []) h (inside_two b c k l)

pub inside_four : (a b c d : Option Refusal) → IsInside a → IsInside b → IsInside c → IsInside d → IsInside (first_refusal (a ∷ b ∷ c ∷ d ∷ []))
inside_four a b c d h k l m = inside_first a (b ∷ c ∷ d ∷ []) h (inside_three b c d k l m)

-- what speaks of nothing outside, nor of a file, speaks of none of these
so_inside : (check : Option Refusal) → plan.IsInside check → IsInside check
so_inside None h = refl
so_inside (Some why.Memory) h = absurd (true≢false h)
so_inside (Some why.Device) h = absurd (true≢false h)
so_inside (Some (why.Damaged page kept read)) h = absurd (true≢false h)
so_inside (Some _) h = refl

pub inside_relation : (d : Database) (name : List ℕ) → IsInside (check_relation d name)
inside_relation d name = so_inside (check_relation d name) (plan.inside_relation d name)

-- the operators of a plan
pub inside_operators : (d : Database) (p : Plan) → IsInside (check_operators d p)
inside_operators d p = so_inside (check_operators d p) (plan.inside_operators d p)
