-- How deep a plan is, and what a count of its operators tells that stops at the greatest number.
use Rattle.std.proofs.Common.{◌≡◌, ℕ, suc, ◌+◌, ◌≤◌, ◌<◌, min, Bool, true, false, nat_lt, Some, None, refl, sym, ap, arith, inl, inr}
use Rattle.sand_base.specs.declared.refusal.Refusal.TheVariants as why
use Rattle.std.proofs.lemmas.Bool.Decides.{leb_tells}
use Rattle.statements.specs.Plan.{Plan, depth}
use Rattle.sand_model.specs.StatementChecks.{check_depth, refused_where}

-- a comparison of two numbers, by what is so
above_is : (a b : ℕ) → a < b → nat_lt a b ≡ true
above_is a b h = elim (leb_tells (suc a) b) [ inl x ↦ x.0 | inr x ↦ absurd (omega arith) ]

above_not : (a b : ℕ) → b ≤ a → nat_lt a b ≡ false
above_not a b h = elim (leb_tells (suc a) b) [ inl x ↦ absurd (omega arith) | inr x ↦ x.0 ]

-- the plan is too deep where the count is too great
pub too_deep : (p : Plan) (n : ℕ) → n ≡ min (depth p) 18446744073709551615 → 16 < n → Some why.PlanTooDeep ≡ check_depth p
too_deep p n count above =
    let deep : 16 < depth p = omega (arith, count, above) in
    sym (ap (λ (b : Bool). refused_where b why.PlanTooDeep) (above_is 16 (depth p) deep))

-- and else it is not
pub not_deep : (p : Plan) (n : ℕ) → n ≡ min (depth p) 18446744073709551615 → n ≤ 16 → None ≡ check_depth p
not_deep p n count below =
    let deep : depth p ≤ 16 = omega (arith, count, below) in
    sym (ap (λ (b : Bool). refused_where b why.PlanTooDeep) (above_not 16 (depth p) deep))
