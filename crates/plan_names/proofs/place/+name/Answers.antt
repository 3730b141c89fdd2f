-- each source has its names, and a match one more
use Rattle.std.proofs.Common.{◌≡◌, ℕ, ◌+◌, List, [], ◌∷◌, ◌++◌, sym, ◌∙◌, ap, subst, arith, inl, inr}
use Rattle.statements.specs.declared.plan.Plan.{Plan}
use Rattle.sand_model.specs.Operators.{relations_of}
use Rattle.statements.specs.Plan.{plan_value}
use Rattle.plan_names.specs.Search.{IsNamePlace}
use Rattle.plan_names.proofs.place.+name.Goals as goal

abbrev names_of : Plan → List (List ℕ)
names_of p = relations_of (plan_value p)

pub returns-in-Match : goal.returns-in-Match
returns-in-Match t c =
    let names : names_of c.deref.result.now ++ c.in-Match.column.relation ∷ [] ≡ names_of c.args.plan.now =
    ap (λ (p : Plan). names_of p ++ c.in-Match.column.relation ∷ []) c.deref.ensures ∙ ap names_of (sym c.in-Match.is) in
    subst (λ (names : List (List ℕ)). IsNamePlace names c.args.at c.or_next-in-Match.result) names (c.or_next-in-Match.ensures (names_of c.deref.result.now) c.args.at c.name_at.ensures)

pub returns-in-Join : goal.returns-in-Join
returns-in-Join t c =
    let start : c.args.at ≡ 0 + c.args.at = omega arith in
    let names : c.in-Join.left.relation ∷ c.in-Join.right.relation ∷ [] ≡ names_of c.args.plan.now =
    elim c.in-Join.is [ inl h ↦ ap names_of (sym h.1) | inr (inl h) ↦ ap names_of (sym h.1) | inr (inr h) ↦ ap names_of (sym h.2) ] in
    subst (λ (names : List (List ℕ)). IsNamePlace names c.args.at c.or_next-in-Join-2.result) names
    (c.or_next-in-Join-2.ensures (c.in-Join.left.relation ∷ []) c.args.at (c.or_next-in-Join.ensures [] c.args.at start))

pub returns-in-Rank : goal.returns-in-Rank
returns-in-Rank t c =
    let start : c.args.at ≡ 0 + c.args.at = omega arith in
    let names : c.in-Rank.column.relation ∷ [] ≡ names_of c.args.plan.now =
    elim c.in-Rank.is [
      | inl h ↦ ap names_of (sym h.2)
      | inr (inl h) ↦ ap names_of (sym h.2)
      | inr (inr (inl h)) ↦ ap names_of (sym h.1)
      | inr (inr (inr (inl h))) ↦ ap names_of (sym h.1)
      | inr (inr (inr (inr h))) ↦ ap names_of (sym h.2)
    ] in
    subst (λ (names : List (List ℕ)). IsNamePlace names c.args.at c.or_next-in-Rank.result) names (c.or_next-in-Rank.ensures [] c.args.at start)
