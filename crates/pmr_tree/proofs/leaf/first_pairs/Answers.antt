-- The first entries of the block are found one after another.
use Rattle.std.proofs.Common.{◌≡◌, ℕ, ◌+◌, ◌∷◌, ◌++◌, [], List, length, take, refl, sym, ◌∙◌, ap, inl, inr, arith}
use Rattle.std.specs.Prelude.{option_to_list}
use Rattle.pmr_tree.specs.Listing.{Pair}
use Rattle.pmr_tree.proofs.Refusals.{passed_on}
use Rattle.pmr_tree.proofs.Ranges.{own_in, in_range, next_in, read_on, read_from, none_first, length_one}
use Rattle.pmr_tree.proofs.leaf.first_pairs.Goals as goal

pub entries-init : goal.entries-init
entries-init g c = record {
  leads = g.met.S.Ground.still _ _;
  same = λ k. refl;
  few = omega (arith, ap length c.new-found.ensures.items);
  found = λ k.
      let es : List Pair = g.S.Ground.pairs c.args.ground.now c.args.pages.now in
      own_in c.args.block c.key_of-from.result (c.key_of-from.result + 4294967296) es c.key_of-from.ensures.value refl
      ∙ ap (λ x. x ++ in_range c.key_of-from.result (c.key_of-from.result + 4294967296) es) (sym c.new-found.ensures.items);
}

-- an entry more is found
pub entries-preserved : goal.entries-preserved
entries-preserved g c =
    let here = c.entries.invariant in
    let es : List Pair = g.S.Ground.pairs c.args.ground.now c.args.pages.now in
    let end : ℕ = c.key_of-from.result + 4294967296 in
    let more : c.push.new.self.items ≡ c.entries.found.items ++ (c.in-Some.pair ∷ []) = c.in_ok-push.ensures.items in
    record {
      leads = g.met.S.Ground.onward _ _ _ _ _ _ _ here.leads c.in_ok-pair.ensures.leads;
      same = λ k. c.in_ok-pair.ensures.same (g.met.S.Ground.known _ _ _ _ here.leads k) ∙ here.same k;
      few = omega (arith, ap length more, length_one c.entries.found.items c.in-Some.pair, c.entries-test.true);
      found = λ k.
          let first = ap option_to_list (sym c.in-Some.is) ∙ c.in_ok-pair.ensures.found (g.met.S.Ground.known _ _ _ _ here.leads k) ∙ ap (λ x. take 1 (in_range c.entries.from end x)) (here.same k) in
          read_on _ c.entries.found.items _ _ c.in-Some.pair (here.found k) (next_in c.entries.from end es c.in-Some.pair (c.requires.rises k) first)
          ∙ ap (λ x. x ++ in_range (c.in-Some.pair.0 + 1) end es) (sym more);
    }

-- accepted calls lead on to the refused one, and its refusal is passed on
pub returns-in_err-pair-clause-leads : goal.returns-in_err-pair-clause-leads
returns-in_err-pair-clause-leads g c =
    passed_on _ _ (g.S.Ground.Leads c.args.ground.now c.args.pages.now c.args.ground.now c.first.new.pages) c.from_residual.ensures
    (g.met.S.Ground.onward _ _ _ _ _ _ _ c.entries.invariant.leads c.in_err-pair.ensures.leads)

pub returns-in_default-clause-leads : goal.returns-in_default-clause-leads
returns-in_default-clause-leads g c = g.met.S.Ground.onward _ _ _ _ _ _ _ c.entries.invariant.leads c.in_ok-pair.ensures.leads

pub returns-in_default-clause-same : goal.returns-in_default-clause-same
returns-in_default-clause-same g c = λ k. c.in_ok-pair.ensures.same (g.met.S.Ground.known _ _ _ _ c.entries.invariant.leads k) ∙ c.entries.invariant.same k

-- nothing is left, or so many were found
pub returns-in_default-clause-found : goal.returns-in_default-clause-found
returns-in_default-clause-found g c = λ k.
    let here = c.entries.invariant in
    let end : ℕ = c.key_of-from.result + 4294967296 in
    let none = ap option_to_list (sym c.in_default.is) ∙ c.in_ok-pair.ensures.found (g.met.S.Ground.known _ _ _ _ here.leads k) ∙ ap (λ x. take 1 (in_range c.entries.from end x)) (here.same k) in
    read_from (c.args.most + 1) _ c.entries.found.items _ (here.found k) here.few (inl (none_first _ none))

pub returns-clause-found : goal.returns-clause-found
returns-clause-found g c = λ k.
    let here = c.entries.invariant in
    read_from (c.args.most + 1) _ c.entries.found.items _ (here.found k) here.few (inr (omega (arith, c.entries-test.false)))
