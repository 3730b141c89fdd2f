-- The value of an option that the words give passed the option's parser.
use Rattle.std.proofs.Common.{◌≡◌, ◌<◌, ◌∙◌, ℕ, Bool, true, false, List, [], ◌∷◌, length, Option, Some, None, refl, sym, ap, subst, inl, inr, arith}
use Rattle.std.specs.List.{All, slice_index_or}
use Rattle.std.specs.Prelude.{option_map, option_and_then, slice_get}
use Rattle.std.specs.Str.{bytes_eq}
use Rattle.std.specs.Borrow.{Bor}
use Rattle.std.proofs.lemmas.Slice.Eq.{bytes_eq-Decides}
use Rattle.std.proofs.lemmas.List.Elements.{All-get_or}
use Rattle.clap.specs.Built.{IsAuto, IsParsedFrom, IsPlain}
use Rattle.clap.specs.Facts.{args_of, groups_of, Entry, EntryPasses, PassesArg, ValuesPass, parser_of, parser_of_value}
use Rattle.clap.specs.Matches.{first_value, found_of, matched_of}
use Rattle.clap.specs.Values.{Accepts}
use Rattle.clap.specs.declared.builder.arg.Arg.{Arg}
use Rattle.clap.specs.declared.builder.command.Command.{Command}
use Rattle.clap.specs.declared.builder.command.Command.TheViews.{out-Command}
use Rattle.clap.specs.declared.builder.value_parser.ValueParser.{ValueParser}
use Rattle.clap.specs.declared.parser.matches.ArgMatches.{ArgMatches}
use Rattle.clap.specs.declared.parser.matches.Found.{Found}
use Rattle.clap.specs.declared.parser.matches.MatchedArg.{MatchedArg}
use Rattle.clap.proofs.CallerLemmas.{entry_by_id, same_rules_by_id}

-- the first of some values, of which all are so
first-so : (P : List ℕ → Type 0) (vs : List (Bor (List ℕ))) (t : List ℕ) → All (λ v. P v.now) vs → option_map (λ s. s.now) (slice_get vs 0) ≡ Some t → P t
first-so P [] t all e = absurd cc
first-so P (v ∷ vs) t all e = let same : v.now ≡ t = cc in subst P same (All-get_or (λ v. P v.now) (v ∷ vs) 0 v (omega arith) all)

-- what one entry gives: it is no group's, so each value of it passed
entry-passes : (c : Command) (id : List ℕ) (x : MatchedArg) (e : Entry) → groups_of c ≡ [] → (id ≡ [] → ⊥) → e.1 ≡ x → e.0.now ≡ id → EntryPasses c e
    → All (λ v. PassesArg c id v.now) x.vals.items
entry-passes c id x e no_groups named same_x key_id pass =
    let no_group : e.1.is_group ≡ true → ⊥ = λ g. elim (pass.3 g) [
      | inl empty ↦ named (sym key_id ∙ empty)
      | inr lots ↦
          let bad : 0 < 0 = rw no_groups at lots in
          absurd (omega arith)
    ] in
    elim pass.0 [
      | inl g ↦ absurd (no_group g)
      | inr vals ↦ subst (λ (w : List ℕ). All (λ v. PassesArg c w v.now) x.vals.items) key_id (rw same_x at vals)
    ]

-- the first value of an id passed
value-passes : (c : Command) (f : Found) (id t : List ℕ) → ValuesPass c f → groups_of c ≡ [] → (id ≡ [] → ⊥) → first_value f id ≡ Some t → PassesArg c id t
value-passes c f id t values no_groups named e = go (matched_of f id) refl e where
  go : (o : Option MatchedArg) → matched_of f id ≡ o → option_and_then (λ a. option_map (λ s. s.now) (slice_get a.vals.items 0)) o ≡ Some t → PassesArg c id t
  go None found e = absurd cc
  go (Some x) found e =
      let got = entry_by_id (EntryPasses c) f.entries.items id x values found in
      first-so (PassesArg c id) x.vals.items t
      (entry-passes c id x got.0 no_groups named got.1 ((bytes_eq-Decides got.0.0.now id).0 got.2) got.3) e

-- so the value of an option of the caller's passed its parser
pub option-accepts : (old : Command) (m : ArgMatches) (p : IsParsedFrom old m) → IsPlain old → (out-Command old).has_globals ≡ false
    → (k : ℕ) (d : Arg) → k < length (args_of old)
    → ((j : ℕ) (e : Arg) → j < length (args_of old) → bytes_eq (slice_index_or (args_of old) j e).id.now (slice_index_or (args_of old) k d).id.now ≡ true → j ≡ k)
    → ((slice_index_or (args_of old) k d).id.now ≡ [] → ⊥) → (IsAuto (slice_index_or (args_of old) k d) → ⊥)
    → (q : ValueParser) → (slice_index_or (args_of old) k d).value_parser ≡ Some q
    → (t : List ℕ) → first_value (found_of m) (slice_index_or (args_of old) k d).id.now ≡ Some t
    → Accepts (slice_index_or (args_of old) k d).ignore_case q t
option-accepts old m p plain globals k d lt unique named own q parser t e =
    let parsed = p.parsed (p.from.globals ∙ globals) in
    let pass = value-passes p.built (found_of m) (slice_index_or (args_of old) k d).id.now t parsed.values (p.from.plain plain).1 named e in
    let same = same_rules_by_id old m p k d lt unique own pass.0 pass.1 pass.2 pass.3 pass.4.0 in
    let is_q : parser_of pass.1 ≡ q = ap parser_of_value (same.parser q parser) in
    let as_q : Accepts pass.1.ignore_case q t = subst (λ (w : ValueParser). Accepts pass.1.ignore_case w t) is_q pass.4.1 in
    subst (λ (b : Bool). Accepts b q t) same.ignore_case as_q
