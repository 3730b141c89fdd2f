-- What a parse by one of the two commands gives.
use Rattle.std.proofs.Common.{◌≡◌, ◌⊎◌, ◌<◌, ◌^◌, ◌∙◌, ℕ, zero, suc, Bool, true, false, not, List, [], ◌∷◌, length, map, get_or, codes, Some, refl, sym, ap, subst, inl, inr, arith}
use Rattle.std.specs.List.{slice_index_or}
use Rattle.std.specs.Str.{bytes_eq}
use Rattle.std.proofs.lemmas.Bool.{and_parts, eqb-true, false≢true}
use Rattle.std.proofs.lemmas.List.{get_or-map, length-map}
use Rattle.clap.specs.Built.{IsParsedFrom, IsPlain, IsPlainArg}
use Rattle.clap.specs.Facts.{args_of, groups_of}
use Rattle.clap.specs.Faults.{fault_of, is_simple_and_free}
use Rattle.clap.specs.Matches.{first_value, found_of}
use Rattle.clap.specs.Simple.{App, HasMatchesOf, app_of, has_plain_fields, is_simple}
use Rattle.clap.specs.Values.{Accepts}
use Rattle.clap.specs.Walk.{Rule, Text, first_of, is_empty, is_free_arg, is_simple_arg, rule_of}
use Rattle.clap.specs.declared.builder.arg.Arg.{Arg}
use Rattle.clap.specs.declared.builder.command.Command.{Command}
use Rattle.clap.specs.declared.builder.command.Command.TheViews.{out-Command}
use Rattle.clap.specs.declared.builder.value_parser.ValueParser.{ValueParser}
use Rattle.clap.specs.declared.builder.value_parser.ValueParser.TheVariants as vp
use Rattle.clap.specs.declared.parser.matches.ArgMatches.{ArgMatches}
use Rattle.clap.proofs.OnLiterals.{clap_on_literals}
use Rattle.clap.proofs.WalkLemmas.{first_value-rows}
use Rattle.run_words.specs.Command.{frames_rule, store_rule, workload_rule, journal_rule, kept_app, sand_app}
use Rattle.run_words.specs.Asked.{IsMatchedBy, IsNumberIn, value_in}
use Rattle.run_words.proofs.OptionalValues.{option-accepts}

-- What is used of a command: it is simple, these are its rules, each is plain, and the first and the third are those of the two numbers.
record IsOurs (app : App) (rules : List Rule) : Type 0 where
  simple : is_simple app ≡ true
  free : is_simple_and_free app ≡ true
  has : app.top.rules ≡ rules
  plainly : app.top.is_plain ≡ true
  each : (j : ℕ) (d : Rule) → j < length rules → ((get_or rules j d).is_simple ≡ true) × ((get_or rules j d).is_free ≡ true)
  many : 2 < length rules
  frames : (d : Rule) → get_or rules 0 d ≡ frames_rule
  workload : (d : Rule) → get_or rules 2 d ≡ workload_rule
  only_frames : (j : ℕ) (e : Rule) → j < length rules → bytes_eq (get_or rules j e).id (codes "frames") ≡ true → j ≡ 0
  only_workload : (j : ℕ) (e : Rule) → j < length rules → bytes_eq (get_or rules j e).id (codes "workload") ≡ true → j ≡ 2

-- nothing is there
nothing-there : {A : Type 0} (xs : List A) → is_empty xs ≡ true → xs ≡ []
nothing-there [] h = refl
nothing-there (x ∷ xs) h = absurd (let n : length (x ∷ xs) ≡ 0 = eqb-true (length (x ∷ xs)) 0 h in omega arith)

not-so : (b : Bool) → not b ≡ true → b ≡ false
not-so true h = absurd (false≢true h)
not-so false h = refl

-- an argument that is simple and free is plain
plain-arg : (a : Arg) → is_simple_arg a ≡ true → is_free_arg a ≡ true → IsPlainArg a
plain-arg a simple free =
    let s1 = and_parts (is_empty a.overrides.items) _ simple in
    let s2 = and_parts (is_empty a.default_vals_ifs.items) _ s1.1 in
    let s3 = and_parts (is_empty a.groups.items) _ s2.1 in
    let f1 = and_parts (not a.exclusive) _ free in
    let f2 = and_parts (is_empty a.conflicts.items) _ f1.1 in
    (not-so a.exclusive f1.0, nothing-there a.conflicts.items f2.0, nothing-there a.overrides.items s1.0, nothing-there a.groups.items s3.0)

-- a command that is one of ours
module _ (app : App) (own_rules : List Rule) (ours : IsOurs app own_rules) (c : Command) (is : app_of c ≡ app) where
  rules : map rule_of (args_of c) ≡ own_rules
  rules = ap (λ (a : App). a.top.rules) is ∙ ours.has

  size : length (args_of c) ≡ length own_rules
  size = sym (length-map (args_of c) rule_of) ∙ ap length rules

  rule-at : (j : ℕ) (d : Arg) → j < length own_rules → rule_of (slice_index_or (args_of c) j d) ≡ get_or own_rules j (rule_of d)
  rule-at j d h = sym (get_or-map rule_of (args_of c) j d (rule_of d) (omega (arith, size))) ∙ ap (λ rs. get_or rs j (rule_of d)) rules

  fields : has_plain_fields (out-Command c) ≡ true
  fields = ap (λ (a : App). a.top.is_plain) is ∙ ours.plainly

  no-groups : groups_of c ≡ []
  no-groups = nothing-there (groups_of c) (and_parts (is_empty (groups_of c)) _ fields).0

  no-globals : (out-Command c).has_globals ≡ false
  no-globals =
      let one = and_parts (is_empty (groups_of c)) _ fields in
      let two = and_parts (not (out-Command c).allow_external_subcommands) _ one.1 in
      not-so (out-Command c).has_globals (and_parts (not (out-Command c).has_globals) _ two.1).0

  plain : IsPlain c
  plain = (
    (λ k d h.
        let low : k < length own_rules = omega (arith, size) in
        plain-arg (slice_index_or (args_of c) k d)
        (ap (λ (r : Rule). r.is_simple) (rule-at k d low) ∙ (ours.each k (rule_of d) low).0)
        (ap (λ (r : Rule). r.is_free) (rule-at k d low) ∙ (ours.each k (rule_of d) low).1)),
    no-groups,
  )

  id-at : (j : ℕ) (d : Arg) → j < length own_rules → (slice_index_or (args_of c) j d).id.now ≡ (get_or own_rules j (rule_of d)).id
  id-at j d h = ap (λ (r : Rule). r.id) (rule-at j d h)

  -- the value of an option with a parser
  accepted : (m : ArgMatches) → IsParsedFrom c m → (k : ℕ) (d : Arg) → k < length own_rules → (name : Text) → (get_or own_rules k (rule_of d)).id ≡ name
      → ((j : ℕ) (e : Arg) → j < length own_rules → bytes_eq (get_or own_rules j (rule_of e)).id name ≡ true → j ≡ k)
      → (name ≡ [] → ⊥) → ((name ≡ codes "help") ⊎ (name ≡ codes "version") → ⊥)
      → (q : ValueParser) → (get_or own_rules k (rule_of d)).parser ≡ Some q → (get_or own_rules k (rule_of d)).ignore_case ≡ false
      → (t : Text) → first_value (found_of m) name ≡ Some t → Accepts false q t
  accepted m p k d low name named unique some own q parser plain_case t e =
      let here : (slice_index_or (args_of c) k d).id.now ≡ name = id-at k d low ∙ named in
      let is_case : (slice_index_or (args_of c) k d).ignore_case ≡ false = ap (λ (r : Rule). r.ignore_case) (rule-at k d low) ∙ plain_case in
      subst (λ (b : Bool). Accepts b q t) is_case
      (option-accepts c m p plain no-globals k d (omega (arith, size))
      (λ j e h same. (let h3 : j < length own_rules = omega (arith, size) in unique j e h3 (rw (id-at j e h3, here) at same)))
      (λ empty. some (sym here ∙ empty))
      (λ auto. own (elim auto [ inl h ↦ inl (sym here ∙ h) | inr h ↦ inr (sym here ∙ h) ]))
      q (ap (λ (r : Rule). r.parser) (rule-at k d low) ∙ parser) t (ap (first_value (found_of m)) here ∙ e))

-- some argument of some
some-arg : (n : ℕ) (xs : List Arg) → length xs ≡ suc n → Arg
some-arg n [] h = absurd (omega arith)
some-arg n (a ∷ xs) h = a

-- a number from the least to the most
short-number : (least most : ℕ) (t : Text) → most < 2 ^ 32 → Accepts false (vp.Unsigned least most) t → IsNumberIn least most t
short-number least most t h a = let up = a.3 in ((a.0, omega arith), a.2, a.3)

-- the matches of the words
matched : (app : App) (rules : List Rule) (n : ℕ) → length rules ≡ suc n → IsOurs app rules → (c : Command) (is : app_of c ≡ app) (m : ArgMatches) (words : List Text)
    → fault_of app words ≡ [] → IsParsedFrom c m
    → HasMatchesOf (app_of c) words m → IsMatchedBy app words m
matched app rules n many ours c is m words taken p has =
    let of_ours : HasMatchesOf app words m = subst (λ (a : App). HasMatchesOf a words m) is has in
    let values : (name : Text) → first_value (found_of m) name ≡ value_in app name words =
    λ name. first_value-rows (found_of m) name ∙ ap (first_of name) (of_ours ours.simple).0 in
    let more : 2 < length rules = ours.many in
    let d = some-arg n (args_of c) (size app rules ours c is ∙ many) in
    record {
      taken = taken;
      values = values;
      frames = λ t e. short-number 16 4096 t (omega arith)
          (accepted app rules ours c is m p 0 d (omega (arith, more)) (codes "frames") (ap (λ (r : Rule). r.id) (ours.frames (rule_of d))) (λ j e. ours.only_frames j (rule_of e))
          (λ none. (let n : 6 ≡ 0 = ap length none in omega arith))
          (λ auto. elim auto [ inl h ↦ (let n : 6 ≡ 4 = ap length h in omega arith) | inr h ↦ (let n : 6 ≡ 7 = ap length h in omega arith) ])
          (vp.Unsigned 16 4096) (ap (λ (r : Rule). r.parser) (ours.frames (rule_of d))) (ap (λ (r : Rule). r.ignore_case) (ours.frames (rule_of d))) t (values (codes "frames") ∙ e));
      workload = λ t e. short-number 1 100000 t (omega arith)
          (accepted app rules ours c is m p 2 d more (codes "workload") (ap (λ (r : Rule). r.id) (ours.workload (rule_of d))) (λ j e. ours.only_workload j (rule_of e))
          (λ none. (let n : 8 ≡ 0 = ap length none in omega arith))
          (λ auto. elim auto [ inl h ↦ (let n : 8 ≡ 4 = ap length h in omega arith) | inr h ↦ (let n : 8 ≡ 7 = ap length h in omega arith) ])
          (vp.Unsigned 1 100000) (ap (λ (r : Rule). r.parser) (ours.workload (rule_of d))) (ap (λ (r : Rule). r.ignore_case) (ours.workload (rule_of d))) t (values (codes "workload") ∙ e));
    }

-- ---- the two commands

-- three places
three : (P : ℕ → Type 0) → P 0 → P 1 → P 2 → (j : ℕ) → j < 3 → P j
three P a b c zero h = a
three P a b c (suc zero) h = b
three P a b c (suc (suc zero)) h = c
three P a b c (suc (suc (suc j))) h = absurd (omega arith)

-- four places
four : (P : ℕ → Type 0) → P 0 → P 1 → P 2 → P 3 → (j : ℕ) → j < 4 → P j
four P a b c d zero h = a
four P a b c d (suc zero) h = b
four P a b c d (suc (suc zero)) h = c
four P a b c d (suc (suc (suc zero))) h = d
four P a b c d (suc (suc (suc (suc j)))) h = absurd (omega arith)

abbrev sand_rules : List Rule
sand_rules = frames_rule ∷ store_rule ∷ workload_rule ∷ []

abbrev kept_rules : List Rule
kept_rules = frames_rule ∷ store_rule ∷ workload_rule ∷ journal_rule ∷ []

-- the command of a plain run
sand_ours : IsOurs sand_app sand_rules
unfolding clap_on_literals
sand_ours = record {
  simple = refl;
  free = refl;
  has = refl;
  plainly = refl;
  each = λ j d. three (λ j. ((get_or sand_rules j d).is_simple ≡ true) × ((get_or sand_rules j d).is_free ≡ true)) (refl, refl) (refl, refl) (refl, refl) j;
  many = omega arith;
  frames = λ d. refl;
  workload = λ d. refl;
  only_frames = λ j e. three (λ j. bytes_eq (get_or sand_rules j e).id (codes "frames") ≡ true → j ≡ 0) (λ s. refl) (λ s. absurd (false≢true s)) (λ s. absurd (false≢true s)) j;
  only_workload = λ j e. three (λ j. bytes_eq (get_or sand_rules j e).id (codes "workload") ≡ true → j ≡ 2) (λ s. absurd (false≢true s)) (λ s. absurd (false≢true s)) (λ s. refl) j;
}

-- the command of a run that may name a journal
kept_ours : IsOurs kept_app kept_rules
unfolding clap_on_literals
kept_ours = record {
  simple = refl;
  free = refl;
  has = refl;
  plainly = refl;
  each = λ j d. four (λ j. ((get_or kept_rules j d).is_simple ≡ true) × ((get_or kept_rules j d).is_free ≡ true)) (refl, refl) (refl, refl) (refl, refl) (refl, refl) j;
  many = omega arith;
  frames = λ d. refl;
  workload = λ d. refl;
  only_frames = λ j e. four (λ j. bytes_eq (get_or kept_rules j e).id (codes "frames") ≡ true → j ≡ 0) (λ s. refl) (λ s. absurd (false≢true s))
      (λ s. absurd (false≢true s)) (λ s. absurd (false≢true s)) j;
  only_workload = λ j e. four (λ j. bytes_eq (get_or kept_rules j e).id (codes "workload") ≡ true → j ≡ 2) (λ s. absurd (false≢true s)) (λ s. absurd (false≢true s))
      (λ s. refl) (λ s. absurd (false≢true s)) j;
}

module _ (c : Command) (one : (app_of c ≡ sand_app) ⊎ (app_of c ≡ kept_app)) where
  -- either command is simple, and no option has a rule on another
  pub ours_free : is_simple_and_free (app_of c) ≡ true
  ours_free = elim one [
    | inl e ↦ ap is_simple_and_free e ∙ sand_ours.free
    | inr e ↦ ap is_simple_and_free e ∙ kept_ours.free
  ]

  -- the matches of the words by either command
  pub ours_matched : (m : ArgMatches) (words : List Text) → fault_of (app_of c) words ≡ [] → IsParsedFrom c m → HasMatchesOf (app_of c) words m → IsMatchedBy (app_of c) words m
  ours_matched m words taken p has = elim one [
    | inl e ↦ subst (λ (a : App). IsMatchedBy a words m) (sym e) (matched sand_app sand_rules 2 refl sand_ours c e m words (subst (λ (a : App). fault_of a words ≡ []) e taken) p has)
    | inr e ↦ subst (λ (a : App). IsMatchedBy a words m) (sym e) (matched kept_app kept_rules 3 refl kept_ours c e m words (subst (λ (a : App). fault_of a words ≡ []) e taken) p has)
  ]
