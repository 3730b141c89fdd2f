-- The laws of the rules, with rules inside one another to any depth; a depth above the number of tokens is enough.
use Rattle.std.proofs.Common.{◌≡◌, ℕ, zero, suc, ◌+◌, ◌<◌, ◌≤◌, Bool, true, false, not, cond, List, [], ◌∷◌, ◌++◌, length, Result, Ok, Err, refl, sym, ap, ◌∙◌, inl, inr, arith, length-append}
use Rattle.std.specs.Prelude.{codes}
use Rattle.std.proofs.lemmas.Bool.{and_parts, false≢true}
use Rattle.script_text.specs.Form.{Class, head_fits, Rule, a_plan, more_columns, more_values, more_spots, more_tests, more_places, RuleValue, Form, nothing, take, alt, seq, checked, rule, Spells}
use Rattle.script_text.specs.Grammar.{spelled_at, spelled, read_at, read_rule, reading}
use Rattle.script_text.specs.Lexical.{Placed}
use Rattle.statements.specs.Plan as plan
use Rattle.script_text.specs.Reading.{TokenState, Read, pure, bind, go_on, take_in, note, read}
use Rattle.script_text.specs.Rules.{body}
use Rattle.script_text.specs.Token.{name}
use Rattle.script_text.proofs.FormFronts.{Example}
use Rattle.script_text.proofs.FormSteps.{both}
use Rattle.script_text.proofs.FormLaws.{RuleLaws, form-ok, form-bad, form-reads, begins}
use Rattle.script_text.proofs.Predictive.{null_of, firsts_of, goes_of, may_end, firsts, goes, is_decided, is_guarded, Front, Stops}

-- one token in hand decides each rule
pub decided : (r : Rule) → is_decided (body r) ≡ true
decided a_plan = refl
decided more_columns = refl
decided more_values = refl
decided more_spots = refl
decided more_tests = refl
decided more_places = refl

-- each rule takes a token before it names another
guarded : (r : Rule) → is_guarded (body r) ≡ true
guarded a_plan = refl
guarded more_columns = refl
guarded more_values = refl
guarded more_spots = refl
guarded more_tests = refl
guarded more_places = refl

-- the rules begin as told
begins-told : (r : Rule) (ts : List Placed) → Front (may_end (body r)) (firsts (body r)) ts → Front (null_of r) (firsts_of r) ts
begins-told a_plan ts h = h
begins-told more_columns ts h = h
begins-told more_values ts h = h
begins-told more_spots ts h = h
begins-told more_tests ts h = h
begins-told more_places ts h = h

-- and go on as told
goes-told : (r : Rule) (more : List Placed) → Stops (goes_of r) more → Stops (goes (body r)) more
goes-told a_plan more h = (h.0, (h.1.0, (h.0, (h.0, (h.0, (h.0, (h.1.0, (h.1.1.0, (h.1.1.1.0, (h.1.0, tt))))))))))
goes-told more_columns more h = (h.0, (h.0, tt))
goes-told more_values more h = (h.0, (h.1.0, (h.1.0, (h.0, tt))))
goes-told more_spots more h = (h.0, (h.0, tt))
goes-told more_tests more h = (h.0, (h.0, tt))
goes-told more_places more h = (h.0, (h.0, tt))

-- what the rules write by one relation they write by a wider one
lift : {A : Type 0} (P Q : (r : Rule) → RuleValue r → Bool → List Placed → Type 0) → ((r : Rule) (x : RuleValue r) (flag : Bool) (ts : List Placed) → P r x flag ts → Q r x flag ts)
    → (f : Form A) (x : A) (flag : Bool) (ts : List Placed) → Spells P f x flag ts → Spells Q f x flag ts
lift P Q w (nothing y) x flag ts h = h
lift P Q w (take c value) x flag ts h = h
lift P Q w (alt c join f g) x flag ts h =
    elim h [
      | inl h ↦ inl (record {
        left = h.left;
        right = h.right;
        one = h.one;
        two = h.two;
        here = h.here;
        after = h.after;
        split = h.split;
        first = h.first;
        second = lift P Q w f h.right h.two h.after h.second;
        joined = h.joined;
        both = h.both;
      })
      | inr h ↦ inr (lift P Q w g x flag ts h)
    ]
lift P Q w (seq join f g) x flag ts h =
    record {
      left = h.left;
      right = h.right;
      one = h.one;
      two = h.two;
      here = h.here;
      after = h.after;
      split = h.split;
      first = lift P Q w f h.left h.one h.here h.first;
      second = lift P Q w g h.right h.two h.after h.second;
      joined = h.joined;
      both = h.both;
    }
lift P Q w (checked test f) x flag ts h = record { here = h.here; inner = lift P Q w f x h.here ts h.inner; both = h.both }
lift P Q w (rule r) x flag ts h = w r x flag ts h

-- what is written to a depth is written to a greater one
pub raise : (n k : ℕ) (r : Rule) (x : RuleValue r) (flag : Bool) (ts : List Placed) → n ≤ k → spelled_at n r x flag ts → spelled_at k r x flag ts
raise zero k r x flag ts le h = absurd h
raise (suc n) zero r x flag ts le h = absurd (omega arith)
raise (suc n) (suc k) r x flag ts le h =
    lift (spelled_at n) (spelled_at k) (λ r x flag ts h. raise n k r x flag ts (omega arith) h) (body r) x flag ts h

-- a form to a greater depth
pub raise-form : {A : Type 0} (n k : ℕ) (f : Form A) (x : A) (flag : Bool) (ts : List Placed) → n ≤ k → Spells (spelled_at n) f x flag ts → Spells (spelled_at k) f x flag ts
raise-form n k f x flag ts le h = lift (spelled_at n) (spelled_at k) (λ r x flag ts h. raise n k r x flag ts le h) f x flag ts h

-- what is written is written to some depth
pub gather : {A : Type 0} (f : Form A) (x : A) (flag : Bool) (ts : List Placed) → Spells spelled f x flag ts → (n : ℕ) × Spells (spelled_at n) f x flag ts
gather (nothing y) x flag ts h = (0, h)
gather (take c value) x flag ts h = (0, h)
gather (alt c join f g) x flag ts h =
    elim h [
      | inl h ↦
          let two = gather f h.right h.two h.after h.second in (
            two.0,
            inl (record {
              left = h.left;
              right = h.right;
              one = h.one;
              two = h.two;
              here = h.here;
              after = h.after;
              split = h.split;
              first = h.first;
              second = two.1;
              joined = h.joined;
              both = h.both;
            }),
          )
      | inr h ↦ let two = gather g x flag ts h in (two.0, inr two.1)
    ]
gather (seq join f g) x flag ts h =
    let one = gather f h.left h.one h.here h.first in
    let two = gather g h.right h.two h.after h.second in (
      one.0 + two.0,
      record {
        left = h.left;
        right = h.right;
        one = h.one;
        two = h.two;
        here = h.here;
        after = h.after;
        split = h.split;
        first = raise-form one.0 (one.0 + two.0) f h.left h.one h.here (omega arith) one.1;
        second = raise-form two.0 (one.0 + two.0) g h.right h.two h.after (omega arith) two.1;
        joined = h.joined;
        both = h.both;
      },
    )
gather (checked test f) x flag ts h = let one = gather f x h.here ts h.inner in (one.0, record { here = h.here; inner = one.1; both = h.both })
gather (rule r) x flag ts h = h

-- what the body of a rule writes the rule does
pub fold : (r : Rule) (x : RuleValue r) (flag : Bool) (ts : List Placed) → Spells spelled (body r) x flag ts → spelled r x flag ts
fold r x flag ts h = let one = gather (body r) x flag ts h in (suc one.0, one.1)

-- each rule is written by some tokens
rule-example : (r : Rule) → Example (spelled r)
rule-example a_plan =
    let w : Placed = record { piece = name (codes "scan"); room = 0 } in
    let n : Placed = record { piece = name (97 ∷ []); room = 0 } in
    record {
      tokens = w ∷ n ∷ [];
      are = (record { spelled = refl; short = omega arith }, (record { spelled = refl; short = omega arith }, tt));
      value = plan.Scan (97 ∷ []);
      flag = true;
      says = (
        1,
        inl (record {
          left = tt;
          right = plan.Scan (97 ∷ []);
          one = true;
          two = true;
          here = w ∷ [];
          after = n ∷ [];
          split = refl;
          first = record { token = w; one = refl; raw = tt; is = refl; gives = refl };
          second = record { token = n; one = refl; raw = 97 ∷ []; is = refl; gives = refl };
          joined = refl;
          both = refl;
        }),
      );
    }
rule-example more_columns = record { tokens = []; are = tt; value = []; flag = true; says = (1, inr (refl, refl, refl)) }
rule-example more_values = record { tokens = []; are = tt; value = []; flag = true; says = (1, inr (refl, refl, refl)) }
rule-example more_spots = record { tokens = []; are = tt; value = []; flag = true; says = (1, inr (refl, refl, refl)) }
rule-example more_tests = record { tokens = []; are = tt; value = []; flag = true; says = (1, inr (refl, refl, refl)) }
rule-example more_places = record { tokens = []; are = tt; value = []; flag = true; says = (1, inr (refl, refl, refl)) }

-- the laws hold at each depth
pub laws_at : (n : ℕ) → RuleLaws (spelled_at n) spelled (read_at n)
laws_at zero = record {
  begins = λ r x flag ts h. absurd h;
  reads = λ r x flag ts more before h k. absurd h;
  ok = λ r s y e. absurd cc;
  bad = λ r s bad e.
      let some = rule-example r in
      let same : s.left ≡ bad = cc in
      record { good = []; split = same; again = λ p rest more before k. refl; other = some.tokens; are = some.are; value = some.value; flag = some.flag; says = some.says };
  some = rule-example;
}
laws_at (suc n) = record {
  begins = λ r x flag ts h. begins-told r ts (begins (spelled_at n) spelled (read_at n) (laws_at n) (body r) x flag ts h);
  reads = λ r x flag ts more before h k. form-reads (spelled_at n) spelled (read_at n) (laws_at n) (body r) (decided r) x flag ts more before h (goes-told r more k);
  ok = λ r s y e.
      let is = form-ok (spelled_at n) spelled (read_at n) (laws_at n) (body r) s y e in
      record { used = is.used; flag = is.flag; split = is.split; ranged = is.ranged; says = fold r y.0 is.flag is.used is.says; takes = is.takes };
  bad = λ r s bad e.
      let is = form-bad (spelled_at n) spelled (read_at n) (laws_at n) (body r) (decided r) s bad e in
      record { good = is.good; split = is.split; again = is.again; other = is.other; are = is.are; value = is.value; flag = is.flag; says = fold r is.value is.flag (is.good ++ is.other) is.says };
  some = rule-example;
}

-- no more tokens are left than there were
no-longer : {A : Type 0} (n : ℕ) (f : Form A) (s : TokenState) (y : A × TokenState) → read (read_at n) f s ≡ Ok y → length y.1.left ≤ length s.left
no-longer n f s y e =
    let is = form-ok (spelled_at n) spelled (read_at n) (laws_at n) f s y e in
    let sum : length s.left ≡ length is.used + length y.1.left = ap length is.split ∙ length-append is.used y.1.left in
    omega (arith, sum)

-- tokens of a form that can't be empty
used-some : (cs : List Class) (null : Bool) (used : List Placed) → null ≡ false → Front null cs used → 0 < length used
used-some cs null [] e h = absurd (false≢true (sym e ∙ h))
used-some cs null (t ∷ used) e h = omega arith

-- fewer tokens are left after a form that can't be empty
pub shorter : {A : Type 0} (n : ℕ) (f : Form A) (s : TokenState) (y : A × TokenState) → may_end f ≡ false → read (read_at n) f s ≡ Ok y → length y.1.left < length s.left
shorter n f s y none e =
    let is = form-ok (spelled_at n) spelled (read_at n) (laws_at n) f s y e in
    let low = gather f y.0 is.flag is.used is.says in
    let some = used-some (firsts f) (may_end f) is.used none (begins (spelled_at low.0) spelled (read_at low.0) (laws_at low.0) f y.0 is.flag is.used low.1) in
    let sum : length s.left ≡ length is.used + length y.1.left = ap length is.split ∙ length-append is.used y.1.left in
    omega (arith, sum, some)

-- a form that isn't empty
not-end : (b : Bool) → not b ≡ true → b ≡ false
not-end true h = absurd (false≢true h)
not-end false h = refl

-- what follows one outcome is the same, where it is so after each value
same-after : {A B : Type 0} (r : Result (A × TokenState) (List Placed)) (next other : A → Read B) → ((y : A × TokenState) → r ≡ Ok y → next y.0 y.1 ≡ other y.0 y.1) → go_on r next ≡ go_on r other
same-after (Err bad) next other h = refl
same-after (Ok y) next other h = h y refl

-- where the rules are read alike before fewer tokens
module _ (n : ℕ) (R : (r : Rule) → Read (RuleValue r)) (bound : ℕ) (same : (r : Rule) (t : TokenState) → length t.left < bound → read_at n r t ≡ R r t) where
  -- both of two forms are read alike
  agree-both : {A B C : Type 0} (join : B → C → A) (f : Form B) (g : Form C) (s : TokenState) → read (read_at n) f s ≡ read R f s
      → ((y : B × TokenState) → read (read_at n) f s ≡ Ok y → read (read_at n) g y.1 ≡ read R g y.1)
      → both join (read (read_at n) f) (read (read_at n) g) s ≡ both join (read R f) (read R g) s
  agree-both join f g s one two =
      same-after (read (read_at n) f s) (λ y. bind (read (read_at n) g) (λ z. pure (join y z))) (λ y. bind (read R g) (λ z. pure (join y z)))
      (λ y e. ap (λ r. go_on r (λ z. pure (join y.0 z))) (two y e))
      ∙ ap (λ r. go_on r (λ y. bind (read R g) (λ z. pure (join y z)))) one

  -- a form is read alike before fewer tokens
  agree-later : {A : Type 0} (f : Form A) (s : TokenState) → length s.left < bound → read (read_at n) f s ≡ read R f s
  agree-later (nothing y) s less = refl
  agree-later (take c value) s less = refl
  agree-later (alt c join f g) s less =
      ap (λ r. cond (head_fits c s.left) r (read (read_at n) g s))
      (agree-both join (take c (λ v. v)) f s refl (λ y e. agree-later f y.1 (omega (arith, less, no-longer n (take c (λ v. v)) s y e))))
      ∙ ap (λ r. cond (head_fits c s.left) (both join (take_in c (λ v. v)) (read R f) s) r) (agree-later g s less)
  agree-later (seq join f g) s less =
      agree-both join f g s (agree-later f s less) (λ y e. agree-later g y.1 (omega (arith, less, no-longer n f s y e)))
  agree-later (checked test f) s less = ap (λ r. go_on r (note test)) (agree-later f s less)
  agree-later (rule r) s less = same r s less

  -- and before as many, where it takes a token before each rule
  pub agree-first : {A : Type 0} (f : Form A) → is_guarded f ≡ true → (s : TokenState) → length s.left ≤ bound → read (read_at n) f s ≡ read R f s
  agree-first (nothing y) d s le = refl
  agree-first (take c value) d s le = refl
  agree-first (alt c join f g) d s le =
      ap (λ r. cond (head_fits c s.left) r (read (read_at n) g s))
      (agree-both join (take c (λ v. v)) f s refl (λ y e. agree-later f y.1 (omega (arith, le, shorter n (take c (λ v. v)) s y refl e))))
      ∙ ap (λ r. cond (head_fits c s.left) (both join (take_in c (λ v. v)) (read R f) s) r) (agree-first g d s le)
  agree-first (seq join f g) d s le =
      let two = and_parts (is_guarded f) (not (may_end f)) d in
      agree-both join f g s (agree-first f two.0 s le) (λ y e. agree-later g y.1 (omega (arith, le, shorter n f s y (not-end (may_end f) two.1) e)))
  agree-first (checked test f) d s le = ap (λ r. go_on r (note test)) (agree-first f d s le)
  agree-first (rule r) d s le = absurd (false≢true d)

-- two depths above the number of tokens are alike
pub agree : (n k : ℕ) (r : Rule) (s : TokenState) → length s.left < n → length s.left < k → read_at n r s ≡ read_at k r s
agree zero k r s one two = absurd (omega arith)
agree (suc n) zero r s one two = absurd (omega arith)
agree (suc n) (suc k) r s one two =
    agree-first n (read_at k) (length s.left) (λ q t less. agree n k q t (omega (arith, less, one)) (omega (arith, less, two))) (body r) (guarded r) s (omega arith)

-- a rule is read as its body
pub rule-body : (r : Rule) (s : TokenState) → read_rule r s ≡ reading (body r) s
unfolding read_rule
rule-body r s =
    agree-first (length s.left) read_rule (length s.left) (λ q t less. agree (length s.left) (suc (length t.left)) q t less (omega arith)) (body r) (guarded r) s (omega arith)

-- a form is read as to each depth above the number of tokens
pub reading-at : {A : Type 0} (n : ℕ) (f : Form A) (s : TokenState) → length s.left < n → read (read_at n) f s ≡ reading f s
unfolding read_rule
reading-at n f s less =
    agree-later n read_rule (suc (length s.left)) (λ q t le. agree n (suc (length t.left)) q t (omega (arith, le, less)) (omega arith)) f s (omega arith)
