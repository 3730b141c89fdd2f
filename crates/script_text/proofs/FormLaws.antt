-- The laws of all forms at once: what is read is written, what is written is read, and where the reader is stuck no other
-- end would help.
use Rattle.std.proofs.Common.{◌≡◌, Bool, true, false, ◌&&◌, cond, List, [], ◌∷◌, ◌++◌, Ok, Err, refl, sym, ap, subst, ◌∙◌, inl, inr, append_assoc}
use Rattle.std.specs.Prelude.{is_some}
use Rattle.std.proofs.lemmas.Bool.{and_parts, cond-true, cond-false}
use Rattle.script_text.specs.Form.{fits, head_fits, Rule, RuleValue, Form, nothing, take}
use Rattle.script_text.specs.Form.{alt, seq, checked, rule, IsOne, Spells}
use Rattle.script_text.specs.Lexical.{Placed}
use Rattle.script_text.specs.Reading.{TokenState, at, Read, pure, bind, go_on, take_in, taken_token, note, read}
use Rattle.script_text.proofs.Predictive.{null_of, firsts_of, goes_of, may_end, firsts, goes, if_so, is_decided, Front, Stops}
use Rattle.script_text.proofs.Predictive.{stops-parts}
use Rattle.script_text.proofs.FormFronts.{IsTaken, Example, IsStuck, are-append, flags, head-same, both-gave, either-stuck, ok-same, ok-not-err, front-left, front-later}
use Rattle.script_text.proofs.FormFronts.{front-both, head-apart, stops-seam}
use Rattle.script_text.proofs.FormSteps.{both, both-ok, both-bad, front-ok, one-example, front-bad}

-- what is said of the rules, as they are read so, with rules inside one another to a depth or to any
pub record RuleLaws (P Q : (r : Rule) → RuleValue r → Bool → List Placed → Type 0) (R : (r : Rule) → Read (RuleValue r)) : Type 0 where
  pub begins : (r : Rule) (x : RuleValue r) (flag : Bool) (ts : List Placed) → P r x flag ts → Front (null_of r) (firsts_of r) ts
  pub reads : (r : Rule) (x : RuleValue r) (flag : Bool) (ts more : List Placed) (before : Bool) → P r x flag ts → Stops (goes_of r) more
      → R r (at (ts ++ more) before) ≡ Ok (x, at more (flag && before))
  pub ok : (r : Rule) (s : TokenState) (y : RuleValue r × TokenState) → R r s ≡ Ok y → IsTaken (R r) (Q r) s y
  pub bad : (r : Rule) (s : TokenState) (bad : List Placed) → R r s ≡ Err bad → IsStuck (R r) (Q r) s bad
  pub some : (r : Rule) → Example (Q r)

-- the laws of each form, where those of the rules hold
module _ (P Q : (r : Rule) → RuleValue r → Bool → List Placed → Type 0) (R : (r : Rule) → Read (RuleValue r)) (laws : RuleLaws P Q R) where
  -- each form is written by some tokens
  pub example : {A : Type 0} (f : Form A) → is_decided f ≡ true → Example (Spells Q f)
  example (nothing y) h = record { tokens = []; are = tt; value = y; flag = true; says = (refl, refl, refl) }
  example (take c value) h = one-example c value h
  example (alt c join f g) h =
      let inner = example g (and_parts _ _ (and_parts _ _ (and_parts _ _ h).1).1).0 in
      record { tokens = inner.tokens; are = inner.are; value = inner.value; flag = inner.flag; says = inr inner.says }
  example (seq join f g) h =
      let one = example f (and_parts _ _ h).0 in
      let two = example g (and_parts _ _ (and_parts _ _ h).1).0 in
      record {
        tokens = one.tokens ++ two.tokens;
        are = are-append one.tokens two.tokens one.are two.are;
        value = join one.value two.value;
        flag = two.flag && one.flag;
        says = record {
          left = one.value;
          right = two.value;
          one = one.flag;
          two = two.flag;
          here = one.tokens;
          after = two.tokens;
          split = refl;
          first = one.says;
          second = two.says;
          joined = refl;
          both = refl;
        };
      }
  example (checked test f) h =
      let one = example f h in
      record { tokens = one.tokens; are = one.are; value = one.value; flag = test one.value && one.flag; says = record { here = one.flag; inner = one.says; both = refl } }
  example (rule r) h = laws.some r

  -- what a form takes
  pub form-ok : {A : Type 0} (f : Form A) (s : TokenState) (y : A × TokenState) → read R f s ≡ Ok y → IsTaken (read R f) (Spells Q f) s y
  form-ok (nothing x) s y e =
      subst (IsTaken (read R (nothing x)) (Spells Q (nothing x)) s) (ok-same (x, s) y e)
      (record { used = []; flag = true; split = refl; ranged = refl; says = (refl, refl, refl); takes = λ more before h. refl })
  form-ok (take c value) s y e = front-ok c value s s.left y refl e
  form-ok (alt c join f g) s y e =
      let first = take_in c (λ v. v) in
      let one = both join first (read R f) in
      let go : (t : Bool) → head_fits c s.left ≡ t → cond t (one s) (read R g s) ≡ Ok y → IsTaken (read R (alt c join f g)) (Spells Q (alt c join f g)) s y =
      elim [
        | true ↦ λ h e.
            let is = both-ok join first (read R f) (IsOne c (λ v. v)) (Spells Q f) s y (λ y e. front-ok c (λ v. v) s s.left y refl e) (λ t z e. form-ok f t z e) e in
            record {
              used = is.used;
              flag = is.flag;
              split = is.split;
              ranged = is.ranged;
              says = inl is.says;
              takes = λ more before k. cond-true (head_fits c (is.used ++ more)) _ _ (head-same c is.used y.1.left more k ∙ ap (head_fits c) (sym is.split) ∙ h) ∙ is.takes more before k;
            }
        | false ↦ λ h e.
            let is = form-ok g s y e in
            record {
              used = is.used;
              flag = is.flag;
              split = is.split;
              ranged = is.ranged;
              says = inr is.says;
              takes = λ more before k. cond-false (head_fits c (is.used ++ more)) _ _ (head-same c is.used y.1.left more k ∙ ap (head_fits c) (sym is.split) ∙ h) ∙ is.takes more before k;
            }
      ] in
      go (head_fits c s.left) refl e
  form-ok (seq join f g) s y e =
      both-ok join (read R f) (read R g) (Spells Q f) (Spells Q g) s y (λ y e. form-ok f s y e) (λ t z e. form-ok g t z e) e
  form-ok (checked test f) s y e =
      let one = both-gave (read R f s) (note test) y e in
      let is = form-ok f s one.0 one.1 in
      subst (IsTaken (read R (checked test f)) (Spells Q (checked test f)) s) (ok-same (one.0.0, at one.0.1.left (test one.0.0 && one.0.1.in_range)) y one.2)
      (record {
        used = is.used;
        flag = test one.0.0 && is.flag;
        split = is.split;
        ranged = ap (λ b. test one.0.0 && b) is.ranged ∙ sym (flags (test one.0.0) is.flag s.in_range);
        says = record { here = is.flag; inner = is.says; both = refl };
        takes = λ more before k. ap (λ r. go_on r (note test)) (is.takes more before k) ∙ ap (λ b. Ok (one.0.0, at more b)) (sym (flags (test one.0.0) is.flag before));
      })
  form-ok (rule r) s y e = laws.ok r s y e

  -- where a form is stuck
  pub form-bad : {A : Type 0} (f : Form A) → is_decided f ≡ true → (s : TokenState) (bad : List Placed) → read R f s ≡ Err bad → IsStuck (read R f) (Spells Q f) s bad
  form-bad (nothing x) d s bad e = absurd (ok-not-err (x, s) bad e)
  form-bad (take c value) d s bad e = front-bad c value d s s.left bad refl e
  form-bad (alt c join f g) d s bad e =
      let token = (and_parts _ _ d).0 in
      let df = (and_parts _ _ (and_parts _ _ d).1).0 in
      let dg = (and_parts _ _ (and_parts _ _ (and_parts _ _ d).1).1).0 in
      let first = take_in c (λ v. v) in
      let one = both join first (read R f) in
      let go : (t : Bool) → head_fits c s.left ≡ t → cond t (one s) (read R g s) ≡ Err bad → IsStuck (read R (alt c join f g)) (Spells Q (alt c join f g)) s bad =
      elim [
        | true ↦ λ h e.
            let is = both-bad join first (read R f) (IsOne c (λ v. v)) (Spells Q f) s bad (λ y e. front-ok c (λ v. v) s s.left y refl e)
            (λ e. front-bad c (λ v. v) token s s.left bad refl e) (λ t e. form-bad f df t bad e) (example f df) e in
            record {
              good = is.good;
              split = is.split;
              other = is.other;
              are = is.are;
              value = is.value;
              flag = is.flag;
              says = inl is.says;
              again = λ p rest more before k.
                  cond-true (head_fits c (is.good ++ p ∷ more)) _ _
                  (head-same c is.good (p ∷ rest) (p ∷ more) (more, refl) ∙ ap (λ ps. head_fits c (is.good ++ ps)) (sym k) ∙ ap (head_fits c) (sym is.split) ∙ h)
                  ∙ is.again p rest more before k;
            }
        | false ↦ λ h e.
            let is = form-bad g dg s bad e in
            record {
              good = is.good;
              split = is.split;
              other = is.other;
              are = is.are;
              value = is.value;
              flag = is.flag;
              says = inr is.says;
              again = λ p rest more before k.
                  cond-false (head_fits c (is.good ++ p ∷ more)) _ _
                  (head-same c is.good (p ∷ rest) (p ∷ more) (more, refl) ∙ ap (λ ps. head_fits c (is.good ++ ps)) (sym k) ∙ ap (head_fits c) (sym is.split) ∙ h)
                  ∙ is.again p rest more before k;
            }
      ] in
      go (head_fits c s.left) refl e
  form-bad (seq join f g) d s bad e =
      let df = (and_parts _ _ d).0 in
      let dg = (and_parts _ _ (and_parts _ _ d).1).0 in
      both-bad join (read R f) (read R g) (Spells Q f) (Spells Q g) s bad (λ y e. form-ok f s y e) (λ e. form-bad f df s bad e) (λ t e. form-bad g dg t bad e) (example g dg) e
  form-bad (checked test f) d s bad e =
      elim (either-stuck (read R f s) (note test) bad e) [
        | inr one ↦ absurd (ok-not-err (one.0.0, at one.0.1.left (test one.0.0 && one.0.1.in_range)) bad one.2)
        | inl one ↦
            let is = form-bad f d s bad one in
            record {
              good = is.good;
              split = is.split;
              other = is.other;
              are = is.are;
              value = is.value;
              flag = test is.value && is.flag;
              says = record { here = is.flag; inner = is.says; both = refl };
              again = λ p rest more before k. ap (λ r. go_on r (note test)) (is.again p rest more before k);
            }
      ]
  form-bad (rule r) d s bad e = laws.bad r s bad e

  -- what a form begins with
  pub begins : {A : Type 0} (f : Form A) (x : A) (flag : Bool) (ts : List Placed) → Spells P f x flag ts → Front (may_end f) (firsts f) ts
  begins (nothing y) x flag ts h = subst (Front true []) (sym h.2) refl
  begins (take c value) x flag ts h = subst (Front false (c ∷ [])) (sym h.one) (inl (ap is_some h.is))
  begins (alt c join f g) x flag ts h =
      elim h [
        | inl one ↦ front-left c (firsts g) (may_end g) ts one.first.token one.after (one.split ∙ ap (λ ps. ps ++ one.after) one.first.one) (ap is_some one.first.is)
        | inr two ↦ front-later c (firsts g) (may_end g) ts (begins g x flag ts two)
      ]
  begins (seq join f g) x flag ts h =
      subst (Front (may_end f && may_end g) (firsts f ++ if_so (may_end f) (firsts g))) (sym h.split)
      (front-both (may_end f) (may_end g) (firsts f) (firsts g) h.here h.after (begins f h.left h.one h.here h.first) (begins g h.right h.two h.after h.second))
  begins (checked test f) x flag ts h = begins f x h.here ts h.inner
  begins (rule r) x flag ts h = laws.begins r x flag ts h

  -- what is written is read
  pub form-reads : {A : Type 0} (f : Form A) → is_decided f ≡ true → (x : A) (flag : Bool) (ts more : List Placed) (before : Bool) → Spells P f x flag ts → Stops (goes f) more
      → read R f (at (ts ++ more) before) ≡ Ok (x, at more (flag && before))
  form-reads (nothing y) d x flag ts more before h k = rw (h.0, h.1, h.2) refl
  form-reads (take c value) d x flag ts more before h k =
      rw (h.one, h.gives) (ap (λ o. taken_token value o (at (h.token ∷ more) before) more) h.is)
  form-reads (alt c join f g) d x flag ts more before h k =
      let rest = (and_parts _ _ (and_parts _ _ d).1) in
      let dg = and_parts _ _ rest.1 in
      let stops = stops-parts (goes f) (goes g ++ if_so (may_end g) (c ∷ [])) more k in
      elim h [
        | inl one ↦
            rw (one.split, one.joined, one.both)
            (ap (λ ps. cond (head_fits c ((ps ++ one.after) ++ more)) (both join (take_in c (λ v. v)) (read R f) (at ((ps ++ one.after) ++ more) before))
            (read R g (at ((ps ++ one.after) ++ more) before))) one.first.one
            ∙ cond-true (fits c one.first.token) _ _ (ap is_some one.first.is)
            ∙ ap (λ o. go_on (taken_token (λ v. v) o (at (one.first.token ∷ (one.after ++ more)) before) (one.after ++ more)) (λ y. bind (read R f) (λ z. pure (join y z)))) one.first.is
            ∙ ap (λ r. go_on r (λ z. pure (join one.first.raw z))) (form-reads f rest.0 one.right one.two one.after more (one.one && before) one.second stops.0)
            ∙ ap (λ v. Ok (join v one.right, at more (one.two && (one.one && before)))) (sym one.first.gives)
            ∙ ap (λ b. Ok (join one.left one.right, at more b)) (sym (flags one.two one.one before)))
        | inr two ↦
            let later = stops-parts (goes g) (if_so (may_end g) (c ∷ [])) more stops.1 in
            cond-false (head_fits c (ts ++ more)) _ _ (head-apart c (firsts g) (may_end g) ts more dg.1 (begins g x flag ts two) later.1)
            ∙ form-reads g dg.0 x flag ts more before two later.0
      ]
  form-reads (seq join f g) d x flag ts more before h k =
      let two = and_parts _ _ d in
      let dg = and_parts _ _ two.1 in
      let stops = stops-parts (goes g) (if_so (may_end g) (goes f)) more k in
      rw (h.split, h.joined, h.both)
      (ap (λ ps. both join (read R f) (read R g) (at ps before)) (append_assoc h.here h.after more)
      ∙ ap (λ r. go_on r (λ y. bind (read R g) (λ z. pure (join y z))))
      (form-reads f two.0 h.left h.one h.here (h.after ++ more) before h.first (stops-seam (goes f) (firsts g) (may_end g) h.after more dg.1 (begins g h.right h.two h.after h.second) stops.1))
      ∙ ap (λ r. go_on r (λ z. pure (join h.left z))) (form-reads g dg.0 h.right h.two h.after more (h.one && before) h.second stops.0)
      ∙ ap (λ b. Ok (join h.left h.right, at more b)) (sym (flags h.two h.one before)))
  form-reads (checked test f) d x flag ts more before h k =
      rw h.both
      (ap (λ r. go_on r (note test)) (form-reads f d x h.here ts more before h.inner k)
      ∙ ap (λ b. Ok (x, at more b)) (sym (flags (test x) h.here before)))
  form-reads (rule r) d x flag ts more before h k = laws.reads r x flag ts more before h k
