-- One form behind another, and one of two forms: what both say is what each says.
use Rattle.std.proofs.Common.{◌≡◌, Bool, true, ◌&&◌, List, [], ◌∷◌, ◌++◌, Option, Some, None, Ok, Err, refl, sym, ap, subst, ◌∙◌, inl, inr, append_assoc}
use Rattle.script_text.specs.Form.{Class, Got, got}
use Rattle.script_text.specs.Form.{IsOne, Parts}
use Rattle.script_text.specs.Lexical.{Placed}
use Rattle.script_text.specs.Reading.{TokenState, at, Read, pure, bind, go_on, take_in, front, taken_token}
use Rattle.script_text.proofs.Predictive.{has_token}
use Rattle.script_text.proofs.FormFronts.{IsSameFront, IsTaken, Example, IsStuck, are-append, flags, front-behind, both-gave, either-stuck, ok-same, ok-not-err, err-same, head-is, token-example}

-- two steps, and both values together
abbrev pub both : {A B C : Type 0} → (B → C → A) → Read B → Read C → Read A
both join first second = bind first (λ y. bind second (λ z. pure (join y z)))

-- one step and then another
module _ {A B C : Type 0} (join : B → C → A) (first : Read B) (second : Read C) (P : B → Bool → List Placed → Type 0) (Q : C → Bool → List Placed → Type 0) where
  -- both took their tokens
  both-taken : (s : TokenState) (y : B × TokenState) (z : C × TokenState) → IsTaken first P s y → IsTaken second Q y.1 z
      → IsTaken (both join first second) (Parts join P Q) s (join y.0 z.0, z.1)
  both-taken s y z one two =
      record {
        used = one.used ++ two.used;
        flag = two.flag && one.flag;
        split = one.split ∙ ap (λ ps. one.used ++ ps) two.split ∙ sym (append_assoc one.used two.used z.1.left);
        ranged = two.ranged ∙ ap (λ f. two.flag && f) one.ranged ∙ sym (flags two.flag one.flag s.in_range);
        says = record { left = y.0; right = z.0; one = one.flag; two = two.flag; here = one.used; after = two.used; split = refl; first = one.says; second = two.says; joined = refl; both = refl };
        takes = λ more before h.
            let front : IsSameFront y.1.left (two.used ++ more) =
            subst (λ left. IsSameFront left (two.used ++ more)) (sym two.split) (front-behind two.used z.1.left more h) in
            ap (λ ps. both join first second (at ps before)) (append_assoc one.used two.used more)
            ∙ ap (λ r. go_on r (λ y. bind second (λ z. pure (join y z)))) (one.takes (two.used ++ more) before front)
            ∙ ap (λ r. go_on r (λ z. pure (join y.0 z))) (two.takes more (one.flag && before) h)
            ∙ ap (λ flag. Ok (join y.0 z.0, at more flag)) (sym (flags two.flag one.flag before));
      }

  -- what both gave
  pub both-ok : (s : TokenState) (w : A × TokenState) → ((y : B × TokenState) → first s ≡ Ok y → IsTaken first P s y) → ((t : TokenState) (z : C × TokenState) → second t ≡ Ok z → IsTaken second Q t z)
      → both join first second s ≡ Ok w → IsTaken (both join first second) (Parts join P Q) s w
  both-ok s w ok1 ok2 e =
      let one = both-gave (first s) (λ y. bind second (λ z. pure (join y z))) w e in
      let two = both-gave (second one.0.1) (λ z. pure (join one.0.0 z)) w one.2 in
      let same : (join one.0.0 two.0.0, two.0.1) ≡ w = ok-same (join one.0.0 two.0.0, two.0.1) w two.2 in
      subst (IsTaken (both join first second) (Parts join P Q) s) same (both-taken s one.0 two.0 (ok1 one.0 one.1) (ok2 one.0.1 two.0 two.1))

  -- the first is stuck
  first-stuck : (s : TokenState) (bad : List Placed) → IsStuck first P s bad → Example Q → IsStuck (both join first second) (Parts join P Q) s bad
  first-stuck s bad stuck end = record {
    good = stuck.good;
    split = stuck.split;
    again = λ p rest more before e. ap (λ r. go_on r (λ y. bind second (λ z. pure (join y z)))) (stuck.again p rest more before e);
    other = stuck.other ++ end.tokens;
    are = are-append stuck.other end.tokens stuck.are end.are;
    value = join stuck.value end.value;
    flag = end.flag && stuck.flag;
    says = record {
      left = stuck.value;
      right = end.value;
      one = stuck.flag;
      two = end.flag;
      here = stuck.good ++ stuck.other;
      after = end.tokens;
      split = sym (append_assoc stuck.good stuck.other end.tokens);
      first = stuck.says;
      second = end.says;
      joined = refl;
      both = refl;
    };
  }

  -- the second is
  second-stuck : (s : TokenState) (y : B × TokenState) (bad : List Placed) → IsTaken first P s y → IsStuck second Q y.1 bad → IsStuck (both join first second) (Parts join P Q) s bad
  second-stuck s y bad one stuck = record {
    good = one.used ++ stuck.good;
    split = one.split ∙ ap (λ ps. one.used ++ ps) stuck.split ∙ sym (append_assoc one.used stuck.good bad);
    again = λ p rest more before e.
        let front : IsSameFront y.1.left (stuck.good ++ p ∷ more) =
        subst (λ left. IsSameFront left (stuck.good ++ p ∷ more)) (sym (stuck.split ∙ ap (λ ps. stuck.good ++ ps) e)) (front-behind stuck.good (p ∷ rest) (p ∷ more) (more, refl)) in
        ap (λ ps. both join first second (at ps before)) (append_assoc one.used stuck.good (p ∷ more))
        ∙ ap (λ r. go_on r (λ y. bind second (λ z. pure (join y z)))) (one.takes (stuck.good ++ p ∷ more) before front)
        ∙ ap (λ r. go_on r (λ z. pure (join y.0 z))) (stuck.again p rest more (one.flag && before) e);
    other = stuck.other;
    are = stuck.are;
    value = join y.0 stuck.value;
    flag = stuck.flag && one.flag;
    says = record {
      left = y.0;
      right = stuck.value;
      one = one.flag;
      two = stuck.flag;
      here = one.used;
      after = stuck.good ++ stuck.other;
      split = append_assoc one.used stuck.good stuck.other;
      first = one.says;
      second = stuck.says;
      joined = refl;
      both = refl;
    };
  }

  -- one of both is stuck
  pub both-bad : (s : TokenState) (bad : List Placed) → ((y : B × TokenState) → first s ≡ Ok y → IsTaken first P s y) → (first s ≡ Err bad → IsStuck first P s bad)
      → ((t : TokenState) → second t ≡ Err bad → IsStuck second Q t bad) → Example Q → both join first second s ≡ Err bad → IsStuck (both join first second) (Parts join P Q) s bad
  both-bad s bad ok1 bad1 bad2 end e =
      elim (either-stuck (first s) (λ y. bind second (λ z. pure (join y z))) bad e) [
        | inl one ↦ first-stuck s bad (bad1 one) end
        | inr one ↦ elim (either-stuck (second one.0.1) (λ z. pure (join one.0.0 z)) bad one.2) [
          | inl two ↦ second-stuck s one.0 bad (ok1 one.0 one.1) (bad2 one.0.1 two)
          | inr two ↦ absurd (ok-not-err (join one.0.0 two.0.0, two.0.1) bad two.2)
        ]
      ]

-- one token of a class
module _ {A : Type 0} (c : Class) (value : Got c → A) where
  -- was taken
  pub front-ok : (s : TokenState) (ps : List Placed) (y : A × TokenState) → s.left ≡ ps → front c value s ps ≡ Ok y → IsTaken (take_in c value) (IsOne c value) s y
  front-ok s [] y split e = absurd cc
  front-ok s (p ∷ ps) y split e =
      let go : (o : Option (Got c × Bool)) → got c p.piece ≡ o → taken_token value o s ps ≡ Ok y → IsTaken (take_in c value) (IsOne c value) s y =
      elim [
        | None ↦ λ h e. absurd cc
        | Some v ↦ λ h e.
            subst (IsTaken (take_in c value) (IsOne c value) s) (ok-same (value v.0, at ps (v.1 && s.in_range)) y e)
            (record {
              used = p ∷ [];
              flag = v.1;
              split = split;
              ranged = refl;
              says = record { token = p; one = refl; raw = v.0; is = h; gives = refl };
              takes = λ more before _. ap (λ o. taken_token value o (at (p ∷ more) before) more) h;
            })
      ] in
      go (got c p.piece) refl e

  -- an example of it
  pub one-example : has_token c ≡ true → Example (IsOne c value)
  one-example h =
      let some = token-example c h in
      record {
        tokens = record { piece = some.0; room = 0 } ∷ [];
        are = (some.1, tt);
        value = value some.2;
        flag = some.3;
        says = record { token = record { piece = some.0; room = 0 }; one = refl; raw = some.2; is = some.4; gives = refl };
      }

  -- is not there
  pub front-bad : has_token c ≡ true → (s : TokenState) (ps bad : List Placed) → s.left ≡ ps → front c value s ps ≡ Err bad → IsStuck (take_in c value) (IsOne c value) s bad
  front-bad t s [] bad split e =
      let some = one-example t in
      let same : [] ≡ bad = cc in
      record { good = []; split = split ∙ same; again = λ p rest more before k. absurd cc; other = some.tokens; are = some.are; value = some.value; flag = some.flag; says = some.says }
  front-bad t s (q ∷ ps) bad split e =
      let some = one-example t in
      let go : (o : Option (Got c × Bool)) → got c q.piece ≡ o → taken_token value o s ps ≡ Err bad → IsStuck (take_in c value) (IsOne c value) s bad =
      elim [
        | Some v ↦ λ h e. absurd (ok-not-err (value v.0, at ps (v.1 && s.in_range)) bad e)
        | None ↦ λ h e.
            let same : s.left ≡ bad = err-same s.left bad e in
            record {
              good = [];
              split = same;
              again = λ p rest more before k.
                  let first : q ≡ p = head-is q p ps rest (sym split ∙ same ∙ k) in
                  ap (λ o. taken_token value o (at (p ∷ more) before) more) (ap (λ q. got c q.piece) (sym first) ∙ h);
              other = some.tokens;
              are = some.are;
              value = some.value;
              flag = some.flag;
              says = some.says;
            }
      ] in
      go (got c q.piece) refl e
