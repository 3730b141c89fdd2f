-- What each of the two writes of an append leaves: behind a gate that isn't open, and of that gate.
use Rattle.std.proofs.Common.{◌≡◌, inl, inr, ℕ, ◌+◌, ◌<◌, List, [], ◌∷◌, ◌++◌, length, get_or, take, drop, refl, sym, ◌∙◌, ap, arith, append_assoc, length-append, take-append-drop}
use Rattle.std.proofs.lemmas.Bool.{cases_eq}
use Rattle.std.proofs.lemmas.List.{append-nil, take_at, drop_at, drop_more}
use Rattle.std.specs.List.{AllByRecursion}
use Rattle.sand_journal.specs.Tape.{Torn, IsWrittenAt}
use Rattle.sand_journal.specs.Images.{IsShort, framed, records, HasBodies, LiesBetween}
use Rattle.sand_journal.proofs.Frames.{records-push, short_push}

-- The bytes of a file behind these records, cut in three: the records, the byte at their end, and what is behind it.
module _ (bodies : List (List ℕ)) (end : ℕ) (place : end ≡ length (records bodies)) where
  length_gate : (gate : ℕ) → length (records bodies ++ gate ∷ []) ≡ end + 1
  length_gate gate = omega (arith, place, length-append (records bodies) (gate ∷ []))

  cut_gate : (gate : ℕ) (behind : List ℕ) → records bodies ++ gate ∷ behind ≡ records bodies ++ gate ∷ [] ++ behind
  cut_gate gate behind = sym (append_assoc (records bodies) (gate ∷ []) behind)

  -- the records, from the front
  pub front : (bytes behind : List ℕ) (gate : ℕ) → bytes ≡ records bodies ++ gate ∷ behind → take end bytes ≡ records bodies
  front bytes behind gate is = ap (λ (l : List ℕ). take end l) is ∙ take_at (records bodies) (gate ∷ behind) end (sym place)

  -- the records and the gate
  pub front_gate : (bytes behind : List ℕ) (gate : ℕ) → bytes ≡ records bodies ++ gate ∷ behind → take (end + 1) bytes ≡ records bodies ++ gate ∷ []
  front_gate bytes behind gate is = ap (λ (l : List ℕ). take (end + 1) l) (is ∙ cut_gate gate behind) ∙ take_at (records bodies ++ gate ∷ []) behind (end + 1) (length_gate gate)

  -- what is behind the gate
  pub back : (bytes behind : List ℕ) (gate : ℕ) → bytes ≡ records bodies ++ gate ∷ behind → drop (end + 1) bytes ≡ behind
  back bytes behind gate is = ap (λ (l : List ℕ). drop (end + 1) l) (is ∙ cut_gate gate behind) ∙ drop_at (records bodies ++ gate ∷ []) behind (end + 1) (length_gate gate)

  -- the gate is in the file
  pub within : (bytes behind : List ℕ) (gate : ℕ) → bytes ≡ records bodies ++ gate ∷ behind → end < length bytes
  within bytes behind gate is = omega (arith, ap length is, place, length-append (records bodies) (gate ∷ behind))

  -- a write behind the gate leaves the same bodies, wherever a crash cuts it short
  pub torn_behind : (n : ℕ) (bytes image : List ℕ) → HasBodies bodies bytes → Torn (end + 1) n bytes image → HasBodies bodies image
  torn_behind n bytes image has torn = record {
    short = has.short;
    gate = has.gate;
    shut = has.shut;
    behind = torn.before.0;
    is = torn.before.1 ∙ ap (λ (l : List ℕ). l ++ torn.before.0) (front_gate bytes has.behind has.gate has.is) ∙ append_assoc (records bodies) (has.gate ∷ []) torn.before.0;
  }

  -- and once it is accepted, the body stands there in its frame, with a shut gate behind it
  pub written_behind : (body bytes new behind : List ℕ) (gate : ℕ) → bytes ≡ records bodies ++ gate ∷ behind → IsWrittenAt bytes (end + 1) (framed body ++ 0 ∷ []) new
      → new ≡ records bodies ++ gate ∷ (framed body ++ 0 ∷ drop (end + 1 + length (framed body ++ 0 ∷ [])) bytes)
  written_behind body bytes new behind gate is written =
      let junk : List ℕ = drop (end + 1 + length (framed body ++ 0 ∷ [])) bytes in
      written
      ∙ ap (λ (l : List ℕ). l ++ (framed body ++ 0 ∷ []) ++ junk) (front_gate bytes behind gate is)
      ∙ append_assoc (records bodies ++ gate ∷ []) (framed body ++ 0 ∷ []) junk
      ∙ append_assoc (records bodies) (gate ∷ []) ((framed body ++ 0 ∷ []) ++ junk)
      ∙ ap (λ (l : List ℕ). records bodies ++ gate ∷ l) (append_assoc (framed body) (0 ∷ []) junk)

  -- where no body more is there, the bodies are those from before
  pub lies_first : (body image : List ℕ) → HasBodies bodies image → LiesBetween bodies (bodies ++ body ∷ []) image
  lies_first body image has = record { bodies = bodies; has = has; more = []; all_first = sym (append-nil bodies); rest = body ∷ []; in_last = refl }

  -- where it is there, they are those and this one
  pub lies_last : (body image : List ℕ) → HasBodies (bodies ++ body ∷ []) image → LiesBetween bodies (bodies ++ body ∷ []) image
  lies_last body image has = record { bodies = bodies ++ body ∷ []; has = has; more = body ∷ []; all_first = refl; rest = []; in_last = sym (append-nil (bodies ++ body ∷ [])) }

  -- one body more, with a shut gate behind it
  one_more : (body image junk : List ℕ) → AllByRecursion IsShort bodies → IsShort body → image ≡ records bodies ++ 1 ∷ (framed body ++ 0 ∷ junk) → HasBodies (bodies ++ body ∷ []) image
  one_more body image junk all short is = record { short = short_push bodies body all short; gate = 0; shut = omega arith; behind = junk; is = is ∙ sym (records-push bodies body (0 ∷ junk)) }

  -- the write of a gate leaves any byte there, and the body that was durable behind it
  gate_image : (body bytes image junk : List ℕ) (gate : ℕ) → bytes ≡ records bodies ++ gate ∷ (framed body ++ 0 ∷ junk) → (torn : Torn end 1 bytes image)
      → image ≡ records bodies ++ get_or image end 0 ∷ (framed body ++ 0 ∷ (junk ++ torn.behind.0))
  gate_image body bytes image junk gate is torn =
      let more : List ℕ = torn.behind.0 in
      let records_first : image ≡ records bodies ++ torn.before.0 = torn.before.1 ∙ ap (λ (l : List ℕ). l ++ torn.before.0) (front bytes (framed body ++ 0 ∷ junk) gate is) in
      let taken : take end image ≡ records bodies = ap (λ (l : List ℕ). take end l) records_first ∙ take_at (records bodies) torn.before.0 end (sym place) in
      let inside : end < length image = omega (arith, within bytes (framed body ++ 0 ∷ junk) gate is, torn.no_shorter) in
      let dropped : drop (end + 1) image ≡ framed body ++ 0 ∷ (junk ++ more) =
      torn.behind.1 ∙ ap (λ (l : List ℕ). l ++ more) (back bytes (framed body ++ 0 ∷ junk) gate is) ∙ append_assoc (framed body) (0 ∷ junk) more in
      sym (take-append-drop end image)
      ∙ ap (λ (l : List ℕ). l ++ drop end image) taken
      ∙ ap (λ (l : List ℕ). records bodies ++ l) (drop_more image end 0 inside ∙ ap (λ (l : List ℕ). get_or image end 0 ∷ l) dropped)

  -- so the bodies are those from before, or those and this one
  pub torn_gate : (body bytes image junk : List ℕ) (gate : ℕ) → AllByRecursion IsShort bodies → IsShort body → bytes ≡ records bodies ++ gate ∷ (framed body ++ 0 ∷ junk) → Torn end 1 bytes image
      → LiesBetween bodies (bodies ++ body ∷ []) image
  torn_gate body bytes image junk gate all short is torn =
      let whole = gate_image body bytes image junk gate is torn in
      let behind : List ℕ = framed body ++ 0 ∷ (junk ++ torn.behind.0) in
      elim (cases_eq (get_or image end 0) 1) [
        | inl opened ↦ lies_last body image (one_more body image (junk ++ torn.behind.0) all short (whole ∙ ap (λ (x : ℕ). records bodies ++ x ∷ behind) opened))
        | inr shut ↦ lies_first body image (record { short = all; gate = get_or image end 0; shut = shut; behind = behind; is = whole })
      ]

  -- and once it is accepted, they are those and this one
  pub written_gate : (body bytes new junk : List ℕ) (gate : ℕ) → AllByRecursion IsShort bodies → IsShort body
      → bytes ≡ records bodies ++ gate ∷ (framed body ++ 0 ∷ junk) → IsWrittenAt bytes end (1 ∷ []) new
      → HasBodies (bodies ++ body ∷ []) new
  written_gate body bytes new junk gate all short is written =
      let behind : List ℕ = framed body ++ 0 ∷ junk in
      one_more body new junk all short (written
      ∙ ap (λ (l : List ℕ). l ++ (1 ∷ []) ++ drop (end + 1) bytes) (front bytes behind gate is)
      ∙ ap (λ (l : List ℕ). records bodies ++ (1 ∷ []) ++ l) (back bytes behind gate is)
      ∙ append_assoc (records bodies) (1 ∷ []) behind)
