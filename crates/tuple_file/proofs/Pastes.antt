-- What a page's tuples are after its writes.
use Rattle.std.proofs.Common.{◌≡◌, ◌≢◌, ℕ, zero, suc, ◌+◌, ◌-◌, ◌*◌, ◌^◌, ◌<◌, ◌≤◌, ◌⊎◌, Bool, cond, List, [], ◌∷◌, length, get_or, min, replicate, refl, sym, ◌∙◌, ap, ap₂, inl, inr, arith, take_all}
use Rattle.std.specs.Prelude.{◌==◌}
use Rattle.std.proofs.lemmas.Bool.Decides.{leb_tells, eqb_tells}
use Rattle.std.proofs.lemmas.List.{length-replicate}
use Rattle.code_btree.specs.Bytes.{piece, pasted, half_of, half_bytes}
use Rattle.code_btree.proofs.Numbers.{half_back, length-half_bytes}
use Rattle.code_btree.proofs.Pieces.{length-piece, length-pasted, piece_apart, piece_within, pasted-before, pasted-within}
use Rattle.code_btree.proofs.Orders.{lt_is, lt_not, eq_not}
use Rattle.tuple_file.specs.Page.{slot_count, slot_start, length_in, tuple_at, low, some, IsTuples, HasRoom, Added, Cleared, IsBlank}

-- one write

long : (p q : List ℕ) (at : ℕ) (b : List ℕ) → q ≡ pasted p at b → length p ≡ 4096 → at + length b ≤ 4096 → length q ≡ 4096
long p q at b e l h = ap (λ (x : List ℕ). length x) e ∙ (length-pasted p at b (omega arith) ∙ l)

apart : (w a : ℕ) (p q : List ℕ) (at : ℕ) (b : List ℕ) → q ≡ pasted p at b → length p ≡ 4096 → at + length b ≤ 4096 → (a + w ≤ at) ⊎ (at + length b ≤ a) → piece w a q ≡ piece w a p
apart w a p q at b e l h s = ap (λ (x : List ℕ). piece w a x) e ∙ piece_apart w a p at b (omega arith) s

half_apart : (a : ℕ) (p q : List ℕ) (at : ℕ) (b : List ℕ) → q ≡ pasted p at b → length p ≡ 4096 → at + length b ≤ 4096 → (a + 2 ≤ at) ⊎ (at + length b ≤ a)
    → half_of (piece 2 a q) ≡ half_of (piece 2 a p)
half_apart a p q at b e l h s = ap (λ (x : List ℕ). half_of x) (apart 2 a p q at b e l h s)

within : (p q : List ℕ) (at : ℕ) (b : List ℕ) → q ≡ pasted p at b → length p ≡ 4096 → at + length b ≤ 4096 → piece (length b) at q ≡ b
within p q at b e l h =
    let zero_on : at + 0 ≡ at = omega arith in
    ap (λ (x : List ℕ). piece (length b) at x) e
    ∙ (ap (λ (i : ℕ). piece (length b) i (pasted p at b)) (sym zero_on)
    ∙ (piece_within (length b) 0 p at b (omega arith) (omega arith) ∙ take_all (length b) b (omega arith)))

half_here : (p q : List ℕ) (at n : ℕ) → q ≡ pasted p at (half_bytes n) → length p ≡ 4096 → at + 2 ≤ 4096 → n < 2 ^ 16 → half_of (piece 2 at q) ≡ n
half_here p q at n e l h s =
    ap (λ (k : ℕ). half_of (piece k at q)) (sym (length-half_bytes n))
    ∙ (ap (λ (x : List ℕ). half_of x) (within p q at (half_bytes n) e l (omega (arith, length-half_bytes n))) ∙ half_back n s)

first : (p q : List ℕ) (at : ℕ) (b : List ℕ) → q ≡ pasted p at b → length p ≡ 4096 → at + length b ≤ 4096 → 1 ≤ at → get_or q 0 0 ≡ get_or p 0 0
first p q at b e l h s = ap (λ (x : List ℕ). get_or x 0 0) e ∙ pasted-before p at b 0 0 (omega arith) s

-- slots

pub tuple_in : (p : List ℕ) (i : ℕ) → i < slot_count p → tuple_at p i ≡ piece (length_in p i) (slot_start p i) p
unfolding tuple_at
tuple_in p i h = rw (lt_is i (slot_count p) h) refl

pub tuple_out : (p : List ℕ) (i : ℕ) → slot_count p ≤ i → tuple_at p i ≡ []
unfolding tuple_at
tuple_out p i h = rw (lt_not i (slot_count p) h) refl

last_of : (c n : ℕ) (f : ℕ → ℕ) → c ≡ suc n → cond (c == 0) 4096 (f (c - 1)) ≡ f n
last_of c n f e =
    let some_slot : c ≢ 0 = omega (arith, e) in
    let before : c - 1 ≡ n = omega (arith, e) in
    ap (λ (b : Bool). cond b 4096 (f (c - 1))) (eq_not c 0 some_slot) ∙ ap f before

pub low_is : (p : List ℕ) (n : ℕ) → slot_count p ≡ suc n → low p ≡ slot_start p n
low_is p n e = last_of (slot_count p) n (λ i. slot_start p i) e

low_same : (p q : List ℕ) (n : ℕ) → slot_count p ≡ n → slot_count q ≡ n → ((i : ℕ) → i < n → slot_start q i ≡ slot_start p i) → low q ≡ low p
low_same p q zero e f h = ap (λ (k : ℕ). cond (k == 0) 4096 (slot_start q (k - 1))) f ∙ sym (ap (λ (k : ℕ). cond (k == 0) 4096 (slot_start p (k - 1))) e)
low_same p q (suc n) e f h = low_is q n f ∙ (h n (omega arith) ∙ sym (low_is p n e))

-- what the four writes of a new tuple leave
pub record Made (p q bytes : List ℕ) (slot place : ℕ) : Type 0 where
  pub size : length q ≡ 4096
  pub kind : get_or q 0 0 ≡ get_or p 0 0
  pub count : half_of (piece 2 2 q) ≡ slot + 1
  pub place_is : slot_start q slot ≡ place
  pub length_is : length_in q slot ≡ length bytes
  pub here : piece (length bytes) place q ≡ bytes
  pub places : (i : ℕ) → i < slot → slot_start q i ≡ slot_start p i
  pub lengths : (i : ℕ) → i < slot → length_in q i ≡ length_in p i
  pub above : (w a : ℕ) → place + length bytes ≤ a → piece w a q ≡ piece w a p

made : (p q r s t bytes : List ℕ) (slot place : ℕ) → length p ≡ 4096 → slot < 1022 → 8 + 4 * (slot + 1) ≤ place → place + length bytes ≤ 4096
    → q ≡ pasted p place bytes → r ≡ pasted q (8 + 4 * slot) (half_bytes place) → s ≡ pasted r (10 + 4 * slot) (half_bytes (length bytes)) → t ≡ pasted s 2 (half_bytes (slot + 1))
    → Made p t bytes slot place
made p q r s t bytes slot place lp h h1 h2 eq er es et =
    let na = length-half_bytes place in
    let nb = length-half_bytes (length bytes) in
    let nc = length-half_bytes (slot + 1) in
    let lq = long p q place bytes eq lp h2 in
    let lr = long q r (8 + 4 * slot) (half_bytes place) er lq (omega arith) in
    let ls = long r s (10 + 4 * slot) (half_bytes (length bytes)) es lr (omega arith) in
    let lt = long s t 2 (half_bytes (slot + 1)) et ls (omega arith) in
    record {
      size = lt;
      kind = first s t 2 (half_bytes (slot + 1)) et ls (omega arith) (omega arith) ∙ (first r s (10 + 4 * slot) (half_bytes (length bytes)) es lr (omega arith) (omega arith)
          ∙ (first q r (8 + 4 * slot) (half_bytes place) er lq (omega arith) (omega arith) ∙ first p q place bytes eq lp h2 (omega arith)));
      count = half_here s t 2 (slot + 1) et ls (omega arith) (omega arith);
      place_is = half_apart (8 + 4 * slot) s t 2 (half_bytes (slot + 1)) et ls (omega arith) (inr (omega arith))
          ∙ (half_apart (8 + 4 * slot) r s (10 + 4 * slot) (half_bytes (length bytes)) es lr (omega arith) (inl (omega arith))
          ∙ half_here q r (8 + 4 * slot) place er lq (omega arith) (omega arith));
      length_is = half_apart (10 + 4 * slot) s t 2 (half_bytes (slot + 1)) et ls (omega arith) (inr (omega arith))
          ∙ half_here r s (10 + 4 * slot) (length bytes) es lr (omega arith) (omega arith);
      here = apart (length bytes) place s t 2 (half_bytes (slot + 1)) et ls (omega arith) (inr (omega arith))
          ∙ (apart (length bytes) place r s (10 + 4 * slot) (half_bytes (length bytes)) es lr (omega arith) (inr (omega arith))
          ∙ (apart (length bytes) place q r (8 + 4 * slot) (half_bytes place) er lq (omega arith) (inr (omega arith)) ∙ within p q place bytes eq lp h2));
      places = λ i l. half_apart (8 + 4 * i) s t 2 (half_bytes (slot + 1)) et ls (omega arith) (inr (omega arith))
          ∙ (half_apart (8 + 4 * i) r s (10 + 4 * slot) (half_bytes (length bytes)) es lr (omega arith) (inl (omega arith))
          ∙ (half_apart (8 + 4 * i) q r (8 + 4 * slot) (half_bytes place) er lq (omega arith) (inl (omega arith)) ∙ half_apart (8 + 4 * i) p q place bytes eq lp h2 (inl (omega arith))));
      lengths = λ i l. half_apart (10 + 4 * i) s t 2 (half_bytes (slot + 1)) et ls (omega arith) (inr (omega arith))
          ∙ (half_apart (10 + 4 * i) r s (10 + 4 * slot) (half_bytes (length bytes)) es lr (omega arith) (inl (omega arith))
          ∙ (half_apart (10 + 4 * i) q r (8 + 4 * slot) (half_bytes place) er lq (omega arith) (inl (omega arith)) ∙ half_apart (10 + 4 * i) p q place bytes eq lp h2 (inl (omega arith))));
      above = λ w a l. apart w a s t 2 (half_bytes (slot + 1)) et ls (omega arith) (inr (omega arith))
          ∙ (apart w a r s (10 + 4 * slot) (half_bytes (length bytes)) es lr (omega arith) (inr (omega arith))
          ∙ (apart w a q r (8 + 4 * slot) (half_bytes place) er lq (omega arith) (inr (omega arith)) ∙ apart w a p q place bytes eq lp h2 (inr l)));
    }

-- tuples of two pages with one place, one length and one piece
tuple_same : (p q : List ℕ) (i : ℕ) → i < slot_count p → i < slot_count q → slot_start q i ≡ slot_start p i → length_in q i ≡ length_in p i
    → piece (length_in p i) (slot_start p i) q ≡ piece (length_in p i) (slot_start p i) p → tuple_at q i ≡ tuple_at p i
tuple_same p q i hp hq place length_same same =
    tuple_in q i hq ∙ (ap₂ (λ (w a : ℕ). piece w a q) length_same place ∙ (same ∙ sym (tuple_in p i hp)))

pub added : (p q bytes : List ℕ) (slot place : ℕ) → slot ≡ slot_count p → place + length bytes ≡ low p → HasRoom p (length bytes) → Made p q bytes slot place → IsTuples p → Added p q bytes slot place
added p q bytes slot place es ep room m h =
    let few : slot < 1022 = omega (arith, room.0, room.1) in
    let count : slot_count q ≡ suc slot = omega (arith, m.count) in
    let lowest : low q ≡ place = low_is q slot count ∙ m.place_is in
    let least : 8 + 4 * (slot + 1) ≤ place = omega (arith, room.0) in
    record {
      sound = record {
        size = m.size;
        kind = m.kind ∙ h.kind;
        table = omega (arith, lowest, count);
        top = omega (arith, lowest, h.top);
        within = λ i l. elim (leb_tells (suc i) slot) [
          | inl x ↦ let w = h.within i (omega (arith, x.1)) in let a = m.places i x.1 in let b = m.lengths i x.1 in (omega (arith, lowest, w.0, a), omega (arith, w.1, a, b))
          | inr x ↦
              let e : i ≡ slot = omega (arith, x.1, count) in
              let a : slot_start q i ≡ place = ap (λ (k : ℕ). slot_start q k) e ∙ m.place_is in
              let b : length_in q i ≡ length bytes = ap (λ (k : ℕ). length_in q k) e ∙ m.length_is in
              (omega (arith, lowest, a), omega (arith, a, b, h.top))
        ];
      };
      small = few;
      here = tuple_in q slot (omega (arith, count)) ∙ (ap₂ (λ (w a : ℕ). piece w a q) m.length_is m.place_is ∙ m.here);
      was = tuple_out p slot (omega (arith, es));
      others = λ i n. elim (leb_tells (suc i) slot) [
        | inl x ↦ tuple_same p q i (omega (arith, x.1)) (omega (arith, count, x.1)) (m.places i x.1) (m.lengths i x.1)
            (m.above (length_in p i) (slot_start p i) (omega (arith, (h.within i (omega (arith, x.1))).0)))
        | inr x ↦ let far : suc slot ≤ i = omega (arith, x.1, n) in tuple_out q i (omega (arith, count)) ∙ sym (tuple_out p i (omega arith))
      ];
      has = record { there = omega (arith, count); start_is = m.place_is; length_is = m.length_is };
      stays = λ i at many has.
          let below : i < slot = omega (arith, has.there, es) in
          record { there = omega (arith, below, count); start_is = m.places i below ∙ has.start_is; length_is = m.lengths i below ∙ has.length_is };
    }

pub cleared : (p q : List ℕ) (slot from : ℕ) → slot < slot_count p → from ≡ slot → q ≡ pasted p (10 + 4 * from) (half_bytes 0) → IsTuples p → Cleared p q slot
cleared p q slot from l ef ep h =
    let e : q ≡ pasted p (10 + 4 * slot) (half_bytes 0) = ep ∙ ap (λ (i : ℕ). pasted p (10 + 4 * i) (half_bytes 0)) ef in
    let b : List ℕ = half_bytes 0 in
    let n = length-half_bytes 0 in
    let at : ℕ = 10 + 4 * slot in
    let fits : at + length b ≤ 4096 = omega (arith, n) in
    let size = long p q at b e h.size fits in
    let count : slot_count q ≡ slot_count p = ap (λ (k : ℕ). min k 1022) (half_apart 2 p q at b e h.size fits (inl (omega arith))) in
    let places : (i : ℕ) → slot_start q i ≡ slot_start p i =
    λ i. half_apart (8 + 4 * i) p q at b e h.size fits (elim (leb_tells i slot) [ inl x ↦ inl (omega (arith, x.1)) | inr x ↦ inr (omega (arith, x.1, n)) ]) in
    let lengths : (i : ℕ) → i ≢ slot → length_in q i ≡ length_in p i =
    λ i d. half_apart (10 + 4 * i) p q at b e h.size fits (elim (leb_tells i slot) [ inl x ↦ inl (omega (arith, x.1, d)) | inr x ↦ inr (omega (arith, x.1, n)) ]) in
    let gone : length_in q slot ≡ 0 = half_here p q at 0 e h.size (omega arith) (omega arith) in
    let lowest : low q ≡ low p = low_same p q (slot_count p) refl count (λ i x. places i) in
    let table = h.table in
    record {
      sound = record {
        size = size;
        kind = first p q at b e h.size fits (omega arith) ∙ h.kind;
        table = omega (arith, lowest, count, table);
        top = omega (arith, lowest, h.top);
        within = λ i x.
            let w = h.within i (omega (arith, x, count)) in
            let shorter : length_in q i ≤ length_in p i = elim (eqb_tells i slot) [ inl y ↦ omega (arith, gone, ap (λ (k : ℕ). length_in q k) y.1) | inr y ↦ omega (arith, lengths i y.1) ] in
            (omega (arith, lowest, w.0, places i), omega (arith, w.1, places i, shorter));
      };
      here = tuple_in q slot (omega (arith, count)) ∙ ap (λ (k : ℕ). piece k (slot_start q slot) q) gone;
      others = λ i d. elim (leb_tells (suc i) (slot_count p)) [
        | inl x ↦ tuple_same p q i x.1 (omega (arith, count, x.1)) (places i) (lengths i d)
            (apart (length_in p i) (slot_start p i) p q at b e h.size fits (inr (omega (arith, (h.within i x.1).0, table, n))))
        | inr x ↦ tuple_out q i (omega (arith, count, x.1)) ∙ sym (tuple_out p i (omega (arith, x.1)))
      ];
      stays = λ i at many d has. record { there = omega (arith, has.there, count); start_is = places i ∙ has.start_is; length_is = lengths i d ∙ has.length_is };
    }

-- no such slot: nothing is to be done
pub cleared_none : (p : List ℕ) (slot : ℕ) → slot_count p ≤ slot → IsTuples p → Cleared p p slot
cleared_none p slot l h = record { sound = h; here = tuple_out p slot l; others = λ i d. refl; stays = λ i at many d has. has }

pub bare_by : (p : List ℕ) → ((i : ℕ) → i < slot_count p → length_in p i ≡ 0) → (i : ℕ) → tuple_at p i ≡ []
bare_by p h i = elim (leb_tells (suc i) (slot_count p)) [
  | inl x ↦ tuple_in p i x.1 ∙ ap (λ (k : ℕ). piece k (slot_start p i) p) (h i x.1)
  | inr x ↦ tuple_out p i (omega (arith, x.1))
]

some_long : (xs : List ℕ) → 1 ≤ length xs → some xs ≡ 1
some_long [] h = absurd (omega arith)
some_long (x ∷ xs) h = refl

pub tuple_left : (p : List ℕ) (i : ℕ) → i < slot_count p → length_in p i ≢ 0 → IsTuples p → (k : ℕ) × ((k < 1022) × (some (tuple_at p k) ≡ 1))
tuple_left p i l n h =
    let w = h.within i l in
    let size : length (piece (length_in p i) (slot_start p i) p) ≡ length_in p i = length-piece (length_in p i) (slot_start p i) p (omega (arith, w.1, h.size)) in
    let least : 1 ≤ length_in p i = omega (arith, n) in
    (i, (omega (arith, l), ap (λ (xs : List ℕ). some xs) (tuple_in p i l) ∙ some_long (piece (length_in p i) (slot_start p i) p) (omega (arith, size, least))))

-- the same with the numbers that the code writes
pub added_by : (p q r s t bytes : List ℕ) (slot lowest from from' here size count : ℕ) → slot ≡ slot_count p → lowest ≡ low p → HasRoom p (length bytes)
    → from ≡ slot → from' ≡ slot → here ≡ lowest - length bytes → size ≡ length bytes → count ≡ slot + 1
    → q ≡ pasted p (lowest - length bytes) bytes → r ≡ pasted q (8 + 4 * from) (half_bytes here) → s ≡ pasted r (10 + 4 * from') (half_bytes size) → t ≡ pasted s 2 (half_bytes count)
    → IsTuples p → Added p t bytes slot (lowest - length bytes)
added_by p q r s t bytes slot lowest from from' here size count es el room ef ef' eh ez ec eq er es' et h =
    let few : slot < 1022 = omega (arith, room.0, room.1, es) in
    let least : 8 + 4 * (slot + 1) ≤ lowest - length bytes = omega (arith, room.0, es, el) in
    let top : (lowest - length bytes) + length bytes ≤ 4096 = omega (arith, room.0, room.1, es, el) in
    let sum : (lowest - length bytes) + length bytes ≡ low p = omega (arith, room.0, es, el) in
    added p t bytes slot (lowest - length bytes) es sum room
    (made p q r s t bytes slot (lowest - length bytes) h.size few least top eq
    (er ∙ ap₂ (λ (i n : ℕ). pasted q (8 + 4 * i) (half_bytes n)) ef eh)
    (es' ∙ ap₂ (λ (i n : ℕ). pasted r (10 + 4 * i) (half_bytes n)) ef' ez)
    (et ∙ ap (λ (n : ℕ). pasted s 2 (half_bytes n)) ec)) h

abbrev zeros : List ℕ
zeros = replicate 4096 0

zero_count : half_of (piece 2 2 (pasted zeros 0 (3 ∷ []))) ≡ 0
unfolding half_of
zero_count = refl

-- no page has a slot
pub no_slot : slot_count [] ≡ 0
unfolding half_of
no_slot = refl

-- a page of zeros but for the kind
pub blank_is : (q : List ℕ) → q ≡ pasted (replicate 4096 0) 0 (3 ∷ []) → IsBlank q
blank_is q e =
    let lz : length zeros ≡ 4096 = length-replicate {A = ℕ} 4096 0 in
    let count : slot_count q ≡ 0 = ap (λ (x : List ℕ). min (half_of (piece 2 2 x)) 1022) e ∙ ap (λ (k : ℕ). min k 1022) zero_count in
    let lowest : low q ≡ 4096 = ap (λ (k : ℕ). cond (k == 0) 4096 (slot_start q (k - 1))) count in
    record {
      sound = record {
        size = long zeros q 0 (3 ∷ []) e lz (omega arith);
        kind = ap (λ (x : List ℕ). get_or x 0 0) e ∙ pasted-within zeros 0 (3 ∷ []) 0 0 (omega arith) (omega arith);
        table = omega (arith, lowest, count);
        top = omega (arith, lowest);
        within = λ i l. absurd (omega (arith, l, count));
      };
      none = λ i. tuple_out q i (omega (arith, count));
      room = (omega (arith, lowest, count), omega (arith, lowest));
    }
