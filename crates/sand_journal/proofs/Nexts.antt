-- What is read at the gate behind the records that are passed.
use Rattle.std.proofs.Common.{◌≡◌, ◌≢◌, ℕ, ◌+◌, ◌-◌, ◌^◌, ◌<◌, ◌≤◌, min, List, [], ◌∷◌, ◌++◌, length, take, drop, refl, sym, ◌∙◌, ap, subst, arith, length-append}
use Rattle.std.proofs.Common.{length-take, length-drop, take-append-drop, IsTrue}
use Rattle.std.proofs.lemmas.List.{append_cancel_left, drop_at, drop-drop, take_min}
use Rattle.std.proofs.lemmas.Nat.{from_be_bytes-to_be_bytes_4}
use Rattle.std.specs.Int.{w32, to_be_bytes, from_be_bytes}
use Rattle.std.specs.List.{AllByRecursion}
use Rattle.sand_journal.specs.declared.ahead.Head.{Head}
use Rattle.sand_journal.specs.declared.ahead.Head.TheVariants as head
use Rattle.sand_journal.specs.Tape.{TapeView}
use Rattle.sand_journal.specs.Ahead.{IsHead}
use Rattle.sand_journal.specs.Images.{IsShort, framed, records, HasBodies, HasNext}
use Rattle.sand_journal.specs.Journal.{IsCutBehind, IsAtRest, IsOnlyRead, StandsBehind}
use Rattle.sand_journal.proofs.Frames.{length-framed, length-records-push, records-push, short_push}

-- bytes that are not none are at least one
some_length : (bytes : List ℕ) → bytes ≢ [] → 1 ≤ length bytes
some_length [] some = absurd (some refl)
some_length (b ∷ bytes) some = omega arith

-- and the other way round
length_some : (bytes : List ℕ) → 1 ≤ length bytes → bytes ≢ []
length_some [] long = absurd (omega arith)
length_some (b ∷ bytes) long = λ none. cc none

-- a frame tells its body's length, and where it ends
pub framed_size : (body tail rest : List ℕ) (size : ℕ) → framed body ++ tail ≡ to_be_bytes w32 size ++ rest → IsShort body → size < 2 ^ 32 → length body ≡ size
unfolding framed
framed_size body tail rest size same short fits =
    let heads : to_be_bytes w32 (length body) ≡ to_be_bytes w32 size = ap (λ (l : List ℕ). take 4 l) same in
    sym (from_be_bytes-to_be_bytes_4 (length body) short) ∙ ap (λ (l : List ℕ). from_be_bytes w32 l) heads ∙ from_be_bytes-to_be_bytes_4 size fits

-- a body behind its length, as a frame
framed_as : (body tail : List ℕ) (size : ℕ) → length body ≡ size → to_be_bytes w32 size ++ (body ++ tail) ≡ framed body ++ tail
unfolding framed
framed_as body tail size is = ap (λ (n : ℕ). to_be_bytes w32 n ++ (body ++ tail)) (sym is)

-- a gate that isn't open ends the bodies
pub shut_ends : (bodies : List (List ℕ)) (bytes tail : List ℕ) → AllByRecursion IsShort bodies → tail ≢ [] → bytes ≡ records bodies ++ tail → IsHead (take 5 tail) head.Shut → HasBodies bodies bytes
shut_ends bodies bytes [] all some is shut = absurd (some refl)
shut_ends bodies bytes (gate ∷ rest) all some is shut = record { short = all; gate = gate; shut = λ opened. shut (take 4 rest) (ap (λ (x : ℕ). x ∷ take 4 rest) opened); behind = rest; is = is }

module _ (bodies : List (List ℕ)) (bytes tail : List ℕ) (is : bytes ≡ records bodies ++ tail) where
  -- the next record begins where the others end
  next_tail : (body : List ℕ) (next : HasNext bytes bodies body) → tail ≡ 1 ∷ (framed body ++ next.tail)
  next_tail body next = append_cancel_left (records bodies) tail (1 ∷ (framed body ++ next.tail)) (sym is ∙ next.is)

  -- the file has more than its gate, its frame and its body
  next_length : (body : List ℕ) (next : HasNext bytes bodies body) → length (records bodies) + 5 + length body < length bytes
  next_length body next =
      omega (arith, ap length is, ap length (next_tail body next), length-append (records bodies) tail, length-append (framed body) next.tail, length-framed body, some_length next.tail next.some)

  -- a head that is cut short has no record
  pub cut_is_bad : IsHead (take 5 tail) head.Cut → IsCutBehind bytes bodies
  cut_is_bad cut = record {
    is_open = (cut.0 ++ drop 5 tail, is ∙ ap (λ (l : List ℕ). records bodies ++ l) (sym (take-append-drop 5 tail) ∙ ap (λ (l : List ℕ). l ++ drop 5 tail) cut.1));
    none = λ body next. omega (arith, ap length cut.1, length-take 5 tail, ap length (next_tail body next), length-append (framed body) next.tail, length-framed body, cut.2);
  }

  module _ (size : ℕ) (shown : IsHead (take 5 tail) (head.Open size)) where
    -- the gate, the length, and the rest
    opened : tail ≡ 1 ∷ (to_be_bytes w32 size ++ drop 5 tail)
    opened = sym (take-append-drop 5 tail) ∙ ap (λ (l : List ℕ). l ++ drop 5 tail) shown.1

    -- a next record has a body of this length
    next_size : (body : List ℕ) → HasNext bytes bodies body → length body ≡ size
    next_size body next =
        let same : framed body ++ next.tail ≡ to_be_bytes w32 size ++ drop 5 tail = ap (λ (l : List ℕ). drop 1 l) (sym (next_tail body next) ∙ opened) in
        framed_size body next.tail (drop 5 tail) size same next.short shown.0

    is_open : (behind : List ℕ) × (bytes ≡ records bodies ++ 1 ∷ behind)
    is_open = (to_be_bytes w32 size ++ drop 5 tail, is ∙ ap (λ (l : List ℕ). records bodies ++ l) opened)

    -- nor has one whose next gate would stand too far
    pub far_is_bad : 2 ^ 62 < length (records bodies) + 5 + size → IsCutBehind bytes bodies
    far_is_bad far = record { is_open = is_open; none = λ body next. omega (arith, far, next.near, next_size body next) }

    -- or behind the file's end
    pub short_is_bad : length bytes ≤ length (records bodies) + 5 + size → IsCutBehind bytes bodies
    short_is_bad ends = record { is_open = is_open; none = λ body next. omega (arith, ends, next_length body next, next_size body next) }

    -- where the file goes on behind as many bytes, they are the body of the next record
    pub next_found : (end : ℕ) (body : List ℕ) → end ≡ length (records bodies) → length (records bodies) + 5 + size ≤ 2 ^ 62 → end + 5 + size < length bytes → body ≡ take size (drop (end + 5) bytes)
        → length body ≡ size → HasNext bytes bodies body
    next_found end body place near inside read long =
        let rest : drop (end + 5) bytes ≡ drop 5 tail = sym (drop-drop 5 end bytes) ∙ ap (λ (l : List ℕ). drop 5 (drop end l)) is
        ∙ ap (λ (l : List ℕ). drop 5 l) (drop_at (records bodies) tail end (sym place)) in
        let behind : List ℕ = drop size (drop 5 tail) in
        let parts : drop 5 tail ≡ body ++ behind = sym (take-append-drop size (drop 5 tail)) ∙ ap (λ (l : List ℕ). l ++ behind) (sym (read ∙ ap (λ (l : List ℕ). take size l) rest)) in
        record {
          short = omega (arith, long, shown.0);
          tail = behind;
          some = length_some behind (omega (arith, length-drop size (drop 5 tail), length-drop 5 tail, ap length is, length-append (records bodies) tail, place, inside));
          is = is ∙ ap (λ (l : List ℕ). records bodies ++ l) (opened ∙ ap (λ (l : List ℕ). 1 ∷ l) (ap (λ (l : List ℕ). to_be_bytes w32 size ++ l) parts ∙ framed_as body behind size long));
          near = omega (arith, near, long);
        }

-- what stands at the place behind the records
tail_is : (bodies : List (List ℕ)) (bytes tail : List ℕ) (end : ℕ) → end ≡ length (records bodies) → bytes ≡ records bodies ++ tail → drop end bytes ≡ tail
tail_is bodies bytes tail end place is = ap (λ (l : List ℕ). drop end l) is ∙ drop_at (records bodies) tail end (sym place)

-- what a read of the first five bytes from a place on gives
pub head_read : (piece bytes : List ℕ) (at n : ℕ) → length piece ≡ 5 → n ≡ min (length piece) (length bytes - at) → take n piece ≡ take n (drop at bytes) → take n piece ≡ take 5 (drop at bytes)
head_read piece bytes at n five count given =
    let fewer : n ≡ min 5 (length (drop at bytes)) = omega (arith, five, count, length-drop at bytes) in
    given ∙ ap (λ (k : ℕ). take k (drop at bytes)) fewer ∙ take_min 5 (drop at bytes)

-- What a tape shows behind the records that stand there, of which its head was read.
module _ (tape : TapeView) (end : ℕ) (bodies : List (List ℕ)) (stands : StandsBehind tape end bodies) (told : IsTrue tape.told) (shown : Head)
    (is_head : IsHead (take 5 (drop end tape.bytes)) shown) where
  head_at_tail : (h : Head) → shown ≡ h → IsHead (take 5 (stands.gate told).0) h
  head_at_tail h is =
      subst (λ (l : List ℕ). IsHead (take 5 l) h) (tail_is bodies tape.bytes (stands.gate told).0 end stands.place (stands.gate told).2)
      (subst (λ (x : Head). IsHead (take 5 (drop end tape.bytes)) x) is is_head)

  pub ahead_shut : shown ≡ head.Shut → HasBodies bodies tape.bytes
  ahead_shut is = shut_ends bodies tape.bytes (stands.gate told).0 stands.short (stands.gate told).1 (stands.gate told).2 (head_at_tail head.Shut is)

  pub ahead_cut : shown ≡ head.Cut → IsCutBehind tape.bytes bodies
  ahead_cut is = cut_is_bad bodies tape.bytes (stands.gate told).0 (stands.gate told).2 (head_at_tail head.Cut is)

  pub ahead_far : (size : ℕ) → shown ≡ head.Open size → 2 ^ 62 < end + 5 + size → IsCutBehind tape.bytes bodies
  ahead_far size is far = far_is_bad bodies tape.bytes (stands.gate told).0 (stands.gate told).2 size (head_at_tail (head.Open size) is) (omega (arith, stands.place, far))

  pub ahead_short : (size : ℕ) → shown ≡ head.Open size → length tape.bytes ≤ end + 5 + size → IsCutBehind tape.bytes bodies
  ahead_short size is ends = short_is_bad bodies tape.bytes (stands.gate told).0 (stands.gate told).2 size (head_at_tail (head.Open size) is) (omega (arith, stands.place, ends))

  pub ahead_body : (size : ℕ) (body : List ℕ) → shown ≡ head.Open size → end + 5 + size ≤ 2 ^ 62 → end + 5 + size < length tape.bytes
      → body ≡ take size (drop (end + 5) tape.bytes) → length body ≡ size
      → HasNext tape.bytes bodies body
  ahead_body size body is near inside read long =
      next_found bodies tape.bytes (stands.gate told).0 (stands.gate told).2 size (head_at_tail (head.Open size) is) end body stands.place (omega (arith, stands.place, near)) inside read long

-- a record that is read is one that is passed
pub passed_next : (old new : TapeView) (end to : ℕ) (bodies : List (List ℕ)) (body : List ℕ) → StandsBehind old end bodies → IsOnlyRead old new → IsShort body
    → (IsTrue old.told → HasNext old.bytes bodies body)
    → to ≡ end + 5 + length body → StandsBehind new to (bodies ++ body ∷ [])
passed_next old new end to bodies body stands read short next there =
    let told : IsTrue new.told → IsTrue old.told = λ is_told. subst IsTrue read.told is_told in
    record {
      started = subst IsTrue (sym read.started) stands.started;
      short = short_push bodies body stands.short short;
      place = omega (arith, there, stands.place, length-records-push bodies body);
      gate = λ is_told. let n = next (told is_told) in (n.tail, n.some, read.bytes ∙ n.is ∙ sym (records-push bodies body n.tail));
      durable = λ is_told. λ image left. stands.durable (told is_told) image (read.fewer image left) ∙ sym read.bytes;
    }

-- a tape that was only read stands behind the same records
pub passed_read : (old new : TapeView) (end : ℕ) (bodies : List (List ℕ)) → StandsBehind old end bodies → IsOnlyRead old new → StandsBehind new end bodies
passed_read old new end bodies stands read =
    let told : IsTrue new.told → IsTrue old.told = λ is_told. subst IsTrue read.told is_told in
    record {
      started = subst IsTrue (sym read.started) stands.started;
      short = stands.short;
      place = stands.place;
      gate = λ is_told. let g = stands.gate (told is_told) in (g.0, g.1, read.bytes ∙ g.2);
      durable = λ is_told. λ image left. stands.durable (told is_told) image (read.fewer image left) ∙ sym read.bytes;
    }

-- and where its gate isn't open, it is at rest
pub rest_read : (old new : TapeView) (end : ℕ) (bodies : List (List ℕ)) → StandsBehind old end bodies → IsOnlyRead old new → (IsTrue old.told → HasBodies bodies old.bytes) → IsAtRest new end bodies
rest_read old new end bodies stands read ended = record {
  stands = passed_read old new end bodies stands read;
  ended = λ is_told. subst (HasBodies bodies) (sym read.bytes) (ended (subst IsTrue read.told is_told));
}
