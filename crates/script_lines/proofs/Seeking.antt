-- How the reader reads on to the next line.
use Rattle.std.proofs.Common.{◌≡◌, ℕ, ◌+◌, ◌-◌, ◌≤◌, ◌<◌, nat_lt, Bool, true, false, List, [], ◌∷◌, ◌++◌, length, take, drop, take_all, Option, Some, Ok, Err, refl, sym}
use Rattle.std.proofs.Common.{ap, ◌∙◌, subst, arith, length-append, length-take, append_assoc, append-nil}
use Rattle.std.proofs.Math.Nat.{min-le_right, min-le_left}
use Rattle.std.proofs.Math.Seq.{take-append-add}
use Rattle.std.proofs.lemmas.Bool.{false≢true, le-leb}
use Rattle.std.proofs.lemmas.List.{drop_all, length-drop, length-take-le}
use Rattle.std.specs.Io.KnownBytes.{Keeps}
use Rattle.std.proofs.KnownBytes.{Consumes-trans, Consumes-nil, Consumes-kept}
use Rattle.sand_base.specs.declared.source.Failed.{Failed}
use Rattle.script_lines.specs.Parts.{ChunkState, Refills, IsCutSoFar, IsReaderAt, FillsLine, ReadsOn, SeeksStop, bytes_to_come}
use Rattle.script_lines.specs.declared.TheConstants.{LONGEST_SCRIPT}
use Rattle.script_lines.specs.declared.script_lines.Stop.TheVariants as stop
use Rattle.script_lines.proofs.Cutting.{IsCutSoFar-read}

-- the first bytes of a text that is read on
take-read : (n : ℕ) (bytes read : List ℕ) → length bytes ≤ n → take n (bytes ++ read) ≡ take n bytes ++ take (n - length bytes) read
take-read n bytes read few =
    let sum : n ≡ length bytes + (n - length bytes) = omega (arith, few) in
    ap (λ m. take m (bytes ++ read)) sum ∙ take-append-add bytes read (n - length bytes)
    ∙ ap (λ t. t ++ take (n - length bytes) read) (sym (take_all n bytes few))

-- more was read once no byte was ahead
pub IsAt-read : (old new : ChunkState) (hand before left : Option (List ℕ)) (some : Bool) (bytes : List ℕ) (given : List (List ℕ))
    → old.ahead ≡ [] → old.count ≤ LONGEST_SCRIPT → (r : Refills some old new before left) → IsReaderAt old hand bytes given
    → IsReaderAt new hand (bytes ++ r.read) given
IsAt-read old new hand before left some bytes given none few r at =
    let counted : length (bytes ++ r.read) ≡ new.count = length-append bytes r.read ∙ ap (λ n. n + length r.read) at.count ∙ sym r.count in
    let short : length bytes ≤ LONGEST_SCRIPT = subst (λ n. n ≤ LONGEST_SCRIPT) (sym at.count) few in
    let is_cut : IsCutSoFar hand [] (take LONGEST_SCRIPT bytes) given = subst (λ a. IsCutSoFar hand a (take LONGEST_SCRIPT bytes) given) none at.is_cut in
    let ahead : new.ahead ≡ take (LONGEST_SCRIPT - length bytes) r.read = r.ahead ∙ ap (λ n. take (LONGEST_SCRIPT - n) r.read) (sym at.count) in
    let read = take (LONGEST_SCRIPT - length bytes) r.read in
    record {
      count = counted;
      most = subst (λ n. n ≤ LONGEST_SCRIPT + 1) (sym counted) r.most;
      is_cut = subst (λ a. IsCutSoFar hand a (take LONGEST_SCRIPT (bytes ++ r.read)) given) (sym ahead)
          (subst (λ b. IsCutSoFar hand read b given) (sym (take-read LONGEST_SCRIPT bytes r.read short))
          (IsCutSoFar-read hand (take LONGEST_SCRIPT bytes) read given is_cut));
    }

-- nothing was read yet
pub ReadsOn-begin : (chunk : ChunkState) (hand left : Option (List ℕ)) → ReadsOn chunk chunk hand hand left left
ReadsOn-begin chunk hand left bytes given at =
    ([], Consumes-nil left, subst (λ b. IsReaderAt chunk hand b given) (sym (append-nil bytes)) at)

-- the bytes ahead joined the line in hand, to their end
pub ReadsOn-fill : (old mid new : ChunkState) (hand hand' hand'' before left : Option (List ℕ)) → ReadsOn old mid hand hand' before left
    → FillsLine false hand' hand'' mid.ahead new.ahead → new.count ≡ mid.count → ReadsOn old new hand hand'' before left
ReadsOn-fill old mid new hand hand' hand'' before left so_far fills same bytes given at =
    let one = so_far bytes given at in
    let now : IsReaderAt new hand'' (bytes ++ one.0) given = record {
      count = one.2.count ∙ sym same;
      most = one.2.most;
      is_cut = fills.1 (take LONGEST_SCRIPT (bytes ++ one.0)) given one.2.is_cut;
    } in
    (one.0, one.1, now)

-- more was read
pub ReadsOn-refill : (old mid new : ChunkState) (hand hand' before between left : Option (List ℕ)) (some : Bool) → ReadsOn old mid hand hand' before between
    → mid.ahead ≡ [] → mid.count ≤ LONGEST_SCRIPT → Refills some mid new between left → ReadsOn old new hand hand' before left
ReadsOn-refill old mid new hand hand' before between left some so_far none few r bytes given at =
    let one = so_far bytes given at in
    let now = IsAt-read mid new hand' between left some (bytes ++ one.0) given none few r one.2 in (
      one.0 ++ r.read,
      Consumes-trans before between left one.0 r.read one.1 r.consumed,
      subst (λ b. IsReaderAt new hand' b given) (append_assoc bytes one.0 r.read) now,
    )

-- a line feed was met
pub Seeks-line : (old mid new : ChunkState) (hand hand' hand'' before left : Option (List ℕ)) → ReadsOn old mid hand hand' before left
    → FillsLine true hand' hand'' mid.ahead new.ahead → new.count ≡ mid.count → SeeksStop (Ok stop.LineFeed) old new hand hand'' before left
Seeks-line old mid new hand hand' hand'' before left so_far fills same bytes given at =
    let one = so_far bytes given at in
    let ended = fills.1 (take LONGEST_SCRIPT (bytes ++ one.0)) given one.2.is_cut in
    let now : IsReaderAt new (Some []) (bytes ++ one.0) (given ++ ended.0 ∷ []) =
    record { count = one.2.count ∙ sym same; most = one.2.most; is_cut = ended.2 } in
    (one.0, one.1, (ended.0, ended.1, now))

-- a byte too many was read, and no line ends before it any more
pub Seeks-over : (old new : ChunkState) (hand hand' before left : Option (List ℕ)) → ReadsOn old new hand hand' before left
    → new.ahead ≡ [] → LONGEST_SCRIPT < new.count → SeeksStop (Ok stop.ScriptTooLong) old new hand hand' before left
Seeks-over old new hand hand' before left so_far none many bytes given at =
    let one = so_far bytes given at in
    let all : length (bytes ++ one.0) ≡ LONGEST_SCRIPT + 1 = omega (arith, one.2.count, one.2.most, many) in
    (one.0, one.1, (all, none, one.2))

-- no byte came
no_bytes : (read : List ℕ) → false ≡ nat_lt 0 (length read) → read ≡ []
no_bytes [] h = refl
no_bytes (b ∷ read) h = absurd (false≢true (h ∙ le-leb 1 (length (b ∷ read)) (omega arith)))

-- the first of none
take_none : (n : ℕ) (xs : List ℕ) → xs ≡ [] → take n xs ≡ []
take_none n xs none = take_all n xs (omega (arith, ap length none)) ∙ none

-- the end of the script
pub Seeks-end : (old mid new : ChunkState) (hand hand' before between left : Option (List ℕ)) → ReadsOn old mid hand hand' before between
    → mid.ahead ≡ [] → mid.count ≤ LONGEST_SCRIPT → (some : Bool) → some ≡ false → Refills some mid new between left → SeeksStop (Ok stop.End) old new hand hand' before left
Seeks-end old mid new hand hand' before between left so_far none few some ended r bytes given at =
    let one = ReadsOn-refill old mid new hand hand' before between left some so_far none few r bytes given at in
    let empty : r.read ≡ [] = no_bytes r.read (sym ended ∙ r.some_is) in
    let short : length (bytes ++ one.0) ≤ LONGEST_SCRIPT = omega (arith, one.2.count, few, r.count, ap length empty) in
    (one.0, one.1, (r.ended ended, short, r.ahead ∙ take_none (LONGEST_SCRIPT - mid.count) r.read empty, one.2))

-- the source failed
pub Seeks-failed : (old mid new : ChunkState) (hand hand' before between left : Option (List ℕ)) (e : Failed) → ReadsOn old mid hand hand' before between
    → mid.ahead ≡ [] → mid.count ≤ LONGEST_SCRIPT → Keeps between left → new ≡ mid → SeeksStop (Err e) old new hand hand' before left
Seeks-failed old mid new hand hand' before between left e so_far none few keeps same bytes given at =
    let one = so_far bytes given at in
    let short : length (bytes ++ one.0) ≤ LONGEST_SCRIPT = omega (arith, one.2.count, few) in (
      one.0,
      Consumes-kept before between left one.0 one.1 keeps,
      (short, ap (λ (c : ChunkState). c.ahead) same ∙ none, subst (λ c. IsReaderAt c hand' (bytes ++ one.0) given) (sym same) one.2),
    )

-- no more bytes are to come after a read than before it
pub bytes-refilled : (old mid filled new : ChunkState) → bytes_to_come mid ≤ bytes_to_come old → filled.ahead ≡ [] → filled.count ≡ mid.count
    → {some : Bool} {before left : Option (List ℕ)} → Refills some filled new before left → bytes_to_come new ≤ bytes_to_come old
bytes-refilled old mid filled new less none same {some} {before} {left} r =
    let short : length new.ahead ≤ length r.read = subst (λ a. length a ≤ length r.read) (sym r.ahead)
    (subst (λ n. n ≤ length r.read) (sym (length-take (LONGEST_SCRIPT - filled.count) r.read)) (min-le_right (LONGEST_SCRIPT - filled.count) (length r.read))) in
    omega (arith, less, same, r.count, r.most, short)

-- with no byte ahead of it, none is ahead whatever the piece holds
pub still_over : (at filled count : ℕ) (piece piece' : List ℕ) (state : ChunkState) → at ≤ filled → filled ≤ length piece
    → record { ahead = drop at (take filled piece); count = count } ≡ state → state.ahead ≡ []
    → record { ahead = drop at (take filled piece'); count = count } ≡ state
still_over at filled count piece piece' state less fits is over =
    let none : drop at (take filled piece) ≡ [] = ap (λ (c : ChunkState). c.ahead) is ∙ over in
    let taken : length (take filled piece) ≡ filled = length-take-le filled piece fits in
    let all : filled ≤ at = omega (arith, sym (length-drop at (take filled piece)) ∙ ap length none, taken) in
    let short : length (take filled piece') ≤ filled = subst (λ n. n ≤ filled) (sym (length-take filled piece')) (min-le_left filled (length piece')) in
    let none' : drop at (take filled piece') ≡ [] = drop_all at (take filled piece') (omega (arith, short, all)) in
    ap (λ a. record { ahead = a; count = count }) (none' ∙ sym none) ∙ is
