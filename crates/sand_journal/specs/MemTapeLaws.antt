-- The laws of a tape, of one in memory.
use Rattle.std.specs.Prelude.{ℕ, ◌+◌, ◌≤◌, List, [], ◌∷◌, ◌++◌, length, take, drop, refl}
use Rattle.std.proofs.Common.{inl, inr, sym, ap, subst, ◌∙◌, arith, append_assoc, length-append, length-take, length-drop}
use Rattle.std.proofs.lemmas.Bool.{cases_lt}
use Rattle.std.proofs.lemmas.List.{append-nil, drop_all, drop_at, take_all}
use Rattle.sand_journal.specs.Tape.{Torn}
use Rattle.sand_journal.specs.MemTape.{TapeWrite, TapeEvent, MemTapeState, put_over, written_over, IsTornOver, IsLeft, IsLeftSince, contents_of, held_by}

-- a write that is carried out whole is one that a crash may have cut short
pub put_is_torn : (write : TapeWrite) (bytes : List ℕ) → Torn write.0 (length write.1) bytes (put_over write bytes)
put_is_torn write bytes = record {
  before = (write.1 ++ drop (write.0 + length write.1) bytes, append_assoc (take write.0 bytes) write.1 (drop (write.0 + length write.1) bytes));
  behind = elim (cases_lt (length bytes) write.0) [
    | inl past ↦ (
      drop (write.0 + length write.1) (put_over write bytes),
      ap (λ (l : List ℕ). l ++ drop (write.0 + length write.1) (put_over write bytes)) (sym (drop_all (write.0 + length write.1) bytes (omega arith))),
    )
    | inr inside ↦ (
      [],
      drop_at (take write.0 bytes ++ write.1) (drop (write.0 + length write.1) bytes) (write.0 + length write.1)
          (omega (arith, length-append (take write.0 bytes) write.1, length-take write.0 bytes, inside))
          ∙ sym (append-nil (drop (write.0 + length write.1) bytes)),
    )
  ];
  no_shorter = omega (
    arith,
    length-append (take write.0 bytes ++ write.1) (drop (write.0 + length write.1) bytes),
    length-append (take write.0 bytes) write.1,
    length-take write.0 bytes,
    length-drop (write.0 + length write.1) bytes,
  );
}

-- what a read gives is one of the images
pub written_is_torn : (base : List ℕ) (writes : List TapeWrite) → IsTornOver base writes (written_over base writes)
written_is_torn base [] = refl
written_is_torn base (write ∷ writes) = (written_over base writes, written_is_torn base writes, put_is_torn write (written_over base writes))

-- this moment is one of those since an earlier one
pub left_now : (s : MemTapeState) (t : ℕ) (image : List ℕ) → t ≤ length s.events → IsLeft (held_by s) image → IsLeftSince s.first s.events t image
left_now s t image le left =
    (length s.events, le, omega arith, subst (λ (events : List TapeEvent). IsLeft (contents_of s.first events) image) (sym (take_all (length s.events) s.events (omega arith))) left)

-- since this moment there is no other
pub left_since_now : (s : MemTapeState) (image : List ℕ) → IsLeftSince s.first s.events (length s.events) image → IsLeft (held_by s) image
left_since_now s image since = subst (λ (events : List TapeEvent). IsLeft (contents_of s.first events) image) (take_all since.0 s.events since.1) since.3
