use Rattle.std.proofs.Common.{inl, inr, ℕ, ◌++◌, sym, ap, ◌∙◌, arith}
use Rattle.std.specs.Int.{w16, to_be_bytes}
use Rattle.sand_journal.proofs.RowBodies.{row_framed}
use Rattle.sand_journal.proofs.RowReads.{no_frame, far_frame}
use Rattle.sand_journal.proofs.read_rows.split_row.Goals as goal

-- with no size at the front there is no frame
pub returns-in_default-clause-none : goal.returns-in_default-clause-none
returns-in_default-clause-none c = no_frame c.args.bytes.now c.in_default.ensures.none

-- nor with one that is too great, or greater than what follows
pub returns-then-size-gt-LONGEST_ENCODING-clause-none : goal.returns-then-size-gt-LONGEST_ENCODING-clause-none
returns-then-size-gt-LONGEST_ENCODING-clause-none c =
    far_frame c.args.bytes.now c.in-Some.after.now c.in-Some.size c.in-Some.ensures.found.0 c.in-Some.ensures.found.1
    (elim c.then-size-gt-LONGEST_ENCODING.either [ inl far ↦ inl (omega (arith, far, c.from-size.ensures)) | inr far ↦ inr (omega (arith, far.1, c.from-size.ensures)) ])

-- the row behind its size is in its frame
pub returns-clause-found : goal.returns-clause-found
returns-clause-found c = (
  omega (arith, c.split_at.ensures.front_len, c.if-size-gt-LONGEST_ENCODING.false),
  row_framed c.args.bytes.now c.in-Some.after.now c.split_at.result.0.now c.split_at.result.1.now c.from-size.result
      (c.in-Some.ensures.found.1 ∙ ap (λ (n : ℕ). to_be_bytes w16 n ++ c.in-Some.after.now) (sym c.from-size.ensures))
      c.split_at.ensures.front c.split_at.ensures.back (omega (arith, c.split_at.ensures.front_len)),
)
