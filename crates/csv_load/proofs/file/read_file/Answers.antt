-- What was read, at each end.
use Rattle.std.proofs.Common.{◌≡◌, sym, ◌∙◌, arith}
use Rattle.std.proofs.lemmas.Result.{err_from_is_err_and}
use Rattle.csv_load.specs.declared.fault.LoadFault.TheVariants as fault
use Rattle.csv_load.proofs.FileReading.{none-read, more-read, whole-read, long-read, few-taken, not-long}
use Rattle.csv_load.proofs.file.read_file.Goals as goal

-- nothing was read yet
pub pieces-init : goal.pieces-init
pieces-init g c =
    rw c.new-bytes.ensures.items record {
      same = c.in_ok-choose.ensures.files;
      chosen = c.in_ok-choose.ensures.chosen;
      counted = c.in_ok-choose.ensures.cause.done;
      short = omega arith;
      read = none-read (g.H.Shelf.files c.args.shelf.now) c.args.name.now (g.H.Shelf.left c.choose.new.self) c.in_ok-choose.ensures.opened;
    }

-- the faults there are of memory and of the shelf
pub returns-in_err-count-clause-long : goal.returns-in_err-count-clause-long
returns-in_err-count-clause-long g c =
    let p = err_from_is_err_and c.from_residual-in_err-count.result c.from_residual-in_err-count.ensures.1 in
    λ e. (let same : p.0 ≡ fault.FileTooLong = cc in absurd (not-long c.in_err-count.field-0.0 c.in_err-count.ensures.outside (sym p.2 ∙ same)))

-- it was all
pub returns-then-count-eq0-clause-whole : goal.returns-then-count-eq0-clause-whole
returns-then-count-eq0-clause-whole g c =
    whole-read (g.H.Shelf.files c.args.shelf.now) c.args.name.now (g.H.Shelf.left c.pieces.shelf) (g.H.Shelf.left c.read_more.new.shelf) c.pieces.bytes.items
    c.read_more.new.bytes.items c.in_ok-count.count c.pieces.invariant.read c.in_ok-count.ensures.takes c.if-count-eq0.true

-- a byte too many was read
pub returns-then-len-gt-LONGEST_FILE-clause-long : goal.returns-then-len-gt-LONGEST_FILE-clause-long
returns-then-len-gt-LONGEST_FILE-clause-long g c =
    λ e. long-read (g.H.Shelf.files c.args.shelf.now) c.args.name.now (g.H.Shelf.left c.pieces.shelf) (g.H.Shelf.left c.read_more.new.shelf) c.pieces.bytes.items
    c.read_more.new.bytes.items c.in_ok-count.count c.pieces.invariant.read c.in_ok-count.ensures.takes
    (omega (arith, c.if-len-gt-LONGEST_FILE.true, c.len.ensures, c.read_more.new.bytes.ok.0))

-- some bytes more were read
pub pieces-preserved : goal.pieces-preserved
pieces-preserved g c = record {
  same = c.read_more.ensures.files ∙ c.pieces.invariant.same;
  chosen = c.read_more.ensures.chosen;
  counted = c.in_ok-count.ensures.cause ∙ c.pieces.invariant.counted;
  short = omega (arith, c.if-len-gt-LONGEST_FILE.false, c.len.ensures, c.read_more.new.bytes.ok.0);
  read =
      more-read (g.H.Shelf.files c.args.shelf.now) c.args.name.now (g.H.Shelf.left c.pieces.shelf) (g.H.Shelf.left c.read_more.new.shelf) c.pieces.bytes.items
      c.read_more.new.bytes.items c.in_ok-count.count c.pieces.invariant.read c.in_ok-count.ensures.takes;
}

-- at any end no more was taken than one byte too many
pub returns-in_err-count-clause-few : goal.returns-in_err-count-clause-few
returns-in_err-count-clause-few g c = λ chosen.
    few-taken (g.H.Shelf.files c.args.shelf.now) c.args.name.now (g.H.Shelf.left c.pieces.shelf) (g.H.Shelf.left c.read_more.new.shelf) c.pieces.bytes.items
    c.pieces.invariant.read c.read_more.ensures.few

pub returns-then-count-eq0-clause-few : goal.returns-then-count-eq0-clause-few
returns-then-count-eq0-clause-few g c = λ chosen.
    few-taken (g.H.Shelf.files c.args.shelf.now) c.args.name.now (g.H.Shelf.left c.pieces.shelf) (g.H.Shelf.left c.read_more.new.shelf) c.pieces.bytes.items
    c.pieces.invariant.read c.read_more.ensures.few

pub returns-then-len-gt-LONGEST_FILE-clause-few : goal.returns-then-len-gt-LONGEST_FILE-clause-few
returns-then-len-gt-LONGEST_FILE-clause-few g c = λ chosen.
    few-taken (g.H.Shelf.files c.args.shelf.now) c.args.name.now (g.H.Shelf.left c.pieces.shelf) (g.H.Shelf.left c.read_more.new.shelf) c.pieces.bytes.items
    c.pieces.invariant.read c.read_more.ensures.few
