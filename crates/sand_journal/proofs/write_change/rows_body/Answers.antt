use Rattle.std.proofs.Common.{Vec, ℕ, sym, ap, ◌∙◌, arith}
use Rattle.std.specs.Int.{w32, to_be_bytes}
use Rattle.std.specs.declared.alloc.Global.{Global}
use Rattle.std.proofs.lemmas.List.{length-map}
use Rattle.sand_journal.specs.RowsBody.{bytes_of_each}
use Rattle.sand_journal.proofs.Bodies.{rows_fit}
use Rattle.sand_journal.proofs.Writes.{rows_joined}
use Rattle.sand_journal.proofs.write_change.rows_body.Goals as goal

-- the count of the rows of a change has four bytes
pub overflow_cast-count : goal.overflow_cast-count
overflow_cast-count c = omega (arith, rows_fit c.args.relation.now (bytes_of_each c.args.rows.now) c.requires, length-map c.args.rows.now (λ (one : Vec ℕ Global). one.items))

-- the name, the count and the rows are the body
pub returns : goal.returns
returns c =
    rows_joined c.args.relation.now (bytes_of_each c.args.rows.now) c.in_ok-body.body.items c.extend_from_slice.new.self.items c.extend_from_slice-2.new.self.items c.extend_rows.new.body.items c.as_bytes.result.now _
    c.in_ok-body.ensures.items c.in_ok-extend_from_slice.ensures.items c.as_bytes.ensures.value c.in_ok-extend_from_slice-2.ensures.items
    (c.to_be_bytes.ensures ∙ ap (λ (n : ℕ). to_be_bytes w32 n) (sym (length-map c.args.rows.now (λ (one : Vec ℕ Global). one.items)))) c.in_ok-extend_rows.ensures
