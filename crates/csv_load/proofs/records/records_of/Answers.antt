-- Before the first record nothing was given.
use Rattle.std.proofs.Common.{◌∙◌, sym, refl, inr}
use Rattle.csv.specs.Reading.{Reached, strip_bom}
use Rattle.csv_load.proofs.records.records_of.Goals as goal

pub returns : goal.returns
unfolding Reached
returns c =
    let from = c.from_reader.ensures in
    let it = c.into_byte_records.ensures in
    let plain = c.has_headers.ensures in
    let any = c.flexible.ensures in
    record {
      plain = rw it.rdr (rw (any, plain) at from.trim ∙ c.new.ensures.trim);
      ready = rw it.rdr (inr (inr (rw (any, plain) at from.has_headers, from.headers)));
      goes_on = it.left;
      config = rw it.rdr (rw (any, plain) at from.config ∙ c.new.ensures.config);
      left = strip_bom c.args.bytes.now;
      source = rw it.rdr from.source;
      reached = rw it.rdr (sym from.state, refl);
    }
