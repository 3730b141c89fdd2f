-- the rest broke off
use Rattle.output_text.proofs.Forming.{on_err, rest-broken}
use Rattle.output_text.proofs.sinks.write_all.Goals as goal

pub returns-in_err-write_pieces-clause-prefix : goal.returns-in_err-write_pieces-clause-prefix
returns-in_err-write_pieces-clause-prefix g c =
    on_err c.from_residual-in_err-write_pieces.result
    (rest-broken c.in_ok-count.count c.args.text.now _ _ _ c.in_ok-count.ensures.bytes c.in_err-write_pieces.ensures.prefix)
