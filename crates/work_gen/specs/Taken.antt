-- What a sink took of which it keeps the length and the digest: a relation, since the digest tells no text.
use Rattle.std.specs.Prelude.{◌≡◌, ℕ, List}
use Rattle.sha2.specs.Hashers.{Holds256}
use Rattle.work_gen.specs.Summary.{byte_count}
use Rattle.work_gen.specs.Tally.{HasCounted}
use Rattle.work_gen.specs.declared.digest_sink.DigestSink.{DigestSink}
use Rattle.work_gen.specs.declared.tally_sink.TallySink.{TallySink}

-- the sink has taken the text: its hasher holds it, and its bytes were counted
pub record HasTakenText (sink : DigestSink) (text : List ℕ) : Type 0 where
  pub held : Holds256 sink.hasher text
  pub counted : sink.bytes ≡ byte_count text

-- the sink has taken the text: its digest is kept, and its refused lines were counted
pub record HasTallied (sink : TallySink) (text : List ℕ) : Type 0 where
  pub taken : HasTakenText sink.digest text
  pub counted : HasCounted sink.tally text
