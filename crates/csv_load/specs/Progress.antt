-- How far an iterator over the records of some bytes has come.
use Rattle.std.specs.Prelude.{◌≡◌, ◌<◌, ℕ, List, Some}
use Rattle.std.specs.Borrow.{Bor}
use Rattle.csv.specs.Reading.{Reached, Ready, default_config, source_of, strip_bom}
use Rattle.csv.specs.declared.iter.ByteRecordsIntoIter.{ByteRecordsIntoIter}
use Rattle.csv.specs.declared.parser.State.TheVariants as st
use Rattle.csv.specs.declared.reader.Trim.TheVariants as trim

-- the iterator gave these records of the bytes, and goes on behind them with what is left
pub record HasGivenRecords (bytes : List ℕ) (given : List (List (List ℕ))) (it : ByteRecordsIntoIter (Bor (List ℕ))) : Type 0 where
  pub plain : it.rdr.trim ≡ trim.None
  pub ready : Ready it.rdr
  pub goes_on : 0 < it.left
  pub config : it.rdr.config ≡ default_config
  pub left : List ℕ
  pub source : source_of (λ s. Some s.now) it.rdr ≡ Some left
  pub reached : Reached default_config st.StartRecord (strip_bom bytes) given it.rdr.state left
