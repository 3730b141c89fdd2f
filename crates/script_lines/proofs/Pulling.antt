-- What the next answer says of all that was read and given.
use Rattle.std.proofs.Common.{◌≡◌, ℕ, ◌≤◌, Bool, true, false, cond, List, [], ◌∷◌, ◌++◌, length, take, take_all, Option, Some, Ok, Err, MatchBool, refl, sym, ap, ◌∙◌, subst, arith, append-nil}
use Rattle.std.specs.Io.KnownBytes.{Consumes}
use Rattle.sand_base.specs.declared.source.Failed.{Failed}
use Rattle.script_lines.specs.Lines.{is_no_line, is_short_line}
use Rattle.script_lines.specs.Parts.{ChunkState, IsCutSoFar, IsReaderAt, SeeksStop}
use Rattle.script_lines.specs.Reading.{hand_of, ReaderStands, ReadsLines, GivesLine, FindsLines, found_line, EndsLines, HasFound}
use Rattle.script_lines.specs.declared.TheConstants.{LONGEST_SCRIPT}
use Rattle.script_lines.specs.declared.script_lines.Found.{Found}
use Rattle.script_lines.specs.declared.script_lines.Found.TheVariants as found
use Rattle.script_lines.specs.declared.script_lines.Stop.{Stop}
use Rattle.script_lines.specs.declared.script_lines.Stop.TheVariants as stop
use Rattle.script_lines.specs.declared.script_lines.ScriptLines.{ScriptLines}
use Rattle.script_lines.proofs.Cutting.{ended_lines-given, lines-given, lines-last, lines-first}

-- a reader between two bytes, with no line given
between : ChunkState → Option (List ℕ) → ScriptLines
between chunk line = record { chunk = chunk; line = line; is_given = false; is_ended = false }

-- the reader began its next line
pub record Begun (old begun : ScriptLines) : Type 0 where
  pub more : old.is_ended ≡ false
  pub is : begun ≡ record old { line = hand_of old; is_given = false }

-- it stands where it stood
pub begun_at : (old begun : ScriptLines) (left : Option (List ℕ)) (bytes : List ℕ) (given : List (List ℕ)) → Begun old begun
    → ReadsLines old left bytes given → IsReaderAt begun.chunk begun.line bytes given
begun_at old begun left bytes given b reads =
    let at : IsReaderAt old.chunk (hand_of old) bytes given = subst (λ e. ReaderStands e old left bytes given) b.more reads in
    subst (λ (r : ScriptLines). IsReaderAt r.chunk r.line bytes given) (sym b.is) at

-- no line was given since
begun_open : (old begun : ScriptLines) → Begun old begun → begun.is_given ≡ false
begun_open old begun b = ap (λ (r : ScriptLines). r.is_given) b.is

-- its end was not met
begun_more : (old begun : ScriptLines) → Begun old begun → begun.is_ended ≡ false
begun_more old begun b = ap (λ (r : ScriptLines). r.is_ended) b.is ∙ b.more

-- a line in hand that is given is one found
Finds-line : (answer : Found) (reader : ScriptLines) (left : Option (List ℕ)) (bytes : List ℕ) (given : List (List ℕ))
    → answer ≡ found_line reader.line → GivesLine reader left bytes given → FindsLines (Ok answer) reader left bytes given
Finds-line answer reader left bytes given is gives =
    let go : (b : Bool) → is_short_line reader.line ≡ b → FindsLines (Ok (cond b found.Line found.TooLong)) reader left bytes given =
    elim [ true ↦ λ e. gives | false ↦ λ e. gives ] in
    subst (λ a. FindsLines (Ok a) reader left bytes given) (sym is) (go (is_short_line reader.line) refl)

-- a line feed was met
pub Pulls-line : (old begun new : ScriptLines) (answer : Found) (chunk : ChunkState) (line before left : Option (List ℕ)) → Begun old begun
    → (s : Stop) → s ≡ stop.LineFeed → SeeksStop (Ok s) begun.chunk chunk begun.line line before left
    → new ≡ record { chunk = chunk; line = line; is_given = true; is_ended = begun.is_ended } → answer ≡ found_line line
    → (bytes : List ℕ) (given : List (List ℕ)) → ReadsLines old before bytes given
    → (read : List ℕ) × Consumes before left read × FindsLines (Ok answer) new left (bytes ++ read) given
Pulls-line old begun new answer chunk line before left b s stopped seeks is found_is bytes given reads =
    let one = subst (λ v. SeeksStop (Ok v) begun.chunk chunk begun.line line before left) stopped seeks bytes given (begun_at old begun before bytes given b reads) in
    let all = bytes ++ one.0 in
    let more = given ++ one.2.0 ∷ [] in
    let first = lines-first (Some []) chunk.ahead all more LONGEST_SCRIPT one.2.2.is_cut in
    let now : new ≡ record { chunk = chunk; line = line; is_given = true; is_ended = false } =
    is ∙ ap (λ e. record { chunk = chunk; line = line; is_given = true; is_ended = e }) (begun_more old begun b) in
    let gives : GivesLine new left all given = record {
      line = one.2.0;
      hand = ap (λ (r : ScriptLines). r.line) is ∙ one.2.1;
      others = first.0;
      first = first.1;
      most = one.2.2.most;
      reads = subst (λ r. ReadsLines r left all more) (sym now) one.2.2;
    } in
    (one.0, one.1, Finds-line answer new left all given (found_is ∙ ap found_line (sym (ap (λ (r : ScriptLines). r.line) is))) gives)

-- what was cut of a text that isn't too long, with no byte ahead
whole_cut : (chunk : ChunkState) (line : Option (List ℕ)) (bytes : List ℕ) (given : List (List ℕ)) → length bytes ≤ LONGEST_SCRIPT → chunk.ahead ≡ []
    → IsReaderAt chunk line bytes given → IsCutSoFar line [] bytes given
whole_cut chunk line bytes given short none at =
    subst (λ b. IsCutSoFar line [] b given) (take_all LONGEST_SCRIPT bytes short) (subst (λ a. IsCutSoFar line a (take LONGEST_SCRIPT bytes) given) none at.is_cut)

-- the end of the script was met
pub Pulls-end : (old begun new : ScriptLines) (answer : Found) (chunk : ChunkState) (line before left : Option (List ℕ)) → Begun old begun
    → (s : Stop) → s ≡ stop.End → SeeksStop (Ok s) begun.chunk chunk begun.line line before left
    → EndsLines (record { chunk = chunk; line = line; is_given = begun.is_given; is_ended = begun.is_ended }) new answer
    → (bytes : List ℕ) (given : List (List ℕ)) → ReadsLines old before bytes given
    → (read : List ℕ) × Consumes before left read × FindsLines (Ok answer) new left (bytes ++ read) given
Pulls-end old begun new answer chunk line before left b s stopped seeks ends bytes given reads =
    let one = subst (λ v. SeeksStop (Ok v) begun.chunk chunk begun.line line before left) stopped seeks bytes given (begun_at old begun before bytes given b reads) in
    let all = bytes ++ one.0 in
    let mid : ScriptLines = record { chunk = chunk; line = line; is_given = begun.is_given; is_ended = begun.is_ended } in
    let is_cut = whole_cut chunk line all given one.2.1 one.2.2 one.2.3 in
    let go : (e : Bool) → is_no_line line ≡ e
    → MatchBool e ((answer ≡ found.End) × (new ≡ record mid { is_ended = true })) ((answer ≡ found_line line) × (new ≡ record mid { is_given = true; is_ended = true }))
    → FindsLines (Ok answer) new left all given =
    elim [
      | true ↦ λ none is.
          let whole = lines-given line all given none is_cut in
          let stands : ReadsLines new left all given = subst (λ r. ReadsLines r left all given) (sym is.1) (one.2.0, one.2.1, whole) in
          subst (λ a. FindsLines (Ok a) new left all given) (sym is.0) (one.2.0, one.2.1, whole, stands)
      | false ↦ λ some is.
          let last = lines-last line all given some is_cut in
          let more = given ++ last.0 ∷ [] in
          let gives : GivesLine new left all given = record {
            line = last.0;
            hand = ap (λ (r : ScriptLines). r.line) is.1 ∙ last.1;
            others = [];
            first = last.2 ∙ sym (append-nil more);
            most = omega (arith, one.2.1);
            reads = subst (λ r. ReadsLines r left all more) (sym is.1) (one.2.0, one.2.1, last.2);
          } in
          Finds-line answer new left all given (is.0 ∙ ap found_line (sym (ap (λ (r : ScriptLines). r.line) is.1))) gives
    ] in
    (one.0, one.1, go (is_no_line line) refl ends)

-- the reader as it is now, between two bytes
stands_now : (old begun : ScriptLines) (chunk : ChunkState) (line left : Option (List ℕ)) (bytes : List ℕ) (given : List (List ℕ)) → Begun old begun
    → IsReaderAt chunk line bytes given
    → ReadsLines (record { chunk = chunk; line = line; is_given = begun.is_given; is_ended = begun.is_ended }) left bytes given
stands_now old begun chunk line left bytes given b at =
    subst (λ e. ReadsLines (record { chunk = chunk; line = line; is_given = begun.is_given; is_ended = e }) left bytes given) (sym (begun_more old begun b))
    (subst (λ g. IsReaderAt chunk (cond g (Some []) line) bytes given) (sym (begun_open old begun b)) at)

-- a byte too many was read
pub Pulls-over : (old begun : ScriptLines) (chunk : ChunkState) (line before left : Option (List ℕ)) → Begun old begun
    → (s : Stop) → s ≡ stop.ScriptTooLong → SeeksStop (Ok s) begun.chunk chunk begun.line line before left
    → (bytes : List ℕ) (given : List (List ℕ)) → ReadsLines old before bytes given
    → (read : List ℕ) × Consumes before left read
    × FindsLines (Ok found.ScriptTooLong) (record { chunk = chunk; line = line; is_given = begun.is_given; is_ended = begun.is_ended }) left (bytes ++ read) given
Pulls-over old begun chunk line before left b s stopped seeks bytes given reads =
    let one = subst (λ v. SeeksStop (Ok v) begun.chunk chunk begun.line line before left) stopped seeks bytes given (begun_at old begun before bytes given b reads) in
    let all = bytes ++ one.0 in
    let is_cut : IsCutSoFar line [] (take LONGEST_SCRIPT all) given =
    subst (λ a. IsCutSoFar line a (take LONGEST_SCRIPT all) given) one.2.1 one.2.2.is_cut in
    (one.0, one.1, (one.2.0, ended_lines-given line (take LONGEST_SCRIPT all) given is_cut, stands_now old begun chunk line left all given b one.2.2))

-- the source failed
pub Pulls-failed : (old begun : ScriptLines) (chunk : ChunkState) (line before left : Option (List ℕ)) (e : Failed) → Begun old begun
    → SeeksStop (Err e) begun.chunk chunk begun.line line before left
    → (bytes : List ℕ) (given : List (List ℕ)) → ReadsLines old before bytes given
    → (read : List ℕ) × Consumes before left read
    × FindsLines (Err e) (record { chunk = chunk; line = line; is_given = begun.is_given; is_ended = begun.is_ended }) left (bytes ++ read) given
Pulls-failed old begun chunk line before left e b seeks bytes given reads =
    let one = seeks bytes given (begun_at old begun before bytes given b reads) in
    let all = bytes ++ one.0 in
    (one.0, one.1, (one.2.0, ended_lines-given line all given (whole_cut chunk line all given one.2.0 one.2.1 one.2.2), stands_now old begun chunk line left all given b one.2.2))

-- a line in hand that is given is told as short or as too long
pub HasFound-line : (answer : Found) (line : Option (List ℕ)) → answer ≡ found_line line → HasFound (Ok answer) line
HasFound-line answer line is =
    let go : (b : Bool) → is_short_line line ≡ b → HasFound (Ok (cond b found.Line found.TooLong)) line = elim [ true ↦ λ e. e | false ↦ λ e. e ] in
    subst (λ a. HasFound (Ok a) line) (sym is) (go (is_short_line line) refl)

-- the end of the script gives the line in hand, or none
pub HasFound-end : (old new : ScriptLines) (answer : Found) → EndsLines old new answer → HasFound (Ok answer) new.line
HasFound-end old new answer ends =
    let go : (e : Bool) → MatchBool e ((answer ≡ found.End) × (new ≡ record old { is_ended = true })) ((answer ≡ found_line old.line) × (new ≡ record old { is_given = true; is_ended = true }))
    → HasFound (Ok answer) new.line =
    elim [
      | true ↦ λ is. subst (λ a. HasFound (Ok a) new.line) (sym is.0) tt
      | false ↦ λ is. HasFound-line answer new.line (is.0 ∙ ap found_line (sym (ap (λ (r : ScriptLines). r.line) is.1)))
    ] in
    go (is_no_line old.line) ends
