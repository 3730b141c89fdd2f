-- What words ask for that the command takes.
use Rattle.std.specs.Prelude.{◌≡◌, ◌<◌, ◌≤◌, ◌^◌, ℕ, List, [], Option, Some, None, IfSome, codes, option_map}
use Rattle.std.specs.Str.Parse.{digits_value, without_leading_plus, IsNumeral}
use Rattle.clap.specs.Words.{App, Text, fault_of, first_of, first_value, found_of, matches_of}
use Rattle.clap.specs.declared.parser.matches.ArgMatches.{ArgMatches}
use Rattle.run_words.specs.Command.{kept_app, sand_app}
use Rattle.run_words.specs.declared.TheConstants.{PLAIN_FRAMES}
use Rattle.run_words.specs.declared.asked.KeptWords.{KeptWords}
use Rattle.run_words.specs.declared.asked.Words.{Words}

-- the number that the digits of a text write, which a plus may begin
abbrev pub number : Text → ℕ
number text = digits_value 10 (without_leading_plus text)

-- the text is a number of 32 bits
abbrev pub IsShortNumber : Text → Type 0
IsShortNumber text = IsNumeral 10 (without_leading_plus text) × (number text < 2 ^ 32)

-- the text is a number from the least to the most
abbrev pub IsNumberIn : ℕ → ℕ → Text → Type 0
IsNumberIn least most text = IsShortNumber text × (least ≤ number text) × (number text ≤ most)

-- the value of an option in the words, as a command takes them
abbrev pub value_in : App → Text → List Text → Option Text
value_in app name words = first_of name (matches_of app words)

-- the value of an option in the words
abbrev pub option_value : Text → List Text → Option Text
option_value = value_in sand_app

-- the number, or this one where there is none
abbrev pub number_or : ℕ → Option Text → ℕ
number_or plain None = plain
number_or plain (Some text) = number text

-- A command takes the words, and they ask for this: so many frames, 16 to 4,096, a page file if one is named, and a
-- workload of 1 to 100,000 if one is.
pub record AsksBy (app : App) (words : List Text) (asked : Words) : Type 0 where
  pub taken : fault_of app words ≡ []
  pub frames : asked.frames ≡ number_or PLAIN_FRAMES (value_in app (codes "frames") words)
  pub fewest : 16 ≤ asked.frames
  pub most : asked.frames ≤ 4096
  pub store : asked.store ≡ value_in app (codes "store") words
  pub workload : asked.workload ≡ option_map number (value_in app (codes "workload") words)
  pub size : IfSome asked.workload (λ n. (1 ≤ n) × (n ≤ 100000))

-- what the words ask for that the command takes
abbrev pub Asks : List Text → Words → Type 0
Asks = AsksBy sand_app

-- what the words ask for that the command with a journal takes, and the journal's file if one is named
pub record AsksKept (words : List Text) (asked : KeptWords) : Type 0 where
  pub beside : AsksBy kept_app words asked.words
  pub journal : asked.journal ≡ value_in kept_app (codes "journal") words

-- the command takes the words, and the matches are theirs; its numbers are in their ranges
pub record IsMatchedBy (app : App) (words : List Text) (m : ArgMatches) : Type 0 where
  pub taken : fault_of app words ≡ []
  pub values : (name : Text) → first_value (found_of m) name ≡ value_in app name words
  pub frames : (text : Text) → value_in app (codes "frames") words ≡ Some text → IsNumberIn 16 4096 text
  pub workload : (text : Text) → value_in app (codes "workload") words ≡ Some text → IsNumberIn 1 100000 text

-- the matches ask for this, and its numbers are in their ranges
pub record AreFoundIn (m : ArgMatches) (asked : Words) : Type 0 where
  pub frames : asked.frames ≡ number_or PLAIN_FRAMES (first_value (found_of m) (codes "frames"))
  pub fewest : 16 ≤ asked.frames
  pub most : asked.frames ≤ 4096
  pub store : asked.store ≡ first_value (found_of m) (codes "store")
  pub workload : asked.workload ≡ option_map number (first_value (found_of m) (codes "workload"))
  pub size : IfSome asked.workload (λ n. (1 ≤ n) × (n ≤ 100000))
