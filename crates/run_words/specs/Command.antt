-- The command whose definition decides which words are taken: a simple one of `clap`.
use Rattle.std.specs.Prelude.{true, Option, Some, None, codes}
use Rattle.clap.specs.Words.{App, Rule, Text, new_app, new_rule, with_rule}
use Rattle.clap.specs.Simple.{Shape, on_top}
use Rattle.clap.specs.declared.builder.action.ArgAction.TheVariants.{Set}
use Rattle.clap.specs.declared.builder.value_parser.ValueParser.{ValueParser}
use Rattle.clap.specs.declared.builder.value_parser.ValueParser.TheVariants as vp

-- an option of one value, which its parser has to take if it has one
abbrev pub option_rule : Text → Option ValueParser → Rule
option_rule name parser = record (new_rule name) { long = Some name; action = Some Set; parser = parser }

-- `--frames N` with 16 to 4,096, `--store FILE`, `--workload N` with 1 to 100,000
abbrev pub frames_rule : Rule
frames_rule = option_rule (codes "frames") (Some (vp.Unsigned 16 4096))

-- the rule of the word that names the page file
abbrev pub store_rule : Rule
store_rule = option_rule (codes "store") None

-- the rule of the word that asks for a workload
abbrev pub workload_rule : Rule
workload_rule = option_rule (codes "workload") (Some (vp.Unsigned 1 100000))

-- no word names the program, and there is neither help nor a version
abbrev pub bare_shape : Shape → Shape
bare_shape s = record s { no_binary_name = true; disable_help_flag = true; disable_version_flag = true }

-- the command with no words of its own
abbrev pub bare_app : App
bare_app = on_top bare_shape (new_app (codes "sand"))

-- the command
abbrev pub sand_app : App
sand_app = with_rule (with_rule (with_rule bare_app frames_rule) store_rule) workload_rule

-- the rule of the word that names the journal
abbrev pub journal_rule : Rule
journal_rule = option_rule (codes "journal") None

-- the command of a run that may keep its changes
abbrev pub kept_app : App
kept_app = with_rule sand_app journal_rule
