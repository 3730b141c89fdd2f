-- What the matches of the command with a journal ask for is what its words ask for.
use Rattle.std.proofs.Common.{◌≡◌, ◌∙◌, List, Option, ap, codes}
use Rattle.std.specs.Prelude.{option_map}
use Rattle.clap.specs.Words.{Text, first_value, found_of}
use Rattle.clap.specs.declared.parser.matches.ArgMatches.{ArgMatches}
use Rattle.run_words.specs.Asked.{AreFoundIn, AsksKept, IsMatchedBy, number, number_or}
use Rattle.run_words.specs.Command.{kept_app}
use Rattle.run_words.specs.declared.TheConstants.{PLAIN_FRAMES}
use Rattle.run_words.specs.declared.asked.Words.{Words}

pub kept_asked : (words : List Text) (m : ArgMatches) (asked : Words) (journal : Option Text) → IsMatchedBy kept_app words m → AreFoundIn m asked → journal ≡ first_value (found_of m) (codes "journal")
    → AsksKept words (record { words = asked; journal = journal })
kept_asked words m asked journal matched found named = record {
  beside = record {
    taken = matched.taken;
    frames = found.frames ∙ ap (number_or PLAIN_FRAMES) (matched.values (codes "frames"));
    fewest = found.fewest;
    most = found.most;
    store = found.store ∙ matched.values (codes "store");
    workload = found.workload ∙ ap (option_map number) (matched.values (codes "workload"));
    size = found.size;
  };
  journal = named ∙ matched.values (codes "journal");
}
