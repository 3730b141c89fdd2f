-- A tuple is put into a page, or taken out of one.
use Rattle.std.proofs.Common.{◌≡◌, ℕ, arith, List, [], sym, ◌∙◌, ap, subst}
use Rattle.std.specs.Prelude.{Option}
use Rattle.code_btree.specs.Tree.{Store}
use Rattle.code_btree.specs.Steps.{Gained}
use Rattle.code_btree.proofs.Lists.{live_some}
use Rattle.tuple_file.specs.Page.{tuple_at, Added}
use Rattle.tuple_file.specs.File.{bytes_of}
use Rattle.tuple_file.specs.Steps.{Begun}
use Rattle.tuple_file.proofs.Houses.{tuple_none}
use Rattle.tuple_file.proofs.Pastes.{no_slot}

-- the tuple is alone in a page that was blank
pub begun : (m w : Store) (n slot start : ℕ) (bytes old new : List ℕ) → Gained m w n new → Added old new bytes slot start → ((i : ℕ) → tuple_at old i ≡ []) → Begun m w n slot start bytes
begun m w n slot start bytes old new g a none =
    let P : List ℕ → Type 0 = λ p. Added [] p bytes slot start in
    let here : new ≡ bytes_of (w n) = ap (λ (o : Option (List ℕ)). bytes_of o) (sym g.now) in
    record {
      fresh = g.before;
      others = g.others;
      is_live = live_some w n new g.now;
      added = subst P here (record {
        sound = a.sound;
        small = a.small;
        here = a.here;
        was = tuple_none slot;
        others = λ i d. a.others i d ∙ (none i ∙ sym (tuple_none i));
        has = a.has;
        stays = λ i at many has. absurd (omega (arith, has.there, no_slot));
      });
    }
