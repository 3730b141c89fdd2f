-- Each law is a lemma.
use Rattle.std.proofs.Common.{◌*◌}
use Rattle.sand_base.specs.declared.goal.Goal.TheVariants as figure
use Rattle.ring_geom.proofs.Covers.{tiles_cover, tiles_cover_pairs, holder_meets, square_holds}
use Rattle.ring_geom.proofs.Farther.{shape_held, part_held, no_farther, pair_no_farther, gap_unique}
use Rattle.ring_geom.proofs.FigureGaps.{gap_exchanged}
use Rattle.ring_geom.proofs.Measured.{measured}
use Rattle.ring_geom.proofs.TreeLaws.{same_compares}
use Rattle.ring_geom.proofs.QuarterLemmas.{meets_a_quarter, tiles_whole, tiles_quarters}
use Rattle.ring_geom.proofs.RegionLaw.{all_or_none}
use Rattle.ring_geom.proofs.Region.{some_also}
use Rattle.ring_geom.proofs.Zero.{meets_of_zero, zero_of_meets}
use Rattle.ring_geom.proofs.laws.ring_laws.Goals as goal

-- all of them
pub returns : goal.returns
returns c = record {
  region = all_or_none;
  one = λ a b f h hf hh. same_compares (f.num * h.den) (h.num * f.den) (gap_unique a b f.num f.den h.num h.den hf hh);
  measured = measured;
  exchanged = λ a b f h. gap_exchanged a b f.num f.den h;
  zero = λ a b f h. (λ e. meets_of_zero a b f.num f.den f.positive e h, λ m. zero_of_meets a b f.num f.den m h);
  bound = λ g s r f reach held hf h hh.
      no_farther g (figure.Shape s) r f.num f.den h.num h.den reach (shape_held s r held) hf hh;
  bounds = λ a b r t f ha hb hf h hh.
      pair_no_farther (figure.Shape a) (figure.Shape b) r t f.num f.den h.num h.den (shape_held a r ha) (shape_held b t hb) hf hh;
  part = λ g q r f reach part hf h hh.
      no_farther g (figure.Rect q) r f.num f.den h.num h.den reach (part_held q r part) hf hh;
  parts = λ q r p t f hq hp hf h hh.
      pair_no_farther (figure.Rect q) (figure.Rect p) r t f.num f.den h.num h.den (part_held q r hq) (part_held p t hp) hf hh;
  quarters = meets_a_quarter;
  holder = holder_meets;
  square = square_holds;
  tile = tiles_whole;
  tiles = tiles_quarters;
  cover = λ g s root parts f reach held tiles hf.
      some_also (λ part k. (k.0, λ h hh. k.1 h.num h.den hh)) parts (tiles_cover g s root parts f.num f.den reach held tiles hf);
  pairs = λ a b root other parts others f ha hb ta tb hf.
      some_also (λ p k. some_also (λ o j. (j.0, j.1, λ h hh. j.2 h.num h.den hh)) others k) parts
      (tiles_cover_pairs a b root other parts others f.num f.den ha hb ta tb hf);
}
