-- An id comes to the parts of those children whose squares its shape meets.
use Rattle.std.proofs.Common.{◌≡◌, ℕ, ◌+◌, ◌<◌, Bool, true, false, cond, List, [], ◌∷◌, ◌++◌, length, get_or, take, refl, sym, ◌∙◌, ap, subst, arith}
use Rattle.std.specs.Prelude.{◌↔◌, IsTrue, filter, nat_eq, Some}
use Rattle.std.proofs.lemmas.Bool.{false≢true}
use Rattle.std.proofs.lemmas.Bool.Decides.{nat_tests}
use Rattle.sand_base.specs.declared.TheConstants.{COORDINATE_BITS}
use Rattle.sand_base.specs.declared.goal.Goal.TheVariants as figure
use Rattle.sand_base.specs.declared.rect.Rect.{Rect}
use Rattle.sand_base.specs.declared.shape.Shape.{Shape}
use Rattle.z_code.specs.Block.{IsBlock, child, children_of, square_of}
use Rattle.z_code.specs.declared.block.Block.{Block}
use Rattle.sand_model.specs.Database.{shape_at}
use Rattle.sand_model.specs.FigureGap.{IsMeeting}
use Rattle.pmr_tree.specs.Leaves.{ListPasses}
use Rattle.pmr_tree.specs.Parts.{AreQuarters, MeetsQuarters, TellsMeeting, AreParts, GainsId, PartsPass}
use Rattle.pmr_tree.specs.declared.leaf.Kept.{Kept}
use Rattle.pmr_tree.specs.declared.part.QuartersMet.{QuartersMet}
use Rattle.pmr_tree.specs.declared.part.Parts.{Parts}
use Rattle.pmr_tree.proofs.AscendingLists.{each_append}
use Rattle.pmr_tree.proofs.Entries.{met_step}
use Rattle.pmr_tree.proofs.Quarter.{child_block}
use Rattle.pmr_tree.proofs.ShapeLaws.{here_shape, there_shape, some_same}

differ : IsTrue false → ⊥
differ e = false≢true e

-- two answers to one question are the same
one_answer : {P : Type 0} (x y : Bool) → IsTrue x ↔ P → IsTrue y ↔ P → x ≡ y
one_answer true true f g = refl
one_answer true false f g = absurd (differ (g.1 (f.0 refl)))
one_answer false true f g = absurd (differ (f.1 (g.0 refl)))
one_answer false false f g = refl

pub quarters_told : (s : Shape) (b : Block) (f : Block → Bool) (met : QuartersMet) → IsBlock b → b.level < COORDINATE_BITS
    → ((c : Block) → IsBlock c → IsTrue (f c) ↔ IsMeeting (figure.Shape s) (figure.Rect (square_of c))) → MeetsQuarters s b met → AreQuarters f b met
quarters_told s b f met block up tells meets = record {
  first = one_answer met.first (f (child b 0)) meets.first (tells (child b 0) (child_block b block up 0 (omega arith)));
  second = one_answer met.second (f (child b 1)) meets.second (tells (child b 1) (child_block b block up 1 (omega arith)));
  third = one_answer met.third (f (child b 2)) meets.third (tells (child b 2) (child_block b block up 2 (omega arith)));
  fourth = one_answer met.fourth (f (child b 3)) meets.fourth (tells (child b 3) (child_block b block up 3 (omega arith)));
}

-- the shape of the id that comes first, and that of another one
pub first_shape : (first id : ℕ) (z s : Shape) (rows : List (ℕ × Shape)) → id ≡ first → shape_at ((first, z) ∷ rows) id ≡ Some s → s ≡ z
first_shape first id z s rows same at = sym (some_same z s (sym (here_shape (first, z) rows id (equal first id same)) ∙ at)) where
  equal : (x y : ℕ) → y ≡ x → nat_eq x y ≡ true
  equal x y e = grind (arith, nat_tests)

pub other_shape : (first id : ℕ) (z s : Shape) (rows : List (ℕ × Shape)) → (id ≡ first → ⊥) → shape_at ((first, z) ∷ rows) id ≡ Some s → shape_at rows id ≡ Some s
other_shape first id z s rows apart at = sym (there_shape (first, z) rows id (differs first id apart)) ∙ at where
  differs : (x y : ℕ) → (y ≡ x → ⊥) → nat_eq x y ≡ false
  differs x y h = grind (arith, nat_tests)

-- whether a shape meets the square of a block, as what is told of it says
pub meeting_told : (s t : Shape) (b : Block) (r : Rect) (met holds : Bool) → t ≡ s → r ≡ square_of b → IsTrue met ↔ IsMeeting (figure.Shape s) (figure.Rect r)
    → IsTrue holds ↔ IsMeeting (figure.Shape t) (figure.Rect (square_of b)) → met ≡ holds
meeting_told s t b r met holds same square met_is holds_is =
    one_answer met holds (subst (λ x. IsTrue met ↔ IsMeeting (figure.Shape s) (figure.Rect x)) square met_is)
    (subst (λ x. IsTrue holds ↔ IsMeeting (figure.Shape x) (figure.Rect (square_of b))) same holds_is)

-- four answers, as calls on the children of a block gave them
pub four_told : (s : Shape) (b : Block) (cs : List Block) (d0 d1 d2 d3 : Block) (met : QuartersMet) → cs ≡ children_of b
    → TellsMeeting s (get_or cs 0 d0) met.first → TellsMeeting s (get_or cs 1 d1) met.second → TellsMeeting s (get_or cs 2 d2) met.third → TellsMeeting s (get_or cs 3 d3) met.fourth
    → MeetsQuarters s b met
four_told s b cs d0 d1 d2 d3 met is h0 h1 h2 h3 = record {
  first = subst (λ c. TellsMeeting s c met.first) (ap (λ t. get_or t 0 d0) is) h0;
  second = subst (λ c. TellsMeeting s c met.second) (ap (λ t. get_or t 1 d1) is) h1;
  third = subst (λ c. TellsMeeting s c met.third) (ap (λ t. get_or t 2 d2) is) h2;
  fourth = subst (λ c. TellsMeeting s c met.fourth) (ap (λ t. get_or t 3 d3) is) h3;
}

-- one id more of a list
gained : (f : ℕ → Bool) (list : List Kept) (i : ℕ) (d : Kept) → i < length list → (met : Bool) → met ≡ f (get_or list i d).id → (old new : List Kept)
    → old ≡ filter (λ k. f k.id) (take i list) → new ≡ old ++ cond met (get_or list i d ∷ []) [] → new ≡ filter (λ k. f k.id) (take (i + 1) list)
gained f list i d lt met e old new h n = met_step f list i d lt old new h (n ∙ ap (λ c. old ++ cond c (get_or list i d ∷ []) []) e)

pub parts_step : (m : Block → ℕ → Bool) (b : Block) (list : List Kept) (i : ℕ) (d : Kept) → i < length list → (met : QuartersMet) (old new : Parts)
    → AreQuarters (λ c. m c (get_or list i d).id) b met → AreParts m b (take i list) old → GainsId met (get_or list i d) old new → AreParts m b (take (i + 1) list) new
parts_step m b list i d lt met old new quarters are gain = record {
  first = gained (m (child b 0)) list i d lt met.first quarters.first old.first.items new.first.items are.first gain.first;
  second = gained (m (child b 1)) list i d lt met.second quarters.second old.second.items new.second.items are.second gain.second;
  third = gained (m (child b 2)) list i d lt met.third quarters.third old.third.items new.third.items are.third gain.third;
  fourth = gained (m (child b 3)) list i d lt met.fourth quarters.fourth old.fourth.items new.fourth.items are.fourth gain.fourth;
}

-- what each id passes
passed : (test : ℕ → ℕ → Bool) (met : Bool) (k : Kept) (old new : List Kept) → test k.id k.value ≡ true → ListPasses test old → new ≡ old ++ cond met (k ∷ []) [] → ListPasses test new
passed test true k old new one h n = subst (ListPasses test) (sym n) (each_append (λ x. test x.id x.value ≡ true) old (k ∷ []) h (one, tt))
passed test false k old new one h n = subst (ListPasses test) (sym n) (each_append (λ x. test x.id x.value ≡ true) old [] h tt)

pub parts_pass : (test : ℕ → ℕ → Bool) (met : QuartersMet) (k : Kept) (old new : Parts) → test k.id k.value ≡ true → PartsPass test old → GainsId met k old new → PartsPass test new
parts_pass test met k old new one pass gain = record {
  first = passed test met.first k old.first.items new.first.items one pass.first gain.first;
  second = passed test met.second k old.second.items new.second.items one pass.second gain.second;
  third = passed test met.third k old.third.items new.third.items one pass.third gain.third;
  fourth = passed test met.fourth k old.fourth.items new.fourth.items one pass.fourth gain.fourth;
}
