-- Members come to the parts of the children that they meet, in their order.
use Rattle.std.proofs.Common.{◌≡◌, ℕ, zero, suc, ◌+◌, ◌<◌, ◌≤◌, Bool, true, cond, List, [], ◌∷◌, ◌++◌, length, get_or, take, drop, refl, sym, ◌∙◌, ap, subst, arith, add-one}
use Rattle.std.specs.Prelude.{filter, max}
use Rattle.std.proofs.lemmas.List.{take_more, append_assoc, append-nil}
use Rattle.sand_base.specs.declared.shape.Shape.{Shape}
use Rattle.z_code.specs.Block.{child}
use Rattle.z_code.specs.declared.block.Block.{Block}
use Rattle.page_pool.specs.Disk.{PageMap}
use Rattle.pmr_tree.specs.Lists.{Each}
use Rattle.pmr_tree.proofs.Entries.{each_at}
use Rattle.pmr_tree.proofs.AscendingLists.{holds, fails, test}
use Rattle.pmr_build.specs.Members.{Member, IsMemberOf, AreMembersIn, TellsRows}
use Rattle.pmr_build.specs.Parts.{AreQuartersMet, TakesIn, members_met, PartsTake, HaveMost, IsChildOf, AreDivided}
use Rattle.pmr_build.specs.declared.divide.Mosts.{Mosts}
use Rattle.pmr_build.specs.declared.divide.Parts.{Parts}
use Rattle.pmr_build.specs.declared.met.QuartersMet.{QuartersMet}

filter_of_both : (f : Member → Bool) (xs ys : List Member) → filter f (xs ++ ys) ≡ filter f xs ++ filter f ys
filter_of_both f [] ys = refl
filter_of_both f (x ∷ xs) ys = elim (test (f x)) [
  | holds h ↦ rw h (ap (λ t. x ∷ t) (filter_of_both f xs ys))
  | fails h ↦ rw h (filter_of_both f xs ys)
]

-- one member more
pushed : (f : Member → Bool) (list : List Member) (k : ℕ) (d : Member) → k < length list → (met : Bool) → met ≡ f (get_or list k d) → (base old new : List Member)
    → old ≡ base ++ filter f (take k list) → new ≡ old ++ cond met (get_or list k d ∷ []) [] → new ≡ base ++ filter f (take (k + 1) list)
pushed f list k d lt met e base old new h n =
    let x : Member = get_or list k d in
    n ∙ (ap (λ c. old ++ cond c (x ∷ []) []) e
    ∙ (ap (λ t. t ++ filter f (x ∷ [])) h
    ∙ (append_assoc base (filter f (take k list)) (filter f (x ∷ []))
    ∙ ap (λ t. base ++ t) (sym (filter_of_both f (take k list) (x ∷ [])) ∙ ap (filter f) (sym (take_more list k d lt))))))

pub parts_step : (m : Block → ℕ → Bool) (b : Block) (list : List Member) (k : ℕ) (d : Member) → k < length list → (met : QuartersMet) (base old new : Parts)
    → AreQuartersMet m b (get_or list k d).0 met → PartsTake m b (take k list) base old → TakesIn met (get_or list k d) old new → PartsTake m b (take (k + 1) list) base new
parts_step m b list k d lt met base old new quarters taken one = record {
  first = pushed (λ i. m (child b 0) i.0) list k d lt met.first quarters.first base.first.items old.first.items new.first.items taken.first one.first;
  second = pushed (λ i. m (child b 1) i.0) list k d lt met.second quarters.second base.second.items old.second.items new.second.items taken.second one.second;
  third = pushed (λ i. m (child b 2) i.0) list k d lt met.third quarters.third base.third.items old.third.items new.third.items taken.third one.third;
  fourth = pushed (λ i. m (child b 3) i.0) list k d lt met.fourth quarters.fourth base.fourth.items old.fourth.items new.fourth.items taken.fourth one.fourth;
}

pub parts_start : (m : Block → ℕ → Bool) (b : Block) (parts : Parts) → PartsTake m b [] parts parts
parts_start m b parts = record {
  first = sym (append-nil parts.first.items);
  second = sym (append-nil parts.second.items);
  third = sym (append-nil parts.third.items);
  fourth = sym (append-nil parts.fourth.items);
}

take_then_drop : (n : ℕ) (xs : List Member) → take n xs ++ drop n xs ≡ xs
take_then_drop zero xs = refl
take_then_drop (suc n) [] = refl
take_then_drop (suc n) (x ∷ xs) = ap (λ t. x ∷ t) (take_then_drop n xs)

-- a child, by what it took first and then
child_is : (m : Block → ℕ → Bool) (n : ℕ) (c : Block) (most : ℕ) (list begun more : List Member) (child_most : ℕ) (mid new : List Member)
    → begun ≡ take (most + 1) list → more ≡ drop (most + 1) list → mid ≡ [] ++ members_met m c begun → child_most ≡ max n (length mid) → new ≡ mid ++ members_met m c more
    → IsChildOf m n c most list child_most new
child_is m n c most list begun more child_most mid new b d h k j =
    let f : Member → Bool = λ i. m c i.0 in record {
      keeps = k ∙ ap (λ t. max n (length t)) (h ∙ ap (filter f) (b ∙ ap (λ t. take t list) (add-one most)));
      part_is = j ∙ (ap (λ t. t ++ filter f more) h
          ∙ (sym (filter_of_both f begun more) ∙ ap (filter f) (ap (λ t. t ++ more) b ∙ (ap (λ t. take (most + 1) list ++ t) d ∙ take_then_drop (most + 1) list))));
    }

-- all of a list are taken
all_taken : (n : ℕ) (xs : List Member) → length xs ≤ n → take n xs ≡ xs
all_taken zero [] l = refl
all_taken (suc n) [] l = refl
all_taken zero (x ∷ xs) l = absurd (omega (arith, l))
all_taken (suc n) (x ∷ xs) l = ap (λ t. x ∷ t) (all_taken n xs (omega (arith, l)))

pub parts_end : (m : Block → ℕ → Bool) (b : Block) (n : ℕ) (list : List Member) (base now : Parts) → length list ≤ n → PartsTake m b (take n list) base now → PartsTake m b list base now
parts_end m b n list base now l h = (let P : List Member → Type 0 = λ xs. PartsTake m b xs base now in subst P (all_taken n list l) h)

-- some members of a block, the first or the others, are members of it

each_take : (P : Member → Type 0) (n : ℕ) (xs : List Member) → Each P xs → Each P (take n xs)
each_take P zero xs h = tt
each_take P (suc n) [] h = tt
each_take P (suc n) (x ∷ xs) h = (h.0, each_take P n xs h.1)

each_drop : (P : Member → Type 0) (n : ℕ) (xs : List Member) → Each P xs → Each P (drop n xs)
each_drop P zero xs h = h
each_drop P (suc n) [] h = tt
each_drop P (suc n) (x ∷ xs) h = each_drop P n xs h.1

pub begun_are : (rows : List (ℕ × Shape)) (m : Block → ℕ → Bool) (b : Block) (n : ℕ) (list begun : List Member) → begun ≡ take n list → AreMembersIn rows m b list → AreMembersIn rows m b begun
begun_are rows m b n list begun e h =
    let P : Member → Type 0 = λ i. IsMemberOf rows i × (m b i.0 ≡ true) in
    subst (Each P) (sym e) (each_take P n list h)

pub more_are : (rows : List (ℕ × Shape)) (m : Block → ℕ → Bool) (b : Block) (n : ℕ) (list more : List Member) → more ≡ drop n list → AreMembersIn rows m b list → AreMembersIn rows m b more
more_are rows m b n list more e h =
    let P : Member → Type 0 = λ i. IsMemberOf rows i × (m b i.0 ≡ true) in
    subst (Each P) (sym e) (each_drop P n list h)

-- one member more, over pages that nothing has changed
pub taken_step : (rows : PageMap → List (ℕ × Shape)) (p q : PageMap) → p ≡ q → (m : Block → ℕ → Bool) (b : Block) (list : List Member) (k : ℕ) (d : Member) → k < length list → (met : QuartersMet)
    (base old new : Parts) → (TellsRows (rows p) m → IsMemberOf (rows p) (get_or list k d) → m b (get_or list k d).0 ≡ true → AreQuartersMet m b (get_or list k d).0 met)
    → TellsRows (rows q) m → AreMembersIn (rows q) m b list → PartsTake m b (take k list) base old → TakesIn met (get_or list k d) old new → PartsTake m b (take (k + 1) list) base new
taken_step rows p q e m b list k d lt met base old new f tells are taken one =
    let x : Member = get_or list k d in
    let P : PageMap → Type 0 = λ o. TellsRows (rows o) m → IsMemberOf (rows o) x → m b x.0 ≡ true → AreQuartersMet m b x.0 met in
    let here = each_at (λ (i : Member). IsMemberOf (rows q) i × (m b i.0 ≡ true)) list k d lt are in
    parts_step m b list k d lt met base old new (subst P e f tells here.0 here.1) taken one

-- nothing is in a part yet
pub record AreEmpty (parts : Parts) : Type 0 where
  pub first : parts.first.items ≡ []
  pub second : parts.second.items ≡ []
  pub third : parts.third.items ≡ []
  pub fourth : parts.fourth.items ≡ []

pub divided_is : (m : Block → ℕ → Bool) (n : ℕ) (b : Block) (most : ℕ) (list begun more : List Member) (empty mid new : Parts) (mosts : Mosts) → begun ≡ take (most + 1) list
    → more ≡ drop (most + 1) list → AreEmpty empty → PartsTake m b begun empty mid → HaveMost n mid mosts → PartsTake m b more mid new
    → AreDivided m n b most list (record { parts = new; mosts = mosts })
divided_is m n b most list begun more empty mid new mosts is rest e h k j = record {
  first = child_is m n (child b 0) most list begun more mosts.first mid.first.items new.first.items is rest (h.first ∙ ap (λ t. t ++ members_met m (child b 0) begun) e.first) k.first j.first;
  second = child_is m n (child b 1) most list begun more mosts.second mid.second.items new.second.items is rest (h.second ∙ ap (λ t. t ++ members_met m (child b 1) begun) e.second) k.second j.second;
  third = child_is m n (child b 2) most list begun more mosts.third mid.third.items new.third.items is rest (h.third ∙ ap (λ t. t ++ members_met m (child b 2) begun) e.third) k.third j.third;
  fourth = child_is m n (child b 3) most list begun more mosts.fourth mid.fourth.items new.fourth.items is rest (h.fourth ∙ ap (λ t. t ++ members_met m (child b 3) begun) e.fourth) k.fourth j.fourth;
}
