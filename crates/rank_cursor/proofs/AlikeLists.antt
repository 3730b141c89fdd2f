-- Lists of items that stand for the same, one by one.
use Rattle.std.proofs.Common.{◌≡◌, ℕ, ◌+◌, ◌<◌, List, [], ◌∷◌, ◌++◌, length, take, get_or, map, flat_map, refl, sym, ap, ◌∙◌, subst, append-nil, append_assoc}
use Rattle.std.proofs.lemmas.List.{take_more}
use Rattle.std.proofs.lemmas.List.Concat.{flat_map-append}
use Rattle.std.specs.List.{AllZip}
use Rattle.best_first.specs.Hierarchy.{FindsAlike}
use Rattle.best_first.specs.Item.{IsAlike}
use Rattle.best_first.specs.declared.item.Item.{Item}
use Rattle.best_first.specs.declared.item.Item.TheVariants.{Node, Rough, Row}
use Rattle.best_first.proofs.Gaps.{same_itself, same_trans}
use Rattle.rank_cursor.proofs.Elements.{map_append}

pub alike_itself : {N : Type 0} (x : Item N) → IsAlike x x
alike_itself (Node g a) = (same_itself g, refl)
alike_itself (Rough g l r) = (same_itself g, refl, refl)
alike_itself (Row g l r) = (same_itself g, refl, refl)

pub alike_trans : {N : Type 0} (x y z : Item N) → IsAlike x y → IsAlike y z → IsAlike x z
alike_trans (Node g ng) (Node h nh) (Node i ni) e f = (same_trans g h i e.0 f.0, e.1 ∙ f.1)
alike_trans (Node g ng) (Node h nh) (Rough i li ri) e f = absurd f
alike_trans (Node g ng) (Node h nh) (Row i li ri) e f = absurd f
alike_trans (Node g ng) (Rough h lh rh) z e f = absurd e
alike_trans (Node g ng) (Row h lh rh) z e f = absurd e
alike_trans (Rough g lg rg) (Node h nh) z e f = absurd e
alike_trans (Rough g lg rg) (Rough h lh rh) (Node i ni) e f = absurd f
alike_trans (Rough g lg rg) (Rough h lh rh) (Rough i li ri) e f = (same_trans g h i e.0 f.0, e.1 ∙ f.1, e.2 ∙ f.2)
alike_trans (Rough g lg rg) (Rough h lh rh) (Row i li ri) e f = absurd f
alike_trans (Rough g lg rg) (Row h lh rh) z e f = absurd e
alike_trans (Row g lg rg) (Node h nh) z e f = absurd e
alike_trans (Row g lg rg) (Rough h lh rh) z e f = absurd e
alike_trans (Row g lg rg) (Row h lh rh) (Node i ni) e f = absurd f
alike_trans (Row g lg rg) (Row h lh rh) (Rough i li ri) e f = absurd f
alike_trans (Row g lg rg) (Row h lh rh) (Row i li ri) e f = (same_trans g h i e.0 f.0, e.1 ∙ f.1, e.2 ∙ f.2)

pub all_alike_itself : {N : Type 0} (xs : List (Item N)) → AllZip IsAlike xs xs
all_alike_itself [] = tt
all_alike_itself (x ∷ xs) = (alike_itself x, all_alike_itself xs)

pub all_alike_trans : {N : Type 0} (xs ys zs : List (Item N)) → AllZip IsAlike xs ys → AllZip IsAlike ys zs → AllZip IsAlike xs zs
all_alike_trans [] [] [] h k = tt
all_alike_trans [] [] (z ∷ zs) h k = absurd k
all_alike_trans [] (y ∷ ys) zs h k = absurd h
all_alike_trans (x ∷ xs) [] zs h k = absurd h
all_alike_trans (x ∷ xs) (y ∷ ys) [] h k = absurd k
all_alike_trans (x ∷ xs) (y ∷ ys) (z ∷ zs) h k = (alike_trans x y z h.0 k.0, all_alike_trans xs ys zs h.1 k.1)

pub all_alike_append : {N : Type 0} (xs ys vs ws : List (Item N)) → AllZip IsAlike xs ys → AllZip IsAlike vs ws → AllZip IsAlike (xs ++ vs) (ys ++ ws)
all_alike_append [] [] vs ws h k = k
all_alike_append [] (y ∷ ys) vs ws h k = absurd h
all_alike_append (x ∷ xs) [] vs ws h k = absurd h
all_alike_append (x ∷ xs) (y ∷ ys) vs ws h k = (h.0, all_alike_append xs ys vs ws h.1 k)

-- what was found stands for what is found elsewhere
pub found_elsewhere : {N : Type 0} (finds others old new : List (Item N)) → AllZip IsAlike finds others → FindsAlike finds old new → FindsAlike others old new
found_elsewhere finds others old new h k = record { found = k.found; adds = k.adds; alike = all_alike_trans k.found finds others k.alike h }

-- what one more element gives was added
pub one_more : {X N : Type 0} (f : X → List (Item N)) (xs : List X) (i : ℕ) (d : X) (old new : List (Item N)) → i < length xs → AllZip IsAlike old (flat_map f (take i xs))
    → FindsAlike (f (get_or xs i d)) old new → AllZip IsAlike new (flat_map f (take (i + 1) xs))
one_more {X} {N} f xs i d old new below so_far found =
    let x = get_or xs i d in
    let all : flat_map f (take (i + 1) xs) ≡ flat_map f (take i xs) ++ (f x ++ []) =
    ap (flat_map f) (take_more xs i d below) ∙ flat_map-append f (take i xs) (x ∷ []) in
    subst (AllZip IsAlike new) (sym (all ∙ ap (λ l. flat_map f (take i xs) ++ l) (append-nil (f x))))
    (subst (λ l. AllZip IsAlike l (flat_map f (take i xs) ++ f x)) (sym found.adds)
    (all_alike_append old (flat_map f (take i xs)) found.found (f x) so_far found.alike))

-- ---- loops that add

-- nothing was added yet
pub none_added : {N : Type 0} (old new : List (Item N)) → new ≡ old → FindsAlike [] old new
none_added old new same = record { found = []; adds = same ∙ sym (append-nil old); alike = tt }

both_added : {X : Type 0} (first old new found more : List X) → old ≡ first ++ found → new ≡ old ++ more → new ≡ first ++ (found ++ more)
both_added first old new found more h k = k ∙ ap (λ l. l ++ more) h ∙ append_assoc first found more

-- what one more element gives was added
pub one_added : {X N : Type 0} (f : X → List (Item N)) (xs : List X) (i : ℕ) (d : X) (first old new : List (Item N)) → i < length xs
    → FindsAlike (flat_map f (take i xs)) first old → FindsAlike (f (get_or xs i d)) old new → FindsAlike (flat_map f (take (i + 1) xs)) first new
one_added f xs i d first old new below h k = record {
  found = h.found ++ k.found;
  adds = both_added first old new h.found k.found h.adds k.adds;
  alike = one_more f xs i d h.found (h.found ++ k.found) below h.alike (record { found = k.found; adds = refl; alike = k.alike });
}

-- one more item was pushed
pub one_pushed : {X N : Type 0} (f : X → Item N) (xs : List X) (i : ℕ) (d : X) (first old new : List (Item N)) (pushed : Item N) → i < length xs
    → FindsAlike (map f (take i xs)) first old → IsAlike pushed (f (get_or xs i d)) → new ≡ old ++ pushed ∷ [] → FindsAlike (map f (take (i + 1) xs)) first new
one_pushed f xs i d first old new pushed below h same is = record {
  found = h.found ++ pushed ∷ [];
  adds = both_added first old new h.found (pushed ∷ []) h.adds is;
  alike = subst (AllZip IsAlike (h.found ++ pushed ∷ [])) (sym (ap (map f) (take_more xs i d below) ∙ map_append f (take i xs) (get_or xs i d ∷ [])))
      (all_alike_append h.found (map f (take i xs)) (pushed ∷ []) (f (get_or xs i d) ∷ []) h.alike (same, tt));
}
