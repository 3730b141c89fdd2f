-- What holds of all relations holds of the one that a search finds.
use Rattle.std.proofs.Common.{◌≡◌, Bool, true, false, cond, List, [], ◌∷◌, ℕ, Option, Some, None, IfSome, refl, sym, ◌∙◌, ap, subst, All, true≢false}
use Rattle.std.specs.Prelude.{is_some}
use Rattle.std.specs.List.{find}
use Rattle.std.specs.Option.{option_map}
use Rattle.std.proofs.lemmas.List.Elements.{All-head, All-tail}
use Rattle.page_pool.specs.Disk.{PageMap}
use Rattle.sand_model.specs.Database.{relation_named}
use Rattle.sand_store.specs.Catalog.{RelationView, is_named}
use Rattle.sand_store.specs.Contents.{relation_in, database_in}
use Rattle.sand_store.proofs.ColumnsOfShapes.{some_same}
use Rattle.sand_store.proofs.Places.{named_in}

find_holds : (P : RelationView → Type 0) (p : RelationView → Bool) (rs : List RelationView) (r : RelationView) → All P rs → find p rs ≡ Some r → P r
find_holds P p [] r h e = absurd (true≢false (sym (ap (λ (o : Option RelationView). is_some o) e)))
find_holds P p (x ∷ rs) r h e =
    let go : (b : Bool) → cond b (Some x) (find p rs) ≡ Some r → P r =
    elim [ true ↦ λ k. subst P (some_same x r k) (All-head P x rs h) | false ↦ λ k. find_holds P p rs r (All-tail P x rs h) k ] in
    go (p x) e

pub found_holds : {A : Type 0} (P : RelationView → Type 0) (seen : A → RelationView) (p : RelationView → Bool) (rs : List RelationView) (o : Option A) → option_map seen o ≡ find p rs → All P rs
    → IfSome o (λ a. P (seen a))
found_holds P seen p rs None e h = tt
found_holds P seen p rs (Some a) e h = find_holds P p rs (seen a) h (sym e)

twice_mapped : {A B C : Type 0} (f : A → B) (g : B → C) (o : Option A) → option_map g (option_map f o) ≡ option_map (λ a. g (f a)) o
twice_mapped f g None = refl
twice_mapped f g (Some a) = refl

pub found_in : {A : Type 0} (m : PageMap) (seen : A → RelationView) (name : List ℕ) (rs : List RelationView) (o : Option A) → option_map seen o ≡ find (is_named name) rs
    → relation_named (database_in m rs) name ≡ option_map (λ a. relation_in m (seen a)) o
found_in m seen name rs o e = named_in m rs name ∙ (ap (λ (x : Option RelationView). option_map (relation_in m) x) (sym e) ∙ twice_mapped seen (relation_in m) o)

-- a fact that follows from one more holds of what is found
pub some_given : {A B : Type 0} (P : B → A → Type 0) (o : Option A) → ((b : B) → IfSome o (P b)) → IfSome o (λ a. (b : B) → P b a)
some_given P None h = tt
some_given P (Some a) h = λ b. h b
