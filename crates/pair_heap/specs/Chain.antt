-- Chains of trees, as a pairing heap links them: each node leads to its first child and to the tree that follows it.
use denote.RawPtr.{Ptr, coded_ptr}
use Rattle.std.specs.Prelude.{◌≡◌, List, [], ◌∷◌, ◌++◌, Option, Some, None, refl}
use Rattle.std.proofs.Common.{◌∙◌, ap}
use Rattle.std.specs.Coded.{Coded, code_by, coded×, coded_list, coded_option}

-- no tree, or a place with its item over the chain of its children's trees, and then the rest
pub data Chain (X : Type 0) : Type 0 where
  end : Chain X
  link : (p : Ptr) (x : X) (kids : Chain X) (rest : Chain X) → Chain X

-- the items of a chain, each tree's own before those below it
abbrev pub items : {X : Type 0} → Chain X → List X
items end = []
items (link p x kids rest) = x ∷ (items kids ++ items rest)

-- the places of a chain's nodes, in the order of their items
abbrev pub chain_places : {X : Type 0} → Chain X → List Ptr
chain_places end = []
chain_places (link p x kids rest) = p ∷ (chain_places kids ++ chain_places rest)

-- A chain as a list of marks before the others: what stands below and behind a node comes first, and None is an end.
abbrev pub chain_written : {X : Type 0} → Chain X → List (Option (Ptr × X)) → List (Option (Ptr × X))
chain_written end marks = None ∷ marks
chain_written (link p x kids rest) marks = chain_written kids (chain_written rest (Some (p, x) ∷ marks))

-- The chain on top of a stack.
abbrev pub top : {X : Type 0} → List (Chain X) → Chain X
top [] = end
top (c ∷ stack) = c

-- Reads marks over a stack of chains, where a node takes the two on top.
abbrev pub run : {X : Type 0} → List (Option (Ptr × X)) → List (Chain X) → List (Chain X)
run [] stack = stack
run (None ∷ marks) stack = run marks (end ∷ stack)
run (Some n ∷ marks) [] = []
run (Some n ∷ marks) (rest ∷ []) = []
run (Some n ∷ marks) (rest ∷ (kids ∷ stack)) = run marks (link n.0 n.1 kids rest ∷ stack)

-- a chain that is written out is read back
pub run_written : {X : Type 0} (c : Chain X) (marks : List (Option (Ptr × X))) (stack : List (Chain X)) → run (chain_written c marks) stack ≡ run marks (c ∷ stack)
run_written end marks stack = refl
run_written (link p x kids rest) marks stack = run_written kids (chain_written rest (Some (p, x) ∷ marks)) stack ∙ run_written rest (Some (p, x) ∷ marks) (kids ∷ stack)

-- a chain is stored as its marks
abbrev pub chain_code : {X : Type 0} → Coded X → Coded (Chain X)
chain_code {X} x = code_by (List (Option (Ptr × X))) (coded_list (coded_option (coded× coded_ptr x))) (λ c. chain_written c []) (λ marks. top (run marks [])) (λ c. ap top (run_written c [] []))
