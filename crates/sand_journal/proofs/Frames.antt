-- The lengths of records, and one record more behind others.
use Rattle.std.proofs.Common.{◌≡◌, ℕ, ◌+◌, ◌-◌, List, [], ◌∷◌, ◌++◌, length, sym, ◌∙◌, ap, subst, arith, append_assoc, length-append}
use Rattle.std.proofs.lemmas.List.{append-nil, take_at}
use Rattle.std.specs.List.{AllByRecursion}
use Rattle.sand_journal.specs.Images.{IsShort, framed, records}
use Rattle.sand_journal.specs.Record.{IsEntry, body_in}

-- a frame has four bytes more than its body
pub length-framed : (body : List ℕ) → length (framed body) ≡ length body + 4
unfolding framed
length-framed body = omega arith

-- what is written behind a gate has five
pub length-entry : (body : List ℕ) → length (framed body ++ 0 ∷ []) ≡ length body + 5
length-entry body = omega (arith, length-append (framed body) (0 ∷ []), length-framed body)

-- the body of such bytes
pub body_in-entry : (body : List ℕ) → body_in (framed body ++ 0 ∷ []) ≡ body
unfolding framed
body_in-entry body = take_at body (0 ∷ []) (length (framed body ++ 0 ∷ []) - 5) (omega (arith, length-entry body))

-- such bytes by the body in them
pub entry_is : (bytes : List ℕ) → IsEntry bytes → bytes ≡ framed (body_in bytes) ++ 0 ∷ []
entry_is bytes one = one.2 ∙ ap (λ (body : List ℕ). framed body ++ 0 ∷ []) (sym (ap body_in one.2 ∙ body_in-entry one.0))

-- the body in such bytes is short
pub entry_short : (bytes : List ℕ) → IsEntry bytes → IsShort (body_in bytes)
entry_short bytes one = subst IsShort (sym (ap body_in one.2 ∙ body_in-entry one.0)) one.1

-- they are five more than the body
pub entry_length : (bytes : List ℕ) → IsEntry bytes → length bytes ≡ length (body_in bytes) + 5
entry_length bytes one = ap length (entry_is bytes one) ∙ length-entry (body_in bytes)

-- one record more stands behind the others
pub records-push : (bodies : List (List ℕ)) (body rest : List ℕ) → records (bodies ++ body ∷ []) ++ rest ≡ records bodies ++ 1 ∷ (framed body ++ rest)
records-push [] body rest = ap (λ (l : List ℕ). 1 ∷ (l ++ rest)) (append-nil (framed body))
records-push (b ∷ bodies) body rest =
    ap (λ (l : List ℕ). 1 ∷ l)
    (append_assoc (framed b) (records (bodies ++ body ∷ [])) rest
    ∙ ap (λ (l : List ℕ). framed b ++ l) (records-push bodies body rest)
    ∙ sym (append_assoc (framed b) (records bodies) (1 ∷ (framed body ++ rest))))

-- its gate and length are five bytes
pub length-records-push : (bodies : List (List ℕ)) (body : List ℕ) → length (records (bodies ++ body ∷ [])) ≡ length (records bodies) + length body + 5
length-records-push bodies body =
    let whole : length (records (bodies ++ body ∷ []) ++ []) ≡ length (records bodies ++ 1 ∷ (framed body ++ [])) = ap length (records-push bodies body []) in
    omega (arith, whole, length-append (records (bodies ++ body ∷ [])) [], length-append (records bodies) (1 ∷ (framed body ++ [])), length-append (framed body) [], length-framed body)

-- and all are short
pub short_push : (bodies : List (List ℕ)) (body : List ℕ) → AllByRecursion IsShort bodies → IsShort body → AllByRecursion IsShort (bodies ++ body ∷ [])
short_push [] body all short = (short, tt)
short_push (b ∷ bodies) body all short = (all.0, short_push bodies body all.1 short)
