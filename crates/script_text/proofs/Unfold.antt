-- A plan is read as its body, and a query by its word.
use Rattle.std.proofs.Common.{◌≡◌, ℕ, List, false, Result, Ok, Err, ap, ◌∙◌, subst}
use Rattle.std.specs.Prelude.{codes}
use Rattle.std.proofs.lemmas.Bool.{cond-true, cond-false}
use Rattle.script_text.specs.Accepting.{IsTokenTaken, IsPassed}
use Rattle.statements.specs.declared.plan.Plan.{Plan}
use Rattle.script_text.specs.declared.stuck.Stuck.{Stuck}
use Rattle.script_text.specs.declared.stuck.Stuck.TheVariants as stuck
use Rattle.script_text.specs.Form.{a_plan, a_word, head_fits, rule}
use Rattle.script_text.specs.Grammar.{reading}
use Rattle.statements.specs.Plan.{plan_value}
use Rattle.script_text.specs.Reading.{TokenState, GivesAs, bind, go_on, pure}
use Rattle.statements.specs.Statement.{statement_value}
use Rattle.statements.specs.declared.statement.Statement.{Statement}
use Rattle.script_text.specs.Rules.{plan_form, rank_rest, knn_rest, near_rest, far_rest, query_form}
use Rattle.script_text.proofs.Depth.{rule-body}
use Rattle.script_text.proofs.ListReading.{gives-same}

-- a plan is read as one of the operators
pub plan_unfolds : (s : TokenState) → reading (rule a_plan) s ≡ reading plan_form s
plan_unfolds s = rule-body a_plan s

-- behind its word a `rank` is read
rank-unfolds : (s u : TokenState) → head_fits (a_word (codes "scan")) s.left ≡ false → IsTokenTaken (a_word (codes "rank")) s u → reading (rule a_plan) s ≡ reading rank_rest u
rank-unfolds s u other is =
    plan_unfolds s ∙ cond-false (head_fits (a_word (codes "scan")) s.left) _ _ other ∙ cond-true (head_fits (a_word (codes "rank")) s.left) _ _ is.fits
    ∙ ap (λ r. go_on r (λ v. bind (reading rank_rest) (λ x. pure x))) is.taken ∙ gives-same (reading rank_rest u)

-- so the plan is what is read there
pub rank-given : (s u new : TokenState) (r : Result Plan Stuck) → head_fits (a_word (codes "scan")) s.left ≡ false → IsTokenTaken (a_word (codes "rank")) s u
    → GivesAs plan_value (reading rank_rest) u new r → GivesAs plan_value (reading (rule a_plan)) s new r
rank-given s u new (Ok plan) other is e = rank-unfolds s u other is ∙ e
rank-given s u new (Err stuck.Here) other is e = rank-unfolds s u other is ∙ e
rank-given s u new (Err stuck.Memory) other is e = tt

-- behind its word a `knn` is read
knn-unfolds : (s u : TokenState) → head_fits (a_word (codes "scan")) s.left ≡ false → head_fits (a_word (codes "rank")) s.left ≡ false → head_fits (a_word (codes "window")) s.left ≡ false
    → head_fits (a_word (codes "pick")) s.left ≡ false → head_fits (a_word (codes "join")) s.left ≡ false → head_fits (a_word (codes "semi")) s.left ≡ false
    → IsTokenTaken (a_word (codes "knn")) s u → reading (rule a_plan) s ≡ reading knn_rest u
knn-unfolds s u scan rank window pick join semi is =
    plan_unfolds s ∙ cond-false (head_fits (a_word (codes "scan")) s.left) _ _ scan ∙ cond-false (head_fits (a_word (codes "rank")) s.left) _ _ rank
    ∙ cond-false (head_fits (a_word (codes "window")) s.left) _ _ window ∙ cond-false (head_fits (a_word (codes "pick")) s.left) _ _ pick
    ∙ cond-false (head_fits (a_word (codes "join")) s.left) _ _ join ∙ cond-false (head_fits (a_word (codes "semi")) s.left) _ _ semi
    ∙ cond-true (head_fits (a_word (codes "knn")) s.left) _ _ is.fits
    ∙ ap (λ r. go_on r (λ v. bind (reading knn_rest) (λ x. pure x))) is.taken ∙ gives-same (reading knn_rest u)

-- where none of the words before it came
pub knn-given : (s a b c d e f u new : TokenState) (r : Result Plan Stuck) → IsPassed (a_word (codes "scan")) s a → IsPassed (a_word (codes "rank")) a b → IsPassed (a_word (codes "window")) b c
    → IsPassed (a_word (codes "pick")) c d → IsPassed (a_word (codes "join")) d e → IsPassed (a_word (codes "semi")) e f → IsTokenTaken (a_word (codes "knn")) f u
    → GivesAs plan_value (reading knn_rest) u new r → GivesAs plan_value (reading (rule a_plan)) s new r
knn-given s a b c d e f u new r scan rank window pick join semi is = gives r
  where
    second : b ≡ s
    second = rank.same ∙ scan.same

    third : c ≡ s
    third = window.same ∙ second

    fourth : d ≡ s
    fourth = pick.same ∙ third

    fifth : e ≡ s
    fifth = join.same ∙ fourth

    sixth : f ≡ s
    sixth = semi.same ∙ fifth

    no : (x : TokenState) (w : List ℕ) → x ≡ s → head_fits (a_word w) x.left ≡ false → head_fits (a_word w) s.left ≡ false
    no x w same other = subst (λ (y : TokenState). head_fits (a_word w) y.left ≡ false) same other

    unfolds : reading (rule a_plan) s ≡ reading knn_rest u
    unfolds =
        knn-unfolds s u scan.other (no a (codes "rank") scan.same rank.other) (no b (codes "window") second window.other) (no c (codes "pick") third pick.other)
        (no d (codes "join") fourth join.other) (no e (codes "semi") fifth semi.other) (subst (λ (y : TokenState). IsTokenTaken (a_word (codes "knn")) y u) sixth is)

    gives : (r : Result Plan Stuck) → GivesAs plan_value (reading knn_rest) u new r → GivesAs plan_value (reading (rule a_plan)) s new r
    gives (Ok plan) e = unfolds ∙ e
    gives (Err stuck.Here) e = unfolds ∙ e
    gives (Err stuck.Memory) e = tt

-- behind its word a `near` is read
near-unfolds : (s u : TokenState) → head_fits (a_word (codes "scan")) s.left ≡ false → head_fits (a_word (codes "rank")) s.left ≡ false → head_fits (a_word (codes "window")) s.left ≡ false
    → head_fits (a_word (codes "pick")) s.left ≡ false → head_fits (a_word (codes "join")) s.left ≡ false → head_fits (a_word (codes "semi")) s.left ≡ false
    → head_fits (a_word (codes "knn")) s.left ≡ false → IsTokenTaken (a_word (codes "near")) s u → reading (rule a_plan) s ≡ reading near_rest u
near-unfolds s u scan rank window pick join semi knn is =
    plan_unfolds s ∙ cond-false (head_fits (a_word (codes "scan")) s.left) _ _ scan ∙ cond-false (head_fits (a_word (codes "rank")) s.left) _ _ rank
    ∙ cond-false (head_fits (a_word (codes "window")) s.left) _ _ window ∙ cond-false (head_fits (a_word (codes "pick")) s.left) _ _ pick
    ∙ cond-false (head_fits (a_word (codes "join")) s.left) _ _ join ∙ cond-false (head_fits (a_word (codes "semi")) s.left) _ _ semi
    ∙ cond-false (head_fits (a_word (codes "knn")) s.left) _ _ knn ∙ cond-true (head_fits (a_word (codes "near")) s.left) _ _ is.fits
    ∙ ap (λ r. go_on r (λ v. bind (reading near_rest) (λ x. pure x))) is.taken ∙ gives-same (reading near_rest u)

-- where none of the words before it came
pub near-given : (s a b c d e f g u new : TokenState) (r : Result Plan Stuck) → IsPassed (a_word (codes "scan")) s a → IsPassed (a_word (codes "rank")) a b
    → IsPassed (a_word (codes "window")) b c → IsPassed (a_word (codes "pick")) c d → IsPassed (a_word (codes "join")) d e → IsPassed (a_word (codes "semi")) e f
    → IsPassed (a_word (codes "knn")) f g → IsTokenTaken (a_word (codes "near")) g u
    → GivesAs plan_value (reading near_rest) u new r → GivesAs plan_value (reading (rule a_plan)) s new r
near-given s a b c d e f g u new r scan rank window pick join semi knn is = gives r
  where
    second : b ≡ s
    second = rank.same ∙ scan.same

    third : c ≡ s
    third = window.same ∙ second

    fourth : d ≡ s
    fourth = pick.same ∙ third

    fifth : e ≡ s
    fifth = join.same ∙ fourth

    sixth : f ≡ s
    sixth = semi.same ∙ fifth

    seventh : g ≡ s
    seventh = knn.same ∙ sixth

    no : (x : TokenState) (w : List ℕ) → x ≡ s → head_fits (a_word w) x.left ≡ false → head_fits (a_word w) s.left ≡ false
    no x w same other = subst (λ (y : TokenState). head_fits (a_word w) y.left ≡ false) same other

    unfolds : reading (rule a_plan) s ≡ reading near_rest u
    unfolds =
        near-unfolds s u scan.other (no a (codes "rank") scan.same rank.other) (no b (codes "window") second window.other) (no c (codes "pick") third pick.other)
        (no d (codes "join") fourth join.other) (no e (codes "semi") fifth semi.other) (no f (codes "knn") sixth knn.other)
        (subst (λ (y : TokenState). IsTokenTaken (a_word (codes "near")) y u) seventh is)

    gives : (r : Result Plan Stuck) → GivesAs plan_value (reading near_rest) u new r → GivesAs plan_value (reading (rule a_plan)) s new r
    gives (Ok plan) e = unfolds ∙ e
    gives (Err stuck.Here) e = unfolds ∙ e
    gives (Err stuck.Memory) e = tt

-- behind its word a `far` is read
far-unfolds : (s u : TokenState) → head_fits (a_word (codes "open")) s.left ≡ false → head_fits (a_word (codes "next")) s.left ≡ false → head_fits (a_word (codes "close")) s.left ≡ false
    → head_fits (a_word (codes "show")) s.left ≡ false → head_fits (a_word (codes "stats")) s.left ≡ false → IsTokenTaken (a_word (codes "far")) s u → reading query_form s ≡ reading far_rest u
far-unfolds s u opens next close show stats is =
    cond-false (head_fits (a_word (codes "open")) s.left) _ _ opens ∙ cond-false (head_fits (a_word (codes "next")) s.left) _ _ next
    ∙ cond-false (head_fits (a_word (codes "close")) s.left) _ _ close ∙ cond-false (head_fits (a_word (codes "show")) s.left) _ _ show
    ∙ cond-false (head_fits (a_word (codes "stats")) s.left) _ _ stats ∙ cond-true (head_fits (a_word (codes "far")) s.left) _ _ is.fits
    ∙ ap (λ r. go_on r (λ v. bind (reading far_rest) (λ x. pure x))) is.taken ∙ gives-same (reading far_rest u)

-- where none of the words before it came
pub far-given : (s a b c d e u new : TokenState) (r : Result Statement Stuck) → IsPassed (a_word (codes "open")) s a → IsPassed (a_word (codes "next")) a b → IsPassed (a_word (codes "close")) b c
    → IsPassed (a_word (codes "show")) c d → IsPassed (a_word (codes "stats")) d e → IsTokenTaken (a_word (codes "far")) e u
    → GivesAs statement_value (reading far_rest) u new r → GivesAs statement_value (reading query_form) s new r
far-given s a b c d e u new r opens next close show stats is = gives r
  where
    second : b ≡ s
    second = next.same ∙ opens.same

    third : c ≡ s
    third = close.same ∙ second

    fourth : d ≡ s
    fourth = show.same ∙ third

    fifth : e ≡ s
    fifth = stats.same ∙ fourth

    no : (x : TokenState) (w : List ℕ) → x ≡ s → head_fits (a_word w) x.left ≡ false → head_fits (a_word w) s.left ≡ false
    no x w same other = subst (λ (y : TokenState). head_fits (a_word w) y.left ≡ false) same other

    unfolds : reading query_form s ≡ reading far_rest u
    unfolds =
        far-unfolds s u opens.other (no a (codes "next") opens.same next.other) (no b (codes "close") second close.other) (no c (codes "show") third show.other)
        (no d (codes "stats") fourth stats.other) (subst (λ (y : TokenState). IsTokenTaken (a_word (codes "far")) y u) fifth is)

    gives : (r : Result Statement Stuck) → GivesAs statement_value (reading far_rest) u new r → GivesAs statement_value (reading query_form) s new r
    gives (Ok statement) e = unfolds ∙ e
    gives (Err stuck.Here) e = unfolds ∙ e
    gives (Err stuck.Memory) e = tt
