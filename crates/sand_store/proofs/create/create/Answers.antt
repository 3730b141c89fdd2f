-- a check refuses, the command is carried out, or it is refused
use Rattle.std.proofs.Common.{◌∙◌, sym, ap, subst, ℕ, List, ◌≡◌, None}
use Rattle.sand_store.specs.Steps.{create_check, AddsRelation}
use Rattle.sand_store.proofs.Creates.{created_store, created_is}
use Rattle.sand_store.proofs.Refusals.{create_refused, create_stopped}
use Rattle.sand_store.proofs.create.create.Goals as goal

pub returns-in-Some-clause-refused : goal.returns-in-Some-clause-refused
returns-in-Some-clause-refused g c =
    create_refused c.args.pool.now c.args.relations.now.items c.args.limits c.args.name.now c.args.schema c.in-Some.why
    (ap (λ xs. create_check xs c.args.name.now c.args.schema) (sym c.deref.ensures.value) ∙ (sym c.refused.ensures ∙ c.in-Some.is))

pub returns-in-Ok-add-clause-store : goal.returns-in-Ok-add-clause-store
returns-in-Ok-add-clause-store g c =
    let A : List ℕ → Type 0 = λ n. AddsRelation c.args.pool.now c.add.new.pool c.args.relations.now.items c.add.new.relations.items n c.args.schema in
    let passes : create_check c.args.relations.now.items c.args.name.now c.args.schema ≡ None =
    ap (λ xs. create_check xs c.args.name.now c.args.schema) (sym c.deref.ensures.value) ∙ (sym c.refused.ensures ∙ c.in-None.is) in
    created_store c.args.pool.now c.add.new.pool c.args.relations.now.items c.add.new.relations.items c.args.limits c.args.name.now c.args.schema
    c.requires.store c.requires.schema passes (subst A c.in-Ok.ensures c.in-Ok-add.ensures.added) c.in-Ok-add.ensures.told c.in-Ok-add.ensures.closed

pub returns-in-Ok-add-clause-created : goal.returns-in-Ok-add-clause-created
returns-in-Ok-add-clause-created g c =
    let A : List ℕ → Type 0 = λ n. AddsRelation c.args.pool.now c.add.new.pool c.args.relations.now.items c.add.new.relations.items n c.args.schema in
    let passes : create_check c.args.relations.now.items c.args.name.now c.args.schema ≡ None =
    ap (λ xs. create_check xs c.args.name.now c.args.schema) (sym c.deref.ensures.value) ∙ (sym c.refused.ensures ∙ c.in-None.is) in
    created_is c.args.pool.now c.add.new.pool c.args.relations.now.items c.add.new.relations.items c.args.limits c.args.name.now c.args.schema
    c.requires.store passes (subst A c.in-Ok.ensures c.in-Ok-add.ensures.added)

pub returns-in-Err-clause-refused : goal.returns-in-Err-clause-refused
returns-in-Err-clause-refused g c =
    create_stopped c.args.pool.now c.args.relations.now.items c.args.limits c.args.name.now c.args.schema c.in-Err.why
    (ap (λ xs. create_check xs c.args.name.now c.args.schema) (sym c.deref.ensures.value) ∙ (sym c.refused.ensures ∙ c.in-None.is)) c.in-Err.ensures.outside
