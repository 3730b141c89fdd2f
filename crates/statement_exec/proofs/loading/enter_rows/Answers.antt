-- the rows that a load read, or a refusal of one of them, are its outcome
use Rattle.std.proofs.Common.{ℕ, List, subst, sym, ◌∙◌}
use Rattle.sand_store.specs.Calls.{Loaded, LoadIsRefusedBy, IsRefusedPlainly}
use Rattle.statement_exec.proofs.LoadCalls.{loaded_call, refused_load, not_of_file, shelf_stays}
use Rattle.statement_exec.proofs.loading.enter_rows.Goals as goal

pub returns-in-Ok-clause-performs : goal.returns-in-Ok-clause-performs
returns-in-Ok-clause-performs g c = λ load named files shelf cs given.
    loaded_call c.args.store.now c.load_rows.new.self load cs files files shelf shelf c.args.rows.items c.in-Ok.count given
    (subst (λ (n : List ℕ). Loaded c.args.store.now c.load_rows.new.self n c.args.rows.items c.in-Ok.count) (c.as_str.ensures ∙ sym named) c.in-Ok.ensures.loaded)

pub returns-in-Err-clause-performs : goal.returns-in-Err-clause-performs
returns-in-Err-clause-performs g c = λ load named files shelf cs given.
    refused_load c.args.store.now c.load_rows.new.self load cs files files shelf shelf c.args.rows.items c.in-Err.why given
    (subst (λ (n : List ℕ). LoadIsRefusedBy c.args.store.now n c.args.rows.items c.in-Err.why) (c.as_str.ensures ∙ sym named) c.in-Err.ensures.refused)
    (subst (λ (n : List ℕ). IsRefusedPlainly c.args.store.now n c.args.rows.items c.in-Err.why) (c.as_str.ensures ∙ sym named) c.in-Err.ensures.plain)
    c.in-Err.ensures.unchanged c.in-Err.ensures.cause

pub returns-in-Err-clause-of_no_file : goal.returns-in-Err-clause-of_no_file
returns-in-Err-clause-of_no_file g c = λ n.
    sym (shelf_stays n c.in-Err.why (not_of_file c.args.store.now c.as_str.result.now c.args.rows.items c.in-Err.why c.in-Err.ensures.refused))

pub returns-in-Ok-clause-loaded : goal.returns-in-Ok-clause-loaded
returns-in-Ok-clause-loaded g c =
    (c.in-Ok.count, subst (λ (n : List ℕ). Loaded c.args.store.now c.load_rows.new.self n c.args.rows.items c.in-Ok.count) c.as_str.ensures c.in-Ok.ensures.loaded)
