-- the index is the column's, and a column without one has no index
use Rattle.std.proofs.Common.{false, refl}
use Rattle.sand_store.specs.Contents.{database_in}
use Rattle.plan_names.specs.Spots.{names_of}
use Rattle.plan_names.proofs.Naming.{lacks}
use Rattle.plan_names.proofs.look_up.LookUp.named.Goals as goal

pub returns-in_default-attribute-clause-none : goal.returns-in_default-attribute-clause-none
returns-in_default-attribute-clause-none c = λ e k pages.
    lacks (database_in pages c.args.catalog.now.relations) (names_of c.args.relation.now c.args.column.now) c.in-Some.spot pages c.args.catalog.now.limits false
    ((rw c.in-Some.is at c.in_ok-spot.ensures.leads) pages) ((rw c.in-Some.is at c.in_ok-spot.ensures.described) k) ((rw c.deref.ensures at c.attribute.ensures.none) c.in_default-attribute.is)

pub returns-clause-found : goal.returns-clause-found
returns-clause-found c = λ pages h.
    let column = (rw c.in-Some.is at c.in_ok-spot.ensures.found) pages h in record {
      is = column;
      holds = record { stands = column.stands; index = (rw c.deref.ensures at c.in-Some-attribute.ensures.index).holds pages column.stands.0 column.stands.1 };
    }
