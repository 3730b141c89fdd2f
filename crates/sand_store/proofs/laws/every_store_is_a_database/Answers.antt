-- relation by relation
use Rattle.sand_store.proofs.Databases.{database_is}
use Rattle.sand_store.proofs.laws.every_store_is_a_database.Goals as goal

pub returns : goal.returns
returns c = λ catalog pool h told gap is. database_is catalog pool h told gap is
