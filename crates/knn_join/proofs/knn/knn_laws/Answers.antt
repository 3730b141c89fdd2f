-- With one partner each the rows are the first of each left id.
use Rattle.knn_join.proofs.Nearests.{one_is_semi}
use Rattle.knn_join.proofs.knn.knn_laws.Goals as goal

pub returns : goal.returns
returns c = one_is_semi
