-- Nothing was given, so the whole answer is left, and all rows are to come.
use Rattle.std.proofs.Common.{◌∙◌, ap}
use Rattle.sand_model.specs.Sources.{nearest_of}
use Rattle.knn_join.proofs.Counting.{all_left}
use Rattle.knn_join.proofs.Turns.{stands_begun}
use Rattle.knn_join.proofs.knn.Knn.start.Goals as goal

pub returns-clause-rest : goal.returns-clause-rest
returns-clause-rest g c = λ answer.
    all_left answer c.args.engine.frontier.last c.in_ok-partners.partners c.requires.none_given c.in_ok-partners.ensures.none_given
    ∙ ap (λ k. nearest_of k answer) c.in_ok-partners.ensures.most

pub returns-clause-stands : goal.returns-clause-stands
returns-clause-stands g c = λ p stands sides.
    let counts = c.in_ok-partners.partners in
    let e = c.in_ok-partners.ensures in
    stands_begun g.H.Node.Ord.cmp (g.H.Hierarchy.meaning c.args.engine.hierarchy p)
    (g.Q.Queue.held c.args.engine.frontier.queue) c.args.engine.frontier.last counts c.args.k c.args.lefts c.args.rights c.args.greatest
    c.requires.none_given e.most e.none_given e.places e.waiting stands sides
