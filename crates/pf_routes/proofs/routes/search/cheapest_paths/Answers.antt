use Rattle.std.proofs.Common.{◌==◌, inr, refl, ap, Err}
use Rattle.pf_yen.specs.KCheapest.{paths_in}
use Rattle.pf_routes.proofs.TableGraph.{past_answer, past_path, ranked_answer}
use Rattle.pf_routes.proofs.routes.search.cheapest_paths.Goals as goal

pub returns-in-Ok-clause-ok : goal.returns-in-Ok-clause-ok
returns-in-Ok-clause-ok g c = ranked_answer c.args.graph.now c.args.from c.args.to (λ n. n == c.args.to) c.args.count (paths_in c.in-Ok.paths.items) c.in-Ok.ensures.cheapest

pub returns-in-Err-CostOverflow-clause-err : goal.returns-in-Err-CostOverflow-clause-err
returns-in-Err-CostOverflow-clause-err g c =
    let graph = c.args.graph.now in
    let e = c.in-Err-CostOverflow.ensures in
    let told = ap Err c.in-Err-CostOverflow.field-0-is in
    inr (refl, e.some_asked told, past_path graph c.args.from c.args.to (λ n. n == c.args.to) (e.overflow told), λ one. past_answer graph c.args.from c.args.to (λ n. n == c.args.to) (e.first_overflow told one))
