use Rattle.std.proofs.Common.{pos, ◌==◌, inr, refl, ap, Err}
use Rattle.pf_routes.proofs.TableGraph.{cheapest_answer, past_answer}
use Rattle.pf_routes.proofs.routes.search.cheapest_path.Goals as goal

pub returns-in-Ok-clause-ok : goal.returns-in-Ok-clause-ok
returns-in-Ok-clause-ok g c = cheapest_answer c.args.graph.now c.args.from c.args.to (λ n. n == c.args.to) (λ found. found.0.items) (λ found. pos found.1) c.in-Ok.answer c.in-Ok.ensures.best

pub returns-in-Err-CostOverflow-clause-err : goal.returns-in-Err-CostOverflow-clause-err
returns-in-Err-CostOverflow-clause-err g c = inr (refl, past_answer c.args.graph.now c.args.from c.args.to (λ n. n == c.args.to) (c.in-Err-CostOverflow.ensures.overflow (ap Err c.in-Err-CostOverflow.field-0-is)))
