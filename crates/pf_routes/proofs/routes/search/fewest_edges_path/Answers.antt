use Rattle.std.proofs.Common.{◌==◌}
use Rattle.pf_routes.proofs.TableGraph.{fewest_answer}
use Rattle.pf_routes.proofs.routes.search.fewest_edges_path.Goals as goal

pub returns-in-Ok-clause-ok : goal.returns-in-Ok-clause-ok
returns-in-Ok-clause-ok g c = fewest_answer c.args.graph.now c.args.from c.args.to (λ n. n == c.args.to) (λ path. path.items) c.in-Ok.answer c.in-Ok.ensures.best
