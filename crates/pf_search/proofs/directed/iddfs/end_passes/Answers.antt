use Rattle.std.proofs.Common.{arith}
use Rattle.pf_base.specs.Regions.{along_successors}
use Rattle.pf_search.proofs.SimplePaths.{here_reached, end_told, last_at, has_end}
use Rattle.pf_search.proofs.directed.iddfs.end_passes.Goals as goal

pub overflow_sub-here : goal.overflow_sub-here
overflow_sub-here g c = let r = c.requires in omega (arith, c.len-here.ensures, has_end g.N.PartialEq.eq r.0 r.1 c.args.path.now.items r.4)

pub passes-requires : goal.passes-requires
passes-requires g c =
    let r = c.requires in
    let eq = g.N.PartialEq.eq in
    let at = last_at eq r.0 r.1 c.args.path.now.items c.len-here.result c.index.result.now r.4 (omega (arith, c.len-here.ensures, c.args.path.now.ok)) c.index.ensures in
    record { within = (along_successors r.1 r.0, r.2, here_reached eq g.met.N.Eq.laws r.0 r.1 c.args.path.now.items c.index.result.now r.4 at, r.3) }

pub returns : goal.returns
returns g c = λ next starts test a p.
    let eq = g.N.PartialEq.eq in
    let laws = g.met.N.Eq.laws in
    let path = c.args.path.now.items in
    let here = c.index.result.now in
    let region = along_successors starts next in
    let at = last_at eq next starts path c.len-here.result here p (omega (arith, c.len-here.ensures, c.args.path.now.ok)) c.index.ensures in
    let reach = here_reached eq laws next starts path here p at in
    (c.passes.ensures.goes_on region test reach a, end_told eq laws next starts test path here p at c.passes.result (c.passes.ensures.passed region test reach a))
