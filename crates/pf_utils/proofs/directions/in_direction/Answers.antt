use Rattle.pf_utils.proofs.MoveLemmas.{ray_places}
use Rattle.pf_utils.proofs.directions.in_direction.Goals as goal

pub returns : goal.returns
returns c = ray_places c.args.start c.args.direction c.args.dimensions
