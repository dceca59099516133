use Rattle.pf_yen.proofs.CountLemmas.{clean_at_most}
use Rattle.pf_yen.proofs.laws.clean_paths_are_finitely_many.Goals as goal

pub returns : goal.returns
returns g c = λ edges start test further paths all clean once. clean_at_most g.N.PartialEq.eq g.met.N.Eq.laws edges start test further all paths clean once
