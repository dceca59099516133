use Rattle.pf_informed.proofs.CleanLemmas.{cheapest_is_clean, clean_is_cheapest}
use Rattle.pf_informed.proofs.laws.cheapest_clean_paths_are_cheapest.Goals as goal

pub returns : goal.returns
returns g c = λ edges starts test path cost above. (
  (λ h. clean_is_cheapest g.N.PartialEq.eq edges starts test path cost h),
  (λ h. cheapest_is_clean g.N.PartialEq.eq g.met.N.Eq.laws edges starts test above path cost h),
)
