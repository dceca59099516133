-- What each call of a network of named vertices keeps.
use Rattle.std.specs.Prelude.{◌≡◌, ℤ, true, length}
use Rattle.pf_residual.specs.Networks.{IsNetwork}
use Rattle.pf_flow_networks.specs.NamedFlows.{NamedNetwork}

-- each vertex has a name, the network is one, and flows and cuts are listed
pub record IsWhole {N : Type 0} (fits : ℤ → Type 0) (S : NamedNetwork N) : Type 0 where
  pub vertices : S.network.vertices ≡ length S.names
  pub network : IsNetwork fits S.network
  pub details : S.network.details ≡ true
