use Rattle.std.proofs.Common.{rules}
use Rattle.std.proofs.lemmas.Iterator.Consumers.{YieldsList-from_first}
use Rattle.pf_base.proofs.Sources.{gives_chain}
use Rattle.pf_state_spaces.proofs.SpaceLemmas.{gives_successors}
use Rattle.pf_state_spaces.proofs.neighbours.NeighboursSuccessorFunction.successors.Goals as goal

pub returns-clause-listed : goal.returns-clause-listed
returns-clause-listed g c = λ starts next w same.
    gives_successors g.met.N.Eq.laws g.met.N.Exact.exact_law g.C.Number.value (g.S.StateSpace.moves c.args.self.now) same (gives_chain (λ it b. (tt, tt, YieldsList-from_first (λ e. e) (λ es. es) _ (search rules))))
