-- A discovery of what lists successors, before it is asked.
use Rattle.std.specs.Prelude.{ℤ, Bool, List}
use Rattle.pf_base.specs.NodeRefs.{HasSameNodes}
use Rattle.pf_core.specs.Hops.{hops_from}
use Rattle.pf_core.specs.Nodes.{Explores}

-- what is asked lists these successors, and the starts alone were found
pub record Begins {N S : Type 0} (eq : N → N → Bool) (answers : S → List N → (N → List (N × ℤ)) → Type 0) (starts : List N) (next : N → List N) (keys : List N) (source : S) : Type 0 where
  pub same : HasSameNodes eq keys starts
  pub explores : Explores eq answers (hops_from starts next) keys source
