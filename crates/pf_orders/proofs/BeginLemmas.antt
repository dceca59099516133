-- How a discovery of a function that lists successors begins.
use Rattle.std.proofs.Common.{Bool, List, Option}
use Rattle.std.specs.Borrow.{Bor}
use Rattle.std.specs.Cmp.{IsEquivalence}
use Rattle.std.specs.Fn.{Mut}
use Rattle.std.specs.Iterator.{Count}
use Rattle.std.specs.List.{IsDistinct}
use Rattle.pf_base.specs.Answers.{AnswersSuccessors}
use Rattle.pf_base.specs.NodeRefs.{HasSameNodes}
use Rattle.pf_base.specs.Successors.{HasSuccessor}
use Rattle.pf_base.specs.Walks.{IsReachable}
use Rattle.pf_discovery.specs.Sources.{AnswersHops}
use Rattle.pf_discovery.proofs.SourceLemmas.{Explores-successors}
use Rattle.pf_orders.specs.Internal.Beginnings.{Begins}

-- with a set of the starts
module _ {F N I S : Type 0} {calls : Mut F (Bor N × Unit {0}) I} {becomes : I → S → Type 0} {can : S → Type 0} {left : S → Count} {steps : S → Option N → S → Type 0} {eq : N → N → Bool} where
  pub begins : {starts keys : List N} {next : N → List N} {f : F} → IsEquivalence eq → IsDistinct eq keys → HasSameNodes eq keys starts → AnswersSuccessors calls becomes can left steps eq f (IsReachable eq (HasSuccessor eq next) starts) next
      → Begins eq (AnswersHops eq (AnswersSuccessors calls becomes can left steps eq)) starts next keys (record { function = f })
  begins {starts} {keys} {next} {f} laws once same a = record { same = same; explores = Explores-successors eq laws (AnswersSuccessors calls becomes can left steps eq) starts keys next f once same a.alike a }
