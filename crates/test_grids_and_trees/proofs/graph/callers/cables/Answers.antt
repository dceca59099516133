use Rattle.std.proofs.Common.{◌≡◌, refl, sym, subst, Ok, ℕ, nat_eq}
use Rattle.std.specs.Ordering.{nat_cmp}
use Rattle.std.proofs.lemmas.Iterator.{items_from_collect}
use Rattle.std.proofs.lemmas.Iterator.Consumers.{YieldsList-from_first}
use Rattle.pf_graph.specs.Spanning.{IsForest, IsLeastUnderEveryBound}
use Rattle.test_grids_and_trees.proofs.graph.callers.cables.Goals as goal

pub returns : goal.returns
returns g c =
    let all : c.in_ok-chosen.chosen.items ≡ c.in_ok-cables.cables = items_from_collect {E = ℕ} (Ok c.in_ok-chosen.chosen) c.in_ok-chosen.ensures.ran (YieldsList-from_first (λ x. x) (λ s. s) c.in_ok-cables.cables refl) in
    record {
      forest = subst (IsForest nat_eq) (sym all) c.in_ok-cables.ensures.forest;
      least = subst (IsLeastUnderEveryBound nat_eq nat_cmp c.args.offers.now) (sym all) c.in_ok-cables.ensures.least;
    }
