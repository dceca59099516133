use Rattle.std.proofs.Common.{Result, Ok, Err}
use Rattle.std.specs.Prelude.{IfOk, map}
use Rattle.pf_graph.specs.EdgesByReference.{shown}
use Rattle.test_grids_and_trees.proofs.graph.callers.pipes.Goals as goal

-- what four facts on an answer give
by_four : {T E : Type 0} {P Q R S Z : T → Type 0} (r : Result T E) → ((x : T) → P x → Q x → R x → S x → Z x) → IfOk r P → IfOk r Q → IfOk r R → IfOk r S → IfOk r Z
by_four (Ok x) f p q t s = f x p q t s
by_four (Err e) f p q t s = p

pub returns : goal.returns
returns g c =
    let e = c.prim.ensures in
    record {
      cheapest = by_four c.prim.result
          (λ tree grown forest least written source other start acyclic chosen alike. c.least_tree_weight.ensures c.args.offers.now (map shown tree.items) other source (grown source start) forest (least source start) written acyclic chosen alike)
          e.grown e.forest e.least e.as_written;
    }
