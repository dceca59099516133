use Rattle.std.proofs.Common.{pos}
use Rattle.std.specs.Prelude.{◌*ℤ◌}
use Rattle.pf_estimated_graphs.proofs.ProductLemmas.{ArePart}
use Rattle.pf_estimated_graphs.proofs.products.capped_product.Given as goal

-- what the bits so far make, and the rest of the number times the doubled cost, are the whole product
abbrev pub invariant-bits : goal.invariant-bits
invariant-bits g l = ArePart (g.C.Number.value g.C.Cost.greatest) (pos l.count *ℤ g.C.Number.value l.fn.cost) (g.C.Number.value l.product) (g.C.Number.value l.double) l.left

abbrev pub decreases-bits : goal.decreases-bits
decreases-bits g l = l.left
