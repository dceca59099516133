-- Networks that agree.
use Rattle.std.proofs.Common.{◌≡◌, ◌∙◌, ◌<◌, refl, sym, ap, subst, ℕ, ℤ}
use Rattle.pf_residual.specs.Flows.{PairTable}
use Rattle.pf_residual.specs.Networks.{Network, capacity, Agrees, KeepsShape, KeepsCapacities, IsNetwork, IsFresh, HasCapacities, HasTotalOfFlow, HasSameCapacities}
use Rattle.pf_residual.specs.Internal.Balances.{IsBalanced}

-- a network is the one that it agrees with, with its own room
pub agreed : {N M : Network} → Agrees N M → record N { room = M.room } ≡ M
agreed {N} {M} w = λ i. record {
  vertices = sym w.vertices i;
  source = sym w.source i;
  sink = sym w.sink i;
  residual = λ a b. w.residual.at a b i;
  flow = λ a b. w.flow.at a b i;
  total = sym w.total i;
  details = sym w.details i;
  room = M.room;
}

pub balanced_agrees : {fits : ℤ → Type 0} {N M : Network} → Agrees N M → IsBalanced fits N → IsBalanced fits M
balanced_agrees {fits} {M = M} a w = subst (IsBalanced fits) (agreed a) (record { opposite = w.opposite; left = w.left; capacities = w.capacities; sum = w.sum })

pub network_agrees : {fits : ℤ → Type 0} {N M : Network} → Agrees N M → IsNetwork fits N → IsNetwork fits M
network_agrees {fits} {M = M} a w = subst (IsNetwork fits) (agreed a) (record { feasible = w.feasible; value = w.value; above = w.above; idle = w.idle; capacities = w.capacities; sum = w.sum })

-- what the law of one total asks of a network
pub total_of_network : {fits : ℤ → Type 0} {N : Network} → IsNetwork fits N → HasTotalOfFlow N
total_of_network w = record { value = w.value; idle = w.idle }

pub shape_agrees : {N M : Network} → Agrees N M → KeepsShape N M
shape_agrees w = record { vertices = w.vertices; source = w.source; sink = w.sink; details = w.details; room = w.room }

pub shape_more : {N M O : Network} → KeepsShape N M → KeepsShape M O → KeepsShape N O
shape_more w v = record {
  vertices = v.vertices ∙ w.vertices;
  source = v.source ∙ w.source;
  sink = v.sink ∙ w.sink;
  details = v.details ∙ w.details;
  room = λ a b h. v.room a b (w.room a b h);
}

pub capacities_agrees : {N M : Network} → Agrees N M → KeepsCapacities N M
capacities_agrees {N} {M} w = record {
  shape = shape_agrees w;
  capacities = record { at = λ a b. ap (λ (O : Network). capacity O a b) (agreed w) };
}

pub capacities_kept : (N : Network) → KeepsCapacities N N
capacities_kept N = record {
  shape = record { vertices = refl; source = refl; sink = refl; details = refl; room = λ a b h. h };
  capacities = record { at = λ a b. refl };
}

pub capacities_more : {N M O : Network} → KeepsCapacities N M → KeepsCapacities M O → KeepsCapacities N O
capacities_more w v = record {
  shape = shape_more w.shape v.shape;
  capacities = record { at = λ a b. w.capacities.at a b ∙ v.capacities.at a b };
}

pub agrees_itself : (N : Network) → Agrees N N
agrees_itself N = record { vertices = refl; source = refl; sink = refl; residual = record { at = λ a b. refl }; flow = record { at = λ a b. refl }; total = refl; details = refl; room = λ a b h. h }

-- stores that were made of one table, and that kept its capacities, have the same
pub same_capacities : {size source sink : ℕ} {t : PairTable} {N M N' M' : Network} → IsFresh size source sink N → HasCapacities t N → IsFresh size source sink M → HasCapacities t M
    → KeepsCapacities N N' → KeepsCapacities M M' → HasSameCapacities N' M'
same_capacities {N = N} {M} {N'} {M'} f h g k w v =
    let one : N'.vertices ≡ N.vertices = w.shape.vertices in
    let both : M.vertices ≡ N.vertices = g.vertices ∙ sym f.vertices in
    record {
      vertices = v.shape.vertices ∙ both ∙ sym one;
      source = v.shape.source ∙ g.source ∙ sym f.source ∙ sym w.shape.source;
      sink = v.shape.sink ∙ g.sink ∙ sym f.sink ∙ sym w.shape.sink;
      capacities = λ a b l m.
          let i = subst (λ n. a < n) one l in
          let j = subst (λ n. b < n) one m in
          sym (w.capacities.at a b) ∙ h.at a b i j
          ∙ sym (k.at a b (subst (λ n. a < n) (sym both) i) (subst (λ n. b < n) (sym both) j)) ∙ v.capacities.at a b;
    }
