-- Ticks and potential, from phase to phase.
use Rattle.std.proofs.Common.{◌≡◌, ◌∙◌, sym, ap, subst, ◌≤◌, ◌+◌, ◌*◌, ℕ, ℤ, arith}
use Rattle.std.specs.Prelude.{◌≤ℤ◌}
use Rattle.std.proofs.lemmas.Int.{ints}
use Rattle.pf_residual.specs.Flows.{PairTable, pair_count}
use Rattle.pf_residual.specs.Networks.{Network, capacity, path_bound, KeepsCapacities}
use Rattle.pf_residual.specs.Internal.AugmentingPaths.{IsLabelling, potential}
use Rattle.pf_residual.specs.Internal.Levels.{AreLevels}
use Rattle.pf_flow.specs.Internal.Phases.{IsAugmented}
use Rattle.pf_residual.proofs.AgreeLemmas.{capacities_more}
use Rattle.pf_residual.proofs.PotentialLemmas.{potential_up, potential_top}
use Rattle.pf_residual.proofs.PathLemmas.{levels_least}

capacity_same : {N M : Network} → KeepsCapacities N M → capacity N ≡ capacity M
capacity_same w = λ i a b. w.capacities.at a b i

-- with the same capacities the potential is the same
pub potential_same : {N M : Network} → KeepsCapacities N M → (residual : PairTable) (d : ℕ → ℕ) → potential M.vertices (capacity M) residual d ≡ potential N.vertices (capacity N) residual d
potential_same {N} {M} w residual d = ap (λ n. potential n (capacity M) residual d) w.shape.vertices ∙ ap (λ t. potential N.vertices t residual d) (sym (capacity_same w))

pub labelling_same : {N M : Network} → KeepsCapacities N M → {residual : PairTable} {d : ℕ → ℕ} → IsLabelling N.vertices N.source residual d → IsLabelling M.vertices M.source residual d
labelling_same {N} {M} w {residual} {d} l = subst (λ n. IsLabelling n M.source residual d) (sym w.shape.vertices) (subst (λ s. IsLabelling N.vertices s residual d) (sym w.shape.source) l)

-- O has the capacities of N; d are the levels of O, and flow was added along paths of theirs
module _ {N O M : Network} (first : KeepsCapacities N O) {d : ℕ → ℕ} (start : ℕ) {before after : ℕ} (so_far : before ≤ start + potential N.vertices (capacity N) O.residual d) (phase : IsAugmented d O M before after) where
  so_far_after : after ≤ start + potential N.vertices (capacity N) M.residual d
  so_far_after =
      let bound = phase.bound in
      let e = potential_same first O.residual d in
      let f = potential_same first M.residual d in
      omega (arith, so_far, bound, e, f)

  -- no more ticks than the vertices times the pairs with capacity in either direction
  pub ticks_top : after ≤ start + N.vertices * pair_count N.vertices (capacity N)
  ticks_top =
      let s = so_far_after in
      let t = potential_top {source = O.source} (capacity N) (subst (λ n. IsLabelling n O.source M.residual d) first.shape.vertices phase.labelling) in
      omega (arith, s, t)

  -- no more ticks than the potential of levels found anew
  pub ticks_anew : {e parent : ℕ → ℕ} → AreLevels M e parent → after ≤ start + potential N.vertices (capacity N) M.residual e
  ticks_anew {e} {parent} w =
      let s = so_far_after in
      let n = first.shape.vertices in
      let m = phase.kept.shape.vertices in
      let up = potential_up N.vertices (capacity N) M.residual d e (λ a l. levels_least (labelling_same phase.kept phase.labelling) w a (omega (arith, l, n, m))) in
      omega (arith, s, up)

-- the same where no phase follows
pub ticks_now : {N O : Network} → KeepsCapacities N O → {d : ℕ → ℕ} → IsLabelling O.vertices O.source O.residual d → (start now : ℕ) → now ≤ start + potential N.vertices (capacity N) O.residual d → now ≤ start + N.vertices * pair_count N.vertices (capacity N)
ticks_now {N} {O} first {d} w start now so_far =
    let t = potential_top {source = O.source} (capacity N) (subst (λ n. IsLabelling n O.source O.residual d) first.shape.vertices w) in
    omega (arith, so_far, t)

-- levels of the one are levels of the other
pub labelling_back : {N M : Network} → KeepsCapacities N M → {residual : PairTable} {d : ℕ → ℕ} → IsLabelling M.vertices M.source residual d → IsLabelling N.vertices N.source residual d
labelling_back {N} {M} w {residual} {d} l = subst (λ n. IsLabelling n N.source residual d) w.shape.vertices (subst (λ s. IsLabelling M.vertices s residual d) w.shape.source l)

-- a total that does not fall
pub no_less_itself : (a : ℤ) → a ≤ℤ a
no_less_itself a = omega (arith, ints)

pub no_less_then : {a b c : ℤ} → a ≤ℤ b → b ≤ℤ c → a ≤ℤ c
no_less_then l m = omega (arith, ints, l, m)

-- flow that was added along paths of the levels d from N to O, and from O to M
module _ {N O M : Network} {d : ℕ → ℕ} {start now after : ℕ} (first : IsAugmented d N O start now) (next : IsAugmented d O M now after) where
  pub augmented_more : IsAugmented d N M start after
  augmented_more =
      let so_far = first.bound in
      let bound = next.bound in
      let e = potential_same first.kept O.residual d in
      let f = potential_same first.kept M.residual d in
      let one = first.progress in
      let two = next.progress in
      record {
        kept = capacities_more first.kept next.kept;
        total = no_less_then first.total next.total;
        labelling = labelling_back first.kept next.labelling;
        progress = omega (arith, one, two);
        bound = omega (arith, so_far, bound, e, f);
      }

-- no more ticks than the vertices times the pairs with capacity in either direction
pub augmented_top : {N M : Network} {d : ℕ → ℕ} {start after : ℕ} → IsAugmented d N M start after → after ≤ start + path_bound N
augmented_top {N} w =
    let s = w.bound in
    let t = potential_top {source = N.source} (capacity N) w.labelling in
    omega (arith, s, t)
