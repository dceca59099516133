use Rattle.std.proofs.Common.{◌≡◌, ◌≢◌, ◌∙◌, ◌⊎◌, ◌<◌, inl, inr, sym, ap, subst, arith, ℕ, ℤ, pos, Bool, if◌then◌else◌}
use Rattle.std.proofs.lemmas.Bool.{cases_eq}
use Rattle.std.proofs.lemmas.Int.{ints}
use Rattle.pf_residual.specs.Flows.{PairTable, leaving, cut_capacity, IsLeastCut}
use Rattle.pf_base.specs.Sums.{sum_to}
use Rattle.pf_residual.specs.Networks.{Network, capacity, HasSameCapacities, HasCutOfTotal, HasTotalOfFlow}
use Rattle.pf_residual.proofs.SumLemmas.{sum_ext, sum_none}
use Rattle.pf_flow.proofs.laws.stores_report_one_total.Goals as goal

-- the capacity of a least cut is one
one_capacity : (n source sink : ℕ) (t : PairTable) (side other : ℕ → Bool) → IsLeastCut n source sink t side → IsLeastCut n source sink t other → cut_capacity n side t ≡ cut_capacity n other t
one_capacity n source sink t side other w v =
    let a = w.least other v.cut in
    let b = v.least side w.cut in
    omega (arith, ints, a, b)

-- tables with the same numbers between vertices have the same cuts
cut_same : (n : ℕ) (s t : PairTable) → ((a b : ℕ) → a < n → b < n → s a b ≡ t a b) → (side : ℕ → Bool) → cut_capacity n side s ≡ cut_capacity n side t
cut_same n s t h side = sum_ext (λ a. sum_to (leaving side s a) n) (λ a. sum_to (leaving side t a) n) n (λ a l. sum_ext (leaving side s a) (leaving side t a) n (λ b m.
    ap (λ (z : ℤ). if side a then (if side b then pos 0 else z) else pos 0) (h a b l m)))

least_same : {N M : Network} → HasSameCapacities N M → (side : ℕ → Bool) → IsLeastCut M.vertices M.source M.sink (capacity M) side → IsLeastCut N.vertices N.source N.sink (capacity N) side
least_same {N} {M} w side h =
    let cuts = cut_same N.vertices (capacity N) (capacity M) w.capacities in
    let k = subst (λ n. IsLeastCut n N.source N.sink (capacity M) side) w.vertices
    (subst (λ s. IsLeastCut M.vertices s N.sink (capacity M) side) w.source
    (subst (λ s. IsLeastCut M.vertices M.source s (capacity M) side) w.sink h)) in
    record {
      cut = k.cut;
      least = λ other o. let here = cuts side in let there = cuts other in let less = k.least other o in omega (arith, ints, here, there, less);
    }

capacity_same : {N M : Network} → HasSameCapacities N M → (side : ℕ → Bool) → cut_capacity M.vertices side (capacity M) ≡ cut_capacity N.vertices side (capacity N)
capacity_same {N} {M} w side = ap (λ n. cut_capacity n side (capacity M)) w.vertices ∙ sym (cut_same N.vertices (capacity N) (capacity M) w.capacities side)

apart_total : (N M : Network) → HasSameCapacities N M → N.source ≢ N.sink → HasCutOfTotal N → HasCutOfTotal M → M.total ≡ N.total
apart_total N M w apart h k =
    let one = h apart in
    let other = k (λ e. apart (sym w.source ∙ e ∙ w.sink)) in
    let same = one_capacity N.vertices N.source N.sink (capacity N) one.0 other.0 one.1.smallest.least_cut (least_same w other.0 other.1.smallest.least_cut) in
    sym other.1.worth ∙ capacity_same w other.0 ∙ sym same ∙ one.1.worth

-- where source and sink are one, the total is 0
no_total : (N : Network) → HasTotalOfFlow N → N.source ≡ N.sink → N.total ≡ pos 0
no_total N w e = sym w.value ∙ sum_none (N.flow N.source) N.vertices (λ a l. w.idle e N.source a)

one_total : (N M : Network) → HasSameCapacities N M → HasTotalOfFlow N → HasTotalOfFlow M → HasCutOfTotal N → HasCutOfTotal M → (N.source ≡ N.sink) ⊎ (N.source ≡ N.sink → ⊥) → M.total ≡ N.total
one_total N M w left right h k (inl e) = no_total M right (w.source ∙ e ∙ sym w.sink) ∙ sym (no_total N left e)
one_total N M w left right h k (inr apart) = apart_total N M w apart h k

pub returns-clause-apart : goal.returns-clause-apart
returns-clause-apart c = apart_total

pub returns-clause-total : goal.returns-clause-total
returns-clause-total c = λ N M w left right h k. one_total N M w left right h k (cases_eq N.source N.sink)
