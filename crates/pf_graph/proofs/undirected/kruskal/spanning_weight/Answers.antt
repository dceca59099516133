use Rattle.std.proofs.Common.{◌≡◌, ℕ, nat_eq, sym, ap, subst, ◌∙◌, rules, inl}
use Rattle.std.specs.Prelude.{All, Contains, map, Result, Ok, Err, IsErrAnd}
use Rattle.std.specs.List.Sorted.{IsSorted}
use Rattle.pf_graph.specs.declared.undirected.weighed.Weighed.{Weighed}
use Rattle.pf_graph.specs.Spanning.{IsLeastForest, IsLeastUnderEveryBound, AreBelow}
use Rattle.pf_graph.proofs.Spanning.PlacedLemmas.{placed-same}
use Rattle.pf_graph.proofs.Spanning.NameLemmas.{numbered_below}
use Rattle.pf_graph.proofs.Spanning.WeightLemmas.{written_of, sorted_keys, least_forest, sum_of_forest}
use Rattle.pf_graph.proofs.undirected.kruskal.spanning_weight.Given.{Over}
use Rattle.pf_base.proofs.Outcomes.{if_refused, refused_as}
use Rattle.pf_base.specs.declared.error.PathError.{PathError}
use Rattle.pf_base.specs.declared.error.PathError.TheVariants.{OutOfMemory, CostOverflow}
use Rattle.pf_graph.proofs.undirected.kruskal.spanning_weight.Goals as goal
use Rattle.pf_graph.proofs.undirected.kruskal.spanning_weight.Goals.{After-deref-2}

-- a refusal for memory is no overflow
not_overflow : {T : Type 0} (r : Result T PathError) (e : PathError) → IsErrAnd r (λ x. x ≡ e) → e ≡ OutOfMemory → r ≡ Err CostOverflow → ⊥
not_overflow (Ok x) e h m o = absurd h
not_overflow (Err x) e h m o = let same : x ≡ OutOfMemory = h ∙ m in cc

pub spanning_forest-requires : goal.spanning_forest-requires
spanning_forest-requires g c =
    let n = c.in_ok-numbered.ensures.numbered in
    record { fit = c.in_ok-numbered.ensures.few; below = subst (λ xs. AreBelow c.in_ok-numbered.numbered.count xs) (sym (placed-same c.in_ok-numbered.numbered.edges.items)) (numbered_below n.0 c.args.edges.now c.in_ok-numbered.numbered.edges.items n.2 c.in_ok-numbered.numbered.count n.1) }

weights-are : (g : Over) (c : After-deref-2 g) → c.deref-2.result.now ≡ map (λ (e : ℕ × ℕ × Weighed g.row.N.Denot g.row.C.Denot g.row.C.Denot). e.2.weight) c.in_ok-chosen.chosen.items
weights-are g c = c.deref-2.ensures.value ∙ c.in_ok-weights.ensures.weights ∙ ap (map (λ (e : ℕ × ℕ × Weighed g.row.N.Denot g.row.C.Denot g.row.C.Denot). e.2.weight)) c.deref.ensures.value

chosen-forest : (g : Over) (c : After-deref-2 g) → IsLeastForest g.N.PartialEq.eq g.C.Ord.cmp c.args.edges.now (map written_of c.in_ok-chosen.chosen.items)
chosen-forest g c =
    let n = c.in_ok-numbered.ensures.numbered in
    let e = c.in_ok-chosen.ensures in
    let edges = c.in_ok-numbered.numbered.edges.items in
    let same = placed-same edges in
    let given : (f : ℕ × ℕ × Weighed g.row.N.Denot g.row.C.Denot g.row.C.Denot) → Contains c.in_ok-chosen.chosen.items f → Contains edges f = λ f h. subst (λ xs. Contains xs f) same (e.given f h) in
    let least : IsLeastUnderEveryBound nat_eq (λ (v w : Weighed g.row.N.Denot g.row.C.Denot g.row.C.Denot). g.C.Ord.cmp v.weight w.weight) edges c.in_ok-chosen.chosen.items
    = subst (λ xs. IsLeastUnderEveryBound nat_eq (λ (v w : Weighed g.row.N.Denot g.row.C.Denot g.row.C.Denot). g.C.Ord.cmp v.weight w.weight) xs c.in_ok-chosen.chosen.items) same e.least in
    let copied : All (λ (e : ℕ × ℕ × Weighed g.row.N.Denot g.row.C.Denot g.row.C.Denot). e.2.weight ≡ e.2.edge.now.2) c.in_ok-numbered.numbered.edges.items = λ k d inside. let r = c.in_ok-numbered.ensures.weighed k d inside in let s = r.shows in let p = r.says.met in search rules in
    least_forest g.met.N.Eq.laws g.met.C.Ord.total g.met.C.Eq.laws g.met.C.Ord.matches_eq n.0 c.args.edges.now c.in_ok-numbered.numbered.edges.items n.2 copied c.in_ok-chosen.chosen.items given e.forest least

pub exact_sum-requires : goal.exact_sum-requires
exact_sum-requires g c =
    subst (λ ws. IsSorted g.C.Ord.cmp ws) (sym (weights-are g c))
    (sorted_keys g.C.Ord.cmp (λ (e : ℕ × ℕ × Weighed g.row.N.Denot g.row.C.Denot g.row.C.Denot). e.2.weight) c.in_ok-chosen.chosen.items c.in_ok-chosen.ensures.sorted)

pub returns-in-Some-clause-total : goal.returns-in-Some-clause-total
returns-in-Some-clause-total g c =
    let d = (goal.at.returns-in-Some-clause-total g c).After-deref-2 in
    (map written_of c.in_ok-chosen.chosen.items, chosen-forest g d, c.in-Some.ensures ∙ sum_of_forest g.C.Number.value c.in_ok-chosen.chosen.items c.deref-2.result.now (weights-are g d))

pub returns-clause-overflow : goal.returns-clause-overflow
returns-clause-overflow g c = λ _.
    let d = (goal.at.returns-clause-overflow g c).After-deref-2 in (
      map written_of c.in_ok-chosen.chosen.items,
      chosen-forest g d,
      λ fits. c.in-None.ensures (subst (λ z. g.C.Number.fits z) (sym (sum_of_forest g.C.Number.value c.in_ok-chosen.chosen.items c.deref-2.result.now (weights-are g d))) fits),
    )

pub returns-in_err-numbered : goal.returns-in_err-numbered
returns-in_err-numbered g c = record {
  total = if_refused _ c.from_residual.result _ c.from_residual.ensures.1;
  overflow = λ e. absurd (not_overflow c.from_residual.result _ c.from_residual.ensures.1 c.in_err-numbered.ensures.refused e);
  refused = refused_as _ c.from_residual.result _ c.from_residual.ensures.1 (inl c.in_err-numbered.ensures.refused);
}

pub returns-in_err-chosen : goal.returns-in_err-chosen
returns-in_err-chosen g c = record {
  total = if_refused _ c.from_residual-in_err-chosen.result _ c.from_residual-in_err-chosen.ensures.1;
  overflow = λ e. absurd (not_overflow c.from_residual-in_err-chosen.result _ c.from_residual-in_err-chosen.ensures.1 c.in_err-chosen.ensures.refused e);
  refused = refused_as _ c.from_residual-in_err-chosen.result _ c.from_residual-in_err-chosen.ensures.1 (inl c.in_err-chosen.ensures.refused);
}

pub returns-in_err-weights : goal.returns-in_err-weights
returns-in_err-weights g c = record {
  total = if_refused _ c.from_residual-in_err-weights.result _ c.from_residual-in_err-weights.ensures.1;
  overflow = λ e. absurd (not_overflow c.from_residual-in_err-weights.result _ c.from_residual-in_err-weights.ensures.1 c.in_err-weights.ensures.refused e);
  refused = refused_as _ c.from_residual-in_err-weights.result _ c.from_residual-in_err-weights.ensures.1 (inl c.in_err-weights.ensures.refused);
}
