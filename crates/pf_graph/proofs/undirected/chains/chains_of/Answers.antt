use Rattle.std.proofs.Common.{rules, List, get_or, ◌-◌, ◌≡◌, ◌<◌, ◌+◌, ◌∙◌, ◌∷◌, ◌++◌, [], ℕ, refl, sym, ap, subst, arith, length, length-set, take, take_all, slice_set}
use Rattle.std.specs.List.{AllZip}
use Rattle.std.proofs.lemmas.List.{length-append, take_more}
use Rattle.std.proofs.lemmas.Slice.Zip.{AllZip-long}
use Rattle.pf_base.proofs.ListLemmas.{AllZip-append, at_place}
use Rattle.pf_graph.specs.Spanning.{AreBelow}
use Rattle.pf_graph.specs.Internal.Spanning.Chained.{HasNumbers, AreLinked}
use Rattle.pf_graph.proofs.Spanning.ChainLemmas.{AreLinked-more, AreLinked-none}
use Rattle.std.proofs.lemmas.Result.{IfOk-from_err}
use Rattle.pf_base.proofs.Outcomes.{if_refused, refused_as, refused_by}
use Rattle.pf_graph.proofs.undirected.chains.chains_of.Goals as goal

-- both ends of an edge have places, where they are below the count
inside : {W : Type 0} (n i : ℕ) (listed es : List (ℕ × ℕ × W)) (e : ℕ × ℕ × W) → listed ≡ es → AreBelow n es → i < length listed → e ≡ get_or listed i e → (e.0 < n) × (e.1 < n)
inside n i listed es e same below more is = subst (λ d. (d.0 < n) × (d.1 < n)) (sym is) (subst (λ xs. AreBelow n xs) (sym same) below i e more)

falling : (n i : ℕ) → i < n → n - (i + 1) < n - i
falling n i h = omega arith

pub index_mut-requires-in-loop-edge : goal.index_mut-requires-in-loop-edge
index_mut-requires-in-loop-edge g c =
    let below = subst (λ e. (e.0 < c.args.count) × (e.1 < c.args.count)) (sym c.edge-item.is) (subst (λ es. AreBelow c.args.count es) (sym c.as_slice-listed.ensures.value) c.requires.below c.loop-edge.edge-index c.edge-item.result c.loop-edge-test.true) in
    let other = below.1 in
    let len = c.loop-edge.invariant.len in
    let same : c.loop-edge.lasts.len ≡ length c.loop-edge.lasts.items = search rules in
    omega (arith, other, len, same)

pub loop-edge-preserved : goal.loop-edge-preserved
loop-edge-preserved g c =
    let i = c.loop-edge.invariant in
    let e = c.edge-item.result in
    let listed = c.as_slice-listed.result.now in
    let index = c.loop-edge.edge-index in
    let below = subst (λ e. (e.0 < c.args.count) × (e.1 < c.args.count)) (sym c.edge-item.is) (subst (λ es. AreBelow c.args.count es) (sym c.as_slice-listed.ensures.value) c.requires.below index e c.loop-edge-test.true) in
    let one = subst (λ (n : ℕ). e.0 < n) (sym i.len) below.0 in
    let other = subst (λ (n : ℕ). e.1 < n) (sym i.len) below.1 in
    let pushed = c.in_ok-push.ensures.items in
    let more = take_more listed index e c.loop-edge-test.true ∙ ap (λ x. take index listed ++ x ∷ []) (sym c.edge-item.is) in
    let long : c.push.new.self.len ≡ length c.push.new.self.items = search rules in
    let last : c.in_ok-last.last ≡ length c.loop-edge.ends.items + 1 = c.in_ok-last.ensures.same ∙ c.len.ensures ∙ long ∙ ap length pushed ∙ length-append c.loop-edge.ends.items (_ ∷ []) in
    record {
      len = length-set (slice_set c.loop-edge.lasts.items e.0 c.in_ok-last.last) e.1 c.in_ok-last.last ∙ length-set c.loop-edge.lasts.items e.0 c.in_ok-last.last ∙ i.len;
      ends = subst (λ es. AllZip HasNumbers es c.push.new.self.items) (sym more) (subst (λ ds. AllZip HasNumbers (take index listed ++ e ∷ []) ds) (sym pushed) (AllZip-append HasNumbers (take index listed) c.loop-edge.ends.items e _ i.ends (refl, refl)));
      linked = subst (λ ds. AreLinked ds (slice_set (slice_set c.loop-edge.lasts.items e.0 c.in_ok-last.last) e.1 c.in_ok-last.last)) (sym pushed)
          (AreLinked-more c.loop-edge.ends.items _ c.loop-edge.lasts.items c.in_ok-last.last last one other (at_place _ _ _ _ one (sym c.index.ensures)) (at_place _ _ _ _ other (sym c.index-in-loop-edge.ensures)) i.linked);
    }

pub returns-clause-ends : goal.returns-clause-ends
returns-clause-ends g c = subst (λ es. AllZip HasNumbers es c.loop-edge.ends.items) (take_all c.loop-edge.edge-index c.as_slice-listed.result.now c.loop-edge-test.false ∙ c.as_slice-listed.ensures.value) c.loop-edge.invariant.ends

pub returns-clause-chained : goal.returns-clause-chained
returns-clause-chained g c =
    let zipped = subst (λ es. AllZip HasNumbers es c.loop-edge.ends.items) (take_all c.loop-edge.edge-index c.as_slice-listed.result.now c.loop-edge-test.false ∙ c.as_slice-listed.ensures.value) c.loop-edge.invariant.ends in
    record { long = sym c.requires.len ∙ sym (AllZip-long HasNumbers _ _ zipped); linked = c.loop-edge.invariant.linked }

pub returns-in_err-ends-clause-edges : goal.returns-in_err-ends-clause-edges
returns-in_err-ends-clause-edges g c = IfOk-from_err _ _ c.from_residual.ensures.0

pub returns-in_err-ends-clause-ends : goal.returns-in_err-ends-clause-ends
returns-in_err-ends-clause-ends g c = IfOk-from_err _ _ c.from_residual.ensures.0

pub returns-in_err-ends-clause-len : goal.returns-in_err-ends-clause-len
returns-in_err-ends-clause-len g c = IfOk-from_err _ _ c.from_residual.ensures.0

pub returns-in_err-ends-clause-chained : goal.returns-in_err-ends-clause-chained
returns-in_err-ends-clause-chained g c = IfOk-from_err _ _ c.from_residual.ensures.0

pub returns-in_err-ends-clause-refused : goal.returns-in_err-ends-clause-refused
returns-in_err-ends-clause-refused g c = refused_by _ c.from_residual.result c.from_residual.ensures.1

pub returns-in_err-lasts-clause-edges : goal.returns-in_err-lasts-clause-edges
returns-in_err-lasts-clause-edges g c = if_refused _ c.from_residual-in_err-lasts.result _ c.from_residual-in_err-lasts.ensures.1

pub returns-in_err-lasts-clause-ends : goal.returns-in_err-lasts-clause-ends
returns-in_err-lasts-clause-ends g c = if_refused _ c.from_residual-in_err-lasts.result _ c.from_residual-in_err-lasts.ensures.1

pub returns-in_err-lasts-clause-len : goal.returns-in_err-lasts-clause-len
returns-in_err-lasts-clause-len g c = if_refused _ c.from_residual-in_err-lasts.result _ c.from_residual-in_err-lasts.ensures.1

pub returns-in_err-lasts-clause-chained : goal.returns-in_err-lasts-clause-chained
returns-in_err-lasts-clause-chained g c = if_refused _ c.from_residual-in_err-lasts.result _ c.from_residual-in_err-lasts.ensures.1

pub returns-in_err-lasts-clause-refused : goal.returns-in_err-lasts-clause-refused
returns-in_err-lasts-clause-refused g c = refused_as _ c.from_residual-in_err-lasts.result _ c.from_residual-in_err-lasts.ensures.1 c.in_err-lasts.ensures.refused

pub loop-edge-init : goal.loop-edge-init
loop-edge-init g c = record {
  len = c.in_ok-lasts.ensures.len;
  ends = rw c.in_ok-ends.ensures.items tt;
  linked = subst (λ ds. AreLinked ds c.in_ok-lasts.lasts.items) (sym c.in_ok-ends.ensures.items) (subst (λ ns. AreLinked [] ns) (sym c.in_ok-lasts.ensures.items) (AreLinked-none c.args.count));
}

pub bounds-listed-edge-index : goal.bounds-listed-edge-index
bounds-listed-edge-index g c = c.loop-edge-test.true

pub index-requires : goal.index-requires
index-requires g c = subst (λ (n : ℕ). c.edge-item.result.0 < n) (sym (c.loop-edge.lasts.ok.0 ∙ c.loop-edge.invariant.len)) (inside c.args.count c.loop-edge.edge-index _ _ c.edge-item.result c.as_slice-listed.ensures.value c.requires.below c.loop-edge-test.true c.edge-item.is).0

pub index-requires-in-loop-edge : goal.index-requires-in-loop-edge
index-requires-in-loop-edge g c = subst (λ (n : ℕ). c.edge-item.result.1 < n) (sym (c.loop-edge.lasts.ok.0 ∙ c.loop-edge.invariant.len)) (inside c.args.count c.loop-edge.edge-index _ _ c.edge-item.result c.as_slice-listed.ensures.value c.requires.below c.loop-edge-test.true c.edge-item.is).1

pub returns-in_err-push-clause-edges : goal.returns-in_err-push-clause-edges
returns-in_err-push-clause-edges g c = IfOk-from_err _ _ c.from_residual-in_err-push.ensures.0

pub returns-in_err-push-clause-ends : goal.returns-in_err-push-clause-ends
returns-in_err-push-clause-ends g c = IfOk-from_err _ _ c.from_residual-in_err-push.ensures.0

pub returns-in_err-push-clause-len : goal.returns-in_err-push-clause-len
returns-in_err-push-clause-len g c = IfOk-from_err _ _ c.from_residual-in_err-push.ensures.0

pub returns-in_err-push-clause-chained : goal.returns-in_err-push-clause-chained
returns-in_err-push-clause-chained g c = IfOk-from_err _ _ c.from_residual-in_err-push.ensures.0

pub returns-in_err-push-clause-refused : goal.returns-in_err-push-clause-refused
returns-in_err-push-clause-refused g c = refused_by _ c.from_residual-in_err-push.result c.from_residual-in_err-push.ensures.1

pub narrowed-requires : goal.narrowed-requires
narrowed-requires g c = tt

pub returns-in_err-last-clause-edges : goal.returns-in_err-last-clause-edges
returns-in_err-last-clause-edges g c = if_refused _ c.from_residual-in_err-last.result _ c.from_residual-in_err-last.ensures.1

pub returns-in_err-last-clause-ends : goal.returns-in_err-last-clause-ends
returns-in_err-last-clause-ends g c = if_refused _ c.from_residual-in_err-last.result _ c.from_residual-in_err-last.ensures.1

pub returns-in_err-last-clause-len : goal.returns-in_err-last-clause-len
returns-in_err-last-clause-len g c = if_refused _ c.from_residual-in_err-last.result _ c.from_residual-in_err-last.ensures.1

pub returns-in_err-last-clause-chained : goal.returns-in_err-last-clause-chained
returns-in_err-last-clause-chained g c = if_refused _ c.from_residual-in_err-last.result _ c.from_residual-in_err-last.ensures.1

pub returns-in_err-last-clause-refused : goal.returns-in_err-last-clause-refused
returns-in_err-last-clause-refused g c = refused_as _ c.from_residual-in_err-last.result _ c.from_residual-in_err-last.ensures.1 c.in_err-last.ensures.refused

pub index_mut-requires : goal.index_mut-requires
index_mut-requires g c = subst (λ (n : ℕ). c.edge-item.result.0 < n) (sym (c.loop-edge.lasts.ok.0 ∙ c.loop-edge.invariant.len)) (inside c.args.count c.loop-edge.edge-index _ _ c.edge-item.result c.as_slice-listed.ensures.value c.requires.below c.loop-edge-test.true c.edge-item.is).0

pub loop-edge-smaller : goal.loop-edge-smaller
loop-edge-smaller g c = falling (length c.as_slice-listed.result.now) c.loop-edge.edge-index c.loop-edge-test.true

pub returns-clause-edges : goal.returns-clause-edges
returns-clause-edges g c = refl

pub returns-clause-len : goal.returns-clause-len
returns-clause-len g c = c.loop-edge.invariant.len

pub returns-clause-refused : goal.returns-clause-refused
returns-clause-refused g c = tt
