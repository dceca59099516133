use Rattle.std.proofs.Common.{◌≡◌, ◌+◌, ◌-◌, ◌∙◌, ◌++◌, ◌∷◌, [], ℕ, List, arith, get_or, take, slice_get, Some, subst, sym, ap, refl}
use Rattle.std.specs.Prelude.{Vec, slice_set}
use Rattle.std.proofs.lemmas.List.{take_more, take_all, append_assoc}
use Rattle.pf_base.proofs.ListLemmas.{at_place, Contains-index}
use Rattle.pf_orders.specs.Internal.Rounds.{Falls, AreFreed}
use Rattle.pf_base.proofs.Outcomes.{on_failed, refused_as}
use Rattle.pf_orders.proofs.OrderLemmas.{member_of}
use Rattle.pf_orders.proofs.RoundLemmas.{count_above, falls_more, freed_same, freed_more}
use Rattle.pf_orders.proofs.rounds.release.Goals.{then-count-eq0+in_ok-push, else-count-eq0}
use Rattle.pf_orders.proofs.rounds.release.Goals as goal

pub index-requires : goal.index-requires
index-requires g c =
    let row = c.args.row.now in
    let i = c.targets.target-index in
    let l = c.requires.inside (get_or row i 0) (member_of row (get_or row i 0) (Contains-index row i 0 c.targets-test.true)) in
    omega (arith, l, c.targets.invariant.falls.len, c.targets.counts.ok)

pub index_mut-requires : goal.index_mut-requires
index_mut-requires g c =
    let row = c.args.row.now in
    let i = c.targets.target-index in
    let l = c.requires.inside (get_or row i 0) (member_of row (get_or row i 0) (Contains-index row i 0 c.targets-test.true)) in
    omega (arith, l, c.targets.invariant.falls.len, c.targets.counts.ok)

pub overflow_sub-count : goal.overflow_sub-count
overflow_sub-count g c =
    let row = c.args.row.now in
    let i = c.targets.target-index in
    let t = get_or row i 0 in
    let l = c.requires.inside t (member_of row t (Contains-index row i 0 c.targets-test.true)) in
    let at : slice_get c.targets.counts.items t ≡ Some c.index.result.now = at_place c.targets.counts.items t _ _ (omega (arith, l, c.targets.invariant.falls.len)) (sym c.index.ensures) in
    count_above row c.args.counts.now.items c.targets.counts.items i t c.index.result.now c.targets.invariant.falls c.requires.enough (take_more row i 0 c.targets-test.true) l at

pub targets-preserved : goal.targets-preserved
targets-preserved g c =
    let row = c.args.row.now in
    let i = c.targets.target-index in
    let t = get_or row i 0 in
    let old = c.args.counts.now.items in
    let counts = c.targets.counts.items in
    let count = c.index.result.now in
    let v = c.targets.invariant in
    let l = c.requires.inside t (member_of row t (Contains-index row i 0 c.targets-test.true)) in
    let at : slice_get counts t ≡ Some count = at_place counts t _ _ (omega (arith, l, v.falls.len)) (sym c.index.ensures) in
    let above = count_above row old counts i t count v.falls c.requires.enough (take_more row i 0 c.targets-test.true) l at in
    let one : count ≡ count - 1 + 1 = omega (arith, above) in
    let at1 : slice_get counts t ≡ Some (count - 1 + 1) = at ∙ ap Some one in
    let freed = v.freed.0 in
    record {
      falls = subst (λ (ks : List ℕ). Falls ks old (slice_set counts t (count - 1))) (sym (take_more row i 0 c.targets-test.true)) (falls_more (take i row) old counts freed t (count - 1) v.falls v.freed.2 at1);
      freed = elim c.if-count-eq0.branch as (λ _. (f : List ℕ) × (c.if-count-eq0.next.items ≡ c.args.next.now.items ++ f) × AreFreed old (slice_set counts t (count - 1)) f) [
        | then-count-eq0+in_ok-push w ↦
            let zero_now : count - 1 ≡ 0 = w.if-count-eq0.true in
            let e : c.if-count-eq0.next.items ≡ c.targets.next.items ++ t ∷ [] = ap (λ (v : Vec ℕ g.row.A.Denot). v.items) w.next-is ∙ w.in_ok-push.ensures.items in
            (freed ++ t ∷ [], e ∙ ap (λ ks. ks ++ t ∷ []) v.freed.1 ∙ append_assoc c.args.next.now.items freed (t ∷ []), freed_more (take i row) old counts freed t (count - 1) v.falls v.freed.2 at1 zero_now l)
        | else-count-eq0 w ↦
            let not_zero : ¬ (count - 1 ≡ 0) = w.if-count-eq0.false in
            let e : c.if-count-eq0.next.items ≡ c.targets.next.items = ap (λ (v : Vec ℕ g.row.A.Denot). v.items) w.next-is in
            (freed, e ∙ v.freed.1, freed_same (take i row) old counts freed t (count - 1) v.falls v.freed.2 at1 not_zero)
      ];
    }

pub returns-in_err-push : goal.returns-in_err-push
returns-in_err-push g c =
    let r = c.from_residual in
    record {
      falls = on_failed _ _ r.ensures.0;
      freed = on_failed _ _ r.ensures.0;
      refused = refused_as _ r.result _ r.ensures.1 refl;
    }

pub returns : goal.returns
returns g c =
    let v = c.targets.invariant in
    record {
      falls = subst (λ (ks : List ℕ). Falls ks c.args.counts.now.items c.targets.counts.items) (take_all _ _ c.targets-test.false) v.falls;
      freed = v.freed;
      refused = tt;
    }
