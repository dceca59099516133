use Rattle.std.proofs.Common.{arith, ◌∙◌, ap, sym, subst, ℕ, ◌<◌, [], ◌∷◌, ◌++◌, length, inl, inr}
use Rattle.std.proofs.lemmas.Result.{IfOk-from_err}
use Rattle.std.specs.Prelude.{reverse, Contains}
use Rattle.std.proofs.lemmas.List.{append-nil, append_assoc}
use Rattle.pf_base.proofs.ListLemmas.{Contains-append_one, Contains-reverse}
use Rattle.pf_core.proofs.LabelLemmas.{HasLabel-inside}
use Rattle.pf_core.proofs.ClimbLemmas.{climbs_fewer, climbs_labelled, climbs_on}
use Rattle.pf_base.proofs.Outcomes.{no_memory}
use Rattle.pf_core.proofs.labels.path_to.Goals as goal

pub climb-init : goal.climb-init
climb-init g c =
    let e = c.in_ok-push.ensures.items ∙ ap (λ xs. xs ++ c.args.last ∷ []) c.new-numbers.ensures.items in
    let l = climbs_labelled c.args.labels.now c.requires.0 c.args.last c.requires.1 in
    record {
      ahead = c.requires;
      inside = λ k h. let r = subst (λ xs. Contains xs k) e h in elim (Contains-append_one [] c.args.last k r) as (λ _. k < length c.args.labels.now) [ inl i ↦ absurd (omega (arith, i.1)) | inr q ↦ subst (λ (n : ℕ). n < length c.args.labels.now) q (HasLabel-inside c.args.labels.now c.args.last l.0 l.1) ];
      climbs = λ above h. (above, ap (λ xs. xs ++ above) e, h);
    }

pub climb-preserved : goal.climb-preserved
climb-preserved g c =
    let labels = c.args.labels.now in
    let i = c.climb.invariant in
    let p = c.in-Some.ensures in
    let e = c.in_ok-push-2.ensures.items in
    let on = climbs_on labels i.ahead.0 c.climb.at i.ahead.1 p.0 p.1 c.in-Some.parent p.2 p.3 in
    let l = climbs_labelled labels on.0 c.in-Some.parent on.1 in
    record {
      ahead = (on.0, on.1);
      inside = λ k h. elim (Contains-append_one c.climb.numbers.items c.in-Some.parent k (subst (λ xs. Contains xs k) e h)) as (λ _. k < length labels) [
        | inl r ↦ i.inside k r
        | inr r ↦ subst (λ (n : ℕ). n < length labels) r (HasLabel-inside labels c.in-Some.parent l.0 l.1)
      ];
      climbs = λ above h.
          let r = i.climbs (c.in-Some.parent ∷ above) (p.0, p.1, p.2, p.3, h) in
          (r.0, ap (λ xs. xs ++ above) e ∙ append_assoc c.climb.numbers.items (c.in-Some.parent ∷ []) above ∙ r.1, r.2);
    }

pub returns-in_err-push : goal.returns-in_err-push
returns-in_err-push g c = record {
  chain = IfOk-from_err _ _ c.from_residual.ensures.0;
  inside = IfOk-from_err _ _ c.from_residual.ensures.0;
  refused = no_memory c.from_residual.result c.from_residual.ensures.1;
}

pub returns-in_err-push-2 : goal.returns-in_err-push-2
returns-in_err-push-2 g c = record {
  chain = IfOk-from_err _ _ c.from_residual-in_err-push-2.ensures.0;
  inside = IfOk-from_err _ _ c.from_residual-in_err-push-2.ensures.0;
  refused = no_memory c.from_residual-in_err-push-2.result c.from_residual-in_err-push-2.ensures.1;
}

pub parent_of-requires : goal.parent_of-requires
parent_of-requires g c =
    let i = c.climb.invariant.ahead in
    let l = climbs_labelled c.args.labels.now i.0 c.climb.at i.1 in
    HasLabel-inside c.args.labels.now c.climb.at l.0 l.1

pub climb-smaller : goal.climb-smaller
climb-smaller g c =
    let i = c.climb.invariant.ahead in
    let p = c.in-Some.ensures in
    climbs_fewer c.args.labels.now i.0 c.climb.at i.1 p.0 p.1 c.in-Some.parent p.2 p.3

pub returns : goal.returns
returns g c = record {
  chain =
      let i = c.climb.invariant in
      let m = climbs_labelled c.args.labels.now i.ahead.0 c.climb.at i.ahead.1 in
      let r = i.climbs [] (m.0, m.1, c.in_default.ensures m.0 m.1) in
      record { above = r.0; climbs = r.2; is = c.reverse.ensures.items ∙ ap reverse (sym (append-nil c.climb.numbers.items) ∙ r.1) };
  inside = λ k h. c.climb.invariant.inside k (Contains-reverse c.climb.numbers.items k (subst (λ xs. Contains xs k) c.reverse.ensures.items h));
  refused = tt;
}
