use Rattle.pf_base.proofs.Outcomes.{if_refused, refused_as}
use Rattle.std.proofs.Common.{refl, ◌∙◌, ◌++◌, ◌∷◌, [], ap, sym, take, ℕ, List}
use Rattle.std.specs.Prelude.{map}
use Rattle.std.proofs.lemmas.List.{map_more, take_all}
use Rattle.pf_deepening.specs.declared.way.Frame.{Frame}
use Rattle.pf_informed.proofs.directed.idastar.round.numbers_to.Goals as goal

pub returns-in_err-numbers : goal.returns-in_err-numbers
returns-in_err-numbers g c = record {
  numbers = if_refused _ c.from_residual.result _ c.from_residual.ensures.1;
  refused = refused_as _ c.from_residual.result _ c.from_residual.ensures.1 refl;
}

pub returns-in_err-push : goal.returns-in_err-push
returns-in_err-push g c = record {
  numbers = if_refused _ c.from_residual-in_err-push.result _ c.from_residual-in_err-push.ensures.1;
  refused = refused_as _ c.from_residual-in_err-push.result _ c.from_residual-in_err-push.ensures.1 refl;
}

pub returns-in_err-push-2 : goal.returns-in_err-push-2
returns-in_err-push-2 g c = record {
  numbers = if_refused _ c.from_residual-in_err-push-2.result _ c.from_residual-in_err-push-2.ensures.1;
  refused = refused_as _ c.from_residual-in_err-push-2.result _ c.from_residual-in_err-push-2.ensures.1 refl;
}

pub returns-in_err-push-3 : goal.returns-in_err-push-3
returns-in_err-push-3 g c = record {
  numbers = if_refused _ c.from_residual-in_err-push-3.result _ c.from_residual-in_err-push-3.ensures.1;
  refused = refused_as _ c.from_residual-in_err-push-3.result _ c.from_residual-in_err-push-3.ensures.1 refl;
}

pub frames-init : goal.frames-init
frames-init g c = c.in_ok-numbers.ensures.items

pub frames-preserved : goal.frames-preserved
frames-preserved g c =
    let number = λ (f : Frame g.row.C.Denot). f.number in
    c.in_ok-push.ensures.items ∙ ap (λ (ns : List ℕ). ns ++ c.frame-item.result.number ∷ []) c.frames.invariant
    ∙ sym (map_more number c.args.trail.now c.frames.frame-index c.frame-item.result c.frames-test.true ∙ ap (λ (f : Frame g.row.C.Denot). map number (take c.frames.frame-index c.args.trail.now) ++ f.number ∷ []) (sym c.frame-item.is))

pub returns : goal.returns
returns g c = record {
  refused = tt;
  numbers =
      let all = take_all c.frames.frame-index c.args.trail.now c.frames-test.false in
      c.in_ok-push-3.ensures.items ∙ ap (λ (ns : List ℕ). ns ++ c.args.last ∷ [])
      (c.in_ok-push-2.ensures.items ∙ ap (λ (ns : List ℕ). ns ++ c.args.here ∷ []) (c.frames.invariant ∙ ap (λ (fs : List (Frame g.row.C.Denot)). map (λ (f : Frame g.row.C.Denot). f.number) fs) all));
}
