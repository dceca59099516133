use Rattle.std.proofs.Common.{◌≡◌, ◌<◌, ◌+◌, ◌∙◌, refl, sym, ap, ℕ, Bool, true, false, cond, List, [], ◌∷◌, ◌++◌, length, take, take_all, arith, get_or}
use Rattle.std.specs.List.{filter}
use Rattle.std.proofs.lemmas.Option.{slice_get_read}
use Rattle.std.proofs.lemmas.List.Elements.{filter_more}
use Rattle.std.proofs.lemmas.List.{append-nil}
use Rattle.std.proofs.lemmas.Result.{IfOk-from_err}
use Rattle.pf_residual.specs.Internal.Levels.{leaves}
use Rattle.pf_base.proofs.Outcomes.{refused_by}
use Rattle.pf_flow.proofs.cuts.list_cut.Goals as goal
use Rattle.pf_flow.proofs.cuts.list_cut.Goals.{then-leaves_reached+in_ok-push, else-leaves_reached}

module _ {X : Type 0} (p : X → Bool) (xs : List X) (i : ℕ) (x : X) (l : i < length xs) (e : x ≡ get_or xs i x) where
  step : filter p (take (i + 1) xs) ≡ filter p (take i xs) ++ cond (p x) (x ∷ []) []
  step = filter_more p xs i x l ∙ ap (λ y. filter p (take i xs) ++ cond (p y) (y ∷ []) []) (sym e)

  taken : (edges more : List X) → edges ≡ filter p (take i xs) → more ≡ edges ++ x ∷ [] → p x ≡ true → more ≡ filter p (take (i + 1) xs)
  taken edges more f g h = g ∙ ap (λ ys. ys ++ x ∷ []) f ∙ sym (step ∙ ap (λ (b : Bool). filter p (take i xs) ++ cond b (x ∷ []) []) h)

  left_out : (edges more : List X) → edges ≡ filter p (take i xs) → more ≡ edges → p x ≡ false → more ≡ filter p (take (i + 1) xs)
  left_out edges more f g h = g ∙ f ∙ sym (step ∙ ap (λ (b : Bool). filter p (take i xs) ++ cond b (x ∷ []) []) h ∙ append-nil (filter p (take i xs)))

pub leaves_reached-requires-clause-from : goal.leaves_reached-requires-clause-from
leaves_reached-requires-clause-from g c = (c.requires.inside c.loop-edge.edge-index c.edge-item.result (slice_get_read c.args.flows.now (length c.args.flows.now) c.loop-edge.edge-index c.edge-item.result refl c.loop-edge-test.true c.edge-item.is)).0

pub leaves_reached-requires-clause-to : goal.leaves_reached-requires-clause-to
leaves_reached-requires-clause-to g c = (c.requires.inside c.loop-edge.edge-index c.edge-item.result (slice_get_read c.args.flows.now (length c.args.flows.now) c.loop-edge.edge-index c.edge-item.result refl c.loop-edge-test.true c.edge-item.is)).1

pub loop-edge-preserved : goal.loop-edge-preserved
loop-edge-preserved g c = elim c.if-leaves_reached.branch [
  | then-leaves_reached+in_ok-push w ↦ taken (λ e. leaves c.args.levels.now e.0.0 e.0.1) c.args.flows.now c.loop-edge.edge-index c.edge-item.result c.loop-edge-test.true c.edge-item.is
      c.loop-edge.edges.items c.if-leaves_reached.edges.items c.loop-edge.invariant (ap (λ v. v.items) w.edges-is ∙ w.in_ok-push.ensures.items) (sym c.leaves_reached.ensures ∙ w.if-leaves_reached.true)
  | else-leaves_reached w ↦ left_out (λ e. leaves c.args.levels.now e.0.0 e.0.1) c.args.flows.now c.loop-edge.edge-index c.edge-item.result c.loop-edge-test.true c.edge-item.is
      c.loop-edge.edges.items c.if-leaves_reached.edges.items c.loop-edge.invariant (ap (λ v. v.items) w.edges-is) (sym c.leaves_reached.ensures ∙ w.if-leaves_reached.false)
]

pub loop-edge-init : goal.loop-edge-init
loop-edge-init g c = c.new-edges.ensures.items

pub returns-clause-edges : goal.returns-clause-edges
returns-clause-edges g c = c.loop-edge.invariant ∙ ap (filter (λ e. leaves c.args.levels.now e.0.0 e.0.1)) (take_all c.loop-edge.edge-index c.args.flows.now (omega (arith, c.loop-edge-test.false)))

pub returns-in_err-push-clause-edges : goal.returns-in_err-push-clause-edges
returns-in_err-push-clause-edges g c = IfOk-from_err _ _ c.from_residual.ensures.0

pub returns-in_err-push-clause-refused : goal.returns-in_err-push-clause-refused
returns-in_err-push-clause-refused g c = refused_by _ c.from_residual.result c.from_residual.ensures.1
