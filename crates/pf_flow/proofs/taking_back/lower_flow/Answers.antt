use Rattle.std.proofs.Common.{◌≡◌, ◌≢◌, ℤ, arith, pos, sym}
use Rattle.std.specs.Prelude.{◌≤ℤ◌, ◌-ℤ◌}
use Rattle.std.proofs.lemmas.Int.{ints}
use Rattle.pf_residual.specs.declared.cancelling.arcs.Arc.{Arc}
use Rattle.pf_residual.specs.Networks.{Network}
use Rattle.pf_residual.specs.Internal.Balances.{IsBalanced}
use Rattle.pf_residual.proofs.AgreeLemmas.{balanced_agrees, capacities_agrees, capacities_more}
use Rattle.pf_flow.specs.Internal.Changes.{Carries}
use Rattle.pf_residual.proofs.PushLemmas.{capacity_moved, balanced_moved, move_fits_flow, move_fits_flow_back, move_fits_residual, move_fits_residual_back}
use Rattle.pf_residual.proofs.NetworkLemmas.{flow_fits}
use Rattle.pf_flow.proofs.TakeBackLemmas.{kept_move}
use Rattle.pf_flow.proofs.taking_back.lower_flow.Goals as goal

rest_not_below : (f m all : ℤ) → f ≡ all → m ≤ℤ all → pos 0 ≤ℤ (f -ℤ m)
rest_not_below f m all e l = omega (arith, ints, e, l)

rest_at_most : (f m all : ℤ) → f ≡ all → pos 0 ≤ℤ m → (f -ℤ m) ≤ℤ all
rest_at_most f m all e l = omega (arith, ints, e, l)

-- what the arc loses, f less m, its reverse has left
module _ {fits : ℤ → Type 0} (N : Network) (e : Arc) (m f z : ℤ) (w : IsBalanced fits N) (h : Carries m e N) (is : f ≡ N.flow e.from e.to) (d : z ≡ f -ℤ m) where
  not_below : pos 0 ≤ℤ z
  not_below = let most = h.less.1 in omega (arith, ints, d, is, most)

  left_back : z ≤ℤ N.residual e.to e.from
  left_back =
      let low = h.less.0 in
      let o = w.opposite e.from e.to h.inside.0 h.inside.1 in
      let k = w.capacities.at e.to e.from h.inside.1 h.inside.0 in
      omega (arith, ints, d, is, low, o, k)

  back_apart : e.to ≢ e.from
  back_apart q = h.apart (sym q)

pub minus-excess-requires : goal.minus-excess-requires
minus-excess-requires g c =
    let exact = g.met.C.Integral.exact_law in
    let between = λ (x y z : ℤ). g.C.Number.between_law x y z exact in
    let N = g.S.FlowStore.network c.args.store.now in
    let h = c.requires.carries in
    let f = flow_fits between g.met.C.SignedCost.negation_law c.requires.balanced c.args.arc.from c.args.arc.to h.inside.0 h.inside.1 in
    let is = c.flow.ensures in
    g.C.Number.between_law (pos 0) _ (N.flow c.args.arc.from c.args.arc.to) exact (g.met.C.Zero.zero_fits_law exact) f (rest_not_below _ _ _ is h.less.1) (rest_at_most _ _ _ is h.less.0)

pub add_flow-requires-clause-flow : goal.add_flow-requires-clause-flow
add_flow-requires-clause-flow g c =
    let between = λ (x y z : ℤ). g.C.Number.between_law x y z g.met.C.Integral.exact_law in
    let N = g.S.FlowStore.network c.args.store.now in
    let w = c.requires.balanced in
    let h = c.requires.carries in
    let is = c.flow.ensures in
    let d = c.minus-excess.ensures in
    move_fits_flow between g.met.C.SignedCost.negation_law w c.args.arc.to c.args.arc.from _ h.inside.1 h.inside.0 (back_apart N _ _ _ _ w h is d) (not_below N _ _ _ _ w h is d) (left_back N _ _ _ _ w h is d)

pub add_flow-requires-clause-flow_back : goal.add_flow-requires-clause-flow_back
add_flow-requires-clause-flow_back g c =
    let between = λ (x y z : ℤ). g.C.Number.between_law x y z g.met.C.Integral.exact_law in
    let N = g.S.FlowStore.network c.args.store.now in
    let w = c.requires.balanced in
    let h = c.requires.carries in
    let is = c.flow.ensures in
    let d = c.minus-excess.ensures in
    move_fits_flow_back between g.met.C.SignedCost.negation_law w c.args.arc.to c.args.arc.from _ h.inside.1 h.inside.0 (back_apart N _ _ _ _ w h is d) (not_below N _ _ _ _ w h is d) (left_back N _ _ _ _ w h is d)

pub add_flow-requires-clause-residual : goal.add_flow-requires-clause-residual
add_flow-requires-clause-residual g c =
    let between = λ (x y z : ℤ). g.C.Number.between_law x y z g.met.C.Integral.exact_law in
    let N = g.S.FlowStore.network c.args.store.now in
    let w = c.requires.balanced in
    let h = c.requires.carries in
    let is = c.flow.ensures in
    let d = c.minus-excess.ensures in
    move_fits_residual between g.met.C.SignedCost.negation_law w c.args.arc.to c.args.arc.from _ h.inside.1 h.inside.0 (back_apart N _ _ _ _ w h is d) (not_below N _ _ _ _ w h is d) (left_back N _ _ _ _ w h is d)

pub add_flow-requires-clause-residual_back : goal.add_flow-requires-clause-residual_back
add_flow-requires-clause-residual_back g c =
    let between = λ (x y z : ℤ). g.C.Number.between_law x y z g.met.C.Integral.exact_law in
    let N = g.S.FlowStore.network c.args.store.now in
    let w = c.requires.balanced in
    let h = c.requires.carries in
    let is = c.flow.ensures in
    let d = c.minus-excess.ensures in
    move_fits_residual_back between g.met.C.SignedCost.negation_law w c.args.arc.to c.args.arc.from _ h.inside.1 h.inside.0 (back_apart N _ _ _ _ w h is d) (not_below N _ _ _ _ w h is d) (left_back N _ _ _ _ w h is d)

pub returns-clause-balanced : goal.returns-clause-balanced
returns-clause-balanced g c =
    let N = g.S.FlowStore.network c.args.store.now in
    let w = c.requires.balanced in
    let h = c.requires.carries in
    let is = c.flow.ensures in
    let d = c.minus-excess.ensures in
    balanced_agrees c.add_flow.ensures (balanced_moved w c.args.arc.to c.args.arc.from _ h.inside.1 h.inside.0 (back_apart N _ _ _ _ w h is d) (not_below N _ _ _ _ w h is d) (left_back N _ _ _ _ w h is d))

pub returns-clause-kept : goal.returns-clause-kept
returns-clause-kept g c =
    let N = g.S.FlowStore.network c.args.store.now in
    let z = g.C.Number.value c.minus-excess.result in
    capacities_more (kept_move N c.args.arc.to c.args.arc.from z (capacity_moved N c.args.arc.to c.args.arc.from z)) (capacities_agrees c.add_flow.ensures)
