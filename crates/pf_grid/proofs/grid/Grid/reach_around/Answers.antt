use Rattle.std.proofs.Common.{◌≡◌, ◌∙◌, ◌++◌, ◌∷◌, [], Some, List, ℕ, refl, subst, sym}
use Rattle.std.specs.Prelude.{slice_get}
use Rattle.pf_base.proofs.Outcomes.{on_failed, refused_by}
use Rattle.pf_matrix.specs.Floods.{answer_at}
use Rattle.pf_matrix.specs.Internal.Flooding.{Spreads}
use Rattle.pf_matrix.proofs.FloodLemmas.{next_in, spreading_more, spreading_none, spreading_past}
use Rattle.pf_grid.specs.Steps.{neighbours_of}
use Rattle.pf_grid.proofs.FloodLemmas.{near_in}
use Rattle.pf_grid.proofs.grid.Grid.reach_around.Goals as goal

pub loop-neighbour-init : goal.loop-neighbour-init
loop-neighbour-init g c = spreading_none c.args.free.now (neighbours_of c.args.self.now c.args.position)
    c.into_iter-neighbour-iterator.result c.args.reached.now.items (c.into_iter-neighbour-iterator.ensures.into_iter_gives ∙ c.around-neighbour-items.ensures)

pub close-requires : goal.close-requires
close-requires g c = next_in c.args.free.now c.loop-neighbour.free (neighbours_of c.args.self.now c.args.position)
    c.loop-neighbour.neighbour-iterator c.next.new.self c.args.reached.now.items c.loop-neighbour.reached.items c.in-Some.neighbour
    (λ q h. let i = near_in c.args.self.now c.args.position q h in (rw c.requires.sizes.0 i.0, rw c.requires.sizes.1 i.1)) c.in-Some.ensures.steps c.loop-neighbour.invariant

pub loop-neighbour-preserved-in-Continue-1 : goal.loop-neighbour-preserved-in-Continue-1
loop-neighbour-preserved-in-Continue-1 g c = spreading_more c.args.free.now c.loop-neighbour.free (neighbours_of c.args.self.now c.args.position)
    c.loop-neighbour.neighbour-iterator c.next.new.self c.args.reached.now.items c.loop-neighbour.reached.items c.in-Some.neighbour
    (λ q h. let i = near_in c.args.self.now c.args.position q h in (rw c.requires.sizes.0 i.0, rw c.requires.sizes.1 i.1)) c.in-Some.ensures.steps c.loop-neighbour.invariant
    c.close.new.free c.close.ensures.below c.close.ensures.closed c.push.new.self.items c.if-close.ensures.was c.in_ok-push.ensures.items

pub loop-neighbour-preserved : goal.loop-neighbour-preserved
loop-neighbour-preserved g c = spreading_past c.args.free.now c.loop-neighbour.free (neighbours_of c.args.self.now c.args.position)
    c.loop-neighbour.neighbour-iterator c.next.new.self c.args.reached.now.items c.loop-neighbour.reached.items c.in-Some.neighbour
    (λ q h. let i = near_in c.args.self.now c.args.position q h in (rw c.requires.sizes.0 i.0, rw c.requires.sizes.1 i.1)) c.in-Some.ensures.steps c.loop-neighbour.invariant
    c.close.new.free c.close.ensures.below c.close.ensures.closed c.if-close.ensures.was

pub returns : goal.returns
returns g c =
    let first = c.args.free.now in
    let t = c.loop-neighbour.invariant in
    record {
      sizes = (t.rows, t.columns);
      closes = t.spreads.closes;
      kept = t.spreads.kept;
      spreads = subst (λ (ps : List (ℕ × ℕ)). Spreads (neighbours_of c.args.self.now c.args.position) ps
          (answer_at first.rows first.columns first.values) (answer_at first.rows first.columns c.loop-neighbour.free.values) c.args.reached.now.items c.loop-neighbour.reached.items)
          c.in-None.ensures.steps.0 t.spreads;
      counted = t.counted;
      refused = tt;
    }

pub returns-in_err-push : goal.returns-in_err-push
returns-in_err-push g c =
    let before = c.loop-neighbour.reached.items in
    let t = spreading_more c.args.free.now c.loop-neighbour.free (neighbours_of c.args.self.now c.args.position)
    c.loop-neighbour.neighbour-iterator c.next.new.self c.args.reached.now.items before c.in-Some.neighbour
    (λ q h. let i = near_in c.args.self.now c.args.position q h in (rw c.requires.sizes.0 i.0, rw c.requires.sizes.1 i.1)) c.in-Some.ensures.steps c.loop-neighbour.invariant
    c.close.new.free c.close.ensures.below c.close.ensures.closed (before ++ c.in-Some.neighbour ∷ []) c.if-close.ensures.was refl in
    record {
      sizes = (t.rows, t.columns);
      closes = t.spreads.closes;
      kept = λ k p h. subst (λ (ps : List (ℕ × ℕ)). slice_get ps k ≡ Some p) (sym c.in_err-push.ensures.items) (c.loop-neighbour.invariant.spreads.kept k p h);
      spreads = on_failed _ c.from_residual.result c.from_residual.ensures.0;
      counted = on_failed _ c.from_residual.result c.from_residual.ensures.0;
      refused = refused_by _ c.from_residual.result c.from_residual.ensures.1;
    }
