use Rattle.std.proofs.Common.{◌≡◌, ◌∙◌, ◌+◌, Bool, true, false, ◌||◌, take, get_or, ap, sym, refl, arith, ◌⊎◌, inl, inr}
use Rattle.std.specs.Prelude.{if◌then◌else◌}
use Rattle.std.proofs.lemmas.List.{take_all, take_more}
use Rattle.std.proofs.lemmas.Result.{IfOk-from_err}
use Rattle.pf_grid.specs.GridPositions.{grid_of, is_position}
use Rattle.pf_grid.specs.Vertices.{width_of, height_of, listed}
use Rattle.pf_grid.proofs.CellLemmas.{put_more}
use Rattle.pf_grid.proofs.VertexLemmas.{any_more, extent_at}
use Rattle.pf_base.proofs.Outcomes.{refused_as}
use Rattle.pf_grid.specs.declared.error.GridError.TheVariants.{OutOfMemory, TooLarge}
use Rattle.pf_grid.proofs.grid.Grid.from_positions.Goals as goal

or_if : (p o : Bool) → (if p then true else o) ≡ (p || o)
or_if true o = refl
or_if false o = refl

pub put-requires : goal.put-requires
put-requires g c =
    let ps = c.args.positions.now in
    let i = c.loop-position.position-index in
    let wide = ap (λ t. t.width) c.loop-position.invariant in
    let high = ap (λ t. t.height) c.loop-position.invariant in (
      omega (arith, wide, extent_at (λ p. p.0) ps i (0, 0) c.loop-position-test.true),
      omega (arith, high, extent_at (λ p. p.1) ps i (0, 0) c.loop-position-test.true),
    )

pub loop-position-preserved : goal.loop-position-preserved
loop-position-preserved g c =
    let ps = c.args.positions.now in
    let i = c.loop-position.position-index in
    let p = get_or ps i (0, 0) in
    put_more (grid_of (width_of ps) (height_of ps) false (λ x y. false)) c.loop-position.grid c.put.new.self p true (listed (take i ps)) (listed (take (i + 1) ps)) c.loop-position.invariant c.put.ensures (λ x y a b.
    or_if (is_position p x y) (listed (take i ps) x y) ∙ sym (any_more (λ q. is_position q x y) (take i ps) p) ∙ ap (λ l. listed l x y) (sym (take_more ps i (0, 0) c.loop-position-test.true)))

pub loop-position-init : goal.loop-position-init
loop-position-init g c = c.in_ok-grid.ensures.made ∙ (λ i. grid_of (c.in-Some.ensures.0 i) (c.in-Some.ensures.1 i) false (λ x y. false))

pub returns-clause-made : goal.returns-clause-made
returns-clause-made g c =
    let ps = c.args.positions.now in
    c.loop-position.invariant ∙ ap (λ qs. grid_of (width_of ps) (height_of ps) false (listed qs)) (take_all c.loop-position.position-index ps c.loop-position-test.false)

pub returns-in_err-grid-clause-made : goal.returns-in_err-grid-clause-made
returns-in_err-grid-clause-made g c = IfOk-from_err _ _ c.from_residual.ensures.0

pub returns-in_err-grid-clause-refused : goal.returns-in_err-grid-clause-refused
returns-in_err-grid-clause-refused g c = refused_as (λ e. (e ≡ OutOfMemory) ⊎ (e ≡ TooLarge)) c.from_residual.result c.in_err-grid.field-0.0 c.from_residual.ensures.1 (inl c.in_err-grid.ensures.refused)

pub returns-in_default-clause-made : goal.returns-in_default-clause-made
returns-in_default-clause-made g c = tt

pub returns-in_default-clause-refused : goal.returns-in_default-clause-refused
returns-in_default-clause-refused g c = inr refl

pub returns-clause-refused : goal.returns-clause-refused
returns-clause-refused g c = tt
