use Rattle.std.proofs.Common.{◌≡◌, ◌∙◌, ◌<◌, ℕ, Bool, true, false, true≢false, inl, inr, not, ◌||◌, ◌&&◌, nat_lt, [], ◌∷◌, ◌++◌, sym, ap, refl, arith}
use Rattle.std.specs.Prelude.{if◌then◌else◌}
use Rattle.std.specs.List.{list_any}
use Rattle.std.proofs.lemmas.Bool.{lt-ltb, le-ltb, cases_lt, cases_Bool}
use Rattle.std.proofs.lemmas.List.{append-nil, append_assoc}
use Rattle.std.proofs.lemmas.Result.{IfOk-from_err}
use Rattle.pf_matrix.proofs.RowLemmas.{on_err}
use Rattle.pf_base.proofs.Outcomes.{refused_as}
use Rattle.pf_grid.specs.declared.error.GridError.TheVariants.{OutOfMemory}
use Rattle.pf_grid.specs.GridPositions.{grid_of, has, in_mode, is_position}
use Rattle.pf_grid.specs.Vertices.{listed, vertices_of}
use Rattle.pf_grid.proofs.CellLemmas.{put_more, same_grids}
use Rattle.pf_grid.proofs.VertexLemmas.{any_more, listed_vertices}
use Rattle.pf_grid.proofs.WordLemmas.{same_coordinates}
use Rattle.pf_grid.proofs.grid.Grid.resize.Goals as goal

or_if : (p o : Bool) → (if p then true else o) ≡ (p || o)
or_if true o = refl
or_if false o = refl

inside_both : (w h x y : ℕ) → x < w → y < h → (nat_lt x w && nat_lt y h) ≡ true
inside_both w h x y p q = let a = lt-ltb x w p in let b = lt-ltb y h q in cc

beyond : (w h x y : ℕ) → ((x < w) × (y < h) → ⊥) → (nat_lt x w && nat_lt y h) ≡ false
beyond w h x y n = elim (cases_lt x w) as (λ _. (nat_lt x w && nat_lt y h) ≡ false) [
  | inl p ↦ elim (cases_lt y h) as (λ _. (nat_lt x w && nat_lt y h) ≡ false) [
    | inl q ↦ absurd (n (p, q))
    | inr q ↦ (let a = lt-ltb x w p in let b = le-ltb y h q in cc)
  ]
  | inr p ↦ ap (λ t. t && nat_lt y h) (le-ltb x w p)
]

-- a position inside is another one than v
elsewhere : (w h : ℕ) (v : ℕ × ℕ) (x y : ℕ) → x < w → y < h → (nat_lt v.0 w && nat_lt v.1 h) ≡ false → is_position v x y ≡ false
elsewhere w h v x y p q out = elim (cases_Bool (is_position v x y)) as (λ _. is_position v x y ≡ false) [
  | inl i ↦ let at = same_coordinates v x y i in absurd (true≢false (sym (inside_both w h v.0 v.1 (omega (arith, at.0)) (omega (arith, at.1))) ∙ out))
  | inr e ↦ e
]

pub put-requires : goal.put-requires
put-requires g c = c.is_inside.ensures.0 c.if-is_inside.true

pub loop-vertex-preserved-then-is_inside : goal.loop-vertex-preserved-then-is_inside
loop-vertex-preserved-then-is_inside g c =
    let w = c.args.width in
    let h = c.args.height in
    let v = c.in-Some.vertex in
    let ps = c.loop-vertex.yielded in
    let kept = c.loop-vertex.invariant.kept in
    let inside = c.is_inside.ensures.0 c.if-is_inside.true in
    let wide : v.0 < w = omega (arith, ap (λ t. t.width) kept) in
    let low : v.1 < h = omega (arith, ap (λ t. t.height) kept) in
    record {
      all = append_assoc ps (v ∷ []) c.next.new.self ∙ ap (λ l. ps ++ l) (sym c.in-Some.ensures.steps) ∙ c.loop-vertex.invariant.all;
      kept = put_more (grid_of w h false (λ x y. false)) c.loop-vertex.resized c.put.new.self v true (listed ps) (listed (ps ++ v ∷ [])) kept c.put.ensures (λ x y i j. or_if (is_position v x y) (listed ps x y) ∙ sym (any_more (λ p. is_position p x y) ps v));
      lost = c.loop-vertex.invariant.lost ∙ sym (any_more (λ p. not (nat_lt p.0 w && nat_lt p.1 h)) ps v ∙ ap (λ t. not t || list_any (λ p. not (nat_lt p.0 w && nat_lt p.1 h)) ps) (inside_both w h v.0 v.1 wide low));
    }

pub loop-vertex-preserved : goal.loop-vertex-preserved
loop-vertex-preserved g c =
    let w = c.args.width in
    let h = c.args.height in
    let v = c.in-Some.vertex in
    let ps = c.loop-vertex.yielded in
    let kept = c.loop-vertex.invariant.kept in
    let out = beyond w h v.0 v.1 (λ i. true≢false (sym (c.is_inside.ensures.1 (rw kept i)) ∙ c.if-is_inside.false)) in
    record {
      all = append_assoc ps (v ∷ []) c.next.new.self ∙ ap (λ l. ps ++ l) (sym c.in-Some.ensures.steps) ∙ c.loop-vertex.invariant.all;
      kept = kept ∙ same_grids w h false (listed ps) (listed (ps ++ v ∷ [])) (λ x y i j. ap (λ t. t || listed ps x y) (sym (elsewhere w h v x y i j out)) ∙ sym (any_more (λ p. is_position p x y) ps v));
      lost = sym (any_more (λ p. not (nat_lt p.0 w && nat_lt p.1 h)) ps v ∙ ap (λ t. not t || list_any (λ p. not (nat_lt p.0 w && nat_lt p.1 h)) ps) out);
    }

pub returns-in_err-resized : goal.returns-in_err-resized
returns-in_err-resized g c = record {
  resized = IfOk-from_err _ _ c.from_residual.ensures.0;
  lost = IfOk-from_err _ _ c.from_residual.ensures.0;
  refused = refused_as (λ e. e ≡ OutOfMemory) c.from_residual.result c.in_err-resized.field-0.0 c.from_residual.ensures.1 c.in_err-resized.ensures.refused;
  unchanged = on_err c.from_residual.result refl;
}

pub loop-vertex-init : goal.loop-vertex-init
loop-vertex-init g c = record {
  all = c.into_iter-vertex-iterator.ensures.into_iter_gives ∙ c.iter-vertex-items.ensures.vertices;
  kept = c.in_ok-resized.ensures.made;
  lost = refl;
}

pub returns : goal.returns
returns g c = record {
  resized =
      let w = c.args.width in
      let h = c.args.height in
      let now = c.args.self.now in
      let ps = c.loop-vertex.yielded in
      let all : ps ≡ vertices_of now = sym (append-nil ps) ∙ ap (λ l. ps ++ l) (sym c.in-None.ensures.steps.0) ∙ c.loop-vertex.invariant.all in
      ap (λ z. in_mode z c.self.inside.diagonal) (c.resized-2.view_is ∙ c.loop-vertex.invariant.kept)
      ∙ ap (λ d. grid_of w h d (listed ps)) (ap (λ z. z.diagonal) c.self.view_is)
      ∙ same_grids w h now.diagonal (listed ps) (has now) (λ x y i j. ap (λ l. listed l x y) all ∙ listed_vertices now x y);
  lost =
      let now = c.args.self.now in
      let ps = c.loop-vertex.yielded in
      let all : ps ≡ vertices_of now = sym (append-nil ps) ∙ ap (λ l. ps ++ l) (sym c.in-None.ensures.steps.0) ∙ c.loop-vertex.invariant.all in
      c.loop-vertex.invariant.lost ∙ ap (λ l. list_any (λ p. not (nat_lt p.0 c.args.width && nat_lt p.1 c.args.height)) l) all;
  refused = tt;
  unchanged = tt;
}
