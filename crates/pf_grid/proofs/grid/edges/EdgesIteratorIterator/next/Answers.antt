use Rattle.std.proofs.Common.{◌≡◌, ◌∙◌, ℕ, ◌+◌, ◌*◌, ◌++◌, [], ◌∷◌, List, Option, Some, None, drop, sym, arith, ap, length, true, false, true≢false}
use Rattle.std.specs.Prelude.{MatchOption, ⊤, is_some}
use Rattle.std.specs.Iterator.{MakesProgress, item_count}
use Rattle.std.specs.List.{flat_map}
use Rattle.pf_grid.specs.Steps.{edges_by, forward}
use Rattle.pf_grid.specs.Vertices.{vertices_from}
use Rattle.pf_grid.proofs.grid.edges.EdgesIteratorIterator.next.Goals as goal

-- what is left once an edge was looked for: the edge that was found, if any, and those after it
found_left : {E : Type 0} (o : Option E) (now old new rest : List E) (n : ℕ) → now ≡ old ++ rest → (n ≡ 4 → new ≡ []) → MatchOption o ((old ≡ []) × (n ≡ 4)) (λ e. old ≡ e ∷ new) → MatchOption o (now ≡ new ++ rest) (λ e. now ≡ e ∷ (new ++ rest))
found_left None now old new rest n is ends h = is ∙ ap (λ es. es ++ rest) (h.0 ∙ sym (ends h.1))
found_left (Some e) now old new rest n is ends h = is ∙ ap (λ es. es ++ rest) h

-- where no edge was found, all steps were tried
found_here : {E : Type 0} (o : Option E) (old new : List E) (n : ℕ) → MatchOption o ((old ≡ []) × (n ≡ 4)) (λ e. old ≡ e ∷ new) → MatchOption o (n ≡ 4) (λ e. ⊤)
found_here None old new n h = h.1
found_here (Some e) old new n h = tt

-- where no edge was found
left_none : {E : Type 0} (o : Option E) (now left : List E) → is_some o ≡ false → MatchOption o (now ≡ left) (λ e. now ≡ e ∷ left) → now ≡ left
left_none None now left b h = h
left_none (Some e) now left b h = absurd (true≢false b)

here_none : {E : Type 0} (o : Option E) (n : ℕ) → is_some o ≡ false → MatchOption o (n ≡ 4) (λ e. ⊤) → n ≡ 4
here_none None n b h = h
here_none (Some e) n b h = absurd (true≢false b)

-- where one was found
left_some : {E : Type 0} (o : Option E) (now left : List E) → is_some o ≡ true → MatchOption o (now ≡ left) (λ e. now ≡ e ∷ left) → MatchOption o ((now ≡ []) × (left ≡ [])) (λ e. now ≡ e ∷ left)
left_some None now left b h = absurd (true≢false (sym b))
left_some (Some e) now left b h = h

goes_some : {E : Type 0} (o : Option E) (now left : List E) → is_some o ≡ true → MatchOption o (now ≡ left) (λ e. now ≡ e ∷ left) → MakesProgress (λ (es : List E). Unit {0}) (item_count (λ (es : List E). es)) now o left
goes_some None now left b h = absurd (true≢false (sym b))
goes_some (Some e) now left b h = record { on = λ f. (tt, tt, omega (arith, ap length h)); keeps = tt; rests = λ f. tt }

pub loop-edge-smaller : goal.loop-edge-smaller
loop-edge-smaller g c = omega (arith, ap length c.in_ok-self-inside.ensures.0)

pub next_edge-edge-requires-clause-steps : goal.next_edge-edge-requires-clause-steps
next_edge-edge-requires-clause-steps g c = c.self.invariant.0

pub next_edge-edge-requires-clause-inside : goal.next_edge-edge-requires-clause-inside
next_edge-edge-requires-clause-inside g c = c.self.invariant.1

pub loop-edge-init : goal.loop-edge-init
loop-edge-init g c =
    let i = c.self.inside in
    let grid = i.grid.now in
    let n = c.next_edge-edge.new.next in
    let o = c.next_edge-edge.result in
    let e = c.next_edge-edge.ensures in
    let old = edges_by grid i.from (drop i.next forward) in
    let new = edges_by grid i.from (drop n forward) in
    let rest = flat_map (λ p. edges_by grid p forward) (vertices_from grid (i.y * grid.width + i.x)) in
    record {
      next = e.steps;
      inside = e.inside;
      wide = c.self.invariant.2;
      found = found_left o c.args.self.now old new rest n (sym c.self.view_is) (λ q. ap (λ m. edges_by grid i.from (drop m forward)) q) e.edge;
      here = found_here o old new n e.edge;
    }

pub invariant_of-self : goal.invariant_of-self
invariant_of-self g c = (c.loop-edge.invariant.next, c.loop-edge.invariant.inside, c.loop-edge.invariant.wide)

pub first_from-requires : goal.first_from-requires
first_from-requires g c = c.loop-edge.invariant.wide

pub invariant_of-self-in_err-self-inside : goal.invariant_of-self-in_err-self-inside
invariant_of-self-in_err-self-inside g c = (c.loop-edge.invariant.next, c.loop-edge.invariant.inside, c.loop-edge.invariant.wide)

pub overflow_add-self : goal.overflow_add-self
overflow_add-self g c = omega (arith, c.in_ok-self-inside.ensures.2)

pub loop-edge-preserved : goal.loop-edge-preserved
loop-edge-preserved g c =
    let s = c.loop-edge.self-inside in
    let grid = s.grid.now in
    let b = c.loop-edge-test.ensures in
    let d = c.in_ok-self-inside.ensures in
    let p = c.in_ok-self-inside.field-0 in
    let n = c.next_edge-edge-in-loop-edge.new.next in
    let o = c.next_edge-edge-in-loop-edge.result in
    let e = c.next_edge-edge-in-loop-edge.ensures in
    let f = λ (q : ℕ × ℕ). edges_by grid q forward in
    let vs = vertices_from grid (s.y * grid.width + s.x) in
    let rest = flat_map f (vertices_from grid (p.1 * grid.width + (p.0 + 1))) in
    let new = edges_by grid p (drop n forward) in
    let is = left_none c.loop-edge.edge c.args.self.now (edges_by grid s.from (drop s.next forward) ++ flat_map f vs) b c.loop-edge.invariant.found
    ∙ ap (λ m. edges_by grid s.from (drop m forward) ++ flat_map f vs) (here_none c.loop-edge.edge s.next b c.loop-edge.invariant.here) ∙ ap (flat_map f) d.0 in
    record {
      next = e.steps;
      inside = e.inside;
      wide = omega (arith, d.1.0);
      found = found_left o c.args.self.now (edges_by grid p forward) new rest n is (λ q. ap (λ m. edges_by grid p (drop m forward)) q) e.edge;
      here = found_here o (edges_by grid p forward) new n e.edge;
    }

pub returns-in_err-self-inside-clause-steps : goal.returns-in_err-self-inside-clause-steps
returns-in_err-self-inside-clause-steps g c =
    let s = c.loop-edge.self-inside in
    let grid = s.grid.now in
    let b = c.loop-edge-test.ensures in
    let f = λ (q : ℕ × ℕ). edges_by grid q forward in
    let vs = vertices_from grid (s.y * grid.width + s.x) in
    let is = left_none c.loop-edge.edge c.args.self.now (edges_by grid s.from (drop s.next forward) ++ flat_map f vs) b c.loop-edge.invariant.found in
    let none = ap (λ m. edges_by grid s.from (drop m forward) ++ flat_map f vs) (here_none c.loop-edge.edge s.next b c.loop-edge.invariant.here) ∙ ap (flat_map f) c.in_err-self-inside.ensures in
    rw c.from_residual.ensures (is ∙ none, none)

pub returns-in_err-self-inside-clause-goes : goal.returns-in_err-self-inside-clause-goes
returns-in_err-self-inside-clause-goes g c = rw c.from_residual.ensures (record { on = λ f. tt; keeps = tt; rests = λ f. f })

pub returns-clause-steps : goal.returns-clause-steps
returns-clause-steps g c = left_some c.loop-edge.edge c.args.self.now _ c.loop-edge-test.ensures c.loop-edge.invariant.found

pub returns-clause-goes : goal.returns-clause-goes
returns-clause-goes g c = goes_some c.loop-edge.edge c.args.self.now _ c.loop-edge-test.ensures c.loop-edge.invariant.found
