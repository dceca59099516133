use Rattle.std.proofs.Common.{◌≡◌, ◌<◌, ◌≤◌, ◌++◌, ◌∷◌, [], arith, ap, sym, subst, ◌∙◌, ℕ, length, true, Some, take, drop}
use Rattle.std.specs.Prelude.{neg_ℤ, ◌+ℤ◌, ◌-ℤ◌, slice_index, slice_set}
use Rattle.std.proofs.lemmas.List.{take_at}
use Rattle.std.proofs.lemmas.Result.{IfOk-from_err}
use Rattle.pf_base.specs.Places.{number}
use Rattle.pf_assignment.specs.Internal.AssignmentSteps.{holder, flag, raised, IsMatching, IsMatched, IsAlternatingTree, IsFlipped}
use Rattle.pf_assignment.proofs.MatchingBounds.{step_difference, step_sum, step_rest, depth_negation}
use Rattle.pf_assignment.proofs.MatchingRaise.{nearest_number, rooted_of, augment_lists}
use Rattle.pf_base.proofs.Outcomes.{refused_by}
use Rattle.pf_assignment.proofs.kuhn_munkres.matching.Matching.augment.Goals as goal

pub raise_columns-requires-clause-difference : goal.raise_columns-requires-clause-difference
raise_columns-requires-clause-difference g c = λ j h f.
    let value = g.C.Number.value in
    let m = c.args.self.now in
    let ds = c.args.tree.now.distances.items in
    let depth = nearest_number c.requires.tree.tree c.args.column c.requires.tree.nearest c.index-depth.result.now c.index-depth.ensures in
    let l = c.requires.next.matched.columns in
    let inside : j < (g.W.Weights.table c.args.weights.now).columns = omega (arith, h, ap length c.deref_mut.ensures.value, l) in
    subst (λ z. g.C.Number.fits (z -ℤ number value c.deref-2.result.now j)) depth
    (subst (λ xs. g.C.Number.fits (number value ds c.args.column -ℤ number value xs j)) (sym c.deref-2.ensures.value)
    (step_difference g.C.Number.fits (λ x y z. g.C.Number.between_law x y z g.met.C.Integral.exact_law) c.requires.next c.requires.tree.tree c.args.column c.requires.tree.nearest j inside (ap (λ xs. flag xs j) (sym c.deref.ensures.value) ∙ f)))

pub raise_columns-requires-clause-sum : goal.raise_columns-requires-clause-sum
raise_columns-requires-clause-sum g c = λ j h f.
    let value = g.C.Number.value in
    let m = c.args.self.now in
    let ds = c.args.tree.now.distances.items in
    let depth = nearest_number c.requires.tree.tree c.args.column c.requires.tree.nearest c.index-depth.result.now c.index-depth.ensures in
    let l = c.requires.next.matched.columns in
    let inside : j < (g.W.Weights.table c.args.weights.now).columns = omega (arith, h, ap length c.deref_mut.ensures.value, l) in
    subst (λ z. g.C.Number.fits (number value c.deref_mut.result.now j +ℤ (z -ℤ number value c.deref-2.result.now j))) depth
    (subst (λ xs. g.C.Number.fits (number value c.deref_mut.result.now j +ℤ (number value ds c.args.column -ℤ number value xs j))) (sym c.deref-2.ensures.value)
    (subst (λ xs. g.C.Number.fits (number value xs j +ℤ (number value ds c.args.column -ℤ number value ds j))) (sym c.deref_mut.ensures.value)
    (step_sum g.C.Number.fits (λ x y z. g.C.Number.between_law x y z g.met.C.Integral.exact_law) c.requires.next c.requires.tree.tree c.args.column c.requires.tree.nearest j inside (ap (λ xs. flag xs j) (sym c.deref.ensures.value) ∙ f))))

pub lower_rows-requires-clause-difference : goal.lower_rows-requires-clause-difference
lower_rows-requires-clause-difference g c = λ j h f.
    let value = g.C.Number.value in
    let m = c.args.self.now in
    let ds = c.args.tree.now.distances.items in
    let depth = nearest_number c.requires.tree.tree c.args.column c.requires.tree.nearest c.index-depth.result.now c.index-depth.ensures in
    let l = c.requires.tree.tree.visited_len in
    let inside : j < (g.W.Weights.table c.args.weights.now).columns = omega (arith, h, ap length c.deref-4.ensures.value, l) in
    subst (λ z. g.C.Number.fits (z -ℤ number value c.deref-5.result.now j)) depth
    (subst (λ xs. g.C.Number.fits (number value ds c.args.column -ℤ number value xs j)) (sym c.deref-5.ensures.value)
    (step_difference g.C.Number.fits (λ x y z. g.C.Number.between_law x y z g.met.C.Integral.exact_law) c.requires.next c.requires.tree.tree c.args.column c.requires.tree.nearest j inside (ap (λ xs. flag xs j) (sym c.deref-4.ensures.value) ∙ f)))

pub lower_rows-requires-clause-rest : goal.lower_rows-requires-clause-rest
lower_rows-requires-clause-rest g c =
    let value = g.C.Number.value in
    let m = c.args.self.now in
    let ds = c.args.tree.now.distances.items in
    let depth = nearest_number c.requires.tree.tree c.args.column c.requires.tree.nearest c.index-depth.result.now c.index-depth.ensures in
    subst (λ cs. (i : ℕ) → i < length cs → flag c.deref-4.result.now (slice_index cs i) ≡ true → g.C.Number.fits (number value c.deref_mut-2.result.now i -ℤ (value c.index-depth.result.now -ℤ number value c.deref-5.result.now (slice_index cs i)))) (sym c.deref-3.ensures.value)
    (λ i h f. subst (λ z. g.C.Number.fits (number value c.deref_mut-2.result.now i -ℤ (z -ℤ number value c.deref-5.result.now (slice_index m.column_of.items i)))) depth
    (subst (λ xs. g.C.Number.fits (number value c.deref_mut-2.result.now i -ℤ (number value ds c.args.column -ℤ number value xs (slice_index m.column_of.items i)))) (sym c.deref-5.ensures.value)
    (subst (λ xs. g.C.Number.fits (number value xs i -ℤ (number value ds c.args.column -ℤ number value ds (slice_index m.column_of.items i)))) (sym c.deref_mut-2.ensures.value)
    (step_rest g.C.Number.fits (λ x y z. g.C.Number.between_law x y z g.met.C.Integral.exact_law) c.requires.next c.requires.tree.tree c.args.column c.requires.tree.nearest i (slice_index m.column_of.items i) h (c.requires.next.matched.matching.inside i h) (ap (λ xs. flag xs (slice_index m.column_of.items i)) (sym c.deref-4.ensures.value) ∙ f)))))

pub negated-requires : goal.negated-requires
negated-requires g c =
    let value = g.C.Number.value in
    let m = c.args.self.now in
    let ds = c.args.tree.now.distances.items in
    let depth = nearest_number c.requires.tree.tree c.args.column c.requires.tree.nearest c.index-depth.result.now c.index-depth.ensures in
    subst (λ z. g.C.Number.fits (neg_ℤ z)) depth (depth_negation g.C.Number.fits (λ x y z. g.C.Number.between_law x y z g.met.C.Integral.exact_law) c.requires.next c.requires.tree.tree c.args.column c.requires.tree.nearest)

pub flip_path-left-requires-clause-rooted : goal.flip_path-left-requires-clause-rooted
flip_path-left-requires-clause-rooted g c =
    let m = c.args.self.now in
    let r = c.args.tree.now in
    subst (λ xs. IsAlternatingTree (length xs) (length c.deref_mut-4.result.now) (length c.deref-6.result.now) (slice_index xs) (slice_index c.deref-6.result.now) (slice_index c.deref-7.result.now)) (sym c.deref_mut-3.ensures.value)
    (subst (λ xs. IsAlternatingTree (length m.column_of.items) (length xs) (length c.deref-6.result.now) (slice_index m.column_of.items) (slice_index c.deref-6.result.now) (slice_index c.deref-7.result.now)) (sym c.deref_mut-4.ensures.value)
    (subst (λ xs. IsAlternatingTree (length m.column_of.items) (length m.row_of.items) (length xs) (slice_index m.column_of.items) (slice_index xs) (slice_index c.deref-7.result.now)) (sym c.deref-6.ensures.value)
    (subst (λ xs. IsAlternatingTree (length m.column_of.items) (length m.row_of.items) (length r.rows.items) (slice_index m.column_of.items) (slice_index r.rows.items) (slice_index xs)) (sym c.deref-7.ensures.value)
    (rooted_of c.requires.next.matched c.requires.tree.tree))))

pub returns-clause-matched : goal.returns-clause-matched
returns-clause-matched g c =
    let value = g.C.Number.value in
    let m = c.args.self.now in
    let ds = c.args.tree.now.distances.items in
    let depth = nearest_number c.requires.tree.tree c.args.column c.requires.tree.nearest c.index-depth.result.now c.index-depth.ensures in
    let r = c.args.tree.now in
    let t = g.W.Weights.table c.args.weights.now in
    let raised_as =
    subst (λ z. (j : ℕ) → j < length m.column_potentials.items → number value c.raise_columns.new.potentials j ≡ raised (flag r.visited.items j) (number value m.column_potentials.items j) (z -ℤ number value ds j)) (sym depth)
    (subst (λ xs. (j : ℕ) → j < length m.column_potentials.items → number value c.raise_columns.new.potentials j ≡ raised (flag r.visited.items j) (number value m.column_potentials.items j) (value c.index-depth.result.now -ℤ number value xs j)) c.deref-2.ensures.value
    (subst (λ xs. (j : ℕ) → j < length m.column_potentials.items → number value c.raise_columns.new.potentials j ≡ raised (flag xs j) (number value m.column_potentials.items j) (value c.index-depth.result.now -ℤ number value c.deref-2.result.now j)) c.deref.ensures.value
    (subst (λ xs. (j : ℕ) → j < length xs → number value c.raise_columns.new.potentials j ≡ raised (flag c.deref.result.now j) (number value xs j) (value c.index-depth.result.now -ℤ number value c.deref-2.result.now j)) c.deref_mut.ensures.value c.raise_columns.ensures))) in
    let lowered_as =
    subst (λ z. (i : ℕ) → i < length m.column_of.items → number value c.lower_rows.new.potentials i ≡ raised (flag r.visited.items (slice_index m.column_of.items i)) (number value m.row_potentials.items i) (neg_ℤ (z -ℤ number value ds (slice_index m.column_of.items i)))) (sym depth)
    (subst (λ xs. (i : ℕ) → i < length m.column_of.items → number value c.lower_rows.new.potentials i ≡ raised (flag r.visited.items (slice_index m.column_of.items i)) (number value m.row_potentials.items i) (neg_ℤ (value c.index-depth.result.now -ℤ number value xs (slice_index m.column_of.items i)))) c.deref-5.ensures.value
    (subst (λ xs. (i : ℕ) → i < length m.column_of.items → number value c.lower_rows.new.potentials i ≡ raised (flag xs (slice_index m.column_of.items i)) (number value m.row_potentials.items i) (neg_ℤ (value c.index-depth.result.now -ℤ number value c.deref-5.result.now (slice_index m.column_of.items i)))) c.deref-4.ensures.value
    (subst (λ cs. (i : ℕ) → i < length cs → number value c.lower_rows.new.potentials i ≡ raised (flag c.deref-4.result.now (slice_index cs i)) (number value m.row_potentials.items i) (neg_ℤ (value c.index-depth.result.now -ℤ number value c.deref-5.result.now (slice_index cs i)))) c.deref-3.ensures.value
    (subst (λ xs. (i : ℕ) → i < length c.deref-3.result.now → number value c.lower_rows.new.potentials i ≡ raised (flag c.deref-4.result.now (slice_index c.deref-3.result.now i)) (number value xs i) (neg_ℤ (value c.index-depth.result.now -ℤ number value c.deref-5.result.now (slice_index c.deref-3.result.now i)))) c.deref_mut-2.ensures.value c.lower_rows.ensures)))) in
    let flipped =
    subst (λ xs. IsFlipped (length xs) (length m.row_of.items) (length r.rows.items) c.args.column (slice_index xs) (holder m.row_of.items) (slice_index r.rows.items) (slice_index r.places.items) (slice_index c.flip_path-left.new.column_of) (holder c.flip_path-left.new.row_of) c.flip_path-left.result) c.deref_mut-3.ensures.value
    (subst (λ xs. IsFlipped (length c.deref_mut-3.result.now) (length xs) (length r.rows.items) c.args.column (slice_index c.deref_mut-3.result.now) (holder xs) (slice_index r.rows.items) (slice_index r.places.items) (slice_index c.flip_path-left.new.column_of) (holder c.flip_path-left.new.row_of) c.flip_path-left.result) c.deref_mut-4.ensures.value
    (subst (λ xs. IsFlipped (length c.deref_mut-3.result.now) (length c.deref_mut-4.result.now) (length xs) c.args.column (slice_index c.deref_mut-3.result.now) (holder c.deref_mut-4.result.now) (slice_index xs) (slice_index r.places.items) (slice_index c.flip_path-left.new.column_of) (holder c.flip_path-left.new.row_of) c.flip_path-left.result) c.deref-6.ensures.value
    (subst (λ xs. IsFlipped (length c.deref_mut-3.result.now) (length c.deref_mut-4.result.now) (length c.deref-6.result.now) c.args.column (slice_index c.deref_mut-3.result.now) (holder c.deref_mut-4.result.now) (slice_index c.deref-6.result.now) (slice_index xs) (slice_index c.flip_path-left.new.column_of) (holder c.flip_path-left.new.row_of) c.flip_path-left.result) c.deref-7.ensures.value c.flip_path-left.ensures.flipped))) in
    let last = subst (λ xs. slice_index xs c.flip_path-left.result ≡ 0) c.deref-7.ensures.value c.flip_path-left.ensures.root in
    let root : c.len.result ≡ length m.column_of.items = c.len.ensures ∙ m.column_of.ok.0 in
    let lr : length c.flip_path-left.new.row_of ≡ length m.row_of.items = c.flip_path-left.auto.row_of ∙ ap length c.deref_mut-4.ensures.value in
    let lc : length c.flip_path-left.new.column_of ≡ length m.column_of.items = c.flip_path-left.auto.column_of ∙ ap length c.deref_mut-3.ensures.value in
    let lu : length c.lower_rows.new.potentials ≡ length m.row_potentials.items = c.lower_rows.auto.potentials ∙ ap length c.deref_mut-2.ensures.value in
    let lv : length c.raise_columns.new.potentials ≡ length m.column_potentials.items = c.raise_columns.auto.potentials ∙ ap length c.deref_mut.ensures.value in
    let nr : m.row_of.len ≡ length m.row_of.items = m.row_of.ok.0 in
    let nc : m.column_of.len ≡ length m.column_of.items = m.column_of.ok.0 in
    let nu : m.row_potentials.len ≡ length m.row_potentials.items = m.row_potentials.ok.0 in
    let nv : m.column_potentials.len ≡ length m.column_potentials.items = m.column_potentials.ok.0 in
    let fr = take_at c.flip_path-left.new.row_of (drop (length c.flip_path-left.new.row_of) m.row_of.items) m.row_of.len (lr ∙ sym nr) in
    let fc = take_at c.flip_path-left.new.column_of (drop (length c.flip_path-left.new.column_of) m.column_of.items) m.column_of.len (lc ∙ sym nc) in
    let fu = take_at c.lower_rows.new.potentials (drop (length c.lower_rows.new.potentials) m.row_potentials.items) m.row_potentials.len (lu ∙ sym nu) in
    let fv = take_at c.raise_columns.new.potentials (drop (length c.raise_columns.new.potentials) m.column_potentials.items) m.column_potentials.len (lv ∙ sym nv) in
    let all = augment_lists c.requires.next.matched c.requires.tree.tree c.args.column c.requires.tree.nearest c.raise_columns.new.potentials c.lower_rows.new.potentials c.negated.result (c.negated.ensures ∙ ap neg_ℤ (sym depth)) raised_as lv lowered_as lu c.flip_path-left.new.column_of c.flip_path-left.new.row_of c.flip_path-left.result flipped last lc lr in
    let left = c.flip_path-left.result in
    let low = c.negated.result in
    let row_of = slice_set (take m.row_of.len (c.flip_path-left.new.row_of ++ drop (length c.flip_path-left.new.row_of) m.row_of.items)) left (Some c.len.result) in
    let vs = take m.column_potentials.len (c.raise_columns.new.potentials ++ drop (length c.raise_columns.new.potentials) m.column_potentials.items) in
    let column_of = c.flip_path-left.new.column_of ++ left ∷ [] in
    subst (λ xs. IsMatched value t xs row_of c.push.new.self.items vs) (sym (c.in_ok-push-2.ensures.items ∙ ap (λ xs. xs ++ left ∷ []) fc))
    (subst (λ xs. IsMatched value t column_of (slice_set xs left (Some c.len.result)) c.push.new.self.items vs) (sym fr)
    (subst (λ xs. IsMatched value t column_of (slice_set c.flip_path-left.new.row_of left (Some c.len.result)) xs vs) (sym (c.in_ok-push.ensures.items ∙ ap (λ xs. xs ++ low ∷ []) fu))
    (subst (λ xs. IsMatched value t column_of (slice_set c.flip_path-left.new.row_of left (Some c.len.result)) (c.lower_rows.new.potentials ++ low ∷ []) xs) (sym fv)
    (subst (λ k. IsMatched value t column_of (slice_set c.flip_path-left.new.row_of left (Some k)) (c.lower_rows.new.potentials ++ low ∷ []) c.raise_columns.new.potentials) (sym root) all))))

pub lower_rows-requires-clause-columns : goal.lower_rows-requires-clause-columns
lower_rows-requires-clause-columns g c = λ i h.
    let m = c.args.self.now in
    let inside = c.requires.next.matched.matching.inside i (subst (λ cs. i < length cs) c.deref-3.ensures.value h) in
    subst (λ cs. slice_index cs i < length c.deref-4.result.now) (sym c.deref-3.ensures.value)
    (subst (λ (n : ℕ). slice_index m.column_of.items i < n) (sym (ap length c.deref-4.ensures.value ∙ c.requires.tree.tree.visited_len)) inside)

pub flip_path-left-requires-clause-matching : goal.flip_path-left-requires-clause-matching
flip_path-left-requires-clause-matching g c =
    let m = c.args.self.now in
    subst (λ xs. IsMatching (length xs) (length c.deref_mut-4.result.now) (slice_index xs) (holder c.deref_mut-4.result.now)) (sym c.deref_mut-3.ensures.value)
    (subst (λ xs. IsMatching (length m.column_of.items) (length xs) (slice_index m.column_of.items) (holder xs)) (sym c.deref_mut-4.ensures.value)
    (subst (λ (n : ℕ). IsMatching (length m.column_of.items) n (slice_index m.column_of.items) (holder m.row_of.items)) (sym c.requires.next.matched.wide) c.requires.next.matched.matching))

pub raise_columns-requires-clause-visited : goal.raise_columns-requires-clause-visited
raise_columns-requires-clause-visited g c = ap length c.deref.ensures.value ∙ c.requires.tree.tree.visited_len ∙ sym (ap length c.deref_mut.ensures.value ∙ c.requires.next.matched.columns)

pub raise_columns-requires-clause-distances : goal.raise_columns-requires-clause-distances
raise_columns-requires-clause-distances g c = ap length c.deref-2.ensures.value ∙ c.requires.tree.tree.distances_len ∙ sym (ap length c.deref_mut.ensures.value ∙ c.requires.next.matched.columns)

at_most : (n k : ℕ) → k ≡ n → n ≤ k
at_most n k e = omega (arith, e)

pub lower_rows-requires-clause-rows : goal.lower_rows-requires-clause-rows
lower_rows-requires-clause-rows g c = at_most _ _ (ap length c.deref_mut-2.ensures.value ∙ c.requires.next.matched.rows ∙ sym (ap length c.deref-3.ensures.value))

pub lower_rows-requires-clause-distances : goal.lower_rows-requires-clause-distances
lower_rows-requires-clause-distances g c = ap length c.deref-5.ensures.value ∙ c.requires.tree.tree.distances_len ∙ sym (ap length c.deref-4.ensures.value ∙ c.requires.tree.tree.visited_len)

pub flip_path-left-requires-clause-places : goal.flip_path-left-requires-clause-places
flip_path-left-requires-clause-places g c = ap length c.deref-7.ensures.value ∙ c.requires.tree.tree.places_len ∙ sym (ap length c.deref_mut-4.ensures.value ∙ c.requires.next.matched.wide)

pub flip_path-left-requires-clause-inside : goal.flip_path-left-requires-clause-inside
flip_path-left-requires-clause-inside g c = subst (λ (n : ℕ). c.args.column < n) (sym (ap length c.deref_mut-4.ensures.value ∙ c.requires.next.matched.wide)) c.requires.tree.nearest.inside

pub flip_path-left-requires-clause-free : goal.flip_path-left-requires-clause-free
flip_path-left-requires-clause-free g c = ap (λ xs. holder xs c.args.column) c.deref_mut-4.ensures.value ∙ c.requires.free

pub returns-in_err-push : goal.returns-in_err-push
returns-in_err-push g c = record {
  matched = IfOk-from_err _ _ c.from_residual.ensures.0;
  rows = IfOk-from_err _ _ c.from_residual.ensures.0;
  refused = refused_by _ c.from_residual.result c.from_residual.ensures.1;
}

pub returns-in_err-push-2 : goal.returns-in_err-push-2
returns-in_err-push-2 g c = record {
  matched = IfOk-from_err _ _ c.from_residual-in_err-push-2.ensures.0;
  rows = IfOk-from_err _ _ c.from_residual-in_err-push-2.ensures.0;
  refused = refused_by _ c.from_residual-in_err-push-2.result c.from_residual-in_err-push-2.ensures.1;
}
