use Rattle.std.proofs.Common.{◌≡◌, ◌<◌, ◌≤◌, ℕ, refl, arith, ap, ◌∙◌, length, false}
use Rattle.std.specs.Prelude.{slice_set, slice_index}
use Rattle.std.proofs.lemmas.List.{get_or-set_same, get_or-set_other, length-set}
use Rattle.pf_base.specs.Places.{number}
use Rattle.pf_assignment.specs.Internal.AssignmentSteps.{flag}
use Rattle.pf_assignment.proofs.MatchingNumbers.{number-set_same, number-set_other, below_written, all_unvisited}
use Rattle.pf_assignment.proofs.kuhn_munkres.tree.Tree.clear.Goals as goal

pub loop-column-preserved : goal.loop-column-preserved
loop-column-preserved g c =
    let i = c.loop-column.invariant in
    let k = c.loop-column.column in
    let in_visited : k < length c.loop-column.self.visited.items = omega (arith, i.visited_len) in
    let in_distances : k < length c.loop-column.self.distances.items = omega (arith, i.visited_len, c.loop-column.self.wide.0) in
    let in_places : k < length c.loop-column.self.places.items = omega (arith, i.visited_len, c.loop-column.self.wide.1) in
    record {
      rows = i.rows;
      visited_len = length-set c.loop-column.self.visited.items k false ∙ i.visited_len;
      unvisited = λ j h. below_written (λ n. flag (slice_set c.loop-column.self.visited.items k false) n) (flag c.loop-column.self.visited.items) (λ _. false) k (get_or-set_same c.loop-column.self.visited.items k false false in_visited) (λ n m. get_or-set_other c.loop-column.self.visited.items k n false false m) i.unvisited j h;
      far = λ j h. below_written (number g.C.Number.value (slice_set c.loop-column.self.distances.items k c.greatest.result)) (number g.C.Number.value c.loop-column.self.distances.items) (λ _. g.C.Number.value g.C.Cost.greatest) k (number-set_same g.C.Number.value c.loop-column.self.distances.items k c.greatest.result in_distances ∙ ap g.C.Number.value c.greatest.ensures) (λ n m. number-set_other g.C.Number.value c.loop-column.self.distances.items k n c.greatest.result m) i.far j h;
      root = λ j h. below_written (λ n. slice_index (slice_set c.loop-column.self.places.items k 0) n) (slice_index c.loop-column.self.places.items) (λ _. 0) k (get_or-set_same c.loop-column.self.places.items k 0 0 in_places) (λ n m. get_or-set_other c.loop-column.self.places.items k n 0 0 m) i.root j h;
    }

pub loop-column-init : goal.loop-column-init
loop-column-init g c = record {
  rows = refl;
  visited_len = refl;
  unvisited = λ j h. absurd (omega (arith, h));
  far = λ j h. absurd (omega (arith, h));
  root = λ j h. absurd (omega (arith, h));
}

in_order : (j n m k end : ℕ) → j < n → n ≡ m → end ≡ m → end ≤ k → j < k
in_order j n m k end h e f l = omega (arith, h, e, f, l)

pub returns : goal.returns
returns g c =
    let v = c.loop-column.invariant in
    record {
      rows = c.loop-column.invariant.rows;
      wide = v.visited_len;
      fresh =
          let all : c.len-column-end.result ≡ length c.args.self.now.visited.items = c.len-column-end.ensures ∙ c.args.self.now.visited.ok.0 in
          let past = c.loop-column-test.false in
          record {
            unvisited = all_unvisited c.loop-column.self.visited.items (λ j h. v.unvisited j (in_order _ _ _ _ _ h v.visited_len all past));
            far = λ j h. v.far j (in_order _ _ _ _ _ h refl all past);
            root = λ j h. v.root j (in_order _ _ _ _ _ h refl all past);
          };
    }
