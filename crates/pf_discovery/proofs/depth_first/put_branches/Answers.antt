use Rattle.std.proofs.Common.{◌≡◌, ℕ, ◌∙◌, Bool, true, false, cond, not, List, [], ◌∷◌, ◌++◌, length, reverse, slice_index_or, sym, ap, arith}
use Rattle.std.proofs.lemmas.List.{append_assoc, length_push, map-append, reverse-append}
use Rattle.pf_discovery.specs.declared.depth_first.Branch.{Branch}
use Rattle.pf_discovery.specs.DepthFirst.{branches_at, not_visited}
use Rattle.pf_discovery.proofs.LastLemmas.{has_last, has_rest}
use Rattle.pf_discovery.proofs.depth_first.put_branches.Goals as goal

-- the last number was taken out
module _ (d n : ℕ) (visited : List Bool) (all numbers rest done : List ℕ) (start waiting : List Branch) (all_is : all ≡ numbers ++ done) (out : numbers ≡ rest ++ n ∷ []) (is : waiting ≡ start ++ branches_at d (reverse (not_visited visited done))) where
  more_done : all ≡ rest ++ n ∷ done
  more_done = all_is ∙ ap (λ (ns : List ℕ). ns ++ done) out ∙ append_assoc rest (n ∷ []) done

  put_more : slice_index_or visited n false ≡ false → (more : List Branch) → more ≡ waiting ++ record { number = n; depth = d } ∷ [] → more ≡ start ++ branches_at d (reverse (not_visited visited (n ∷ done)))
  put_more new more put =
      let others = reverse (not_visited visited done) in
      let one : Branch = record { number = n; depth = d } in
      let turned : branches_at d others ++ one ∷ [] ≡ branches_at d (reverse (n ∷ not_visited visited done)) = sym (ap (branches_at d) (reverse-append (n ∷ []) (not_visited visited done)) ∙ map-append (λ (k : ℕ). record { number = k; depth = d }) others (n ∷ [])) in
      let kept : n ∷ not_visited visited done ≡ not_visited visited (n ∷ done) = ap (λ (b : Bool). cond (not b) (n ∷ not_visited visited done) (not_visited visited done)) (sym new) in
      put ∙ ap (λ (bs : List Branch). bs ++ one ∷ []) is ∙ append_assoc start (branches_at d others) (one ∷ []) ∙ ap (λ (bs : List Branch). start ++ bs) (turned ∙ ap (λ (ns : List ℕ). branches_at d (reverse ns)) kept)

  left_out : slice_index_or visited n false ≡ true → waiting ≡ start ++ branches_at d (reverse (not_visited visited (n ∷ done)))
  left_out seen = is ∙ ap (λ (b : Bool). start ++ branches_at d (reverse (cond (not b) (n ∷ not_visited visited done) (not_visited visited done)))) (sym seen)

pub overflow_cast-number : goal.overflow_cast-number
overflow_cast-number g c = omega (arith, (c.numbers.invariant.ends _ (has_last _ _ _ c.in-Some.ensures.items)))

pub numbers-preserved-then-not-was_visited : goal.numbers-preserved-then-not-was_visited
numbers-preserved-then-not-was_visited g c =
    let i = c.numbers.invariant in
    let out = c.in-Some.ensures.items in
    let put = c.push_reserved.ensures in
    record {
      ends = λ k h. i.ends k (has_rest _ _ _ out k h);
      room = omega (arith, i.room, ap length out, length_push c.pop.new.self.items c.in-Some.number, ap length put.items, length_push c.numbers.waiting.items (record { number = c.in-Some.number; depth = c.args.depth }), put.capacity);
      put = (
        c.in-Some.number ∷ i.put.0,
        more_done c.args.depth c.in-Some.number c.args.visited.now _ _ _ i.put.0 _ _ i.put.1 out i.put.2,
        put_more c.args.depth c.in-Some.number c.args.visited.now _ _ _ i.put.0 _ _ i.put.1 out i.put.2 (sym c.was_visited.ensures ∙ c.if-not-was_visited.true) _ put.items,
      );
    }

pub numbers-preserved : goal.numbers-preserved
numbers-preserved g c =
    let i = c.numbers.invariant in
    let out = c.in-Some.ensures.items in
    record {
      ends = λ k h. i.ends k (has_rest _ _ _ out k h);
      room = omega (arith, i.room, ap length out, length_push c.pop.new.self.items c.in-Some.number);
      put = (
        c.in-Some.number ∷ i.put.0,
        more_done c.args.depth c.in-Some.number c.args.visited.now _ _ _ i.put.0 _ _ i.put.1 out i.put.2,
        left_out c.args.depth c.in-Some.number c.args.visited.now _ _ _ i.put.0 _ _ i.put.1 out i.put.2 (sym c.was_visited.ensures ∙ c.if-not-was_visited.false),
      );
    }
