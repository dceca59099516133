use Rattle.std.proofs.Common.{◌≡◌, ℕ, Option, Some, None, eqb, true, refl, sym, ap, arith, rules}
use Rattle.std.specs.Iterator.{MakesProgress, at_most}
use Rattle.pf_yen.specs.Walk.{most_items}
use Rattle.pf_table_paths.specs.RankedWalks.{TablePathWalk}
use Rattle.pf_table_paths.proofs.ranked_walks.YenPathsIterator.next.Goals as goal

-- a number is found equal to itself
found_equal : (x y : ℕ) → y ≡ x → eqb x y ≡ true
found_equal x y e = search rules

-- where two states have as many items left, the one makes progress where the other does
progress_of : {S U A : Type 0} (can : S → Type 0) (left : S → ℕ) (more : U → ℕ) (s t : S) (u v : U) (r : Option A)
    → more u ≡ left s → more v ≡ left t → MakesProgress can (λ w. at_most (left w)) s r t → MakesProgress (λ (x : U). Unit {0}) (λ x. at_most (more x)) u r v
progress_of can left more s t u v (Some x) p q h = record { on = λ f. (tt, tt, omega (arith, p, q, (h.on tt).2)); keeps = tt; rests = λ f. tt }
progress_of can left more s t u v None p q h = record { on = λ f. tt; keeps = tt; rests = λ f. tt }

pub invariant_of-self : goal.invariant_of-self
invariant_of-self g c = (c.next.ensures.steps _ _ _ c.self.invariant).0

pub next-requires : goal.next-requires
next-requires g c = (found_equal, (_, _, _, c.self.invariant))

pub returns-clause-steps : goal.returns-clause-steps
returns-clause-steps g c =
    let h = c.next.ensures.steps _ _ _ c.self.invariant in
    rw (← c.self.view_is) (refl, refl, refl, h.0, h.1, h.2)

pub returns-clause-goes : goal.returns-clause-goes
returns-clause-goes g c =
    let left = λ (w : TablePathWalk g.row.C.Denot g.row.G.Denot g.row.T.Denot). most_items w.walk in
    progress_of _ most_items left c.self.inside.walk c.next.new.self c.args.self.now _ c.next.result (sym (ap left c.self.view_is)) refl c.next.ensures.goes
