use Rattle.std.proofs.Common.{◌≡◌, ℕ, Option, Some, None, length, eqb, true, refl, sym, ap, arith, rules}
use Rattle.std.specs.Prelude.{nat_eq}
use Rattle.std.specs.Iterator.{MakesProgress, at_most}
use Rattle.std.proofs.lemmas.Cmp.{nat_eq_equiv}
use Rattle.pf_search.proofs.DepthWalkLemmas.{goes_again}
use Rattle.pf_search.specs.Items.{most_items}
use Rattle.pf_search.specs.DepthWalks.{DepthWalk}
use Rattle.pf_tables.specs.Graphs.{successors_of}
use Rattle.pf_table_searches.specs.TableWalks.{TableWalk}
use Rattle.pf_table_searches.proofs.preorder.DfsReachableIterator.next.Goals as goal

-- a number is found equal to itself
found_equal : (x y : ℕ) → y ≡ x → eqb x y ≡ true
found_equal x y e = search rules

-- where two states have as many items left, the one makes progress where the other does
progress_of : {S U A : Type 0} (can : S → Type 0) (left : S → ℕ) (more : U → ℕ) (s t : S) (u v : U) (r : Option A)
    → more u ≡ left s → more v ≡ left t → MakesProgress can (λ w. at_most (left w)) s r t → MakesProgress (λ (x : U). Unit {0}) (λ x. at_most (more x)) u r v
progress_of can left more s t u v (Some x) p q h = record { on = λ f. (tt, tt, omega (arith, p, q, (h.on tt).2)); keeps = tt; rests = λ f. tt }
progress_of can left more s t u v None p q h = record { on = λ f. tt; keeps = tt; rests = λ f. tt }

pub invariant_of-self : goal.invariant_of-self
invariant_of-self g c =
    let i = c.self.inside in
    let next = successors_of g.C.Number.value (g.G.Graph.size i.graph.now) (g.G.Graph.places i.graph.now) in
    let along = c.self.invariant in
    goes_again nat_eq nat_eq_equiv _ next i.start along.0 i.walk c.next.new.self c.next.result (c.next.ensures.steps next i.start along.0 along.1)

pub next-requires : goal.next-requires
next-requires g c = (found_equal, (_, _, c.self.invariant.0, c.self.invariant.1))

pub returns-clause-steps : goal.returns-clause-steps
returns-clause-steps g c =
    let i = c.self.inside in
    let next = successors_of g.C.Number.value (g.G.Graph.size i.graph.now) (g.G.Graph.places i.graph.now) in
    let along = c.self.invariant in
    rw (← c.self.view_is) (refl, refl, along, goes_again nat_eq nat_eq_equiv _ next i.start along.0 i.walk c.next.new.self c.next.result (c.next.ensures.steps next i.start along.0 along.1), λ paths w. c.next.ensures.steps next i.start paths w)

pub returns-clause-goes : goal.returns-clause-goes
returns-clause-goes g c =
    let many = λ (w : DepthWalk ℕ g.row.G.Denot). most_items (length w.given) w.refused in
    let left = λ (w : TableWalk g.row.G.Denot (DepthWalk ℕ g.row.G.Denot)). many w.walk in
    progress_of _ many left c.self.inside.walk c.next.new.self c.args.self.now _ c.next.result (sym (ap left c.self.view_is)) refl c.next.ensures.goes
