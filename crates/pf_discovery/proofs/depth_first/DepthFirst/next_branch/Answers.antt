use Rattle.std.proofs.Common.{ℕ, ◌≡◌, ◌∙◌, Bool, true≢false, refl, sym, ap, subst, List, [], ◌∷◌, ◌++◌, length, Some, None, inl, inr}
use Rattle.std.specs.Prelude.{Option, MatchOption}
use Rattle.pf_discovery.specs.declared.depth_first.Branch.{Branch}
use Rattle.pf_discovery.specs.DepthFirst.{IsVisited, IsNextBranch}
use Rattle.pf_discovery.proofs.depth_first.DepthFirst.next_branch.Goals as goal

next_of : (o : Option Branch) (given : ℕ) (visited old : List Bool) (waiting : List Branch) → visited ≡ old → ¬ (given ≡ 0)
    → MatchOption o (waiting ≡ []) (λ b. (rest : List Branch) × (waiting ≡ rest ++ b ∷ []) × ¬ (IsVisited old b.number))
    → MatchOption o ((waiting ≡ []) × ¬ (given ≡ 0)) (λ b. IsNextBranch given visited waiting b)
next_of None given visited old waiting e n h = (h, n)
next_of (Some b) given visited old waiting e n h = inr (n, (h.0, h.1), λ v. h.2 (subst (λ (vs : List Bool). IsVisited vs b.number) e v))

pub returns-then-is_empty-clause-given : goal.returns-then-is_empty-clause-given
returns-then-is_empty-clause-given g c = refl

pub returns-then-is_empty-clause-visited : goal.returns-then-is_empty-clause-visited
returns-then-is_empty-clause-visited g c = refl

pub returns-then-is_empty-clause-path : goal.returns-then-is_empty-clause-path
returns-then-is_empty-clause-path g c = refl

pub returns-then-is_empty-clause-next : goal.returns-then-is_empty-clause-next
returns-then-is_empty-clause-next g c = inl (c.is_empty.ensures.0 c.if-is_empty.true, refl, refl)

pub returns-clause-given : goal.returns-clause-given
returns-clause-given g c = c.waiting_branch.ensures.given

pub returns-clause-visited : goal.returns-clause-visited
returns-clause-visited g c = c.waiting_branch.ensures.visited

pub returns-clause-path : goal.returns-clause-path
returns-clause-path g c = c.waiting_branch.ensures.path

pub returns-clause-dropped : goal.returns-clause-dropped
returns-clause-dropped g c = c.waiting_branch.ensures.dropped

pub returns-clause-next : goal.returns-clause-next
returns-clause-next g c =
    let w = c.waiting_branch in
    let some : ¬ (length w.new.self.given ≡ 0) = λ z. true≢false (sym (c.is_empty.ensures.1 (sym (ap length w.ensures.given) ∙ z)) ∙ c.if-is_empty.false) in
    next_of w.result (length w.new.self.given) w.new.self.visited.items c.args.self.now.visited.items w.new.self.waiting.items w.ensures.visited some w.ensures.next
