-- A graph with costs, and the same without them: the successors of a node are the nodes that its edges lead to.
use Rattle.std.proofs.Common.{◌≡◌, ℤ, Bool, List, [], ◌∷◌, map, Option, Some, None, refl, sym, subst, inl, inr}
use Rattle.std.specs.Prelude.{MatchOption}
use Rattle.pf_base.specs.Walks.{HasNode, Follows, IsGoalWalk, HasNoGoalWalk}
use Rattle.pf_base.specs.Edges.{HasEdge, IsSuccessor}
use Rattle.pf_base.specs.Successors.{HasSuccessor, IsFewestEdgesGoalPath}

abbrev pub targets_of : {N : Type 0} → List (N × ℤ) → List N
targets_of {N} es = map (λ (e : N × ℤ). e.0) es

module _ {N : Type 0} (eq : N → N → Bool) (edges : N → List (N × ℤ)) where
  abbrev pub Leads : N → N → Type 0
  Leads = HasSuccessor eq (λ x. targets_of (edges x))

  edge_to : (es : List (N × ℤ)) (b : N) → HasNode eq (targets_of es) b → (z : ℤ) × HasEdge eq es b z
  edge_to [] b h = absurd h
  edge_to (e ∷ es) b (inl h) = (e.1, inl (h, refl))
  edge_to (e ∷ es) b (inr h) = let r = edge_to es b h in (r.0, inr r.1)

  end_at : (es : List (N × ℤ)) (b : N) (z : ℤ) → HasEdge eq es b z → HasNode eq (targets_of es) b
  end_at [] b z h = h
  end_at (e ∷ es) b z (inl h) = inl h.0
  end_at (e ∷ es) b z (inr h) = inr (end_at es b z h)

  follows_costed : (a : N) (w : List N) → Follows Leads a w → Follows (IsSuccessor eq edges) a w
  follows_costed a [] f = tt
  follows_costed a (b ∷ w) f = (edge_to (edges a) b f.0, follows_costed b w f.1)

  follows_costless : (a : N) (w : List N) → Follows (IsSuccessor eq edges) a w → Follows Leads a w
  follows_costless a [] f = tt
  follows_costless a (b ∷ w) f = (end_at (edges a) b f.0.0 f.0.1, follows_costless b w f.1)

  -- the walks are the same
  module _ (starts : List N) (test : N → Bool) where
    pub goal_costed : (walk : List N) → IsGoalWalk eq Leads starts test walk → IsGoalWalk eq (IsSuccessor eq edges) starts test walk
    goal_costed [] g = absurd g.walks
    goal_costed (a ∷ w) g = record { walks = follows_costed a w g.walks; begins = g.begins; ends = g.ends }

    pub goal_costless : (walk : List N) → IsGoalWalk eq (IsSuccessor eq edges) starts test walk → IsGoalWalk eq Leads starts test walk
    goal_costless [] g = absurd g.walks
    goal_costless (a ∷ w) g = record { walks = follows_costless a w g.walks; begins = g.begins; ends = g.ends }

  -- a search without costs answers that there is no walk with them
  pub answer_costed : {V : Type 0} (items : V → List N) (begins starts : List N) (test : N → Bool) (o : Option V) → begins ≡ starts
      → MatchOption o (HasNoGoalWalk eq Leads begins test) (λ v. IsFewestEdgesGoalPath eq (λ x. targets_of (edges x)) begins test (items v))
      → MatchOption o (HasNoGoalWalk eq (IsSuccessor eq edges) starts test) (λ v. IsFewestEdgesGoalPath eq (λ x. targets_of (edges x)) starts test (items v))
  answer_costed items begins starts test None e h = λ walk g. h walk (goal_costless begins test walk (subst (λ ss. IsGoalWalk eq (IsSuccessor eq edges) ss test walk) (sym e) g))
  answer_costed items begins starts test (Some v) e h = subst (λ ss. IsFewestEdgesGoalPath eq (λ x. targets_of (edges x)) ss test (items v)) e h
