-- A walk along edges is a walk along the nodes that they lead to, and paths with fewest edges have one length.
use Rattle.std.proofs.Common.{◌≡◌, ◌≤◌, arith, refl, Bool, List, [], ◌∷◌, length, inl, inr, ℤ, Option, Some, None}
use Rattle.std.specs.Prelude.{MatchOption}
use Rattle.pf_base.specs.Walks.{HasNode, Follows}
use Rattle.pf_base.specs.Loops.{IsBestLoop}
use Rattle.pf_base.specs.Edges.{HasEdge, IsSuccessor, IsCheapestGoalPath, targets}
use Rattle.pf_base.specs.Successors.{HasSuccessor, IsFewestEdgesGoalPath}
use Rattle.pf_search.specs.Laws.{Agree}

module _ {N : Type 0} (eq : N → N → Bool) (edges : N → List (N × ℤ)) where
  target_of : (es : List (N × ℤ)) (x : N) (z : ℤ) → HasEdge eq es x z → HasNode eq (targets (λ (y : N). es) x) x
  target_of [] x z h = h
  target_of (e ∷ es) x z (inl h) = inl h.0
  target_of (e ∷ es) x z (inr h) = inr (target_of es x z h)

  follows_targets : (w : List N) (a : N) → Follows (IsSuccessor eq edges) a w → Follows (HasSuccessor eq (targets edges)) a w
  follows_targets [] a f = tt
  follows_targets (b ∷ w) a f = (target_of (edges a) b f.0.0 f.0.1, follows_targets w b f.1)

  pub fewest_of_cheapest : (starts : List N) (test : N → Bool) (fewest cheapest : List N) (cost : ℤ) → IsFewestEdgesGoalPath eq (targets edges) starts test fewest → IsCheapestGoalPath eq edges starts test cheapest cost → length fewest ≤ length cheapest
  fewest_of_cheapest starts test fewest [] cost f b = absurd b.costs
  fewest_of_cheapest starts test fewest (a ∷ w) cost f b =
      let walk = b.goes.goes in
      f.fewest (a ∷ w) (record { walks = follows_targets w a walk.walks; begins = walk.begins; ends = walk.ends })

module _ {N : Type 0} (eq : N → N → Bool) (next : N → List N) where
  pub one_length : (starts : List N) (test : N → Bool) (one other : List N) → IsFewestEdgesGoalPath eq next starts test one → IsFewestEdgesGoalPath eq next starts test other → length one ≡ length other
  one_length starts test one other f o =
      let below : length one ≤ length other = f.fewest other o.goes.goes in
      let above : length other ≤ length one = o.fewest one f.goes.goes in
      omega (arith, below, above)

  pub loops_of_one_length : (starts : List N) (one other : List N) → IsBestLoop eq next starts one → IsBestLoop eq next starts other → length one ≡ length other
  loops_of_one_length starts one other f o = omega (arith, f.fewest other o.goes, o.fewest one f.goes)

-- two answers to one question agree: by what says that there is none, and by what says of an answer that it is best
pub agree : {X Y : Type 0} (nothing : Type 0) (best : X → Type 0) (also : Y → Type 0) (compare : X → Y → Type 0) → ((x : X) → best x → ¬ nothing) → ((y : Y) → also y → ¬ nothing) → ((x : X) (y : Y) → best x → also y → compare x y)
    → (one : Option X) (other : Option Y) → MatchOption one nothing best → MatchOption other nothing also → Agree compare one other
agree nothing best also compare found found' same None None p q = refl
agree nothing best also compare found found' same None (Some y) p q = absurd (found' y q p)
agree nothing best also compare found found' same (Some x) None p q = absurd (found x p q)
agree nothing best also compare found found' same (Some x) (Some y) p q = same x y p q
