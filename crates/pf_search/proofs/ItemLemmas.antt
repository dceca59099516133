-- Each item that a lazy walk gives leaves fewer to come.
use Rattle.std.proofs.Common.{◌≡◌, ℕ, ◌+◌, ◌<◌, ◌^◌, Bool, true, false, Option, Some, None, List, [], ◌∷◌, ◌++◌, length, length-append, sym, arith, true≢false, ℤ}
use Rattle.std.specs.Prelude.{Result, Ok, Err, IfOk, IfSome, ⊤}
use Rattle.std.specs.Result.{result_transpose}
use Rattle.std.specs.Iterator.{MakesProgress, at_most}
use Rattle.pf_base.specs.declared.error.PathError.{PathError}
use Rattle.pf_search.specs.declared.directed.dijkstra_reach.DijkstraReachableItem.{DijkstraReachableItem}
use Rattle.pf_search.specs.Items.{most_items}
use Rattle.pf_search.specs.Breadth.{BreadthWalk, BreadthStep}
use Rattle.pf_search.specs.DepthWalks.{DepthWalk, DepthStep}
use Rattle.pf_search.specs.CheapestFirst.{CheapestWalk, CheapestStep}
use Rattle.pf_search.proofs.BreadthLemmas.{Same-length}

node_less : (given given' : ℕ) (refused refused' : Bool) → refused ≡ false → refused' ≡ false → given' ≡ given + 1 → given' < 2 ^ 63 → most_items given' refused' < most_items given refused
node_less given given' true refused' h h' e l = absurd (true≢false h)
node_less given given' false true h h' e l = absurd (true≢false h')
node_less given given' false false h h' e l = omega (arith, e, l)

refusal_less : (given given' : ℕ) (refused refused' : Bool) → refused ≡ false → refused' ≡ true → most_items given' refused' < most_items given refused
refusal_less given given' true refused' h h' = absurd (true≢false h)
refusal_less given given' false false h h' = absurd (true≢false (sym h'))
refusal_less given given' false true h h' = omega arith

-- what a step that may be refused says of a node, said of an item
pub of_node : {A : Type 0} (P : Type 0) (r : Result (Option A) PathError) → IfOk r (λ o. IfSome o (λ _. P)) → IfSome (result_transpose r) (λ item. IfOk item (λ _. P))
of_node P (Ok None) h = tt
of_node P (Ok (Some x)) h = h
of_node P (Err e) h = tt

module _ {W A : Type 0} (given : W → ℕ) (refused : W → Bool) where
  -- a node is one more than was given, and a refusal marks the walk
  abbrev pub Counts : W → Option (Result A PathError) → W → Type 0
  Counts s None t = ⊤
  Counts s (Some (Ok x)) t = (refused s ≡ false) × (refused t ≡ false) × (given t ≡ given s + 1) × (given t < 2 ^ 63)
  Counts s (Some (Err e)) t = (refused s ≡ false) × (refused t ≡ true)

  pub progress : (can : W → Type 0) (s : W) (r : Option (Result A PathError)) (t : W) → can t → Counts s r t → MakesProgress can (λ q. at_most (most_items (given q) (refused q))) s r t
  progress can s None t c h = record { on = λ f. tt; keeps = tt; rests = λ f. f }
  progress can s (Some (Ok x)) t c h = record { on = λ f. (c, f, node_less (given s) (given t) (refused s) (refused t) h.0 h.1 h.2 h.3); keeps = c; rests = λ f. tt }
  progress can s (Some (Err e)) t c h = record { on = λ f. (c, f, refusal_less (given s) (given t) (refused s) (refused t) h.0 h.1); keeps = c; rests = λ f. tt }

module _ {N F : Type 0} (eq : N → N → Bool) (next : N → List N) (start : N) where
  pub breadth_counts : (s : BreadthWalk N F) (r : Option (Result N PathError)) (t : BreadthWalk N F) → BreadthStep eq next start s r t → IfSome r (λ item. IfOk item (λ _. length t.given < 2 ^ 63))
      → Counts (λ (w : BreadthWalk N F). length w.given) (λ (w : BreadthWalk N F). w.refused) s r t
  breadth_counts s None t h few = tt
  breadth_counts s (Some (Ok x)) t h few = (h.0, h.1, omega (arith, Same-length eq t.given (s.given ++ x ∷ []) h.3, length-append s.given (x ∷ [])), few)
  breadth_counts s (Some (Err e)) t h few = (h.1, h.2)

  pub depth_counts : (walks : List (List N) → DepthWalk N F → Type 0) (paths : List (List N)) (s : DepthWalk N F) (r : Option (Result N PathError)) (t : DepthWalk N F) → DepthStep eq next start walks paths s r t → length t.given < 2 ^ 63
      → Counts (λ (w : DepthWalk N F). length w.given) (λ (w : DepthWalk N F). w.refused) s r t
  depth_counts walks paths s None t h few = tt
  depth_counts walks paths s (Some (Ok x)) t h few = (h.0, h.1, omega (arith, Same-length eq t.given (s.given ++ x ∷ []) h.2, length-append s.given (x ∷ [])), few)
  depth_counts walks paths s (Some (Err e)) t h few = (h.1, h.2)

module _ {N C F : Type 0} (eq : N → N → Bool) (value : C → ℤ) (edges : N → List (N × ℤ)) (start : N) (fits : ℤ → Type 0) where
  pub cheapest_counts : (s : CheapestWalk N C F) (r : Option (Result (DijkstraReachableItem N C) PathError)) (t : CheapestWalk N C F) → CheapestStep eq value edges start fits s r t
      → IfSome r (λ item. IfOk item (λ _. length t.given ≡ length s.given + 1)) → length t.given < 2 ^ 63
      → Counts (λ (w : CheapestWalk N C F). length w.given) (λ (w : CheapestWalk N C F). w.refused) s r t
  cheapest_counts s None t h count few = tt
  cheapest_counts s (Some (Ok x)) t h count few = (h.0, h.1, count, few)
  cheapest_counts s (Some (Err e)) t h count few = (h.0, h.1)
