-- How a discovery that numbers the successors of one more node goes on with a walk in breadth order.
use Rattle.std.proofs.Common.{◌≡◌, ℕ, ◌<◌, ◌≤◌, ◌+◌, Bool, true, false, Option, Some, None, List, [], ◌∷◌, ◌++◌, ◌∙◌, slice_get, length, take, drop, take_all, refl, sym, ap, subst, arith, length-append, inl, inr, if◌then◌else◌, true≢false}
use Rattle.std.specs.Prelude.{Result, Ok, Err, IfOk, IfErr, OnErr}
use Rattle.std.specs.Result.{IsErr, is_err, result_transpose}
use Rattle.pf_base.specs.declared.error.PathError.{PathError}
use Rattle.std.specs.Cmp.{IsEquivalence}
use Rattle.std.specs.List.{IsDistinct, list_any}
use Rattle.indexmap.specs.IndexSet.{insert_all}
use Rattle.std.proofs.lemmas.List.{take-append-drop, length-take}
use Rattle.std.proofs.lemmas.Option.{slice_get_within}
use Rattle.pf_base.specs.Answers.{SameNodes}
use Rattle.pf_base.specs.Orders.{found_from, IsNextInBreadth, IsBreadthOrder, AllGiven}
use Rattle.pf_base.proofs.Callers.{SameNodes-refl}
use Rattle.pf_core.specs.Hops.{unit_edges}
use Rattle.pf_core.specs.Numbered.{Grows, NumbersInOrder}
use Rattle.pf_core.specs.NodeLaws.{StandsFor-one}
use Rattle.pf_discovery.specs.Sources.{AnswersHops}
use Rattle.pf_base.specs.Edges.{targets}
use Rattle.pf_core.specs.Nodes.{NodeGraph, StandsFor, Explores}
use Rattle.pf_base.proofs.ListLemmas.{take_get, get_take, bool_dec}
use Rattle.pf_core.proofs.NodeLemmas.{eq-sym, eq-trans}
use Rattle.pf_core.proofs.OrderLemmas.{Same-trans}
use Rattle.pf_core.proofs.UnitLemmas.{ends_unit, reach_edges}
use Rattle.pf_discovery.proofs.SourceLemmas.{Explores-successors, Explores-next}
use Rattle.pf_search.specs.Breadth.{BreadthWalk, IsBreadthWalk, BreadthStep}
use Rattle.pf_search.specs.Internal.Breadth.{BreadthTurn, walk_at, found_or, IsPlace}
use Rattle.pf_search.proofs.BreadthLemmas.{take_more, take_take, at_node, any_at, place_of, Same-append, Same-length, Same-take, Same-drop, Same-get, Same-places, Same-sym, Same-insert_all, found-push, IsReached, found_reached, given_reached, found_same, order_push, order_same}

-- where a result is a refusal, nothing is said of a value
pub no_value : {A E : Type 0} (P : A → Type 0) (r : Result A E) → IsErr r → IfOk r P
no_value P (Ok x) h = absurd (true≢false (sym h))
no_value P (Err e) h = tt

pub any_err : {A E P : Type 0} (r : Result A E) → P → OnErr r P
any_err (Ok x) p = tt
any_err (Err e) p = p

module _ {N : Type 0} (eq : N → N → Bool) (laws : IsEquivalence eq) where
  alone : (x : N) → IsDistinct eq (x ∷ [])
  unfolding IsDistinct
  alone x = (tt, tt)

  -- nodes that are numbered in order are those that an insert of each gives
  pub inserted_in_order : (keys : List N) → IsDistinct eq keys → (base ys : List N) (n n' : ℕ) → n ≡ length base → SameNodes eq base (take n keys) → NumbersInOrder (StandsFor eq keys) n ys n' → SameNodes eq (insert_all eq base ys) (take n' keys)
  inserted_in_order keys d base [] n n' l s h = subst (λ i. SameNodes eq base (take i keys)) (sym h) s
  inserted_in_order keys d base (y ∷ ys) n n' l s (inl h) =
      let m = h.2 in
      let b = Same-get eq (take n keys) base h.0 m.0 (Same-sym eq laws base (take n keys) s) (get_take n keys h.0 m.0 h.1 m.1) in
      let there : list_any (eq y) base ≡ true = any_at eq y base h.0 b.0 b.1 (eq-trans eq laws y m.0 b.0 (eq-sym eq laws m.0 y m.2) b.2) in
      subst (λ (t : Bool). SameNodes eq (insert_all eq (if t then base else base ++ y ∷ []) ys) (take n' keys)) (sym there) (inserted_in_order keys d base ys n n' l s h.3)
  inserted_in_order keys d base (y ∷ ys) n n' l s (inr h) = elim (bool_dec (list_any (eq y) base)) as (λ _. SameNodes eq (insert_all eq base (y ∷ ys)) (take n' keys)) [
    | inl t ↦
        let p = place_of eq y base t in
        let q = Same-get eq base (take n keys) p.0 p.1 s p.2 in
        let same : p.0 ≡ n = StandsFor-one eq laws keys d p.0 n y (q.0, take_get n keys p.0 q.0 q.1, eq-sym eq laws y q.0 (eq-trans eq laws y p.1 q.0 p.3 q.2)) h.0 in
        absurd (omega (arith, same, l, slice_get_within base p.0 p.1 p.2))
    | inr t ↦
        let m = h.0 in
        let more : SameNodes eq (base ++ y ∷ []) (take (n + 1) keys) = subst (λ zs. SameNodes eq (base ++ y ∷ []) zs) (sym (take_more keys n m.0 m.1)) (Same-append eq base (take n keys) (y ∷ []) (m.0 ∷ []) s (eq-sym eq laws m.0 y m.2, tt)) in
        let long : n + 1 ≡ length (base ++ y ∷ []) = omega (arith, l, length-append base (y ∷ [])) in
        subst (λ (b : Bool). SameNodes eq (insert_all eq (if b then base else base ++ y ∷ []) ys) (take n' keys)) (sym t) (inserted_in_order keys d (base ++ y ∷ []) ys (n + 1) n' long more h.1)
  ]

  -- nodes that stay keep their places
  pub kept_places : (keys keys' : List N) → Grows (length keys) (length keys') (StandsFor eq keys) (StandsFor eq keys') → SameNodes eq keys (take (length keys) keys')
  kept_places keys keys' g = Same-places eq keys (take (length keys) keys') (omega (arith, g.more, length-take (length keys) keys')) (λ k x h.
      let t = g.stays k x (x, h, laws.refl x) in
      (t.0, get_take (length keys) keys' k t.0 (slice_get_within keys k x h) t.1, eq-sym eq laws t.0 x t.2))

  -- and so do all where none was added
  pub kept_all : (keys keys' : List N) → Grows (length keys) (length keys') (StandsFor eq keys) (StandsFor eq keys') → length keys' ≡ length keys → SameNodes eq keys keys'
  kept_all keys keys' g e = subst (λ zs. SameNodes eq keys zs) (take_all (length keys) keys' (omega (arith, e))) (kept_places keys keys' g)

  -- one node more was given
  pub given_more : (keys keys' : List N) (k : ℕ) (m x : N) → SameNodes eq keys (take (length keys) keys') → slice_get keys k ≡ Some m → eq m x ≡ true → SameNodes eq (take (k + 1) keys') (take k keys ++ x ∷ [])
  given_more keys keys' k m x s at e =
      let within : k + 1 ≤ length keys = omega (arith, slice_get_within keys k m at) in
      let same : SameNodes eq (take (k + 1) keys) (take (k + 1) keys') = subst (λ zs. SameNodes eq (take (k + 1) keys) zs) (take_take keys' (k + 1) (length keys) within) (Same-take eq (k + 1) keys (take (length keys) keys') s) in
      let end : SameNodes eq (take k keys ++ x ∷ []) (take (k + 1) keys) = subst (λ zs. SameNodes eq (take k keys ++ x ∷ []) zs) (sym (take_more keys k m at)) (Same-append eq (take k keys) (take k keys) (x ∷ []) (m ∷ []) (SameNodes-refl eq laws.refl (take k keys)) (eq-sym eq laws m x e, tt)) in
      Same-sym eq laws (take k keys ++ x ∷ []) (take (k + 1) keys') (Same-trans eq laws (take k keys ++ x ∷ []) (take (k + 1) keys) (take (k + 1) keys') end same)

  module _ {F : Type 0} (answers : F → (N → Type 0) → (N → List N) → Type 0) (next : N → List N) (start : N) where
    -- what stays of a walk's nodes, whether they were given or not
    abbrev IsWalk : List N → ℕ → F → Type 0
    IsWalk keys k f = IsBreadthWalk eq answers next start (walk_at keys k false f)

    found_of : (keys : List N) (k : ℕ) (f : F) → IsWalk keys k f → SameNodes eq keys (found_from eq next start (take k keys))
    found_of keys k f w = subst (λ zs. SameNodes eq zs (found_from eq next start (take k keys))) (take-append-drop k keys) w.found

    walk_of : (keys : List N) (k : ℕ) (f : F) → answers f (IsReached eq laws next start) next → IsBreadthOrder eq next start (take k keys) → SameNodes eq keys (found_from eq next start (take k keys)) → IsWalk keys k f
    walk_of keys k f a o s = record { answered = a; ordered = o; found = subst (λ zs. SameNodes eq zs (found_from eq next start (take k keys))) (sym (take-append-drop k keys)) s }

    abbrev graph : NodeGraph N
    graph = record { starts = start ∷ []; edges = unit_edges next }

    abbrev Discovers : List N → F → Type 0
    Discovers keys f = Explores eq (AnswersHops eq answers) graph keys (record { function = f })

    abbrev Alike : Type 0
    Alike = (x y : N) → IsReached eq laws next start x → eq x y ≡ true → SameNodes eq (next x) (next y)

    -- a discovery that holds the nodes of a walk explores the walk's graph
    pub walk_explores : (keys : List N) (k : ℕ) (f : F) → Alike → IsDistinct eq keys → IsWalk keys k f → Discovers keys f
    walk_explores keys k f alike d w =
        let first = Explores-successors eq laws answers (start ∷ []) (start ∷ []) next f (alone start) (λ x. (λ h. h, λ h. h)) alike w.answered in
        let reached = given_reached eq laws next start alike (take k keys) w.ordered in
        record {
          alike = first.alike;
          answered = first.answered;
          distinct = d;
          reached = λ j x h.
              let y = Same-get eq keys (found_from eq next start (take k keys)) j x (found_of keys k f w) h in
              reach_edges eq next (start ∷ []) x (found_reached eq laws next start alike (take k keys) reached x (at_node eq (found_from eq next start (take k keys)) j y.0 x y.1 (eq-sym eq laws x y.0 y.2)));
        }

    -- nothing was numbered
    pub walk_stays : (keys keys' : List N) (k : ℕ) (f f' : F) → Alike → IsWalk keys k f → Discovers keys' f' → SameNodes eq keys keys' → IsWalk keys' k f'
    walk_stays keys keys' k f f' alike w x s =
        let t = Same-take eq k keys keys' s in
        let reached = given_reached eq laws next start alike (take k keys) w.ordered in
        walk_of keys' k f' (Explores-next eq laws answers (start ∷ []) keys' next (record { function = f' }) x) (order_same eq laws next start alike (take k keys) (take k keys') t w.ordered)
        (Same-trans eq laws keys' keys _ (Same-sym eq laws keys keys' s) (Same-trans eq laws keys _ _ (found_of keys k f w) (found_same eq laws next start alike (take k keys) (take k keys') reached t)))

    -- the node at place k is the next in breadth order
    pub next_of : (keys : List N) (k : ℕ) (f : F) (m x : N) → IsWalk keys k f → slice_get keys k ≡ Some m → eq m x ≡ true → IsNextInBreadth eq next start (take k keys) x
    next_of keys k f m x w at e =
        let y = Same-get eq keys (found_from eq next start (take k keys)) k m (found_of keys k f w) at in
        let long : length (take k keys) ≡ k = omega (arith, length-take k keys, slice_get_within keys k m at) in
        (y.0, subst (λ n. slice_get (found_from eq next start (take k keys)) n ≡ Some y.0) (sym long) y.1, eq-trans eq laws y.0 m x (eq-sym eq laws m y.0 y.2) e)

    -- the successors of the node at place k were numbered
    pub walk_goes : (keys keys' : List N) (k : ℕ) (f f' : F) (m : N) → Alike → IsWalk keys k f → Discovers keys' f' → slice_get keys k ≡ Some m → Grows (length keys) (length keys') (StandsFor eq keys) (StandsFor eq keys')
        → NumbersInOrder (StandsFor eq keys') (length keys) (targets graph.edges m) (length keys') → IsWalk keys' (k + 1) f'
    walk_goes keys keys' k f f' m alike w x at g o =
        let given = take k keys in
        let given' = take (k + 1) keys' in
        let kept = kept_places keys keys' g in
        let more = Same-sym eq laws given' (given ++ m ∷ []) (given_more keys keys' k m m kept at (laws.refl m)) in
        let order = order_push eq laws next start alike given m w.ordered (next_of keys k f m m w at (laws.refl m)) in
        let in_order : NumbersInOrder (StandsFor eq keys') (length keys) (next m) (length keys') = subst (λ ys. NumbersInOrder (StandsFor eq keys') (length keys) ys (length keys')) (ends_unit (next m)) o in
        let put : SameNodes eq (insert_all eq keys (next m)) keys' = subst (λ zs. SameNodes eq (insert_all eq keys (next m)) zs) (take_all (length keys') keys' (omega arith)) (inserted_in_order keys' x.distinct keys (next m) (length keys) (length keys') refl kept in_order) in
        let found : SameNodes eq (insert_all eq keys (next m)) (found_from eq next start (given ++ m ∷ [])) = subst (λ zs. SameNodes eq (insert_all eq keys (next m)) zs) (sym (found-push eq laws next start given m)) (Same-insert_all eq laws keys (found_from eq next start given) (next m) (next m) (found_of keys k f w) (SameNodes-refl eq laws.refl (next m))) in
        let moved = found_same eq laws next start alike (given ++ m ∷ []) given' (given_reached eq laws next start alike (given ++ m ∷ []) order) more in
        walk_of keys' (k + 1) f' (Explores-next eq laws answers (start ∷ []) keys' next (record { function = f' }) x) (order_same eq laws next start alike (given ++ m ∷ []) given' more order)
        (Same-trans eq laws keys' (insert_all eq keys (next m)) _ (Same-sym eq laws (insert_all eq keys (next m)) keys' put) (Same-trans eq laws (insert_all eq keys (next m)) (found_from eq next start (given ++ m ∷ [])) _ found moved))

    -- all that was found was given where no node waits, and nowhere else
    pub none_waits : (keys : List N) (k : ℕ) (b : Bool) (f : F) → IsBreadthWalk eq answers next start (walk_at keys k b f) → length keys ≤ k → AllGiven eq next start (take k keys)
    none_waits keys k b f w l =
        let same = Same-length eq (take k keys ++ drop k keys) (found_from eq next start (take k keys)) w.found in
        let all = ap length (take-append-drop k keys) in
        omega (arith, same, all, l, length-take k keys)

    some_waits : (keys : List N) (k : ℕ) (b : Bool) (f : F) → IsBreadthWalk eq answers next start (walk_at keys k b f) → k < length keys → ¬ (AllGiven eq next start (take k keys))
    some_waits keys k b f w l all =
        let same = Same-length eq (take k keys ++ drop k keys) (found_from eq next start (take k keys)) w.found in
        let sum = ap length (take-append-drop k keys) in
        omega (arith, same, sum, l, all, length-take k keys)

    -- the mark of a refusal is no part of what a walk is
    pub marked : (keys : List N) (k : ℕ) (b b' : Bool) (f : F) → IsBreadthWalk eq answers next start (walk_at keys k b f) → IsBreadthWalk eq answers next start (walk_at keys k b' f)
    marked keys k b b' f w = record { answered = w.answered; ordered = w.ordered; found = w.found }

    -- a step was refused
    pub turn_refused : (keys keys' : List N) (k : ℕ) (b : Bool) (f f' : F) (r : Result (Option N) PathError) → k < length keys → IsErr r → SameNodes eq keys' keys
        → IsBreadthWalk eq answers next start (walk_at keys k b f) → BreadthTurn eq next start (walk_at keys k b f) r (walk_at keys' k b f')
    turn_refused keys keys' k b f f' (Ok x) l h s w = absurd (true≢false (sym h))
    turn_refused keys keys' k b f f' (Err e) l h s w = (some_waits keys k b f w l, Same-take eq k keys' keys s, Same-drop eq k keys' keys s)

    -- a call of `next` is a step, which marks a refusal
    pub step_of : (s : BreadthWalk N F) (keys : List N) (k : ℕ) (b : Bool) (f : F) (r : Result (Option N) PathError) → s.refused ≡ false → b ≡ s.refused → IfErr r (λ e. e ≡ PathError.OutOfMemory)
        → IsBreadthWalk eq answers next start (walk_at keys k b f) × BreadthTurn eq next start s r (walk_at keys k b f)
        → IsBreadthWalk eq answers next start (walk_at keys k (is_err r) f) × BreadthStep eq next start s (result_transpose r) (walk_at keys k (is_err r) f)
    step_of s keys k b f (Ok (Some x)) h m e (w, t) = (marked keys k b false f w, (h, refl, t.0, t.1))
    step_of s keys k b f (Ok None) h m e (w, t) = (marked keys k b false f w, (inr t.0, subst (λ (c : Bool). walk_at keys k c f ≡ s) (m ∙ h) t.1))
    step_of s keys k b f (Err x) h m e (w, t) = (marked keys k b true f w, (e, h, refl, t.0, t.1, t.2))

-- before the start is put in, it waits
pub start_waits : {N : Type 0} (start : Option N) (nodes : List N) (k : ℕ) (n : N) → IsPlace start nodes k → start ≡ Some n → k < length (found_or start nodes)
start_waits None nodes k n p e = cc
start_waits (Some m) nodes k n p e = omega (arith, p.1)

pub placed : {N : Type 0} (start : Option N) (nodes : List N) (k : ℕ) → IsPlace start nodes k → k ≤ length (found_or start nodes)
placed None nodes k p = p
placed (Some m) nodes k p = omega (arith, p.1)
