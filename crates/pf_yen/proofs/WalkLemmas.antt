-- What a walk over paths keeps in each part of a step, and what it gives.
use Rattle.std.proofs.Common.{◌≡◌, ◌∙◌, ℕ, zero, suc, ◌<◌, ◌≤◌, ◌-◌, ◌^◌, refl, sym, ap, subst, arith, inl, inr, Bool, true, false, not, ◌&&◌, List, [], ◌∷◌, ◌++◌, length, map, ℤ, pos, Option, Some, None, true≢false, nat_eq, eqb-true}
use Rattle.std.specs.Prelude.{◌⊎◌, ◌↔◌, ◌+ℤ◌, Contains, Vec, Result, Ok, Err, OnOk, OnErr, IfErr, IsErrOf, MatchBool}
use Rattle.std.specs.Result.{IsErrAnd, IsOkAnd, is_err, result_transpose}
use Rattle.std.specs.List.{AllZip, IsDistinct}
use Rattle.std.specs.Cmp.{IsEquivalence}
use Rattle.std.specs.Iterator.{MakesProgress, at_most}
use Rattle.std.proofs.lemmas.Int.{ints}
use Rattle.std.proofs.lemmas.List.{length-append}
use Rattle.pf_base.specs.declared.error.PathError.{PathError}
use Rattle.pf_core.specs.Numbered.{Grows}
use Rattle.pf_core.specs.Steps.{GoesAlong, IsNonNegative, NumberedOverflows}
use Rattle.pf_base.specs.Answers.{ListsEdges}
use Rattle.pf_base.specs.Edges.{InReach, IsWeightedSearch}
use Rattle.pf_base.specs.NodeRefs.{HasSameNodes}
use Rattle.pf_base.specs.Walks.{HasNode}
use Rattle.pf_core.specs.Nodes.{NodeGraph, StandsFor, IsStep, Explores}
use Rattle.pf_discovery.specs.Sources.{AnswersEdges}
use Rattle.pf_core.specs.NodeLaws.{StandsFor-one, StandsFor-inside}
use Rattle.pf_base.proofs.ListLemmas.{bool_dec, Contains-cases, Contains-head}
use Rattle.pf_discovery.proofs.SourceLemmas.{Explores-edges}
use Rattle.pf_core.proofs.ReadLemmas.{same_one, stands_first}
use Rattle.pf_core.proofs.WalkLemmas.{no_negative}
use Rattle.pf_yen.specs.Internal.Adjacency.{AdjacencyLists, row_of, AdjacencyStep, is_goal}
use Rattle.pf_yen.specs.Internal.WholeGraphs.{IsWhole}
use Rattle.pf_yen.specs.Internal.Filtered.{StandsForItself}
use Rattle.pf_yen.specs.Counting.{most_paths}
use Rattle.pf_yen.specs.Internal.Learned.{IsLearned}
use Rattle.pf_yen.specs.Internal.Classes.{Plan, IsCleanNumbers, IsPartition}
use Rattle.pf_yen.specs.Internal.Splits.{ClassOverflows}
use Rattle.pf_yen.specs.Internal.Candidates.{as_list, last_given, NoneBelow, IsFirst}
use Rattle.pf_yen.specs.Internal.PlanChanges.{GoesOn, ChosenOverflows}
use Rattle.pf_yen.specs.CleanPaths.{AllGiven, IsNextPath, RefusedFor}
use Rattle.pf_yen.specs.Internal.PathPlans.{PathPlans, has_ended}
use Rattle.pf_yen.specs.Internal.PlannedSearch.{IsPlanned, IsUnderWay}
use Rattle.pf_yen.specs.Walk.{PathWalk, most_items, IsPathWalk, IsEnded, IsBarred, PathStep, StepKeepsBar}
use Rattle.pf_yen.specs.Internal.PathTurns.{PathTurn}
use Rattle.pf_yen.proofs.FilteredLemmas.{in_none}
use Rattle.pf_yen.proofs.CountLemmas.{both}
use Rattle.pf_yen.proofs.ExploreLemmas.{learned_whole}
use Rattle.pf_yen.proofs.SplitLemmas.{past_first}
use Rattle.pf_yen.proofs.NodePaths.{path_past, first_past}
use Rattle.pf_yen.proofs.StateLemmas.{went_on, planned_first, gave, all_given, next_is, given_at_most, branch}

zip_none : {A B : Type 0} (R : A → B → Type 0) (xs ys : List A) → AllZip R (xs ++ ys) [] → ys ≡ []
zip_none R [] [] z = refl
zip_none R [] (y ∷ ys) z = absurd z
zip_none R (x ∷ xs) ys z = absurd z

pub map_none : {A B : Type 0} (f : A → B) (xs : List A) → map f xs ≡ [] → xs ≡ []
map_none f [] e = refl
map_none f (x ∷ xs) e = cc

-- nothing is known yet
learned_none : {X C : Type 0} (value : C → ℤ) (step : X → ℤ → X → Type 0) (passes : X → Bool) (stands : ℕ → X → Type 0) (found : ℕ) → ((a : ℕ) → a < found → (x : X) × stands a x) → IsLearned value step passes stands found (record { rows = []; goals = [] })
learned_none {X} {C} value step passes stands found all = record {
  rows = λ a x h s. absurd (omega (arith, h));
  goals = λ a x h s. absurd (omega (arith, h));
  even = refl;
  below = omega arith;
  all = all;
  inside = λ a b c h. none a b c h;
}
  where
    none : (a b : ℕ) (c : C) → Contains (row_of (record { rows = []; goals = [] }) a) (b, c) → b < found
    none zero b c h = absurd (in_none (b, c) h)
    none (suc a) b c h = absurd (in_none (b, c) h)

-- one number alone was found
first_alone : {X : Type 0} (stands : ℕ → X → Type 0) (found : ℕ) → found ≡ 1 → (x : X) × stands 0 x → (a : ℕ) → a < found → (x : X) × stands a x
first_alone stands found e s zero h = s
first_alone stands found e s (suc a) h = absurd (omega (arith, e, h))

-- the chosen plan, where its path was given
chosen_given : {C : Type 0} (value : C → ℤ) (k : AdjacencyLists C) (fits : ℤ → Type 0) (was : Bool) (chosen : Option (Plan C)) → ¬ (last_given was chosen ≡ []) → ChosenOverflows value k fits chosen → (c : Plan C) × (was ≡ true) × (chosen ≡ Some c) × ClassOverflows value k fits c
chosen_given value k fits false chosen some d = absurd (some refl)
chosen_given value k fits true None some d = absurd d
chosen_given value k fits true (Some c) some d = (c, refl, refl, d)

-- no plan is left where none costs less than any number
no_plan : {C : Type 0} (value : C → ℤ) (plans : List (Plan C)) → ((t : ℤ) → NoneBelow value t plans) → plans ≡ []
no_plan value [] h = refl
no_plan value (c ∷ plans) h = let low = h (value c.cost +ℤ pos 1) c (Contains-head plans c) in absurd (omega (arith, ints, low))

none_listed : {X : Type 0} (o : Option X) (xs : List X) → as_list o ++ xs ≡ [] → (o ≡ None) × (xs ≡ [])
none_listed None xs e = (refl, e)
none_listed (Some x) xs e = cc

not_true : (b : Bool) → not b ≡ true → b ≡ false
not_true true h = absurd (true≢false (sym h))
not_true false h = refl

none_counted : {X : Type 0} (xs : List X) → length xs ≡ 0 → xs ≡ []
none_counted [] h = refl
none_counted (x ∷ xs) h = cc

-- at the end a path was looked for, and no plan is left
ended_parts : {N C : Type 0} (p : PathPlans N C) → has_ended p ≡ true → (p.has_begun ≡ true) × (p.is_given ≡ false) × (p.chosen ≡ None) × (p.waiting ≡ [])
ended_parts p h =
    let a = both p.has_begun _ h in
    let b = both (not p.is_given) _ a.1 in
    let none = none_listed p.chosen p.waiting (none_counted (as_list p.chosen ++ p.waiting) (eqb-true _ 0 b.1)) in
    (a.0, not_true p.is_given b.0, none.0, none.1)

pub not_ended_given : {N C : Type 0} (p : PathPlans N C) → p.is_given ≡ true → ¬ (has_ended p ≡ true)
not_ended_given p g h = let z = ended_parts p h in true≢false (sym g ∙ z.1)

pub not_ended_new : {N C : Type 0} (p : PathPlans N C) → p.has_begun ≡ false → ¬ (has_ended p ≡ true)
not_ended_new p n h = let z = ended_parts p h in true≢false (sym z.0 ∙ n)

pub not_ended_chosen : {N C : Type 0} (p : PathPlans N C) (c : Plan C) → p.chosen ≡ Some c → ¬ (has_ended p ≡ true)
not_ended_chosen p c is h =
    let z = ended_parts p h in
    let both_are : None ≡ Some c = sym z.2 ∙ is in
    cc

-- and where this is so, the walk is at its end
pub ended_by : {C : Type 0} (begun gone : Bool) (chosen : Option (Plan C)) (waiting : List (Plan C)) → begun ≡ true → gone ≡ false → chosen ≡ None → waiting ≡ [] → begun && (not gone && nat_eq (length (as_list chosen ++ waiting)) 0) ≡ true
ended_by begun gone chosen waiting b g c w = rw (b, g, c, w) refl

-- the walk, once this was planned
abbrev pub replanned : {N C F T : Type 0} → PathWalk N C F T → PathPlans N C → PathWalk N C F T
replanned s plans = record s { ended = has_ended plans; plans = plans }

-- a call of `next` is a step, which notes a refusal
pub bars_of : {N C F T X : Type 0} (s t : PathWalk N C F T) (r : Result (Option X) PathError) (noted : Bool) → (IsBarred s → IsErrOf r PathError.CostOverflow) → (noted ≡ true) ↔ IsErrOf r PathError.CostOverflow
    → StepKeepsBar s (result_transpose r) (record t { refused = is_err r; barred = noted })
bars_of s t (Ok (Some x)) noted was over = (λ b. let e = was b in cc, λ b. let e = over.0 b in cc)
bars_of s t (Ok None) noted was over = (λ b. let e = was b in cc, (λ b. let e = over.0 b in cc, λ b. let e = was b in cc))
bars_of s t (Err x) noted was over = (λ b. let e = was b in cc, (λ b. let e = over.0 b in cc, λ e. over.1 (ap Err e)))

items_open : {N C F T : Type 0} (s : PathWalk N C F T) → s.refused ≡ false → most_items s ≡ suc (most_paths (2 ^ 64) - length s.given)
items_open s h = rw h refl

items_refused : {N C F T : Type 0} (s : PathWalk N C F T) → s.refused ≡ true → most_items s ≡ 0
items_refused s h = rw h refl

-- the edges, from one start
abbrev pub graph_of : {N : Type 0} → N → (N → List (N × ℤ)) → NodeGraph N
graph_of start edges = record { starts = start ∷ []; edges = edges }

-- one node alone was found, and the start is the same as it
pub alone : {N : Type 0} {eq : N → N → Bool} → IsEquivalence eq → (keys : List N) (start : N) → length keys ≡ 1 → HasNode eq keys start
    → IsDistinct eq keys × HasSameNodes eq keys (start ∷ []) × ((x : N) → StandsFor eq keys 0 x ↔ (eq start x ≡ true))
unfolding IsDistinct
alone laws [] start one has = absurd has
alone {eq = eq} laws (k ∷ []) start one (inl e) =
    let same = laws.symm start k ∙ e in
    ((tt, tt), same_one eq laws [] (k ∷ []) start k same refl refl, stands_first eq laws [] (k ∷ []) start k same refl refl)
alone laws (k ∷ []) start one (inr h) = absurd h
alone laws (k ∷ l ∷ keys) start one has = cc

-- a walk that was just made
pub new_walk : {N C F T : Type 0} {eq : N → N → Bool} {value : C → ℤ} {edges : N → List (N × ℤ)} {start : N} {test : N → Bool} {fits : ℤ → Type 0} {edge_answers : F → (N → Type 0) → (N → List (N × ℤ)) → Type 0} {test_answers : T → (N → Type 0) → (N → Bool) → Type 0} → IsEquivalence eq → (s : PathWalk N C F T)
    → IsDistinct eq s.plans.nodes → HasSameNodes eq s.plans.nodes (start ∷ []) → length s.plans.nodes ≡ 1 → ((x : N) → StandsFor eq s.plans.nodes 0 x ↔ (eq start x ≡ true)) → s.plans.adjacency ≡ record { rows = []; goals = [] } → s.plans.has_begun ≡ false → IsUnderWay eq value s.given s.plans false → s.ended ≡ has_ended s.plans → s.barred ≡ false
    → ((x y : N) → InReach eq edges (start ∷ []) x → eq x y ≡ true → ListsEdges eq (λ z. z) (edges x) (edges y)) → IsWeightedSearch eq edges (start ∷ []) (edge_answers s.successors) (test_answers s.success) test
    → IsPathWalk eq value edges start test fits edge_answers test_answers s
new_walk {eq = eq} {value = value} {edges = edges} {start = start} {test = test} {edge_answers = edge_answers} laws s distinct same one begins none fresh under ends free alike h = record {
  explored = Explores-edges eq laws edge_answers (graph_of start edges) s.plans.nodes s.successors distinct same alike h.edges_answered;
  tested = h.test_answered;
  costs = h.costs;
  planned = record {
    begins = begins;
    learned = rw none (learned_none value (IsStep eq (graph_of start edges)) test (StandsFor eq s.plans.nodes) (length s.plans.nodes) (first_alone (StandsFor eq s.plans.nodes) (length s.plans.nodes) one (start, (begins start).1 (laws.refl start))));
    under_way = rw fresh under;
    ends = ends;
  };
  bar = λ b. absurd (true≢false (sym b ∙ free));
}

module _ {N C F T : Type 0} {eq : N → N → Bool} {value : C → ℤ} {edges : N → List (N × ℤ)} {start : N} {test : N → Bool} {fits : ℤ → Type 0} {edge_answers : F → (N → Type 0) → (N → List (N × ℤ)) → Type 0} {test_answers : T → (N → Type 0) → (N → Bool) → Type 0}
    {s : PathWalk N C F T} (w : IsPathWalk eq value edges start test fits edge_answers test_answers s) where
  -- the mark of a refusal is no part of what a walk is
  pub marked : (b : Bool) → IsPathWalk eq value edges start test fits edge_answers test_answers (record s { refused = b })
  marked b = record { explored = w.explored; tested = w.tested; costs = w.costs; planned = w.planned; bar = w.bar }

  -- nor is the note of a cost overflow, where it may come before the end
  barred_by : (b noted : Bool) → (noted ≡ true → RefusedFor eq edges start test value fits s.given PathError.CostOverflow × ¬ (IsEnded s)) → IsPathWalk eq value edges start test fits edge_answers test_answers (record s { refused = b; barred = noted })
  barred_by b noted bar = record { explored = w.explored; tested = w.tested; costs = w.costs; planned = w.planned; bar = bar }

  -- a call of `next` is a step, which notes a refusal
  pub step_of : {A : Type 0} (old : PathWalk N C F T) (r : Result (Option (Vec N A × C)) PathError) (noted : Bool) → old.refused ≡ false → (noted ≡ true → IsErrOf r PathError.CostOverflow) → PathTurn eq value edges start test fits old r s
      → IsPathWalk eq value edges start test fits edge_answers test_answers (record s { refused = is_err r; barred = noted }) × PathStep eq value edges start test fits old (result_transpose r) (record s { refused = is_err r; barred = noted })
  step_of old (Ok (Some x)) noted h over q = (barred_by false noted (λ b. let e = over b in cc), (h, refl, q.0, q.1))
  step_of old (Ok None) noted h over q = (barred_by false noted (λ b. let e = over b in cc), (inr (q.0, q.2), sym h, q.1))
  step_of old (Err x) noted h over q =
      let why : RefusedFor eq edges start test value fits s.given x = subst (λ (v : List (List N × C)). RefusedFor eq edges start test value fits v x) (sym q.1) q.0 in
      let now = barred_by true noted (λ b. let e = over b in let f : x ≡ PathError.CostOverflow = cc in (subst (λ (y : PathError). RefusedFor eq edges start test value fits s.given y) f why, q.3)) in
      (now, (h, refl, q.0, q.1, q.2))

  -- a step was refused, for this
  pub turn_refused : {A : Type 0} (t : PathWalk N C F T) (r : Result (Option (Vec N A × C)) PathError) (refusal : PathError) → IsErrAnd r (λ e. e ≡ refusal) → RefusedFor eq edges start test value fits s.given refusal → t.given ≡ s.given → ¬ (IsEnded s) → ¬ (IsEnded t)
      → PathTurn eq value edges start test fits s r t
  turn_refused t (Ok x) refusal e f same more still = absurd e
  turn_refused t (Err x) refusal e f same more still = (subst (λ (y : PathError). RefusedFor eq edges start test value fits s.given y) (sym e) f, same, more, still)

  -- what a step gives rests on the given paths alone, and on whether the walk is at its end
  pub turn_same : {A : Type 0} (u t : PathWalk N C F T) (r : Result (Option (Vec N A × C)) PathError) → u.given ≡ s.given → (IsEnded s → IsEnded u) → PathTurn eq value edges start test fits u r t → PathTurn eq value edges start test fits s r t
  turn_same u t (Ok (Some x)) e ends q = subst (λ (v : List (List N × C)). IsNextPath eq edges start test value v x.0.items x.1 × (t.given ≡ v ++ (x.0.items, x.1) ∷ [])) e q
  turn_same u t (Ok None) e ends q = subst (λ (v : List (List N × C)). AllGiven eq edges start test value v × (t.given ≡ v) × IsEnded t) e q
  turn_same u t (Err x) e ends q = let p = subst (λ (v : List (List N × C)). RefusedFor eq edges start test value fits v x × (t.given ≡ v)) e (q.0, q.1) in (p.0, p.1, (λ h. q.2 (ends h)), q.3)

  -- where the walk is at its end, the choice of a plan is not refused, and the walk stays there
  pub still_ended : {U : Type 0} (r : Result U PathError) (begun : Bool) (waiting : List (Plan C)) (chosen : Option (Plan C)) (gone : Bool) → OnOk r ((begun ≡ true) × (gone ≡ false))
      → OnOk r (s.plans.has_begun ≡ true → GoesOn value s.plans.adjacency (as_list s.plans.chosen ++ s.plans.waiting) (as_list chosen ++ waiting) (last_given s.plans.is_given s.plans.chosen)) → OnErr r (s.plans.has_begun ≡ true → ¬ (last_given s.plans.is_given s.plans.chosen ≡ []))
      → has_ended s.plans ≡ true → IsOkAnd r (λ _. has_ended (record s.plans { has_begun = begun; waiting = waiting; chosen = chosen; is_given = gone }) ≡ true)
  still_ended (Ok x) begun waiting chosen gone b on due h =
      let e = ended_parts s.plans h in
      let q = on e.0 in
      let empty : (t : ℤ) → NoneBelow value t (as_list s.plans.chosen ++ s.plans.waiting) = λ t. rw (e.2, e.3) (λ d i. absurd (in_none d i)) in
      let none = none_listed chosen waiting (no_plan value (as_list chosen ++ waiting) (λ t. q.dearer t (empty t))) in
      ended_by begun gone chosen waiting b.0 b.1 none.0 none.1
  still_ended (Err x) begun waiting chosen gone b on due h =
      let e = ended_parts s.plans h in
      let none : last_given s.plans.is_given s.plans.chosen ≡ [] = rw e.1 refl in
      due e.0 none

  -- where the choice of a plan is refused, the walk is not at its end
  pub still_open : {U : Type 0} (r : Result U PathError) (begun : Bool) (waiting : List (Plan C)) (chosen : Option (Plan C)) (gone : Bool) → OnErr r ((chosen ≡ s.plans.chosen) × (waiting ≡ s.plans.waiting) × (gone ≡ s.plans.is_given) × (begun ≡ s.plans.has_begun))
      → OnErr r (s.plans.has_begun ≡ true → ¬ (last_given s.plans.is_given s.plans.chosen ≡ [])) → OnErr r (¬ (has_ended (record s.plans { has_begun = begun; waiting = waiting; chosen = chosen; is_given = gone }) ≡ true))
  still_open (Ok x) begun waiting chosen gone kept due = tt
  still_open (Err x) begun waiting chosen gone kept due = λ h.
      let z = ended_parts (record s.plans { has_begun = begun; waiting = waiting; chosen = chosen; is_given = gone }) h in
      let given = sym kept.2 ∙ z.1 in
      let none : last_given s.plans.is_given s.plans.chosen ≡ [] = rw given refl in
      due (sym kept.3 ∙ z.0) none

  module _ (laws : IsEquivalence eq) where
    one : (i j : ℕ) (x : N) → StandsFor eq s.plans.nodes i x → StandsFor eq s.plans.nodes j x → i ≡ j
    one = StandsFor-one eq laws s.plans.nodes w.explored.distinct

    costs : IsNonNegative (IsStep eq (graph_of start edges))
    costs = no_negative eq laws (graph_of start edges) w.explored.alike w.costs

    some_found : 0 < length s.plans.nodes
    some_found = StandsFor-inside eq s.plans.nodes 0 start ((w.planned.begins start).1 (laws.refl start))

    -- more was learned
    pub learned_on : (nodes : List N) (adjacency : AdjacencyLists C) (f : F) (p : T) → Grows (length s.plans.nodes) (length nodes) (StandsFor eq s.plans.nodes) (StandsFor eq nodes)
        → Explores eq (AnswersEdges eq edge_answers) (graph_of start edges) nodes (record { function = f }) × test_answers p (InReach eq edges (start ∷ [])) test
        → IsLearned value (IsStep eq (graph_of start edges)) test (StandsFor eq nodes) (length nodes) adjacency → s.plans.has_begun ≡ false → IsPathWalk eq value edges start test fits edge_answers test_answers (record s { successors = f; success = p; plans = record s.plans { nodes = nodes; adjacency = adjacency } })
    learned_on nodes adjacency f p grows explored learned fresh =
        let plans : PathPlans N C = record s.plans { nodes = nodes; adjacency = adjacency } in
        let u : IsUnderWay eq value s.given s.plans false = rw fresh at w.planned.under_way in
        record {
          explored = explored.0;
          tested = explored.1;
          costs = w.costs;
          planned = record {
            begins = λ x. ((λ h. (w.planned.begins x).0 (grows.back 0 x some_found h)), (λ e. grows.stays 0 x ((w.planned.begins x).1 e)));
            learned = learned;
            under_way = subst (λ (b : Bool). IsUnderWay eq value s.given plans b) (sym fresh) u;
            ends = w.planned.ends;
          };
          bar = w.bar;
        }

    -- where a path was looked for, all is known, a machine word counts it, and what is left is planned
    going : s.plans.has_begun ≡ true → (length s.plans.nodes ≤ length s.plans.adjacency.rows) × (length s.plans.adjacency.rows < 2 ^ 64) × IsPlanned eq value s.plans.nodes s.plans.adjacency s.given s.plans.waiting s.plans.chosen s.plans.is_given
    going h = rw h at w.planned.under_way

    pub begun_known : s.plans.has_begun ≡ true → (length s.plans.nodes ≤ length s.plans.adjacency.rows) × (length s.plans.adjacency.rows < 2 ^ 64)
    begun_known h = let k = going h in (k.0, k.1)

    -- where none was looked for, none was given
    fresh_is : s.plans.has_begun ≡ false → (s.given ≡ []) × (s.plans.waiting ≡ []) × (s.plans.chosen ≡ None) × (s.plans.is_given ≡ false)
    fresh_is h = rw h at w.planned.under_way

    pub given_known : s.plans.is_given ≡ true → (length s.plans.nodes ≤ length s.plans.adjacency.rows) × (length s.plans.adjacency.rows < 2 ^ 64)
    given_known g = elim (bool_dec s.plans.has_begun) as (λ _. (length s.plans.nodes ≤ length s.plans.adjacency.rows) × (length s.plans.adjacency.rows < 2 ^ 64)) [ inl t ↦ begun_known t | inr f ↦ let q = fresh_is f in absurd (true≢false (sym g ∙ q.3)) ]

    pub fresh_plans : s.plans.has_begun ≡ false → (s.plans.waiting ≡ []) × (s.plans.is_given ≡ false)
    fresh_plans h = let u = fresh_is h in (u.1, u.3)

    pub some_partition : s.plans.has_begun ≡ true → (before : List (List ℕ)) × IsPartition value s.plans.adjacency (as_list s.plans.chosen ++ s.plans.waiting) before
    some_partition h = let p = (going h).2 in (p.before, p.partition)

    module _ (all : length s.plans.nodes ≤ length s.plans.adjacency.rows) where
      pub whole : IsWhole value s.plans.adjacency
      whole = learned_whole value (IsStep eq (graph_of start edges)) test (length s.plans.nodes) (StandsFor eq s.plans.nodes) s.plans.adjacency costs w.planned.learned all

      pub some_listed : 0 < length s.plans.adjacency.rows
      some_listed = let f = some_found in omega (arith, f, all)

      none_last : s.given ≡ [] → (before : List (List ℕ)) → AllZip (λ (q : List ℕ) (h : List N × C). AllZip (StandsFor eq s.plans.nodes) q h.0 × IsCleanNumbers value s.plans.adjacency q (value h.1)) (before ++ last_given s.plans.is_given s.plans.chosen) s.given → last_given s.plans.is_given s.plans.chosen ≡ []
      none_last e before z = zip_none (λ (q : List ℕ) (h : List N × C). AllZip (StandsFor eq s.plans.nodes) q h.0 × IsCleanNumbers value s.plans.adjacency q (value h.1)) before (last_given s.plans.is_given s.plans.chosen) (rw e at z)

      -- why none was chosen
      pub refused_for : {U : Type 0} (r : Result U PathError)
          → (r ≡ Err PathError.CostOverflow → MatchBool s.plans.has_begun (ChosenOverflows value s.plans.adjacency fits s.plans.chosen) (NumberedOverflows (AdjacencyStep value s.plans.adjacency) (is_goal s.plans.adjacency) (StandsForItself (length s.plans.adjacency.rows) 0) (StandsForItself (length s.plans.adjacency.rows)) fits))
          → OnErr r (s.plans.has_begun ≡ true → ¬ (last_given s.plans.is_given s.plans.chosen ≡ [])) → IfErr r (λ e. (e ≡ PathError.OutOfMemory) ⊎ (e ≡ PathError.CostOverflow)) → IfErr r (RefusedFor eq edges start test value fits s.given)
      refused_for (Ok x) past due why = tt
      refused_for (Err e) past due (inl m) = inl m
      refused_for (Err e) past due (inr m) =
          let over = past (ap Err m) in
          elim (bool_dec s.plans.has_begun) as (λ _. RefusedFor eq edges start test value fits s.given e) [
            | inl h ↦
                let p = (going h).2 in
                let c = chosen_given value s.plans.adjacency fits s.plans.is_given s.plans.chosen (due h) (rw h at over) in
                let b = c.3 in
                let q : IsPlanned eq value s.plans.nodes s.plans.adjacency s.given s.plans.waiting (Some c.0) true = rw (c.1, c.2) at p in
                inr (m, path_past eq laws s.plans.nodes one edges start test w.explored.alike w.planned.begins value s.plans.adjacency w.planned.learned all fits b.past, λ none. absurd (due h (none_last none p.before p.given_are)), λ _. branch eq laws value s.plans.nodes s.plans.adjacency one edges start test w.explored.alike w.planned.begins whole w.planned.learned all fits s.given s.plans.waiting c.0 q b)
            | inr h ↦
                let d = past_first value fits s.plans.adjacency (length s.plans.adjacency.rows) (rw h at over) in
                inr (m, path_past eq laws s.plans.nodes one edges start test w.explored.alike w.planned.begins value s.plans.adjacency w.planned.learned all fits d.0, λ _. first_past eq laws s.plans.nodes one edges start test w.explored.alike w.planned.begins value s.plans.adjacency w.planned.learned all fits d.0 costs d.1.0 d.1.1, λ some. absurd (some (fresh_is h).0))
          ]

      -- a plan was chosen, or the call was refused
      pub chose : length s.plans.adjacency.rows < 2 ^ 64 → ¬ (IsBarred s) → {U : Type 0} (r : Result U PathError) (begun : Bool) (waiting : List (Plan C)) (chosen : Option (Plan C)) (gone : Bool) → OnOk r ((begun ≡ true) × (gone ≡ false))
          → OnOk r (IsFirst value s.plans.is_given s.plans.chosen s.plans.waiting → s.plans.has_begun ≡ true → IsFirst value false chosen waiting) → OnOk r (s.plans.has_begun ≡ true → GoesOn value s.plans.adjacency (as_list s.plans.chosen ++ s.plans.waiting) (as_list chosen ++ waiting) (last_given s.plans.is_given s.plans.chosen))
          → OnOk r (s.plans.has_begun ≡ false → IsPartition value s.plans.adjacency (as_list chosen ++ waiting) [] × (waiting ≡ [])) → OnErr r ((chosen ≡ s.plans.chosen) × (waiting ≡ s.plans.waiting) × (gone ≡ s.plans.is_given) × (begun ≡ s.plans.has_begun))
          → IsPathWalk eq value edges start test fits edge_answers test_answers (replanned s (record s.plans { has_begun = begun; waiting = waiting; chosen = chosen; is_given = gone }))
      chose few free (Ok x) begun waiting chosen gone b first on begins kept =
          let plans : PathPlans N C = record s.plans { has_begun = begun; waiting = waiting; chosen = chosen; is_given = gone } in
          let now : IsPlanned eq value s.plans.nodes s.plans.adjacency s.given waiting chosen false = elim (bool_dec s.plans.has_begun) as (λ _. IsPlanned eq value s.plans.nodes s.plans.adjacency s.given waiting chosen false) [
            | inl h ↦ let p = (going h).2 in went_on eq laws value s.plans.nodes s.plans.adjacency s.given s.plans.waiting waiting s.plans.chosen chosen s.plans.is_given p (on h) (first p.first h)
            | inr h ↦
                let u = fresh_is h in
                let q = begins h in
                subst (λ (v : List (List N × C)). IsPlanned eq value s.plans.nodes s.plans.adjacency v waiting chosen false) (sym u.0) (planned_first eq laws value s.plans.nodes s.plans.adjacency waiting chosen q.1 q.0)
          ] in
          record {
            explored = w.explored;
            tested = w.tested;
            costs = w.costs;
            planned = record {
              begins = w.planned.begins;
              learned = w.planned.learned;
              under_way = subst (λ (v : Bool). IsUnderWay eq value s.given plans v) (sym b.0) (all, few, subst (λ (v : Bool). IsPlanned eq value s.plans.nodes s.plans.adjacency s.given waiting chosen v) (sym b.1) now);
              ends = refl;
            };
            bar = λ h. absurd (free h);
          }
      chose few free (Err x) begun waiting chosen gone b first on begins kept =
          let same : record s.plans { has_begun = begun; waiting = waiting; chosen = chosen; is_given = gone } ≡ s.plans = rw (kept.0, kept.1, kept.2, kept.3) refl in
          record {
            explored = w.explored;
            tested = w.tested;
            costs = w.costs;
            planned = record {
              begins = w.planned.begins;
              learned = w.planned.learned;
              under_way = subst (λ (p : PathPlans N C). IsUnderWay eq value s.given p p.has_begun) (sym same) w.planned.under_way;
              ends = refl;
            };
            bar = λ h. absurd (free h);
          }

    -- no more paths were given than there can be
    few_given : length s.given ≤ most_paths (2 ^ 64)
    few_given = elim (bool_dec s.plans.has_begun) as (λ _. length s.given ≤ most_paths (2 ^ 64)) [
      | inl h ↦ let u = going h in given_at_most eq laws value s.plans.nodes s.plans.adjacency (whole u.0) (2 ^ 64) (omega (arith, u.1)) (some_listed u.0) s.given s.plans.waiting s.plans.chosen s.plans.is_given u.2
      | inr h ↦ let u = fresh_is h in let none : length s.given ≡ 0 = ap length u.0 in omega (arith, none)
    ]

    -- an item is a path more, or a refusal
    pub progress : {A : Type 0} (can : PathWalk N C F T → Type 0) (old : PathWalk N C F T) (r : Option (Result (Vec N A × C) PathError)) → can s → PathStep eq value edges start test fits old r s → MakesProgress can (λ t. at_most (most_items t)) old r s
    progress can old None c q = record { on = λ f. tt; keeps = tt; rests = λ f. f }
    progress can old (Some (Ok item)) c q =
        let long = ap length q.3 ∙ length-append old.given ((item.0.items, item.1) ∷ []) in
        record { on = λ f. (c, f, omega (arith, items_open old q.0, items_open s q.1, long, few_given)); keeps = c; rests = λ f. tt }
    progress can old (Some (Err e)) c q = record { on = λ f. (c, f, omega (arith, items_open old q.0, items_refused s q.1)); keeps = c; rests = λ f. tt }

    module _ (begun : s.plans.has_begun ≡ true) (new : s.plans.is_given ≡ false) where
      all : length s.plans.nodes ≤ length s.plans.adjacency.rows
      all = (going begun).0

      ready : IsPlanned eq value s.plans.nodes s.plans.adjacency s.given s.plans.waiting s.plans.chosen false
      ready = subst (λ (b : Bool). IsPlanned eq value s.plans.nodes s.plans.adjacency s.given s.plans.waiting s.plans.chosen b) new (going begun).2

      -- where no plan is left, all was given
      pub none_left : s.plans.chosen ≡ None → s.plans.waiting ≡ [] → AllGiven eq edges start test value s.given
      none_left e f =
          let p : IsPlanned eq value s.plans.nodes s.plans.adjacency s.given [] None false = rw (e, f) at ready in
          all_given eq laws value s.plans.nodes s.plans.adjacency one edges start test w.explored.alike w.planned.begins (whole all) w.planned.learned all s.given p

      module _ (c : Plan C) (chosen : s.plans.chosen ≡ Some c) where
        ready_with : IsPlanned eq value s.plans.nodes s.plans.adjacency s.given s.plans.waiting (Some c) false
        ready_with = subst (λ (o : Option (Plan C)). IsPlanned eq value s.plans.nodes s.plans.adjacency s.given s.plans.waiting o false) chosen ready

        -- the numbers of the chosen path are found ones
        pub path_inside : (k : ℕ) → Contains c.path k → k < length s.plans.nodes
        path_inside k h =
            let r = ready_with in
            let p = r.partition in
            let q = p.cheapest c (Contains-head s.plans.waiting c) in
            let clean = q.clean in
            elim (Contains-cases clean.rest 0 k (subst (λ (v : List ℕ). Contains v k) clean.is h)) as (λ _. k < length s.plans.nodes) [
              | inl e ↦ subst (λ (n : ℕ). n < length s.plans.nodes) e some_found
              | inr i ↦ along clean.rest 0 (value c.cost) clean.goes k i
            ]
          where
            along : (v : List ℕ) (a : ℕ) (u : ℤ) → GoesAlong (AdjacencyStep value s.plans.adjacency) a v u → (n : ℕ) → Contains v n → n < length s.plans.nodes
            along [] a u g n i = absurd (in_none n i)
            along (b ∷ v) a u g n i = elim (Contains-cases v b n i) as (λ _. n < length s.plans.nodes) [
              | inl e ↦ let t = g.2 in let l = w.planned.learned in subst (λ (m : ℕ). m < length s.plans.nodes) e (l.inside a b t.0 t.1)
              | inr j ↦ along v b g.1 g.3 n j
            ]

        -- the chosen path is given
        pub gives : ¬ (IsBarred s) → (path : List N) → AllZip (StandsFor eq s.plans.nodes) c.path path → IsNextPath eq edges start test value s.given path c.cost × IsPathWalk eq value edges start test fits edge_answers test_answers (record (replanned s (record s.plans { is_given = true })) { given = s.given ++ (path, c.cost) ∷ [] })
        gives free path z =
            let plans : PathPlans N C = record s.plans { is_given = true } in
            let done : IsPlanned eq value s.plans.nodes s.plans.adjacency (s.given ++ (path, c.cost) ∷ []) s.plans.waiting s.plans.chosen true = subst (λ (o : Option (Plan C)). IsPlanned eq value s.plans.nodes s.plans.adjacency (s.given ++ (path, c.cost) ∷ []) s.plans.waiting o true) (sym chosen) (gave eq laws value s.plans.nodes s.plans.adjacency s.given s.plans.waiting c path ready_with z) in (
              next_is eq laws value s.plans.nodes s.plans.adjacency one edges start test w.explored.alike w.planned.begins (whole all) w.planned.learned all s.given s.plans.waiting c path ready_with z,
              record {
                explored = w.explored;
                tested = w.tested;
                costs = w.costs;
                planned = record {
                  begins = w.planned.begins;
                  learned = w.planned.learned;
                  under_way = subst (λ (b : Bool). IsUnderWay eq value (s.given ++ (path, c.cost) ∷ []) plans b) (sym begun) (all, (going begun).1, done);
                  ends = refl;
                };
                bar = λ b. absurd (free b);
              },
            )
