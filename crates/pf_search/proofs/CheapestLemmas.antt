-- Lemmas on walks by rising cost: what a search says of the nodes that were given, and what a turn gives.
use Rattle.std.proofs.Common.{◌≡◌, ℕ, ◌<◌, Bool, true, false, Option, Some, None, List, [], ◌∷◌, ◌++◌, ◌∙◌, length, refl, sym, ap, subst, arith, inl, inr, ℤ, pos, true≢false, nat_eq, eq-eqb}
use Rattle.std.specs.Prelude.{if◌then◌else◌, slice_get, ◌⊎◌, ◌↔◌, ◌≤ℤ◌, ◌+ℤ◌, Result, Ok, Err, MatchOption, reverse}
use Rattle.std.specs.Result.{IsErrAnd, is_err, result_transpose}
use borrow.Author.Tests.{eqb-true}
use Rattle.std.specs.Cmp.{IsEquivalence}
use Rattle.std.proofs.lemmas.Int.{ints}
use Rattle.pf_base.specs.declared.error.PathError.{PathError}
use Rattle.pf_base.specs.Answers.{SameNodes}
use Rattle.pf_base.specs.Walks.{HasNode, IsWalk, BeginsAt, EndsAt, end_of}
use Rattle.pf_base.specs.Edges.{IsSuccessor, IsCheapestGoalPath}
use Rattle.pf_core.specs.declared.labels.Label.{Label}
use Rattle.pf_core.specs.Labels.{Labels, HasLabel, by_cost, IsTree, AllSettled}
use Rattle.pf_core.specs.Numbered.{Grows}
use Rattle.pf_core.specs.Queue.{IsFront, IsOpen}
use Rattle.pf_core.specs.Steps.{IsNonNegative}
use Rattle.pf_discovery.specs.Sources.{AnswersEdges}
use Rattle.pf_core.specs.Nodes.{NodeGraph, StandsFor, IsStep, Explores}
use Rattle.pf_core.specs.NodeLaws.{StandsFor-one, StandsFor-inside}
use Rattle.pf_core.specs.Search.{IsLeast, IsSearch, Turned, StandsRoot, StepOverflows, IsWithinRange, SettledAt, WaitingAt}
use Rattle.pf_base.proofs.ListLemmas.{bool_dec}
use Rattle.pf_core.proofs.QueueLemmas.{none_some}
use Rattle.pf_core.proofs.LabelLemmas.{HasLabel-inside, label_is, parent_labelled}
use Rattle.pf_core.proofs.FrontierLemmas.{frontier, goes_more, end_more}
use Rattle.pf_core.proofs.PathLemmas.{climb_from, path_up}
use Rattle.pf_core.proofs.SearchLemmas.{goal_above, best, cheapest, rooted}
use Rattle.pf_core.proofs.NodeLemmas.{eq-sym, eq-trans, StandsFor-same, HasEdge-same, InReach-same, InReach-start, edge_of_same}
use Rattle.pf_core.proofs.WalkLemmas.{cheapest_edge, no_negative, goes_of_walk, none_less, best_answer, all_starts, only_starts}
use Rattle.pf_search.specs.declared.directed.dijkstra_reach.DijkstraReachableItem.{DijkstraReachableItem}
use Rattle.pf_search.specs.CheapestFirst.{CheapestWalk, given_nodes, IsCheapestWalk, IsGiven, IsNew, GivesMore, GivesNoMore, NoNewNodeBelow, IsBehind, IsNextByCost, NextOverflows, AllGiven, IsLeft, IsBarred, RefusedFor, CheapestStep, StepKeepsBar}
use Rattle.pf_search.specs.Internal.CheapestSearch.{KeepsSearch, given_of, next_if, next_of}
use Rattle.pf_search.specs.Internal.CheapestTurns.{CheapestTurn, TurnKeepsBar}
use Rattle.pf_search.proofs.GivenLemmas.{IsSettled, settled_of_given, given_of_settled}

module _ {N : Type 0} (eq : N → N → Bool) (laws : IsEquivalence eq) where
  -- nodes that one number stands for are the same
  pub same_node : (keys : List N) (k : ℕ) (x y : N) → StandsFor eq keys k x → StandsFor eq keys k y → eq x y ≡ true
  same_node keys k x y a b =
      let e : Some a.0 ≡ Some b.0 = sym a.1 ∙ b.1 in
      let f : a.0 ≡ b.0 = cc in
      eq-trans eq laws x a.0 y (eq-sym eq laws a.0 x a.2) (subst (λ m. eq m y ≡ true) (sym f) b.2)

  module _ {C F : Type 0} (value : C → ℤ) (answers : F → (N → Type 0) → (N → List (N × ℤ)) → Type 0) (edges : N → List (N × ℤ)) (start : N) where
    abbrev graph : NodeGraph N
    graph = record { starts = start ∷ []; edges = edges }

    abbrev step : N → ℤ → N → Type 0
    step = IsStep eq graph

    abbrev root : ℕ → Bool
    root k = nat_eq k 0

    abbrev pub IsOne : CheapestWalk N C F → Type 0
    IsOne walk = IsCheapestWalk eq value edges start answers walk

    -- a step of a walk that is this one, after which it is another that is this one
    pub turn_seen : (fits : ℤ → Type 0) (s w t u : CheapestWalk N C F) (r : Result (Option (DijkstraReachableItem N C)) PathError) → s ≡ w → u ≡ t → IsOne t × CheapestTurn eq value edges start fits s r t → IsOne u × CheapestTurn eq value edges start fits w r u
    turn_seen fits s w t u r e f h = subst (λ (x : CheapestWalk N C F). IsOne u × CheapestTurn eq value edges start fits x r u) e (subst (λ (y : CheapestWalk N C F). IsOne y × CheapestTurn eq value edges start fits s r y) (sym f) h)

    module _ (s : CheapestWalk N C F) (w : IsOne s) (tree : IsTree s.search.labels) where
      abbrev keys : List N
      keys = s.search.nodes

      abbrev stands : ℕ → N → Type 0
      stands = StandsFor eq s.search.nodes

      abbrev Starts : N → Type 0
      Starts = StandsRoot root (StandsFor eq s.search.nodes)

      one : (i j : ℕ) (x : N) → StandsFor eq s.search.nodes i x → StandsFor eq s.search.nodes j x → i ≡ j
      one = StandsFor-one eq laws s.search.nodes w.explored.distinct

      begins : (x : N) → StandsRoot root (StandsFor eq s.search.nodes) x ↔ (eq start x ≡ true)
      begins x = (
        λ h. (w.begins x).0 (subst (λ (k : ℕ). StandsFor eq s.search.nodes k x) (eqb-true h.0 0 h.1) h.2),
        λ e. (0, eq-eqb 0 0 refl, (w.begins x).1 e),
      )

      all : (a : N) → HasNode eq (start ∷ []) a → StandsRoot root (StandsFor eq s.search.nodes) a
      all = all_starts eq start (StandsRoot root (StandsFor eq s.search.nodes)) begins

      only : (a : N) → StandsRoot root (StandsFor eq s.search.nodes) a → HasNode eq (start ∷ []) a
      only = only_starts eq start (StandsRoot root (StandsFor eq s.search.nodes)) begins

      -- a node was given where its label is settled
      settled : (x : N) (cost : C) → IsGiven eq s x cost → IsSettled eq s.search x cost
      settled = settled_of_given eq s w.given

      given : (x : N) (cost : C) → IsSettled eq s.search x cost → IsGiven eq s x cost
      given = given_of_settled eq s w.given

      pub costs : IsNonNegative (IsStep eq graph)
      costs = no_negative eq laws graph w.explored.alike w.costs

      -- a node whose label is open was not given
      new_at : (k : ℕ) (l : Label C) (x : N) → HasLabel s.search.labels k l → l.settled ≡ false → StandsFor eq s.search.nodes k x → IsNew eq s x
      new_at k l x at opened here cost h =
          let g = settled x cost h in
          let same : g.0 ≡ k = one g.0 k x g.2 here in
          let e : g.1 ≡ l = label_is s.search.labels k g.1 l (subst (λ (n : ℕ). HasLabel s.search.labels n g.1) same g.3) at in
          true≢false (sym g.4 ∙ ap (λ (m : Label C). m.settled) e ∙ opened)

      -- a node that was not given is none of the settled ones
      not_settled : (x : N) → IsNew eq s x → (j : ℕ) (m : Label C) (y : N) → HasLabel s.search.labels j m → m.settled ≡ true → StandsFor eq s.search.nodes j y → eq y x ≡ false
      not_settled x new j m y at t here = elim (bool_dec (eq y x)) as (λ _. eq y x ≡ false) [
        | inl e ↦ absurd (new m.cost (given x m.cost (j, m, StandsFor-same eq laws s.search.nodes j y x here e, at, t, refl)))
        | inr f ↦ f
      ]

      -- where all labels are settled, all in reach was given
      pub all_given : AllSettled s.search.labels → AllGiven eq value edges start s
      all_given settled x r = by r.walk r.goes.walks r.goes.begins r.goes.ends
        where
          by : (v : List N) → IsWalk (IsSuccessor eq edges) v → BeginsAt eq (start ∷ []) v → EndsAt eq (λ y. eq y x) v → (cost : C) × IsGiven eq s x cost
          by [] f b e = absurd f
          by (a ∷ v) f b e =
              let goes = goes_of_walk eq laws graph w.explored.alike v a (InReach-start eq laws edges (start ∷ []) a a b (laws.refl a)) f in
              let i = w.search in
              let is = all a b in
              let q = i.start is.0 is.1 in
              elim (frontier step stands (SettledAt (by_cost value) s.search.labels) (WaitingAt (by_cost value) s.search.labels) i.cut v is.0 (value q.0.cost) a goes.0 (inl (q.0, q.1, settled is.0 q.0 q.1, refl)) is.2 goes.1) as (λ _. (cost : C) × IsGiven eq s x cost) [
                | inl n ↦ let m = n.is_settled in (m.0.cost, given x m.0.cost (n.number, m.0, StandsFor-same eq laws s.search.nodes n.number (end_of a v) x n.here e, m.1, m.2, refl))
                | inr n ↦ let m = n.is_waiting in absurd (true≢false (sym (settled n.number m.0 m.1) ∙ m.2))
              ]

      module _ (k : ℕ) (l : Label C) (z : IsLeast (by_cost value) s.search.labels k l) where
        none_cheaper : NoNewNodeBelow eq value edges start s (value l.cost)
        none_cheaper x new = none_less eq laws graph w.explored.alike Starts all only (λ y. eq y x) (value l.cost)
            (goal_above (by_cost value) step root costs stands s.search.labels w.search (λ y. eq y x) (not_settled x new) (value l.cost) z.least)

        rising : (x : N) (cost : C) → IsGiven eq s x cost → value cost ≤ℤ value l.cost
        rising x cost h = let i = w.search in let g = settled x cost h in subst (λ (c : C). value c ≤ℤ value l.cost) g.5 (i.low g.0 k g.1 l g.3 g.4 z.at z.opened)

        cheapest_to : (x : N) → StandsFor eq s.search.nodes k x → (path : List N) × IsCheapestGoalPath eq edges (start ∷ []) (λ y. eq y x) path (value l.cost)
        cheapest_to x here =
            let up = climb_from s.search.labels tree l.depth k l z.at refl in
            let numbers = reverse (k ∷ up.0) in
            let b = best (by_cost value) step root costs stands s.search.labels w.search tree k l z (λ y. eq y x) (not_settled x (new_at k l x z.at z.opened here)) numbers (record { above = up.0; climbs = up.1; is = refl })
            (λ y at. same_node s.search.nodes k y x at here) in
            (b.first ∷ b.nodes, best_answer eq laws graph w.explored.alike Starts all only (λ y. eq y x) (λ a c r e. laws.congr a c x e) s.search.nodes one numbers (b.first ∷ b.nodes) (value l.cost) b b.path.numbered)

        -- its number stands for a node
        pub stands_at : (x : N) × StandsFor eq s.search.nodes k x
        stands_at =
            let i = w.search in
            let up = (path_up s.search.labels tree (by_cost value) step Starts stands (rooted (by_cost value) step root costs stands s.search.labels i) i.linked k l z.at).1 in
            (end_of up.first up.nodes, up.here)

        -- a node in reach that was not given
        pub left_at : IsLeft eq value edges start s
        left_at = let x = stands_at in (x.1.0, w.explored.reached k x.1.0 x.1.1, new_at k l x.1.0 z.at z.opened (x.1.0, x.1.1, laws.refl x.1.0))

        behind : (node parent : N) → StandsFor eq s.search.nodes k node → 0 < l.depth → StandsFor eq s.search.nodes l.parent parent → IsBehind eq value edges start s parent node (value l.cost)
        behind node parent here deep at =
            let i = w.search in
            let m = parent_labelled s.search.labels tree k l z.at deep in
            let q = i.linked k l m.0 z.at deep m.1 parent at in
            record {
              cost = m.0.cost;
              given = given parent m.0.cost (l.parent, m.0, at, m.1, m.2, refl);
              price = q.1;
              step = record {
                edge = HasEdge-same eq laws (edges parent) q.0 node q.1 (same_node s.search.nodes k q.0 node q.3 here) q.2.1;
                cheapest = λ v h.
                    let up = (path_up s.search.labels tree (by_cost value) step Starts stands (rooted (by_cost value) step root costs stands s.search.labels i) i.linked l.parent m.0 m.1).1 in
                    let last = end_of up.first up.nodes in
                    let e : eq parent last ≡ true = same_node s.search.nodes l.parent parent last at up.here in
                    let st : IsStep eq graph last v node = (InReach-same eq laws edges (start ∷ []) parent last q.2.0 e, edge_of_same eq laws edges (start ∷ []) w.explored.alike parent last node v q.2.0 e h) in
                    let low = cheapest (by_cost value) step root costs stands s.search.labels i tree k l z one up.first up.is_start (up.nodes ++ node ∷ []) (value m.0.cost +ℤ v)
                    (goes_more step up.nodes up.first node (value m.0.cost) v up.path.goes st) (subst (λ (y : N). StandsFor eq s.search.nodes k y) (sym (end_more up.nodes up.first node)) here) in
                    omega (arith, ints, low, q.4);
              };
              sum = q.4;
            }

        behind_of : (o : Option N) (node : N) → StandsFor eq s.search.nodes k node → MatchOption o (l.depth ≡ 0) (λ parent. (0 < l.depth) × StandsFor eq s.search.nodes l.parent parent)
            → MatchOption o ((eq start node ≡ true) × (value l.cost ≡ pos 0)) (λ parent. IsBehind eq value edges start s parent node (value l.cost))
        behind_of None node here flat =
            let i = w.search in
            let r = i.rooted k l z.at flat in
            ((w.begins node).0 (subst (λ (n : ℕ). StandsFor eq s.search.nodes n node) (eqb-true k 0 r.0) here), r.2)
        behind_of (Some parent) node here p = behind node parent here p.0 p.1

        -- what is given for a least open label is the next by rising cost
        pub next_is : (item : DijkstraReachableItem N C) → item.total_cost ≡ l.cost → StandsFor eq s.search.nodes k item.node → MatchOption item.parent (l.depth ≡ 0) (λ parent. (0 < l.depth) × StandsFor eq s.search.nodes l.parent parent)
            → IsNextByCost eq value edges start s item
        next_is item e here p =
            let back = sym (ap value e) in
            let c = cheapest_to item.node here in
            record {
              new = new_at k l item.node z.at z.opened here;
              path = c.0;
              cheapest = subst (λ (t : ℤ). IsCheapestGoalPath eq edges (start ∷ []) (λ y. eq y item.node) c.0 t) back c.1;
              rising = subst (λ (t : ℤ). (x : N) (cost : C) → IsGiven eq s x cost → value cost ≤ℤ t) back rising;
              none_cheaper = subst (λ (t : ℤ). NoNewNodeBelow eq value edges start s t) back none_cheaper;
              behind = subst (λ (t : ℤ). MatchOption item.parent ((eq start item.node ≡ true) × (t ≡ pos 0)) (λ parent. IsBehind eq value edges start s parent item.node t)) back (behind_of item.parent item.node here p);
            }

        -- a step from it that is too dear
        pub past_at : (fits : ℤ → Type 0) (x : N) → StandsFor eq s.search.nodes k x → StepOverflows step fits x (value l.cost) → NextOverflows eq value edges start fits s
        past_at fits x here d =
            let c = cheapest_to x here in
            let e = cheapest_edge eq laws edges x d.next d.price d.edge.1 in
            record {
              node = x;
              new = new_at k l x z.at z.opened here;
              path = c.0;
              cost = value l.cost;
              cheapest = c.1;
              none_cheaper = none_cheaper;
              next = d.next;
              price = e.0;
              step = e.1;
              past = d.all_past e.0 (d.edge.0, e.1.edge);
            }

      -- where all labels are settled, the walk stands before no step
      pub ended_bar : (fits : ℤ → Type 0) → AllSettled s.search.labels → ¬ (IsBarred eq value edges start fits s)
      ended_bar fits settled b = true≢false (sym (settled b.number b.label b.least.at) ∙ b.least.opened)

      module _ (wide : length s.search.labels ≡ length s.search.nodes) (t : CheapestWalk N C F) (grows : Grows (length s.search.nodes) (length t.search.nodes) (StandsFor eq s.search.nodes) (StandsFor eq t.search.nodes)) (explored : Explores eq (AnswersEdges eq answers) graph t.search.nodes (record { function = t.successors })) (told : t.given ≡ given_of t.search.nodes t.search.labels) where
        within : (j : ℕ) (m : Label C) → HasLabel s.search.labels j m → j < length s.search.nodes
        within j m h = omega (arith, HasLabel-inside s.search.labels j m h, wide)

        begins_on : (x : N) → StandsFor eq t.search.nodes 0 x ↔ (eq start x ≡ true)
        begins_on x = let first = StandsFor-inside eq s.search.nodes 0 start ((w.begins start).1 (laws.refl start)) in (λ h. (w.begins x).0 (grows.back 0 x first h), λ e. grows.stays 0 x ((w.begins x).1 e))

        -- the walk goes on
        pub goes_on : length t.search.labels ≡ length t.search.nodes → IsSearch (by_cost value) step root (StandsFor eq t.search.nodes) t.search.labels → IsOne t
        goes_on l search = record { explored = explored; costs = w.costs; begins = begins_on; wide = l; search = search; given = told }

        -- where no label changed, no more was given
        pub no_more : t.search.labels ≡ s.search.labels → GivesNoMore eq s t
        no_more e x cost = (
          λ i. let g = settled_of_given eq t told x cost i in let h = subst (λ (ls : List (Option (Label C))). HasLabel ls g.0 g.1) e g.3 in given x cost (g.0, g.1, grows.back g.0 x (within g.0 g.1 h) g.2, h, g.4, g.5),
          λ i. let g = settled x cost i in given_of_settled eq t told x cost (g.0, g.1, grows.stays g.0 x g.2, subst (λ (ls : List (Option (Label C))). HasLabel ls g.0 g.1) (sym e) g.3, g.4, g.5),
        )

        -- where no label changed, nor what comes next, the walk stands before the same step
        pub bar_kept : (fits : ℤ → Type 0) → t.search.labels ≡ s.search.labels → ((k : ℕ) → s.search.next ≡ Some k → t.search.next ≡ Some k) → IsBarred eq value edges start fits s → IsBarred eq value edges start fits t
        bar_kept fits e next b =
            let back = sym e in
            let st = b.step in
            record {
              number = b.number;
              label = b.label;
              least = subst (λ (ls : Labels C). IsLeast (by_cost value) ls b.number b.label) back b.least;
              next = next b.number b.next;
              node = b.node;
              here = grows.stays b.number b.node b.here;
              step = record {
                next = st.next;
                price = st.price;
                edge = st.edge;
                new = λ j at m h. let old = subst (λ (ls : Labels C). HasLabel ls j m) e h in st.new j (grows.back j st.next (within j m old) at) m old;
                all_past = st.all_past;
              };
            }

        -- where the steps from the first open label were taken, the walk stood before none that does not fit
        module _ (fits : ℤ → Type 0) (k : ℕ) (l : Label C) (z : IsLeast (by_cost value) s.search.labels k l) (f : (n : ℕ) → s.search.next ≡ Some n → n ≡ k) where
          pub no_bar : ((x : N) → StandsFor eq s.search.nodes k x → (y : N) (v : ℤ) → step x v y → IsWithinRange step (StandsFor eq s.search.nodes) s.search.labels fits x (value l.cost) (StandsFor eq t.search.nodes) y)
              → ¬ (IsBarred eq value edges start fits s)
          no_bar passed b =
              let st = b.step in
              let n : b.number ≡ k = f b.number b.next in
              let same : b.label ≡ l = label_is s.search.labels k b.label l (subst (λ (i : ℕ). HasLabel s.search.labels i b.label) n b.least.at) z.at in
              elim (passed b.node (subst (λ (i : ℕ). StandsFor eq s.search.nodes i b.node) n b.here) st.next st.price st.edge) as (λ _. ⊥) [
                | inl o ↦ st.new o.0 o.2 o.1 o.3
                | inr o ↦
                    let e : IsStep eq graph b.node o.1 st.next = (o.5.0, HasEdge-same eq laws (edges b.node) o.2 st.next o.1 (same_node t.search.nodes o.0 o.2 st.next o.4 o.3) o.5.1) in
                    st.all_past o.1 e (subst (λ (m : Label C). fits (value m.cost +ℤ o.1)) (sym same) o.6)
              ]

        -- after a turn one item more was given
        pub one_more : (k : ℕ) (l : Label C) → HasLabel s.search.labels k l → Turned k l s.search.labels t.search.labels → (item : DijkstraReachableItem N C) → item.total_cost ≡ l.cost → StandsFor eq s.search.nodes k item.node → GivesMore eq s item t
        one_more k l at turned item e here x cost = (
          λ i. let g = settled_of_given eq t told x cost i in elim (turned.from g.0 g.1 g.3 g.4) as (λ _. IsGiven eq s x cost ⊎ ((eq item.node x ≡ true) × (item.total_cost ≡ cost))) [
            | inl q ↦ inr (same_node s.search.nodes k item.node x here (grows.back k x (within k l at) (subst (λ (n : ℕ). StandsFor eq t.search.nodes n x) q.0 g.2)), e ∙ sym (ap (λ (m : Label C). m.cost) q.1) ∙ g.5)
            | inr h ↦ inl (given x cost (g.0, g.1, grows.back g.0 x (within g.0 g.1 h) g.2, h, g.4, g.5))
          ],
          λ o. elim o as (λ _. IsGiven eq t x cost) [
            | inl i ↦ let g = settled x cost i in given_of_settled eq t told x cost (g.0, g.1, grows.stays g.0 x g.2, turned.kept g.0 g.1 g.3 g.4, g.4, g.5)
            | inr q ↦ given_of_settled eq t told x cost (k, record l { settled = true }, grows.stays k x (StandsFor-same eq laws s.search.nodes k item.node x here q.0), turned.done, refl, sym e ∙ q.1)
          ],
        )

    -- the mark of a refusal is no part of what a walk is
    pub marked : (s : CheapestWalk N C F) (b : Bool) → IsOne s → IsOne (record s { refused = b })
    marked s b w = record { explored = w.explored; costs = w.costs; begins = w.begins; wide = w.wide; search = w.search; given = w.given }

    -- a call of `next` is a step, which marks a refusal
    pub step_of : (fits : ℤ → Type 0) (s t : CheapestWalk N C F) (r : Result (Option (DijkstraReachableItem N C)) PathError) → s.refused ≡ false → t.refused ≡ s.refused → IsOne t × CheapestTurn eq value edges start fits s r t
        → IsOne (record t { refused = is_err r }) × CheapestStep eq value edges start fits s (result_transpose r) (record t { refused = is_err r })
    step_of fits s t (Ok (Some x)) h m (w, q) = (marked t false w, (h, refl, q.0, q.1))
    step_of fits s t (Ok None) h m (w, q) = (marked t false w, (inr q.0, subst (λ (c : Bool). record t { refused = c } ≡ s) (m ∙ h) q.1))
    step_of fits s t (Err x) h m (w, q) = (marked t true w, (h, refl, q.0, q.1, q.2, q.3, q.4))

-- what is given for a number, where its label and its node are read from others
module _ {N C : Type 0} (eq : N → N → Bool) (number : ℕ) (item : DijkstraReachableItem N C) where
  abbrev IsItemAt : Labels C → List N → Type 0
  IsItemAt labels nodes = (l : Label C) × HasLabel labels number l × (item.total_cost ≡ l.cost) × StandsFor eq nodes number item.node × MatchOption item.parent (l.depth ≡ 0) (λ parent. (0 < l.depth) × StandsFor eq nodes l.parent parent)

  pub item_read : (now labels : Labels C) (read nodes : List N) → now ≡ labels → read ≡ nodes → IsItemAt now read → IsItemAt labels nodes
  item_read now labels read nodes e f h = subst (λ (ks : List N). IsItemAt labels ks) f (subst (λ (ls : Labels C). IsItemAt ls read) e h)

-- a step was refused, for this
module _ {N C F : Type 0} (eq : N → N → Bool) (value : C → ℤ) (edges : N → List (N × ℤ)) (start : N) (fits : ℤ → Type 0) (s t : CheapestWalk N C F) where
  pub turn_refused : (r : Result (Option (DijkstraReachableItem N C)) PathError) (refusal : PathError) → IsErrAnd r (λ e. e ≡ refusal) → RefusedFor eq value edges start fits s refusal → IsLeft eq value edges start s → GivesNoMore eq s t → SameNodes eq (given_nodes t) (given_nodes s) → KeepsSearch eq s.search t.search
      → CheapestTurn eq value edges start fits s r t
  turn_refused (Ok x) refusal e f l m same kept = absurd e
  turn_refused (Err x) refusal e f l m same kept = (subst (λ (y : PathError). RefusedFor eq value edges start fits s y) (sym e) f, l, m, same, kept)

  pub bar_seen : (w u : CheapestWalk N C F) (r : Result (Option (DijkstraReachableItem N C)) PathError) → s ≡ w → u ≡ t → TurnKeepsBar eq value edges start fits s r t → TurnKeepsBar eq value edges start fits w r u
  bar_seen w u r e f h = subst (λ (x : CheapestWalk N C F). TurnKeepsBar eq value edges start fits x r u) e (subst (λ (y : CheapestWalk N C F). TurnKeepsBar eq value edges start fits s r y) (sym f) h)

  pub bars_of : (r : Result (Option (DijkstraReachableItem N C)) PathError) → TurnKeepsBar eq value edges start fits s r t → StepKeepsBar eq value edges start fits s (result_transpose r) (record t { refused = is_err r })
  bars_of (Ok (Some x)) q = q
  bars_of (Ok None) q = λ b. absurd (q b)
  bars_of (Err x) q = q

  pub bar_refused : (r : Result (Option (DijkstraReachableItem N C)) PathError) (refusal : PathError) → IsErrAnd r (λ e. e ≡ refusal) → (((refusal ≡ PathError.CostOverflow) ⊎ IsBarred eq value edges start fits s) → IsBarred eq value edges start fits t)
      → TurnKeepsBar eq value edges start fits s r t
  bar_refused (Ok x) refusal e q = absurd e
  bar_refused (Err x) refusal e q = subst (λ (y : PathError). ((y ≡ PathError.CostOverflow) ⊎ IsBarred eq value edges start fits s) → IsBarred eq value edges start fits t) (sym e) q

-- ---- what is known to come next
module _ {C : Type 0} where
  next_open : (o : Option (Option (Label C))) (n k : ℕ) → next_if o n ≡ Some k → (l : Label C) × (o ≡ Some (Some l)) × (l.settled ≡ false) × (n ≡ k)
  next_open None n k h = absurd (none_some k h)
  next_open (Some None) n k h = absurd (none_some k h)
  next_open (Some (Some l)) n k h = elim (bool_dec l.settled) as (λ _. (m : Label C) × (Some (Some l) ≡ Some (Some m)) × (m.settled ≡ false) × (n ≡ k)) [
    | inl t ↦ absurd (none_some k (sym (ap (λ (b : Bool). if b then None else Some n) t) ∙ h))
    | inr f ↦ (l, refl, f, (let e = sym (ap (λ (b : Bool). if b then None else Some n) f) ∙ h in cc))
  ]

  -- the number that comes next has an open label, and its entry comes first
  pub next_front : (labels : Labels C) (front : Option (C × ℕ)) (k : ℕ) → next_of labels front ≡ Some k → IsFront k front × IsOpen labels k
  next_front labels None k h = absurd (none_some k h)
  next_front labels (Some e) k h =
      let o = next_open (slice_get labels e.1) e.1 k h in
      ((e.0, ap (λ (n : ℕ). Some (e.0, n)) o.3), (o.0, subst (λ (n : ℕ). HasLabel labels n o.0) o.3 o.1, o.2))

  -- and the other way round
  pub front_next : (labels : Labels C) (front : Option (C × ℕ)) (k : ℕ) → IsFront k front → IsOpen labels k → next_of labels front ≡ Some k
  front_next labels front k f o =
      ap (next_of labels) f.1 ∙ (ap (λ (s : Option (Option (Label C))). next_if s k) o.1 ∙ ap (λ (b : Bool). if b then None else Some k) o.2)

  -- where each label is settled, none comes next
  pub none_next : (labels : Labels C) (front : Option (C × ℕ)) → AllSettled labels → next_of labels front ≡ None
  none_next labels front all = by (next_of labels front) refl
    where
      by : (r : Option ℕ) → next_of labels front ≡ r → next_of labels front ≡ None
      by None e = e
      by (Some k) e = let n = next_front labels front k e in absurd (true≢false (sym (all k n.1.0 n.1.1) ∙ n.1.2))

  -- what comes next does so after a search for it too
  pub next_kept : (labels : Labels C) (front front' : Option (C × ℕ)) (number : ℕ) → ((k : ℕ) → IsFront k front → IsOpen labels k → Some number ≡ Some k) → IsFront number front' → (k : ℕ) → next_of labels front ≡ Some k → next_of labels front' ≡ Some k
  next_kept labels front front' number again first k e =
      let n = next_front labels front k e in
      let is : Some number ≡ Some k = again k n.0 n.1 in
      let same : number ≡ k = cc in
      front_next labels front' k (subst (λ (j : ℕ). IsFront j front') same first) n.1

  pub next_number : (labels : Labels C) (front : Option (C × ℕ)) (number : ℕ) → ((k : ℕ) → IsFront k front → IsOpen labels k → Some number ≡ Some k) → (k : ℕ) → next_of labels front ≡ Some k → k ≡ number
  next_number labels front number again k e =
      let n = next_front labels front k e in
      let is : Some number ≡ Some k = again k n.0 n.1 in
      cc

-- what a caller sees of these parts
abbrev pub seen : {N C F : Type 0} → List N → Labels C → Option (C × ℕ) → Bool → F → CheapestWalk N C F
seen nodes labels front refused successors = record { given = given_of nodes labels; refused = refused; successors = successors; search = record { nodes = nodes; labels = labels; next = next_of labels front } }

module _ {N C F : Type 0} (nodes : List N) (refused : Bool) (successors : F) where
  pub seen_same : (labels labels' : Labels C) (front front' : Option (C × ℕ)) → labels' ≡ labels → front' ≡ front → seen nodes labels' front' refused successors ≡ seen nodes labels front refused successors
  seen_same labels labels' front front' e f = ap (λ (ls : Labels C). seen nodes ls front' refused successors) e ∙ ap (λ (o : Option (C × ℕ)). seen nodes labels o refused successors) f

  -- where each label is settled, nothing is seen of what comes first
  pub seen_ended : (labels labels' : Labels C) (front front' : Option (C × ℕ)) → labels' ≡ labels → AllSettled labels → seen nodes labels' front' refused successors ≡ seen nodes labels front refused successors
  seen_ended labels labels' front front' e all =
      seen_same labels labels' front' front' e refl
      ∙ ap (λ (n : Option ℕ). record { given = given_of nodes labels; refused = refused; successors = successors; search = record { nodes = nodes; labels = labels; next = n } }) (none_next labels front' all ∙ sym (none_next labels front all))

module _ {N C F : Type 0} (eq : N → N → Bool) (value : C → ℤ) (edges : N → List (N × ℤ)) (start : N) where
  -- what is known to come next is no part of what a walk is
  pub known : (answers : F → (N → Type 0) → (N → List (N × ℤ)) → Type 0) (s : CheapestWalk N C F) (n : Option ℕ) → IsCheapestWalk eq value edges start answers s → IsCheapestWalk eq value edges start answers (record s { search = record s.search { next = n } })
  known answers s n w = record { explored = w.explored; costs = w.costs; begins = w.begins; wide = w.wide; search = w.search; given = w.given }

  -- the walk stands before the same step, where the same comes next
  pub bar_known : (fits : ℤ → Type 0) (s : CheapestWalk N C F) (n : Option ℕ) → ((k : ℕ) → s.search.next ≡ Some k → n ≡ Some k) → IsBarred eq value edges start fits s → IsBarred eq value edges start fits (record s { search = record s.search { next = n } })
  bar_known fits s n next b = record { number = b.number; label = b.label; least = b.least; next = next b.number b.next; node = b.node; here = b.here; step = b.step }
