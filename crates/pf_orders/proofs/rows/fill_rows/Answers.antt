use Rattle.std.proofs.Common.{refl, ◌≡◌, ◌<◌, ◌≤◌, ◌+◌, ◌∙◌, ◌++◌, ◌∷◌, [], ℕ, List, arith, length, take, drop, slice_get, Some, subst, sym, ap, map, inl, inr}
use Rattle.std.specs.Prelude.{Vec, Contains}
use Rattle.std.specs.List.{AllZip}
use Rattle.std.proofs.lemmas.List.{length-replicate, take_at}
use Rattle.std.proofs.lemmas.Option.{slice_get_within}
use Rattle.pf_core.proofs.SearchLemmas.{Grows-trans, Grows-refl}
use Rattle.pf_discovery.proofs.DepthFirstLemmas.{ends_stand}
use Rattle.pf_base.proofs.ListLemmas.{none_in}
use Rattle.pf_core.proofs.PathLemmas.{AllZip-map}
use Rattle.pf_orders.specs.Internal.Rounds.{AreCounted, Falls}
use Rattle.pf_orders.proofs.ComponentLists.{at_replicate}
use Rattle.pf_base.proofs.Outcomes.{none_unknown, ok_not_err, on_failed, refused_as}
use Rattle.pf_orders.proofs.OrderLemmas.{step_of, of_step, of_member, node_of_row}
use Rattle.pf_orders.proofs.RoundLemmas.{counted_none, counted_push, at_push, get_length, only_memory, memory_of}
use Rattle.pf_orders.proofs.rows.fill_rows.Goals as goal

no_more : (now old : ℕ) → now ≡ old → now ≤ old
no_more now old e = omega arith

not_below : (k n : ℕ) → k ≡ n → ¬ (k < n)
not_below k n e h = omega arith

goes_below : (k rows number count : ℕ) → k < rows → rows ≡ number → number < count → k < count
goes_below k rows number count h e l = omega arith

counted : (j found count long : ℕ) → j < found → found ≤ count → long ≡ count → j < long
counted j found count long h l e = omega arith

still_same : (new count now old : ℕ) → new ≤ count → now ≡ old → now ≤ new → count ≡ old → new ≡ old
still_same new count now old l e m f = omega arith

pub numbers-init : goal.numbers-init
numbers-init g c =
    let r = c.requires in
    let found = g.G.NumberedGraph.node_count c.args.graph.now in
    record {
      same = refl;
      grown = Grows-refl _ _;
      explored = λ h x. x;
      counted = rw r.unread.0 (counted_none c.args.counts.now.items (λ j n at. sym (at_replicate found 0 j n (subst (λ xs. slice_get xs j ≡ Some n) r.unread.1 at))));
      long = ap length r.unread.1 ∙ length-replicate _ 0 ∙ sym c.node_count-count.ensures;
      wide = ap length r.unread.0;
      listed = λ h x k row n at s. absurd (none_in k row (subst (λ rs. slice_get rs k ≡ Some row) r.unread.0 at));
    }

pub expand-requires-clause-inside : goal.expand-requires-clause-inside
expand-requires-clause-inside g c =
    let v = c.numbers.invariant in
    subst (λ (n : ℕ). c.numbers.number < n) (c.node_count-count.ensures ∙ sym v.same) c.numbers-test.true

pub expand-requires-clause-graph : goal.expand-requires-clause-graph
expand-requires-clause-graph g c =
    let v = c.numbers.invariant in
    let r = c.requires.graph in
    (r.0, v.explored r.0 r.1)

pub returns-in_err-expand : goal.returns-in_err-expand
returns-in_err-expand g c = record {
  graph = λ h x. c.in_err-expand.ensures.graph h (c.numbers.invariant.explored h x);
  grows = Grows-trans _ _ _ _ _ _ c.numbers.invariant.grown c.in_err-expand.ensures.grows;
  read = on_failed _ _ c.from_residual.ensures.0;
  listed = λ h x. on_failed _ _ c.from_residual.ensures.0;
  unknown = λ h x u. absurd (only_memory _ _ c.from_residual.ensures.1 c.in_err-expand.ensures.refused.0 u);
  errors = memory_of _ _ c.from_residual.ensures.1 c.in_err-expand.ensures.refused.0;
}

pub returns-then-node_count-count : goal.returns-then-node_count-count
returns-then-node_count-count g c = record {
  graph = λ h x. c.in_ok-expand.ensures.graph h (c.numbers.invariant.explored h x);
  grows = Grows-trans _ _ _ _ _ _ c.numbers.invariant.grown c.in_ok-expand.ensures.grows;
  read = tt;
  listed = λ h x. tt;
  unknown = λ h x _.
      let v = c.numbers.invariant in
      let e = c.in_ok-expand.ensures in
      let number = c.numbers.number in
      let count = g.G.NumberedGraph.node_count c.args.graph.now in
      let stands = g.G.NumberedGraph.stands c.expand.new.self in
      let below : number < count = subst (λ (n : ℕ). number < n) c.node_count-count.ensures c.numbers-test.true in
      let more : count < g.G.NumberedGraph.node_count c.expand.new.self = rw (c.node_count-count.ensures, c.node_count.ensures) at c.if-node_count-count.true in
      let s = c.requires.begins number below in
      let here = v.grown.stays number s.0 s.1 in
      let p = e.placed in
      let l = e.listed in
      let fresh = l.3 count (no_more _ _ v.same) more in
      let in_row = subst (λ (ks : List ℕ). Contains ks count) (sym l.1 ∙ p.1) (of_step l.0 count fresh.0 fresh.1) in
      let z = ends_stand stands p.0 _ (p.2 h (v.explored h x) s.0 here) in
      let y = node_of_row stands (map (λ (t : ℕ × _). t.0) p.0) (g.G.NumberedGraph.successors h s.0) count z in_row in (
        s.0,
        y.0,
        (number, below, e.grows.stays number s.0 here),
        y.1,
        (λ k. let same = g.met.G.NumberedGraph.one_law _ h (e.graph h (v.explored h x)) k.0 count y.0 k.2 y.2 in not_below _ _ same k.1),
      );
  errors = inr refl;
}

pub count_row-requires : goal.count_row-requires
count_row-requires g c = λ j h.
    let v = c.numbers.invariant in
    let e = c.in_ok-expand.ensures in
    let l = e.listed in
    let none : g.G.NumberedGraph.node_count c.expand.new.self ≤ c.node_count-count.result = rw c.node_count.ensures at c.if-node_count-count.false in
    let s = step_of l.0 j (subst (λ (ks : List ℕ). Contains ks j) (c.deref.ensures.value ∙ l.1) (of_member c.deref.result.now j h)) in
    counted _ _ _ _ (l.2 j s.0 s.1) none (ap length c.deref_mut.ensures.value ∙ v.long)

pub returns-in_err-count_row : goal.returns-in_err-count_row
returns-in_err-count_row g c = record {
  graph = λ h x. c.in_ok-expand.ensures.graph h (c.numbers.invariant.explored h x);
  grows = Grows-trans _ _ _ _ _ _ c.numbers.invariant.grown c.in_ok-expand.ensures.grows;
  read = on_failed _ _ c.from_residual-in_err-count_row.ensures.0;
  listed = λ h x. on_failed _ _ c.from_residual-in_err-count_row.ensures.0;
  unknown = λ h x u. absurd (only_memory _ _ c.from_residual-in_err-count_row.ensures.1 c.in_err-count_row.ensures.refused u);
  errors = memory_of _ _ c.from_residual-in_err-count_row.ensures.1 c.in_err-count_row.ensures.refused;
}

pub numbers-smaller : goal.numbers-smaller
numbers-smaller g c = omega (arith, c.numbers-test.true)

pub numbers-preserved : goal.numbers-preserved
numbers-preserved g c =
    let v = c.numbers.invariant in
    let e = c.in_ok-expand.ensures in
    let stands = g.G.NumberedGraph.stands c.expand.new.self in
    let row = c.expand.new.row in
    let rows = c.numbers.rows.items in
    let none : g.G.NumberedGraph.node_count c.expand.new.self ≤ c.node_count-count.result = rw c.node_count.ensures at c.if-node_count-count.false in
    let l = e.listed in
    let p = e.placed in
    let pushed : c.push.new.self.items ≡ rows ++ row ∷ [] = c.in_ok-push.ensures.items in
    let all = c.node_count-count.ensures ∙ sym v.same in
    let before = c.numbers.counts.items in
    let counts = c.count_row.new.counts in
    let falls = subst (λ (ns : List ℕ). Falls row.items counts ns) c.deref_mut.ensures.value (subst (λ (ks : List ℕ). Falls ks counts c.deref_mut.result.now) c.deref.ensures.value c.in_ok-count_row.ensures.counted) in
    let same : take c.numbers.counts.len (counts ++ drop (length counts) before) ≡ counts = take_at counts (drop (length counts) before) c.numbers.counts.len (c.count_row.auto.counts ∙ ap length c.deref_mut.ensures.value ∙ sym c.numbers.counts.ok.0) in
    let below : (j : ℕ) → _ → j < length c.numbers.counts.items = λ j h. let s = step_of l.0 j (subst (λ (ks : List ℕ). Contains ks j) l.1 (of_member row.items j h)) in counted _ _ _ _ (l.2 j s.0 s.1) none v.long in
    record {
      same = still_same _ _ _ _ none v.same e.grows.more c.node_count-count.ensures;
      grown = Grows-trans _ _ _ _ _ _ v.grown e.grows;
      explored = λ h x. e.graph h (v.explored h x);
      counted = subst (λ rs. AreCounted rs (take c.numbers.counts.len (counts ++ drop (length counts) before))) (sym pushed) (subst (λ (ns : List ℕ). AreCounted (rows ++ row ∷ []) ns) (sym same) (counted_push rows row before counts v.counted falls below));
      long = ap length same ∙ sym falls.len ∙ v.long;
      wide = ap length pushed ∙ get_length rows row ∙ ap (λ n. n + 1) v.wide;
      listed = λ h x k r n at s. elim (at_push rows row r k (subst (λ rs. slice_get rs k ≡ Some r) pushed at)) as (λ _. AllZip stands r.items (g.G.NumberedGraph.successors h n)) [
        | inl q ↦
            let small : k < g.G.NumberedGraph.node_count c.numbers.graph = subst (λ (n : ℕ). k < n) all (goes_below k _ _ _ (slice_get_within rows k r q) v.wide c.numbers-test.true) in
            AllZip-map (g.G.NumberedGraph.stands c.numbers.graph) stands e.grows.stays r.items (g.G.NumberedGraph.successors h n) (v.listed h x k r n q (e.grows.back k n small s))
        | inr q ↦
            let this : k ≡ c.numbers.number = q.0 ∙ v.wide in
            let small : k < g.G.NumberedGraph.node_count c.numbers.graph = subst (λ (n : ℕ). k < n) all (subst (λ (n : ℕ). n < c.node_count-count.result) (sym this) c.numbers-test.true) in
            let old = subst (λ (i : ℕ). g.G.NumberedGraph.stands c.numbers.graph i n) this (e.grows.back k n small s) in
            let z = ends_stand stands p.0 _ (p.2 h (v.explored h x) n old) in
            subst (λ (w : Vec ℕ g.row.A.Denot). AllZip stands w.items (g.G.NumberedGraph.successors h n)) q.1 (subst (λ (ks : List ℕ). AllZip stands ks (g.G.NumberedGraph.successors h n)) (sym p.1) z)
      ];
    }

pub returns : goal.returns
returns g c =
    let v = c.numbers.invariant in
    record {
      graph = v.explored;
      grows = v.grown;
      read = record {
        same = v.same;
        counted = v.counted;
        wide = omega (arith, v.wide, c.numbers-test.false, c.node_count-count.ensures, c.numbers.auto.number-end);
        long = v.long ∙ c.node_count-count.ensures;
      };
      listed = v.listed;
      unknown = λ h x e. absurd (ok_not_err e);
      errors = tt;
    }

pub returns-in_err-push : goal.returns-in_err-push
returns-in_err-push g c = record {
  graph = λ h x. c.in_ok-expand.ensures.graph h (c.numbers.invariant.explored h x);
  grows = Grows-trans _ _ _ _ _ _ c.numbers.invariant.grown c.in_ok-expand.ensures.grows;
  read = on_failed _ _ c.from_residual-in_err-push.ensures.0;
  listed = λ h x. on_failed _ _ c.from_residual-in_err-push.ensures.0;
  unknown = λ h x u. absurd (none_unknown c.from_residual-in_err-push.result c.from_residual-in_err-push.ensures.1 u);
  errors = refused_as _ c.from_residual-in_err-push.result _ c.from_residual-in_err-push.ensures.1 (inl refl);
}
