-- The parts of a turn of the search put together.
use Rattle.std.proofs.Common.{ℕ, ◌≡◌, ◌<◌, refl, sym, ◌∙◌, ap, subst, arith, Bool, true, false, true≢false, List, length, inl, inr, ℤ, pos, Some}
use Rattle.std.specs.Prelude.{Contains, slice_set, ◌↔◌, ◌<ℤ◌, ◌≤ℤ◌, ◌+ℤ◌, ◌⊎◌}
use Rattle.std.proofs.lemmas.Int.{ints}
use Rattle.pf_base.specs.Walks.{end_of}
use Rattle.pf_core.specs.declared.labels.Label.{Label}
use Rattle.pf_core.specs.Labels.{Labels, HasLabel, by_cost, IsTree, IsReached, IsWithin, Covers, Settles, Widened, ComesFrom, Relaxed, Follows}
use Rattle.pf_core.specs.Steps.{IsNonNegative, NumberedOverflows}
use Rattle.pf_core.specs.Numbered.{ListsSteps, Grows}
use Rattle.pf_queue.specs.Entries.{Entries}
use Rattle.pf_core.specs.Queue.{IsQueue}
use Rattle.pf_core.specs.Search.{IsLeast, IsSearch, Turned, StepOverflows, HasBarredStep, IsWithinRange, StandsRoot}
use Rattle.pf_base.proofs.ListLemmas.{int_dec, nat_dec}
use Rattle.pf_core.proofs.LabelLemmas.{HasLabel-inside, label_is, Settles-set}
use Rattle.pf_core.proofs.QueueLemmas.{IsQueue-settle, IsQueue-widen}
use Rattle.pf_core.proofs.PathLemmas.{was_label, settled_stays_1, settled_stays_3, IsTree-settle, IsTree-turn}
use Rattle.pf_core.proofs.SearchLemmas.{path_grows, least_path, cheapest, goal_above, turn}

-- room is made before the label is settled, or behind it
module _ {C : Type 0} (measure : C → ℕ → ℤ) (k : ℕ) (l : Label C) (labels wider : Labels C) (z : IsLeast measure labels k l) (found : ℕ) (wide : Widened found labels wider) where
  abbrev done : Label C
  done = record l { settled = true }

  pub settles_first : Settles measure k l labels (slice_set labels k (Some (record l { settled = true })))
  settles_first = Settles-set measure labels k l z.at z.opened z.least

  pub settles_wide : Settles measure k l wider (slice_set wider k (Some (record l { settled = true })))
  settles_wide = Settles-set measure wider k l (wide.stays k l z.at) z.opened (λ j m h u. z.least j m (wide.from j m h) u)

  pub widens_settled : Widened found (slice_set labels k (Some (record l { settled = true }))) (slice_set wider k (Some (record l { settled = true })))
  widens_settled =
      let a = settles_first in
      let b = settles_wide in
      record {
        len = b.len ∙ wide.len;
        stays = λ j m h. elim (was_label measure k l labels _ a j m h) as (λ _. HasLabel (slice_set wider k (Some done)) j m) [
          | inl e ↦ subst (λ (n : Label C). HasLabel (slice_set wider k (Some done)) j n) (sym e.1) (subst (λ (i : ℕ). HasLabel (slice_set wider k (Some done)) i done) (sym e.0) b.now)
          | inr e ↦ b.others j m e.0 (wide.stays j m e.1)
        ];
        from = λ j m h. elim (was_label measure k l wider _ b j m h) as (λ _. HasLabel (slice_set labels k (Some done)) j m) [
          | inl e ↦ subst (λ (n : Label C). HasLabel (slice_set labels k (Some done)) j n) (sym e.1) (subst (λ (i : ℕ). HasLabel (slice_set labels k (Some done)) i done) (sym e.0) a.now)
          | inr e ↦ a.others j m e.0 (wide.from j m e.1)
        ];
        count = omega (arith, a.count, b.count, wide.count);
      }

-- a number has one label of least cost
pub least_is : {C : Type 0} (measure : C → ℕ → ℤ) (labels : Labels C) (k : ℕ) (l m : Label C) → IsLeast measure labels k l → HasLabel labels k m → IsLeast measure labels k m
least_is measure labels k l m z h = subst (λ (n : Label _). IsLeast measure labels k n) (label_is labels k l m z.at h) z

-- the parts of a turn: room for labels, the label settled, and the steps taken
module _ {C : Type 0} (value : C → ℤ) (k : ℕ) (l : Label C) (labels wider labels2 : Labels C) (z : IsLeast (by_cost value) labels k l) (found : ℕ) (wide : Widened found labels wider) (is : labels2 ≡ slice_set wider k (Some (record l { settled = true }))) where
  pub len_settled : length labels2 ≡ found
  len_settled = ap length is ∙ (settles_wide (by_cost value) k l labels wider z found wide).len ∙ wide.len

  pub queue_settled : (entries : Entries C) → IsQueue value labels entries → IsQueue value labels2 entries
  queue_settled entries q = subst (λ xs. IsQueue value xs entries) (sym is) (IsQueue-settle value k l wider _ entries (settles_wide (by_cost value) k l labels wider z found wide) (IsQueue-widen value found labels wider entries wide q))

  pub follows : (fits : ℤ → Type 0) (row : List (ℕ × C)) (labels' : Labels C) → Relaxed (by_cost value) value k l row labels2 labels' → ((j : ℕ) (c : C) → Contains row (j, c) → fits (value l.cost +ℤ value c) → Covers (by_cost value) value l labels' j c)
      → ((j : ℕ) (c : C) → Contains row (j, c) → IsReached value fits labels row (value l.cost) j) → fits (value l.cost) → Follows value fits found k l row labels labels'
  follows fits row labels' rel reached ends fit = record {
    done = slice_set labels k (Some (record l { settled = true }));
    settles = settles_first (by_cost value) k l labels wider z found wide;
    wider = labels2;
    wide = subst (Widened found (slice_set labels k (Some (record l { settled = true })))) (sym is) (widens_settled (by_cost value) k l labels wider z found wide);
    relaxed = rel;
    reached = reached;
    ends = ends;
    fit = fit;
  }

module _ {C : Type 0} (value : C → ℤ) (fits : ℤ → Type 0) (between : (x y z : ℤ) → fits x → fits z → x ≤ℤ y → y ≤ℤ z → fits y)
    (found k : ℕ) (l : Label C) (row : List (ℕ × C)) (labels labels' : Labels C) (f : Follows value fits found k l row labels labels') where
  -- a label from before, or one that costs less, at the end of a step
  now_within : (j : ℕ) (m : Label C) (t : ℤ) → HasLabel labels j m → fits (value m.cost) → value m.cost ≤ℤ t → ((c : C) → Contains row (j, c) → pos 0 ≤ℤ value c) → (n : Label C) × HasLabel labels' j n × IsWithin (by_cost value) n t
  now_within j m t h fit le price = elim (nat_dec j k) as (λ _. (n : Label C) × HasLabel labels' j n × IsWithin (by_cost value) n t) [
    | inl e ↦
        let z = f.settles in
        (record l { settled = true }, subst (λ (i : ℕ). HasLabel labels' i (record l { settled = true })) (sym e) (settled_stays_3 (by_cost value) k l labels f.done z found f.wider f.wide value row labels' f.relaxed k (record l { settled = true }) z.now refl), inl refl)
    | inr e ↦
        let z = f.settles in
        let w = f.wide in
        let rel = f.relaxed in
        elim (rel.others j m (w.stays j m (z.others j m e h))) as (λ _. (n : Label C) × HasLabel labels' j n × IsWithin (by_cost value) n t) [
          | inl o ↦ (m, o, inr le)
          | inr o ↦
              let c = o.1.0 in
              let r = f.reached j c o.1.1 (between (value l.cost) (value l.cost +ℤ value c) (value m.cost) f.fit fit (omega (arith, ints, price c o.1.1)) (omega (arith, ints, o.1.2))) in
              (r.0, r.1, elim r.2 as (λ _. IsWithin (by_cost value) r.0 t) [ inl s ↦ inl s | inr low ↦ inr (omega (arith, ints, low, o.1.2, le)) ])
        ]
  ]

  -- the end of each step has a label that is settled, or costs at most one step more
  cover : ((j : ℕ) (c : C) → Contains row (j, c) → pos 0 ≤ℤ value c) → (j : ℕ) (d : C) → Contains row (j, d) → Covers (by_cost value) value l labels' j d
  cover price j d h = elim (f.ends j d h) as (λ _. Covers (by_cost value) value l labels' j d) [
    | inl m ↦ elim (int_dec (value m.0.cost) (value l.cost +ℤ value d)) as (λ _. Covers (by_cost value) value l labels' j d) [
      | inl le ↦ now_within j m.0 (value l.cost +ℤ value d) m.1 m.2 le (price j)
      | inr lt ↦ f.reached j d h (between (value l.cost) (value l.cost +ℤ value d) (value m.0.cost) f.fit m.2 (omega (arith, ints, price j d h)) (omega (arith, ints, lt)))
    ]
    | inr c ↦ elim (int_dec (value c.0) (value d)) as (λ _. Covers (by_cost value) value l labels' j d) [
      | inl le ↦
          let r = f.reached j c.0 c.1 c.2 in
          (r.0, r.1, elim r.2 as (λ _. IsWithin (by_cost value) r.0 (value l.cost +ℤ value d)) [ inl s ↦ inl s | inr low ↦ inr (omega (arith, ints, low, le)) ])
      | inr lt ↦ f.reached j d h (between (value l.cost) (value l.cost +ℤ value d) (value l.cost +ℤ value c.0) f.fit c.2 (omega (arith, ints, price j d h)) (omega (arith, ints, lt)))
    ]
  ]

  pub tree_followed : IsTree labels → IsTree labels'
  tree_followed tree = IsTree-turn (by_cost value) k l labels f.done f.settles found f.wider f.wide value row labels' f.relaxed (IsTree-settle (by_cost value) k l labels f.done f.settles tree)

  pub turned : Turned k l labels labels'
  turned =
      let z = f.settles in
      let w = f.wide in
      let rel = f.relaxed in
      let stays = settled_stays_3 (by_cost value) k l labels f.done z found f.wider w value row labels' rel in
      record {
        done = stays k (record l { settled = true }) z.now refl;
        kept = λ j m h t. stays j m (settled_stays_1 (by_cost value) k l labels f.done z j m h t) t;
        from = λ j m h t. elim (rel.from j m h) as (λ _. ((j ≡ k) × (m ≡ record l { settled = true })) ⊎ HasLabel labels j m) [
          | inl o ↦ elim (was_label (by_cost value) k l labels f.done z j m (w.from j m o)) as (λ _. ((j ≡ k) × (m ≡ record l { settled = true })) ⊎ HasLabel labels j m) [ inl q ↦ inl q | inr q ↦ inr q.1 ]
          | inr o ↦ let from = o.2 in absurd (true≢false (sym t ∙ from.opened))
        ];
        count = omega (arith, z.count, w.count, rel.count);
      }

  -- the search after the turn
  pub search_followed : {X : Type 0} (step : X → ℤ → X → Type 0) (root : ℕ → Bool) → IsNonNegative step → (before : ℕ) (stands stands' : ℕ → X → Type 0) → Grows before found stands stands' → length labels ≡ before → ((x : X) → stands k x → ListsSteps value step stands' x row)
      → IsTree labels → IsSearch (by_cost value) step root stands labels → IsSearch (by_cost value) step root stands' labels'
  search_followed step root p before stands stands' grow len lists tree i =
      let z = f.settles in
      let up = (least_path (by_cost value) step root p stands labels i tree k l (record { at = z.was; opened = z.opened; least = z.least })).1 in
      let x = end_of up.first up.nodes in
      let price : (j : ℕ) (c : C) → Contains row (j, c) → pos 0 ≤ℤ value c = λ j c h. let q = (lists x up.here).sound j c h in p.non_negative x (value c) q.0 q.1 in
      turn (by_cost value) step root p stands labels i tree k l f.done z before found stands' grow (omega (arith, len)) value row lists f.wider labels' f.wide f.relaxed (cover price)

-- the same of a row with the same steps in another order
pub follows_row : {C : Type 0} (value : C → ℤ) (fits : ℤ → Type 0) (found k : ℕ) (l : Label C) (row row' : List (ℕ × C)) → ((x : ℕ × C) → Contains row x ↔ Contains row' x) → (labels labels' : Labels C) → Follows value fits found k l row labels labels' → Follows value fits found k l row' labels labels'
follows_row value fits found k l row row' same labels labels' f =
    let rel = f.relaxed in
    record {
      done = f.done;
      settles = f.settles;
      wider = f.wider;
      wide = f.wide;
      relaxed = record {
        len = rel.len;
        others = λ j m h. elim (rel.others j m h) as (λ _. HasLabel labels' j m ⊎ ((m.settled ≡ false) × ((c : _) × Contains row' (j, c) × ((value l.cost +ℤ value c) <ℤ value m.cost)))) [
          | inl o ↦ inl o
          | inr o ↦ inr (o.0, (o.1.0, (same (j, o.1.0)).0 o.1.1, o.1.2))
        ];
        from = λ j m h. elim (rel.from j m h) as (λ _. HasLabel f.wider j m ⊎ ((c : _) × Contains row' (j, c) × ComesFrom (by_cost value) value k l c m)) [
          | inl o ↦ inl o
          | inr o ↦ inr (o.0, (same (j, o.0)).0 o.1, o.2)
        ];
        count = rel.count;
      };
      reached = λ j c h. f.reached j c ((same (j, c)).1 h);
      ends = λ j c h. elim (f.ends j c ((same (j, c)).1 h)) as (λ _. IsReached value fits labels row' (value l.cost) j) [
        | inl m ↦ inl m
        | inr d ↦ inr (d.0, (same (j, d.0)).0 d.1, d.2)
      ];
      fit = f.fit;
    }

-- a step whose end has no label, and to which no sum fits
pub step_overflows : {X C : Type 0} (value : C → ℤ) (fits : ℤ → Type 0) (step : X → ℤ → X → Type 0) (stands : ℕ → X → Type 0) (x : X) (t : ℤ) (row : List (ℕ × C)) → ListsSteps value step stands x row
    → (j : ℕ) (c : C) → Contains row (j, c) → ((d : C) → Contains row (j, d) → ¬ (fits (t +ℤ value d))) → StepOverflows step fits x t
step_overflows value fits step stands x t row lists j c h never =
    let to = lists.sound j c h in
    record {
      next = to.0;
      price = value c;
      edge = to.1;
      all_past = λ v st f. let q = lists.complete v to.0 j st to.2 in never q.0 q.1 (subst (λ (n : ℤ). fits (t +ℤ n)) (sym q.2) f);
    }

-- a step whose end has no label, and is not in range
module _ {X C : Type 0} (value : C → ℤ) (fits : ℤ → Type 0) (step : X → ℤ → X → Type 0) (stands stands' : ℕ → X → Type 0) (labels : Labels C) (x : X) (t : ℤ) (row : List (ℕ × C)) (lists : ListsSteps value step stands' x row) where
  pub barred_step : ((k : ℕ) (y : X) → stands k y → stands' k y) → ((a b : ℕ) (y : X) → stands' a y → stands' b y → a ≡ b)
      → (j : ℕ) (c : C) → Contains row (j, c) → ((m : Label C) → ¬ (HasLabel labels j m)) → ((d : C) → Contains row (j, d) → ¬ (fits (t +ℤ value d))) → HasBarredStep step stands labels fits x t
  barred_step stays one j c h none never =
      let to = lists.sound j c h in
      record {
        next = to.0;
        price = value c;
        edge = to.1;
        new = λ i at m has. none m (subst (λ (n : ℕ). HasLabel labels n m) (one i j to.0 (stays i to.0 at) to.2) has);
        all_past = λ v st f. let q = lists.complete v to.0 j st to.2 in never q.0 q.1 (subst (λ (n : ℤ). fits (t +ℤ n)) (sym q.2) f);
      }

  pub within_range : ((k : ℕ) (y : X) → k < length labels → stands' k y → stands k y) → ((j : ℕ) (c : C) → Contains row (j, c) → IsReached value fits labels row t j)
      → (y : X) (z : ℤ) → step x z y → IsWithinRange step stands labels fits x t stands' y
  within_range back ends y z e =
      let at = lists.numbered z y e in
      let q = lists.complete z y at.0 e at.1 in
      elim (ends at.0 q.0 q.1) as (λ _. IsWithinRange step stands labels fits x t stands' y) [
        | inl m ↦ inl (at.0, m.0, back at.0 y (HasLabel-inside labels at.0 m.0 m.1) at.1, m.1)
        | inr d ↦ let w = lists.sound at.0 d.0 d.1 in inr (at.0, value d.0, w.0, at.1, w.2, w.1, d.2)
      ]

module _ {X C : Type 0} (value : C → ℤ) (fits : ℤ → Type 0) (step : X → ℤ → X → Type 0) (root : ℕ → Bool) (p : IsNonNegative step) (stands : ℕ → X → Type 0) (labels : Labels C) (i : IsSearch (by_cost value) step root stands labels) (tree : IsTree labels)
    (k : ℕ) (l : Label C) (z : IsLeast (by_cost value) labels k l) where
  -- where a step from a node of least cost is too dear, a cost overflow may be answered
  pub numbered_overflows : (passes : X → Bool) → ((k : ℕ) (l : Label C) (x : X) → HasLabel labels k l → l.settled ≡ true → stands k x → passes x ≡ false) → ((a b : ℕ) (x : X) → stands a x → stands b x → a ≡ b)
      → ((x : X) → stands k x → StepOverflows step fits x (value l.cost)) → (found found' : ℕ) (stands' : ℕ → X → Type 0) → Grows found found' stands stands' → k < found
      → (starts : X → Type 0) → ((x : X) → StandsRoot root stands x ↔ starts x) → NumberedOverflows step passes starts stands' fits
  numbered_overflows passes failed one dear found found' stands' grow inside starts same =
      let r = least_path (by_cost value) step root p stands labels i tree k l z in
      let up = r.1 in
      let x = end_of up.first up.nodes in
      let d = dear x up.here in
      record {
        first = up.first;
        is_start = (same up.first).0 up.is_start;
        numbers = r.0;
        nodes = up.nodes;
        cost = value l.cost;
        path = path_grows step up.first found found' stands stands' grow r.0 up.nodes (value l.cost) up.path;
        number = k;
        here = grow.stays k x up.here;
        cheapest = λ s is w u walk here. cheapest (by_cost value) step root p stands labels i tree k l z one s ((same s).1 is) w u walk (grow.back k (end_of s w) inside here);
        next = d.next;
        price = d.price;
        edge = d.edge;
        all_past = d.all_past;
        none_cheaper = λ s is. goal_above (by_cost value) step root p stands labels i passes failed (value l.cost) z.least s ((same s).1 is);
      }
