-- Flow that is taken back.
use Rattle.std.proofs.Common.{◌≡◌, ◌≢◌, ◌∙◌, ◌⊎◌, inl, inr, refl, sym, ap, subst, ◌<◌, ◌+◌, ◌+ℤ◌, ℕ, ℤ, zero, suc, pos, arith, Bool, true, false, List, [], ◌∷◌, ◌++◌, Some, length, take, map, get_or, nat_eq, true≢false, eq-eqb}
use Rattle.std.specs.Prelude.{◌≤ℤ◌, ◌<ℤ◌, ◌-ℤ◌, neg_ℤ, slice_get, if◌then◌else◌}
use Rattle.std.proofs.lemmas.Int.{ints}
use Rattle.std.proofs.lemmas.List.{length-map, length-append, length-take-le, take_all, take_at, take_more}
use Rattle.std.proofs.lemmas.Option.{slice_get-get_or, slice_get_within}
use borrow.Author.Tests.{eqb-true}
use Rattle.pf_base.proofs.ListLemmas.{nat_dec, int_dec, bool_dec, take_get, get_take, none_in, get_pushed}
use Rattle.pf_residual.specs.declared.cancelling.arcs.Arc.{Arc}
use Rattle.pf_residual.specs.Flows.{PairTable, Same}
use Rattle.pf_base.specs.Sums.{sum_to}
use Rattle.pf_residual.specs.Networks.{Network, capacity, with_flow, with_total, IsStored, IsNetwork, KeepsCapacities}
use Rattle.pf_residual.specs.Listings.{ListsFlows, IsBefore}
use Rattle.pf_residual.specs.Internal.AugmentingPaths.{amount_at}
use Rattle.pf_residual.specs.Internal.Balances.{IsBalanced}
use Rattle.pf_residual.specs.Internal.Cancelling.{gain, net_of, AreInside, IsCirculation, IsLowered}
use Rattle.pf_residual.specs.Internal.Settled.{moved, side_sum, settled, Touches, AreApart, HoldFlows, IsSettled, IsPlan, AreFlowing, arc_of}
use Rattle.pf_residual.proofs.SumLemmas.{sum_ext, sum_add, square_none}
use Rattle.pf_residual.proofs.AgreeLemmas.{capacities_more}
use Rattle.pf_flow.specs.Internal.Changes.{Carries}
use Rattle.pf_residual.proofs.PushLemmas.{opposite_moved}
use Rattle.pf_residual.proofs.ChangeListings.{get_last}
use Rattle.pf_residual.proofs.SettledLemmas.{at_side, settled_side, settled_elsewhere, settled_here, settled_more, net_zero, net_push, side_none, side_one}

map_get : {A B : Type 0} (f : A → B) (xs : List A) (k : ℕ) (y : B) → slice_get (map f xs) k ≡ Some y → (x : A) × (slice_get xs k ≡ Some x) × (f x ≡ y)
map_get f [] k y h = absurd (none_in k y h)
map_get f (x ∷ xs) zero y h = (x, refl, cc)
map_get f (x ∷ xs) (suc k) y h = map_get f xs k y h

get_map : {A B : Type 0} (f : A → B) (xs : List A) (k : ℕ) (x : A) → slice_get xs k ≡ Some x → slice_get (map f xs) k ≡ Some (f x)
get_map f [] k x h = absurd (none_in k x h)
get_map f (y ∷ xs) zero x h = let s : Some y ≡ Some x = h in cc
get_map f (y ∷ xs) (suc k) x h = get_map f xs k x h

module _ {C : Type 0} (value : C → ℤ) (N : Network) where
  -- a list of all flows has them as arcs
  pub hold_flows : (flows : List ((ℕ × ℕ) × C)) → ListsFlows value N flows → HoldFlows value N (map arc_of flows) (map (λ (f : (ℕ × ℕ) × C). f.1) flows)
  hold_flows flows h = record {
    long = length-map flows (λ (f : (ℕ × ℕ) × C). f.1) ∙ sym (length-map flows arc_of);
    sound = λ k e g.
        let o = map_get arc_of flows k e g in
        let s = h.sound k o.0 o.1 in
        subst (λ (a : Arc). (a.from < N.vertices) × (a.to < N.vertices) × (pos 0 <ℤ N.flow a.from a.to)) o.2 (s.0, s.1, s.2);
    number = λ k e x g f.
        let o = map_get arc_of flows k e g in
        let p = map_get (λ (f : (ℕ × ℕ) × C). f.1) flows k x f in
        let s = h.sound k o.0 o.1 in
        let same : Some o.0 ≡ Some p.0 = sym o.1 ∙ p.1 in
        let v : o.0 ≡ p.0 = cc in
        subst (λ (a : Arc). N.flow a.from a.to ≡ value x) o.2 (sym s.3 ∙ ap (λ (f : (ℕ × ℕ) × C). value f.1) v ∙ ap value p.2);
    complete = λ a b l m f. let o = h.complete a b l m f in (o.0, arc_of ((a, b), o.1), get_map arc_of flows o.0 ((a, b), o.1) o.2, refl, refl);
    once = λ j k d e f g p q.
        let a = map_get arc_of flows j d f in
        let b = map_get arc_of flows k e g in
        let from : a.0.0.0 ≡ b.0.0.0 = ap (λ (c : Arc). c.from) a.2 ∙ p ∙ sym (ap (λ (c : Arc). c.from) b.2) in
        let to : a.0.0.1 ≡ b.0.0.1 = ap (λ (c : Arc). c.to) a.2 ∙ q ∙ sym (ap (λ (c : Arc). c.to) b.2) in
        elim (nat_dec j k) as (λ _. j ≡ k) [
          | inl e ↦ e
          | inr d ↦ absurd (elim (order j k d) [
            | inl l ↦ clash a.0.0 b.0.0 from to (h.rising j k a.0 b.0 l a.1 b.1)
            | inr l ↦ clash b.0.0 a.0.0 (sym from) (sym to) (h.rising k j b.0 a.0 l b.1 a.1)
          ])
        ];
  }
    where
      order : (j k : ℕ) → j ≢ k → (j < k) ⊎ (k < j)
      order zero zero d = absurd (d refl)
      order zero (suc k) d = inl (omega arith)
      order (suc j) zero d = inr (omega arith)
      order (suc j) (suc k) d = elim (order j k (λ e. d (ap suc e))) as (λ _. (suc j < suc k) ⊎ (suc k < suc j)) [ inl l ↦ inl (omega (arith, l)) | inr l ↦ inr (omega (arith, l)) ]

      clash : (p q : ℕ × ℕ) → p.0 ≡ q.0 → p.1 ≡ q.1 → IsBefore p q → ⊥
      clash p q e f (inl l) = omega (arith, l, e)
      clash p q e f (inr l) = omega (arith, l.1, f)

-- flow above 0 has room, and so has its reverse
pub room_of : (N : Network) → IsStored N → (a b : ℕ) → pos 0 <ℤ N.flow a b → N.room b a ≡ true
room_of N s a b h = elim (bool_dec (N.room a b)) as (λ _. N.room b a ≡ true) [
  | inl r ↦ s.back a b r
  | inr r ↦ (let e = (s.empty a b r).1 in absurd (omega (arith, ints, e, h)))
]

-- no flow runs both ways
pub hold_apart : {C : Type 0} (value : C → ℤ) (N : Network) (ends : List Arc) (xs : List C) → HoldFlows value N ends xs → ((a b : ℕ) → a < N.vertices → b < N.vertices → N.flow a b +ℤ N.flow b a ≡ pos 0) → AreApart ends
hold_apart value N ends xs h o = record {
  loops = λ k e g q.
      let s = h.sound k e g in
      let two = o e.from e.to s.0 s.1 in
      let f = s.2 in
      let same : N.flow e.to e.from ≡ N.flow e.from e.to = ap (λ u. N.flow e.to u) q ∙ ap (λ u. N.flow u e.to) (sym q) in
      omega (arith, ints, two, f, same);
  once = λ j k d e f g t. by j k d e f g t;
}
  where
    by : (j k : ℕ) (d e : Arc) → slice_get ends j ≡ Some d → slice_get ends k ≡ Some e → Touches d.from d.to e → j ≡ k
    by j k d e f g (inl t) = h.once j k d e f g t.0 t.1
    by j k d e f g (inr t) =
        let s = h.sound j d f in
        let u = h.sound k e g in
        let two = o e.from e.to u.0 u.1 in
        let p = s.2 in
        let q = u.2 in
        let same : N.flow d.from d.to ≡ N.flow e.to e.from = ap (λ w. N.flow w d.to) t.0 ∙ ap (λ w. N.flow e.to w) t.1 in
        absurd (omega (arith, ints, two, p, q, same))

-- a move of flow keeps all capacities
pub kept_move : (N : Network) (a b : ℕ) (z : ℤ) → ((c d : ℕ) → capacity (with_flow a b z N) c d ≡ capacity N c d) → KeepsCapacities N (with_flow a b z N)
kept_move N a b z h = record {
  shape = record { vertices = refl; source = refl; sink = refl; details = refl; room = λ c d r. r };
  capacities = record { at = λ c d. sym (h c d) };
}

-- nothing set yet
pub settled_none : {C : Type 0} (value : C → ℤ) (ends : List Arc) (xs : List C) (N : Network) → IsSettled value 0 ends xs N N
settled_none value ends xs N = record {
  kept = record { shape = record { vertices = refl; source = refl; sink = refl; details = refl; room = λ a b h. h }; capacities = record { at = λ a b. refl } };
  flow = record { at = λ a b. refl };
  total = refl;
}

module _ {C : Type 0} (value : C → ℤ) (count : ℕ) (ends : List Arc) (xs : List C) (N : Network) (h : AreFlowing value count ends xs N) where
  -- an arc whose turn has not come carries what it did
  settled_next : (k : ℕ) (e : Arc) (M : Network) → k < count → slice_get ends k ≡ Some e → IsSettled value k ends xs N M → M.flow e.from e.to ≡ N.flow e.from e.to
  settled_next k e M l g s =
      sym (s.flow.at e.from e.to)
      ∙ settled_elsewhere value (take k ends) N.flow (take k xs) e.from e.to
      (λ j d f. h.apart.loops j d (early j d f))
      (λ j d f t.
      let same = h.apart.once k j e d (get_take count ends k e l g) (early j d f) t in
      let short = slice_get_within (take k ends) j d f in
      let long = length-take-le k ends (omega (arith, l, h.ends_long)) in
      omega (arith, same, short, long))
    where
      early : (j : ℕ) (d : Arc) → slice_get (take k ends) j ≡ Some d → slice_get (take count ends) j ≡ Some d
      early j d f =
          let short = slice_get_within (take k ends) j d f in
          let long = length-take-le k ends (omega (arith, l, h.ends_long)) in
          get_take count ends j d (omega (arith, short, long, l)) (take_get k ends j d f)

  -- and its amount may be taken off
  pub carries_next : (k : ℕ) (e : Arc) (x : C) (M : Network) → k < count → slice_get ends k ≡ Some e → slice_get xs k ≡ Some x → IsSettled value k ends xs N M → Carries (value x) e M
  carries_next k e x M l g f s =
      let same = settled_next k e M l g s in
      let some = h.flows k e l g in
      let less = h.less k e x l g f in
      let most = less.1 in
      let i = h.inside k e l g in
      record {
        inside = (subst (λ n. e.from < n) (sym s.kept.shape.vertices) i.0, subst (λ n. e.to < n) (sym s.kept.shape.vertices) i.1);
        apart = h.apart.loops k e (get_take count ends k e l g);
        flows = omega (arith, ints, some, same);
        less = (less.0, omega (arith, ints, most, same));
      }

  -- one arc more
  pub settled_step : (k : ℕ) (e : Arc) (x : C) (M M' : Network) → slice_get ends k ≡ Some e → slice_get xs k ≡ Some x → IsSettled value k ends xs N M → KeepsCapacities M M' → Same (moved M.flow e.to e.from (M.flow e.from e.to -ℤ value x)) M'.flow → M'.total ≡ M.total
      → IsSettled value (k + 1) ends xs N M'
  settled_step k e x M M' g f s kept m t = record {
    kept = capacities_more s.kept kept;
    flow = record {
      at = λ a b.
          let now : settled value N.flow (take k ends) (take k xs) ≡ M.flow = λ i c d. s.flow.at c d i in
          ap (λ (u : PairTable). u a b) (settled_more value ends N.flow xs k e x g f)
          ∙ ap (λ (u : PairTable). moved u e.to e.from (u e.from e.to -ℤ value x) a b) now
          ∙ m.at a b;
    };
    total = t ∙ s.total;
  }

settled_opposite : {C : Type 0} (value : C → ℤ) (ends : List Arc) (t : PairTable) (xs : List C) (a b : ℕ) → t a b +ℤ t b a ≡ pos 0 → settled value t ends xs a b +ℤ settled value t ends xs b a ≡ pos 0
settled_opposite value [] t xs a b h = h
settled_opposite value (e ∷ ends) t [] a b h = h
settled_opposite value (e ∷ ends) t (x ∷ xs) a b h = settled_opposite value ends (moved t e.to e.from (t e.from e.to -ℤ value x)) xs a b (opposite_moved t e.to e.from (t e.from e.to -ℤ value x) a b h)

module _ {C : Type 0} (value : C → ℤ) (N : Network) (ends : List Arc) (xs : List C) (h : HoldFlows value N ends xs) (o : (a b : ℕ) → a < N.vertices → b < N.vertices → N.flow a b +ℤ N.flow b a ≡ pos 0) where
  pub hold_inside : AreInside N.vertices ends
  hold_inside k e g = let s = h.sound k e g in (s.0, s.1)

  -- the table without all the flows has nothing
  emptied : (none : List C) → length none ≡ length ends → ((k : ℕ) (x : C) → slice_get none k ≡ Some x → value x ≡ pos 0) → (a b : ℕ) → a < N.vertices → b < N.vertices → settled value N.flow ends none a b ≡ pos 0
  emptied none long free a b l m = elim (int_dec (N.flow a b) (pos 0)) as (λ _. settled value N.flow ends none a b ≡ pos 0) [
    | inl low ↦ elim (int_dec (N.flow b a) (pos 0)) as (λ _. settled value N.flow ends none a b ≡ pos 0) [
      | inl also ↦ (
          let two = o a b l m in
          let same = settled_elsewhere value ends N.flow none a b (hold_apart value N ends xs h o).loops (λ k e g t. untouched_by k e g t low also) in
          omega (arith, ints, same, two, low, also)
          )
      | inr some ↦ (let e = at_pair b a m l some in let two = settled_opposite value ends N.flow none a b (o a b l m) in omega (arith, ints, e, two))
    ]
    | inr some ↦ at_pair a b l m some
  ]
    where
      at_pair : (a b : ℕ) → a < N.vertices → b < N.vertices → pos 0 <ℤ N.flow a b → settled value N.flow ends none a b ≡ pos 0
      at_pair a b l m some =
          let c = h.complete a b l m some in
          let inside : c.0 < length none = omega (arith, slice_get_within ends c.0 c.1 c.2, long) in
          let z = at_of none c.0 inside in
          let e = settled_here value ends N.flow none c.0 c.1 z.0 (hold_apart value N ends xs h o) c.2 z.1 ∙ free c.0 z.0 z.1 in
          sym (ap (λ u. settled value N.flow ends none u c.1.to) c.3 ∙ ap (λ u. settled value N.flow ends none a u) c.4) ∙ e
        where
          at_of : (ys : List C) (k : ℕ) → k < length ys → (y : C) × (slice_get ys k ≡ Some y)
          at_of [] k l = absurd (omega (arith, l))
          at_of (y ∷ ys) zero l = (y, refl)
          at_of (y ∷ ys) (suc k) l = at_of ys k (omega (arith, l))

      untouched_by : (k : ℕ) (e : Arc) → slice_get ends k ≡ Some e → Touches a b e → N.flow a b ≤ℤ pos 0 → N.flow b a ≤ℤ pos 0 → ⊥
      untouched_by k e g (inl t) low also =
          let some = (h.sound k e g).2 in
          let same : N.flow e.from e.to ≡ N.flow a b = sym (ap (λ u. N.flow u b) t.0 ∙ ap (λ u. N.flow e.from u) t.1) in
          omega (arith, ints, some, same, low)
      untouched_by k e g (inr t) low also =
          let some = (h.sound k e g).2 in
          let same : N.flow e.from e.to ≡ N.flow b a = sym (ap (λ u. N.flow u a) t.1 ∙ ap (λ u. N.flow e.from u) t.0) in
          omega (arith, ints, some, same, also)

  -- what the flows bring out of a set of vertices is what its rows sum to
  pub net_of_flows : (none : C) → value none ≡ pos 0 → (side : ℕ → Bool) → net_of value side ends xs ≡ side_sum N.vertices N.flow side
  net_of_flows none free side =
      let n = N.vertices in
      let zeros = map (λ (x : C). none) xs in
      let long : length zeros ≡ length ends = length-map xs (λ (x : C). none) ∙ h.long in
      let nothing = λ (k : ℕ) (x : C) (g : slice_get zeros k ≡ Some x). (let q = map_get (λ (x : C). none) xs k x g in ap value (sym q.2) ∙ free) in
      let all = settled_side value n side ends N.flow xs zeros (hold_apart value N ends xs h o) hold_inside h.long long h.number in
      let empty = side_none n (settled value N.flow ends zeros) side (emptied zeros long nothing) in
      let zero_net = net_zero value side ends zeros nothing in
      omega (arith, ints, all, empty, zero_net)

pick_sum : (p : Bool) (x y : ℤ) → (if p then x +ℤ y else pos 0) ≡ (if p then x else pos 0) +ℤ (if p then y else pos 0)
pick_sum true x y = refl
pick_sum false x y = refl

-- the rows of a feasible flow: nothing but at the source and at the sink
pub side_of_network : {fits : ℤ → Type 0} (N : Network) → IsNetwork fits N → IsStored N → N.source ≢ N.sink → (side : ℕ → Bool) → side_sum N.vertices N.flow side ≡ (if side N.source then N.total else pos 0) -ℤ (if side N.sink then N.total else pos 0)
side_of_network N w st d side =
    let n = N.vertices in
    let s = N.source in
    let t = N.sink in
    let v = sum_to (N.flow t) n in
    let shape = λ (a : ℕ). amount_at s N.total a +ℤ amount_at t v a in
    let row = λ (a : ℕ) (l : a < n). row_at a l (nat_eq a s) (nat_eq a t) refl refl in
    let total = λ (side : ℕ → Bool).
    sum_ext (λ a. if side a then sum_to (N.flow a) n else pos 0) (λ a. (if side a then amount_at s N.total a else pos 0) +ℤ (if side a then amount_at t v a else pos 0)) n (λ a l. ap (λ x. if side a then x else pos 0) (row a l) ∙ pick_sum (side a) (amount_at s N.total a) (amount_at t v a))
    ∙ sum_add (λ a. if side a then amount_at s N.total a else pos 0) (λ a. if side a then amount_at t v a else pos 0) n in
    let whole = total (λ a. true) in
    let none = square_none N.flow n w.feasible.opposite in
    let one = at_side (λ a. true) s N.total n st.source_in in
    let two = at_side (λ a. true) t v n st.sink_in in
    let sink : v ≡ neg_ℤ N.total = omega (arith, ints, whole, none, one, two) in
    let part = total side in
    let three = at_side side s N.total n st.source_in in
    let four = at_side side t v n st.sink_in in
    let five = minus_pick (side t) v N.total sink in
    omega (arith, ints, part, three, four, five)
  where
    minus_pick : (p : Bool) (v w : ℤ) → v ≡ neg_ℤ w → (if p then v else pos 0) +ℤ (if p then w else pos 0) ≡ pos 0
    minus_pick true v w e = omega (arith, ints, e)
    minus_pick false v w e = refl

    row_at : (a : ℕ) → a < N.vertices → (p q : Bool) → nat_eq a N.source ≡ p → nat_eq a N.sink ≡ q → sum_to (N.flow a) N.vertices ≡ (if p then N.total else pos 0) +ℤ (if q then sum_to (N.flow N.sink) N.vertices else pos 0)
    row_at a l true true e f = absurd (d (sym (eqb-true a N.source e) ∙ eqb-true a N.sink f))
    row_at a l true false e f = let v = w.value in let same = ap (λ u. sum_to (N.flow u) N.vertices) (eqb-true a N.source e) in omega (arith, ints, v, same)
    row_at a l false true e f = let same = ap (λ u. sum_to (N.flow u) N.vertices) (eqb-true a N.sink f) in omega (arith, ints, same)
    row_at a l false false e f = let none = w.feasible.conserved a l (λ q. true≢false (sym (eq-eqb a N.source q) ∙ e)) (λ q. true≢false (sym (eq-eqb a N.sink q) ∙ f)) in omega (arith, ints, none)

module _ {C : Type 0} (value : C → ℤ) (count : ℕ) (ends : List Arc) (xs : List C) (N : Network) (h : IsPlan value count ends xs N) where
  -- the plan after amounts were lowered
  pub plan_flowing : (z : ℤ) (through : ℕ) (now : List C) → IsLowered value z through xs now → AreFlowing value count ends now N
  plan_flowing z through now l = record {
    ends_long = omega (arith, h.len);
    long = omega (arith, h.len, h.long, l.len);
    apart = h.apart;
    inside = λ k e m g. h.inside k e g;
    flows = h.flows;
    less = λ k e x m g f.
        let below : k < length xs = omega (arith, slice_get_within now k x f, l.len) in
        let y = get_or xs k x in
        let at : slice_get xs k ≡ Some y = slice_get-get_or xs k x below in
        let o = l.each k y at in
        let same : Some x ≡ Some o.0 = sym f ∙ o.1 in
        let v : x ≡ o.0 = cc in
        let e1 : value x ≡ value o.0 = ap value v in
        let e2 = h.number k e y m g at in
        let low = o.2.0 in
        let most = o.2.1 in
        (omega (arith, ints, e1, low), omega (arith, ints, e1, e2, most));
  }

  -- the rows after the flows were lowered to balanced amounts
  pub plan_side : (z : ℤ) (through : ℕ) (now : List C) (w : C) (M : Network) → IsLowered value z through xs now → IsCirculation value ends now → slice_get now count ≡ Some w → IsSettled value count ends now N M → (side : ℕ → Bool)
      → side_sum N.vertices M.flow side ≡ (if side N.source then value w else pos 0) -ℤ (if side N.sink then value w else pos 0)
  plan_side z through now w M l balanced last s side =
      let back : Arc = record { from = N.sink; to = N.source } in
      let part = take count ends in
      let ys = take count now in
      let long : length ys ≡ length part = length-take-le count now (omega (arith, h.len, h.long, l.len)) ∙ sym (length-take-le count ends (omega (arith, h.len))) in
      let was : length (take count xs) ≡ length part = length-take-le count xs (omega (arith, h.len, h.long)) ∙ sym (length-take-le count ends (omega (arith, h.len))) in
      let inside : AreInside N.vertices part = λ k e g. h.inside k e (take_get count ends k e g) in
      let early : (k : ℕ) (e : Arc) → slice_get part k ≡ Some e → k < count = λ k e g. (let m = slice_get_within part k e g in let n = length-take-le count ends (omega (arith, h.len)) in omega (arith, m, n)) in
      let all = settled_side value N.vertices side part N.flow (take count xs) ys h.apart inside was long (λ k e x g f. h.number k e x (early k e g) (take_get count ends k e g) (take_get count xs k x f)) in
      let net = h.net side in
      let whole : net_of value side ends now ≡ net_of value side part ys +ℤ gain side (value w) back = ap (λ es. net_of value side es now) (split_last ends count back h.len h.back) ∙ ap (λ us. net_of value side (part ++ back ∷ []) us) (split_last now count w (l.len ∙ h.long ∙ h.len) last) ∙ net_push value side part ys back w long in
      let none = balanced side in
      let now_flow : settled value N.flow part ys ≡ M.flow = λ i a b. s.flow.at a b i in
      let rows = ap (λ (t : PairTable). side_sum N.vertices t side) now_flow in
      omega (arith, ints, all, net, whole, none, rows)
    where
      split_last : {A : Type 0} (us : List A) (n : ℕ) (u : A) → length us ≡ n + 1 → slice_get us n ≡ Some u → us ≡ take n us ++ u ∷ []
      split_last us n u long at =
          let here : slice_get us n ≡ Some (get_or us n u) = slice_get-get_or us n u (omega (arith, long)) in
          let same : Some (get_or us n u) ≡ Some u = sym here ∙ at in
          let v : get_or us n u ≡ u = cc in
          sym (take_all (n + 1) us (omega (arith, long))) ∙ take_more us n u (omega (arith, long)) ∙ ap (λ y. take n us ++ y ∷ []) v

  -- the network after the change
  pub plan_network : {fits : ℤ → Type 0} (z : ℤ) (through : ℕ) (now : List C) (w : C) (M : Network) → IsNetwork fits N → IsStored N → N.source ≢ N.sink → IsLowered value z through xs now → IsCirculation value ends now → slice_get now count ≡ Some w → IsSettled value count ends now N M → IsBalanced fits M
      → IsNetwork fits (with_total (value w) M)
  plan_network z through now w M net st d l balanced last s b =
      let n = M.vertices in
      let v = s.kept.shape.vertices in
      let rows = λ (a : ℕ) (m : a < N.vertices). sym (side_one N.vertices M.flow a m) ∙ plan_side z through now w M l balanced last s (λ b. nat_eq b a) in
      let same_rows = λ (a : ℕ). ap (λ (k : ℕ). sum_to (M.flow a) k) v in
      record {
        feasible = record {
          opposite = b.opposite;
          within = λ a c m p. within_of (M.residual a c) (M.flow a c) (b.left.at a c m p);
          conserved = λ a m p q. same_rows a ∙ rows a (subst (λ (k : ℕ). a < k) v m)
              ∙ ap (λ (t : Bool). (if t then value w else pos 0) -ℤ (if nat_eq N.sink a then value w else pos 0)) (apart_eq N.source a (λ e. p (sym e ∙ sym s.kept.shape.source)))
              ∙ ap (λ (t : Bool). pos 0 -ℤ (if t then value w else pos 0)) (apart_eq N.sink a (λ e. q (sym e ∙ sym s.kept.shape.sink)));
        };
        value = same_rows M.source ∙ ap (λ (a : ℕ). sum_to (M.flow a) N.vertices) s.kept.shape.source ∙ rows N.source st.source_in
            ∙ ap (λ (t : Bool). (if t then value w else pos 0) -ℤ (if nat_eq N.sink N.source then value w else pos 0)) (eq-eqb N.source N.source refl)
            ∙ ap (λ (t : Bool). value w -ℤ (if t then value w else pos 0)) (apart_eq N.sink N.source (λ e. d (sym e)))
            ∙ minus_none (value w);
        above = lowest w last;
        idle = λ e. absurd (d (sym s.kept.shape.source ∙ e ∙ s.kept.shape.sink));
        capacities = record { at = b.capacities.at };
        sum = b.sum;
      }
    where
      within_of : (r f : ℤ) → pos 0 ≤ℤ r → f ≤ℤ (r +ℤ f)
      within_of r f e = omega (arith, ints, e)

      minus_none : (x : ℤ) → (x -ℤ pos 0) ≡ x
      minus_none x = omega (arith, ints)

      apart_eq : (a b : ℕ) → a ≢ b → nat_eq a b ≡ false
      apart_eq a b e = elim (bool_dec (nat_eq a b)) as (λ _. nat_eq a b ≡ false) [ inl t ↦ absurd (e (eqb-true a b t)) | inr t ↦ t ]

      lowest : (u : C) → slice_get now count ≡ Some u → pos 0 ≤ℤ value u
      lowest u f =
          let o = l.each count h.total.0 h.total.1 in
          let same : Some u ≡ Some o.0 = sym f ∙ o.1 in
          let q : u ≡ o.0 = cc in
          let e : value u ≡ value o.0 = ap value q in
          let low = o.2.0 in
          omega (arith, ints, e, low)

-- the plan of all flows
pub plan_of : {C : Type 0} {fits : ℤ → Type 0} (value : C → ℤ) (none : C) → value none ≡ pos 0 → (N : Network) → IsNetwork fits N → IsStored N → N.source ≢ N.sink → (ends : List Arc) (xs : List C) (w : C) → HoldFlows value N ends xs → value w ≡ N.total
    → (all : List Arc) (ys : List C) → all ≡ ends ++ record { from = N.sink; to = N.source } ∷ [] → ys ≡ xs ++ w ∷ [] → IsPlan value (length ends) all ys N
plan_of value none free N net st d ends xs w h total all ys is are = subst (λ (es : List Arc). IsPlan value (length ends) es ys N) (sym is) (subst (λ us. IsPlan value (length ends) (ends ++ back ∷ []) us N) (sym are) record {
  len = length-append ends (back ∷ []);
  long = length-append xs (w ∷ []) ∙ ap (λ (n : ℕ). n + 1) h.long ∙ sym (length-append ends (back ∷ []));
  back = get_last ends back;
  total = (w, subst (λ (n : ℕ). slice_get (xs ++ w ∷ []) n ≡ Some w) h.long (get_last xs w), total);
  inside = λ k e g. elim (get_pushed ends back k e g) as (λ _. (e.from < N.vertices) × (e.to < N.vertices)) [
    | inl o ↦ (let s = h.sound k e o.1 in (s.0, s.1))
    | inr o ↦ subst (λ (a : Arc). (a.from < N.vertices) × (a.to < N.vertices)) o.1 (st.sink_in, st.source_in)
  ];
  amounts = λ k x g. elim (get_pushed xs w k x g) as (λ _. pos 0 ≤ℤ value x) [
    | inl o ↦ (
        let e = at_of ends k (omega (arith, o.0, h.long)) in
        let n = h.number k e.0 x e.1 o.1 in
        let some = (h.sound k e.0 e.1).2 in
        omega (arith, ints, n, some)
        )
    | inr o ↦ (let v = ap value o.1 in let low = net.above in omega (arith, ints, v, low, total))
  ];
  balanced = λ side.
      let push = net_push value side ends xs back w h.long in
      let flows = net_of_flows value N ends xs h net.feasible.opposite none free side in
      let rows = side_of_network N net st d side in
      let one = picked (side N.source) (value w) N.total total in
      let two = picked (side N.sink) (value w) N.total total in
      omega (arith, ints, push, flows, rows, one, two);
  apart = subst AreApart (sym (take_at ends (back ∷ []) (length ends) refl)) (hold_apart value N ends xs h net.feasible.opposite);
  flows = λ k e l g. elim (get_pushed ends back k e g) as (λ _. pos 0 <ℤ N.flow e.from e.to) [ inl o ↦ (h.sound k e o.1).2 | inr o ↦ absurd (omega (arith, l, o.0)) ];
  number = λ k e x l g f. elim (get_pushed ends back k e g) as (λ _. N.flow e.from e.to ≡ value x) [
    | inl o ↦ elim (get_pushed xs w k x f) as (λ _. N.flow e.from e.to ≡ value x) [ inl p ↦ h.number k e x o.1 p.1 | inr p ↦ absurd (omega (arith, l, p.0, h.long)) ]
    | inr o ↦ absurd (omega (arith, l, o.0))
  ];
  net = λ side. ap (λ (es : List Arc). net_of value side es (take (length ends) (xs ++ w ∷ []))) (take_at ends (back ∷ []) (length ends) refl) ∙ ap (net_of value side ends) (take_at xs (w ∷ []) (length ends) h.long) ∙ net_of_flows value N ends xs h net.feasible.opposite none free side;
})
  where
    back : Arc
    back = record { from = N.sink; to = N.source }

    at_of : (es : List Arc) (k : ℕ) → k < length es → (e : Arc) × (slice_get es k ≡ Some e)
    at_of [] k l = absurd (omega (arith, l))
    at_of (e ∷ es) zero l = (e, refl)
    at_of (e ∷ es) (suc k) l = at_of es k (omega (arith, l))

    picked : (p : Bool) (x y : ℤ) → x ≡ y → (if p then x else pos 0) ≡ (if p then y else pos 0)
    picked p x y e = ap (λ z. if p then z else pos 0) e

-- the amount of an arc of a flow
pub amount_there : {C : Type 0} (value : C → ℤ) (N : Network) (ends : List Arc) (xs : List C) → HoldFlows value N ends xs → (k : ℕ) (e : Arc) → slice_get ends k ≡ Some e → (x : C) × (slice_get xs k ≡ Some x) × (N.flow e.from e.to ≡ value x)
amount_there {C} value N ends xs h k e g =
    let x = at_of xs k (omega (arith, slice_get_within ends k e g, h.long)) in
    (x.0, x.1, h.number k e x.0 g x.1)
  where
    at_of : (ys : List C) (k : ℕ) → k < length ys → (y : C) × (slice_get ys k ≡ Some y)
    at_of [] k l = absurd (omega (arith, l))
    at_of (y ∷ ys) zero l = (y, refl)
    at_of (y ∷ ys) (suc k) l = at_of ys k (omega (arith, l))
