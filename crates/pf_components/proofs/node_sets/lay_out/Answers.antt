use Rattle.std.proofs.Common.{◌≡◌, ◌<◌, ◌==◌, ◌+◌, ◌∙◌, ℕ, refl, sym, ap, subst, arith, length, take, take_all, eq-eqb, if◌then◌else◌, [], Bool, inl, inr, ◌⊎◌}
use Rattle.std.specs.Prelude.{slice_index, count_by, slice_get, Some, ◌↔◌}
use Rattle.std.specs.Borrow.{Bor}
use Rattle.std.proofs.lemmas.Bool.{cases_eq, cases_lt}
use Rattle.std.proofs.lemmas.Bool.Decides.{nat_tests}
use Rattle.std.proofs.lemmas.Option.{slice_get-get_or, slice_get_read, slice_get_within, get_or_from_slice_get}
use Rattle.std.proofs.lemmas.List.{get_or_default, get_or_read, get_or_past}
use Rattle.pf_union_find.specs.Rows.{HasItem, fill_of, room_of}
use Rattle.pf_components.specs.Internal.DisjointSets.{AreLaidOut}
use Rattle.pf_components.proofs.CollectLemmas.{differ, count_more, count_room, count_found, AreLaidOut-none, AreLaidOut-more, HaveRows-all}
use Rattle.pf_components.proofs.node_sets.lay_out.Goals as goal

pub index-requires : goal.index-requires
index-requires g c =
    let i = c.loop-number.number in
    let j : ℕ = slice_index c.args.first.now i in
    let id : ℕ = slice_index c.args.ids.now j in
    let low : id < length c.args.ids.now = c.requires.below i 0 c.loop-number-test.true id (slice_get-get_or c.args.ids.now j 0 (c.requires.inside i 0 c.loop-number-test.true)) in
    omega (arith, low, c.in_ok-counts.ensures.len, c.in_ok-numbers.ensures.wide, c.in_ok-numbers.numbers.ok.0)

pub loop-number-init : goal.loop-number-init
loop-number-init g c =
    let counts = c.in_ok-counts.counts.items in
    let sizes = c.in_ok-numbers.sizes.items in
    let n = c.in_ok-numbers.ensures.numbered in
    let wide = ap length c.deref.ensures.value in
    record {
      wide = c.in_ok-rows.ensures.count ∙ wide;
      room = λ id k.
          let counted = c.in_ok-counts.ensures.counted id k.0 in
          let some : 0 < slice_index counts id = omega (arith, counted, k.1) in
          c.in_ok-rows.ensures.room (slice_index c.in_ok-numbers.numbers.items id) (let l = n.low id some in omega (arith, l, wide)) ∙ ap (λ xs. slice_index xs (slice_index c.in_ok-numbers.numbers.items id)) c.deref.ensures.value ∙ n.size id some ∙ counted;
      fill = λ id k. c.in_ok-rows.ensures.none (slice_index c.in_ok-numbers.numbers.items id);
      placed = AreLaidOut-none c.args.nodes.now [] c.args.ids.now c.in_ok-numbers.numbers.items c.in_ok-rows.rows refl c.in_ok-rows.ensures.none;
    }

pub put-requires-clause-inside : goal.put-requires-clause-inside
put-requires-clause-inside g c =
    let ids = c.args.ids.now in
    let first = c.args.first.now in
    let numbers = c.in_ok-numbers.numbers.items in
    let i = c.loop-number.number in
    let j : ℕ = slice_index first i in
    let id : ℕ = slice_index ids j in
    let low : id < length ids = c.requires.below i 0 c.loop-number-test.true id (slice_get-get_or ids j 0 (c.requires.inside i 0 c.loop-number-test.true)) in
    let row : c.index.result.now ≡ slice_index numbers id = get_or_read numbers _ _ (omega (arith, low, c.in_ok-counts.ensures.len, c.in_ok-numbers.ensures.wide)) c.index.ensures 0 in
    let more = count_room ids first i c.loop-number-test.true j refl id refl in
    let counted = c.in_ok-counts.ensures.counted id low in
    let inside = c.in_ok-numbers.ensures.numbered.low id (omega (arith, more, counted)) in
    omega (arith, row, inside, c.loop-number.invariant.wide)

pub put-requires-clause-room : goal.put-requires-clause-room
put-requires-clause-room g c =
    let ids = c.args.ids.now in
    let first = c.args.first.now in
    let numbers = c.in_ok-numbers.numbers.items in
    let i = c.loop-number.number in
    let j : ℕ = slice_index first i in
    let id : ℕ = slice_index ids j in
    let low : id < length ids = c.requires.below i 0 c.loop-number-test.true id (slice_get-get_or ids j 0 (c.requires.inside i 0 c.loop-number-test.true)) in
    let row : c.index.result.now ≡ slice_index numbers id = get_or_read numbers _ _ (omega (arith, low, c.in_ok-counts.ensures.len, c.in_ok-numbers.ensures.wide)) c.index.ensures 0 in
    let more = count_room ids first i c.loop-number-test.true j refl id refl in
    let fill = c.loop-number.invariant.fill id (low, omega (arith, more)) in
    let room = c.loop-number.invariant.room id (low, omega (arith, more)) in
    subst (λ r. fill_of c.loop-number.rows r < room_of c.loop-number.rows r) (sym row) (omega (arith, fill, room, more))

pub loop-number-preserved : goal.loop-number-preserved
loop-number-preserved g c =
    let ids = c.args.ids.now in
    let first = c.args.first.now in
    let counts = c.in_ok-counts.counts.items in
    let numbers = c.in_ok-numbers.numbers.items in
    let n = c.in_ok-numbers.ensures.numbered in
    let i = c.loop-number.number in
    let j : ℕ = slice_index first i in
    let id : ℕ = slice_index ids j in
    let inside = c.requires.inside i 0 c.loop-number-test.true in
    let low : id < length ids = c.requires.below i 0 c.loop-number-test.true id (slice_get-get_or ids j 0 inside) in
    let row : c.index.result.now ≡ slice_index numbers id = get_or_read numbers _ _ (omega (arith, low, c.in_ok-counts.ensures.len, c.in_ok-numbers.ensures.wide)) c.index.ensures 0 in
    let more = count_room ids first i c.loop-number-test.true j refl id refl in
    let counted = c.in_ok-counts.ensures.counted in
    let put = c.put.ensures in
    let there : i < length c.args.nodes.now = omega (arith, c.loop-number-test.true, c.requires.len) in
    let Known : ℕ → Type 0 = λ other. (other < length ids) × (0 < count_by (λ group. slice_index ids group == other) first) in
    let fill = λ (other : ℕ). fill_of c.loop-number.rows (slice_index numbers other) in
    let filled = λ (other : ℕ). fill_of c.put.new.self (slice_index numbers other) in
    let apart : (other : ℕ) → Known other → slice_index numbers other ≡ slice_index numbers id → other ≡ id
    = λ other k e. n.apart other id (let a = counted other k.0 in omega (arith, a, k.1)) (let a = counted id low in omega (arith, a, more)) e in
    let step : (other : ℕ) → Known other → filled other ≡ (if other == id then fill other + 1 else fill other)
    = λ other k.
    let f : Bool → ℕ = λ b. if b then fill other + 1 else fill other in
    let puts = subst (λ r. fill_of c.put.new.self (slice_index numbers other) ≡ f (slice_index numbers other == r)) row (put.fill (slice_index numbers other)) in
    puts ∙ elim (cases_eq other id) [
      | inl e ↦ ap f (eq-eqb (slice_index numbers other) (slice_index numbers id) (ap (slice_index numbers) e) ∙ sym (eq-eqb other id e))
      | inr d ↦ ap f (differ (slice_index numbers other) (slice_index numbers id) (λ e. d (apart other k e)) ∙ sym (differ other id d))
    ] in
    record {
      wide = put.count ∙ c.loop-number.invariant.wide;
      room = λ other k. put.room (slice_index numbers other) ∙ c.loop-number.invariant.room other k;
      fill = count_more ids first i c.loop-number-test.true j refl id refl Known fill filled step c.loop-number.invariant.fill;
      placed = AreLaidOut-more c.args.nodes.now first ids numbers c.loop-number.rows c.put.new.self i c.index-nodes-number.result j id c.loop-number-test.true (get_or_default first i 0 j c.loop-number-test.true)
          (slice_get_read c.args.nodes.now (length c.args.nodes.now) i c.index-nodes-number.result refl there c.index-nodes-number.is) (slice_get-get_or ids j 0 inside)
          (subst (λ r. (other : ℕ) (x : Bor g.row.N.Denot) → HasItem c.put.new.self other x ↔ (HasItem c.loop-number.rows other x ⊎ ((other ≡ r) × (x ≡ c.index-nodes-number.result)))) row put.items) c.loop-number.invariant.placed;
    }

pub returns-clause-collected : goal.returns-clause-collected
returns-clause-collected g c =
    let ids = c.args.ids.now in
    let first = c.args.first.now in
    let counted = c.in_ok-counts.ensures.counted in
    let placed = subst (λ xs. AreLaidOut c.args.nodes.now xs ids c.in_ok-numbers.numbers.items c.loop-number.rows) (take_all c.loop-number.number first c.loop-number-test.false) c.loop-number.invariant.placed in
    HaveRows-all c.args.nodes.now first ids c.in_ok-counts.counts.items c.in_ok-numbers.numbers.items c.in_ok-numbers.sizes.items c.loop-number.rows c.requires.len
    (λ k j id at_k at_j.
    let inside = slice_get_within first k j at_k in
    let is_j : j ≡ slice_index first k = sym (get_or_from_slice_get first k j 0 at_k) in
    let is_id : id ≡ slice_index ids j = sym (get_or_from_slice_get ids j id 0 at_j) in
    let low : id < length ids = c.requires.below k 0 inside id (ap (slice_get ids) (sym is_j) ∙ at_j) in
    let more = count_room ids first k inside j is_j id is_id in
    let a = counted id low in
    omega (arith, more, a))
    (λ id some. elim (cases_lt id (length ids)) [
      | inl low ↦
          let a = counted id low in
          let f = count_found (λ group. slice_index ids group == id) first (omega (arith, some, a)) in
          let j : ℕ = slice_index first f.0 in
          let same : slice_index ids j ≡ id = grind (arith, nat_tests, f.2) in
          (f.0, j, slice_get-get_or first f.0 0 f.1, slice_get-get_or ids j 0 (c.requires.inside f.0 0 f.1) ∙ ap (λ n. Some n) same)
      | inr high ↦ let none = get_or_past c.in_ok-counts.counts.items id 0 (omega (arith, high, c.in_ok-counts.ensures.len)) in absurd (omega (arith, some, none))
    ])
    c.in_ok-numbers.ensures.numbered c.loop-number.invariant.wide placed
