use Rattle.std.proofs.Common.{◌≡◌, ◌<◌, ◌+◌, ℕ, length, List, arith, get_or, take, slice_get, Some, subst, sym, refl, take_all}
use Rattle.std.specs.Prelude.{slice_set}
use Rattle.std.proofs.lemmas.List.{take_more}
use Rattle.std.proofs.lemmas.Option.{slice_get-get_or}
use Rattle.pf_base.proofs.ListLemmas.{Contains-index}
use Rattle.pf_orders.specs.Internal.Rounds.{Falls}
use Rattle.pf_orders.proofs.OrderLemmas.{member_of}
use Rattle.pf_orders.proofs.RoundLemmas.{rises_more}
use Rattle.pf_orders.proofs.rows.count_row.Goals as goal

-- what is inside the old counts is inside those of the same length
still_inside : (k n m : ℕ) → k < n → m ≡ n → k < m
still_inside k n m h e = omega (arith, h, e)

pub bounds-counts-target : goal.bounds-counts-target
bounds-counts-target c =
    let row = c.args.row.now in
    let i = c.targets.target-index in
    still_inside _ _ _ (c.requires (get_or row i 0) (member_of row (get_or row i 0) (Contains-index row i 0 c.targets-test.true))) c.targets.invariant.len

pub bounds-counts-target-in-targets : goal.bounds-counts-target-in-targets
bounds-counts-target-in-targets c =
    let row = c.args.row.now in
    let i = c.targets.target-index in
    still_inside _ _ _ (c.requires (get_or row i 0) (member_of row (get_or row i 0) (Contains-index row i 0 c.targets-test.true))) c.targets.invariant.len

pub offset_bounds-counts-target : goal.offset_bounds-counts-target
offset_bounds-counts-target c =
    let row = c.args.row.now in
    let i = c.targets.target-index in
    let l : get_or row i 0 < length c.targets.counts = still_inside _ _ _ (c.requires (get_or row i 0) (member_of row (get_or row i 0) (Contains-index row i 0 c.targets-test.true))) c.targets.invariant.len in
    omega (arith, l)

pub offset_bounds-counts-target-in-targets : goal.offset_bounds-counts-target-in-targets
offset_bounds-counts-target-in-targets c =
    let row = c.args.row.now in
    let i = c.targets.target-index in
    let l : get_or row i 0 < length c.targets.counts = still_inside _ _ _ (c.requires (get_or row i 0) (member_of row (get_or row i 0) (Contains-index row i 0 c.targets-test.true))) c.targets.invariant.len in
    omega (arith, l)

pub targets-preserved : goal.targets-preserved
targets-preserved c =
    let row = c.args.row.now in
    let i = c.targets.target-index in
    let t = get_or row i 0 in
    let counts = c.targets.counts in
    let v = c.targets.invariant in
    let l = c.requires t (member_of row t (Contains-index row i 0 c.targets-test.true)) in
    let inside : t < length counts = subst (λ (n : ℕ). t < n) (sym v.len) l in
    let old = get_or counts t 0 in
    let at : slice_get counts t ≡ Some old = slice_get-get_or counts t 0 inside in
    let e : c.in-Some.count ≡ old + 1 = c.in-Some.ensures.1 in
    let f = rises_more (take i row) c.args.counts.now counts t old v.falls at in
    let h = subst (λ (ks : List ℕ). Falls ks (slice_set counts t (old + 1)) c.args.counts.now) (sym (take_more row i 0 c.targets-test.true)) f in
    let k = subst (λ (n : ℕ). Falls (take (i + 1) row) (slice_set counts t n) c.args.counts.now) (sym e) h in
    record { falls = k; len = sym k.len }

pub targets-init : goal.targets-init
targets-init c = record {
  falls = record { len = refl; fell = λ j n at. (n, at, omega arith) };
  len = refl;
}

pub bounds-row-target-index : goal.bounds-row-target-index
bounds-row-target-index c = c.targets-test.true

pub returns-in_default : goal.returns-in_default
returns-in_default c = record {
  counted = tt;
  refused = refl;
}

pub targets-smaller : goal.targets-smaller
targets-smaller c = omega (arith, c.targets-test.true)

pub returns : goal.returns
returns c = record {
  counted = subst (λ (ks : List ℕ). Falls ks c.targets.counts c.args.counts.now) (take_all _ _ c.targets-test.false) c.targets.invariant.falls;
  refused = tt;
}
