use Rattle.std.proofs.Common.{ℕ, zero, suc, ◌≡◌, ◌≤◌, ◌+◌, ◌∙◌, Bool, true, false, true≢false, refl, sym, ap, subst, arith, List, [], ◌∷◌, ◌++◌, length, take, Some}
use Rattle.std.specs.Prelude.{◌↔◌, replicate, slice_get}
use Rattle.std.proofs.lemmas.List.{take_all}
use Rattle.pf_base.proofs.ListLemmas.{get-append, none_in}
use Rattle.pf_base.proofs.Outcomes.{on_failed, refused_by}
use Rattle.pf_discovery.specs.DepthFirst.{IsVisited}
use Rattle.pf_discovery.proofs.depth_first.DepthFirst.make_room.Goals as goal

none_true : (m k : ℕ) → slice_get (replicate m false) k ≡ Some true → ⊥
none_true zero k h = none_in k true h
none_true (suc m) zero h = let e : Some false ≡ Some true = h in let f : false ≡ true = cc in true≢false (sym f)
none_true (suc m) (suc k) h = none_true m k h

in_front : (m : ℕ) (xs : List Bool) (k : ℕ) → slice_get (xs ++ replicate m false) k ≡ Some true → slice_get xs k ≡ Some true
in_front m [] k h = absurd (none_true m k h)
in_front m (x ∷ xs) zero h = h
in_front m (x ∷ xs) (suc k) h = in_front m xs k h

visited_stays : (old new : List Bool) (n m : ℕ) → length old ≤ n → new ≡ take n old ++ replicate m false → (k : ℕ) → IsVisited new k ↔ IsVisited old k
visited_stays old new n m h e k =
    let all : new ≡ old ++ replicate m false = e ∙ ap (λ (xs : List Bool). xs ++ replicate m false) (take_all n old h) in
    (λ v. in_front m old k (subst (λ xs. IsVisited xs k) all v), λ v. subst (λ xs. IsVisited xs k) (sym all) (get-append old (replicate m false) k true v))

visited_same : (old new : List Bool) → new ≡ old → (k : ℕ) → IsVisited new k ↔ IsVisited old k
visited_same old new e k = (λ v. subst (λ xs. IsVisited xs k) e v, λ v. subst (λ xs. IsVisited xs k) (sym e) v)

pub returns-then-found-gt-MOST_FOUND : goal.returns-then-found-gt-MOST_FOUND
returns-then-found-gt-MOST_FOUND g c = record {
  given = refl;
  visited = visited_same c.args.self.now.visited.items c.args.self.now.visited.items refl;
  path = refl;
  waiting = refl;
  row = refl;
  few = tt;
  wide = tt;
  room = tt;
  refused = refl;
}

pub returns-in_err-reserve : goal.returns-in_err-reserve
returns-in_err-reserve g c = record {
  given = refl;
  visited = visited_same c.args.self.now.visited.items c.args.self.now.visited.items refl;
  path = c.reserve.ensures.items;
  waiting = refl;
  row = refl;
  few = on_failed _ c.from_residual.result c.from_residual.ensures.0;
  wide = on_failed _ c.from_residual.result c.from_residual.ensures.0;
  room = on_failed _ c.from_residual.result c.from_residual.ensures.0;
  refused = refused_by _ c.from_residual.result c.from_residual.ensures.1;
}

pub returns-in_err-reserve-2 : goal.returns-in_err-reserve-2
returns-in_err-reserve-2 g c = record {
  given = refl;
  visited = visited_same c.args.self.now.visited.items c.args.self.now.visited.items refl;
  path = c.reserve.ensures.items;
  waiting = c.reserve-2.ensures.items;
  row = refl;
  few = on_failed _ c.from_residual-in_err-reserve-2.result c.from_residual-in_err-reserve-2.ensures.0;
  wide = on_failed _ c.from_residual-in_err-reserve-2.result c.from_residual-in_err-reserve-2.ensures.0;
  room = on_failed _ c.from_residual-in_err-reserve-2.result c.from_residual-in_err-reserve-2.ensures.0;
  refused = refused_by _ c.from_residual-in_err-reserve-2.result c.from_residual-in_err-reserve-2.ensures.1;
}

pub returns-in_err-resize : goal.returns-in_err-resize
returns-in_err-resize g c = record {
  given = refl;
  visited = visited_same c.args.self.now.visited.items c.resize.new.self.items c.in_err-resize.ensures.items;
  path = c.reserve.ensures.items;
  waiting = c.reserve-2.ensures.items;
  row = refl;
  few = on_failed _ c.from_residual-in_err-resize.result c.from_residual-in_err-resize.ensures.0;
  wide = on_failed _ c.from_residual-in_err-resize.result c.from_residual-in_err-resize.ensures.0;
  room = on_failed _ c.from_residual-in_err-resize.result c.from_residual-in_err-resize.ensures.0;
  refused = refused_by _ c.from_residual-in_err-resize.result c.from_residual-in_err-resize.ensures.1;
}

pub overflow_add-number : goal.overflow_add-number
overflow_add-number g c = omega (arith, c.requires, c.ranges.found)

pub returns-in_ok-resize : goal.returns-in_ok-resize
returns-in_ok-resize g c = record {
  given = refl;
  visited = visited_stays c.args.self.now.visited.items c.resize.new.self.items (c.args.number + 1) _ (omega (arith, c.if-len-number.true, c.len-3.ensures, c.args.self.now.visited.ok)) c.in_ok-resize.ensures.items;
  path = c.reserve.ensures.items;
  waiting = c.reserve-2.ensures.items;
  row = refl;
  few = omega (arith, c.if-found-gt-MOST_FOUND.false);
  wide = omega (arith, c.in_ok-resize.ensures.len, c.resize.new.self.ok);
  room = (
    omega (arith, c.if-len-ge-MOST_GIVEN.false, c.len.ensures.len),
    omega (arith, c.in_ok-reserve.ensures.ok, c.reserve.new.self.ok),
    omega (arith, c.in_ok-reserve-2.ensures.ok, c.reserve-2.new.self.ok, c.len-2.ensures, c.args.self.now.row.ok),
  );
  refused = tt;
}

pub returns-else-len-number : goal.returns-else-len-number
returns-else-len-number g c = record {
  given = refl;
  visited = visited_same c.args.self.now.visited.items c.args.self.now.visited.items refl;
  path = c.reserve.ensures.items;
  waiting = c.reserve-2.ensures.items;
  row = refl;
  few = omega (arith, c.if-found-gt-MOST_FOUND.false);
  wide = omega (arith, c.if-len-number.false, c.len-3.ensures, c.args.self.now.visited.ok);
  room = (
    omega (arith, c.if-len-ge-MOST_GIVEN.false, c.len.ensures.len),
    omega (arith, c.in_ok-reserve.ensures.ok, c.reserve.new.self.ok),
    omega (arith, c.in_ok-reserve-2.ensures.ok, c.reserve-2.new.self.ok, c.len-2.ensures, c.args.self.now.row.ok),
  );
  refused = tt;
}
