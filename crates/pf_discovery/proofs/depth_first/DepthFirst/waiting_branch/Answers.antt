use Rattle.std.proofs.Common.{◌∙◌, refl, sym, [], ◌∷◌}
use Rattle.std.proofs.lemmas.List.{append-nil}
use Rattle.pf_discovery.proofs.MarkLemmas.{seen_visited, seen_unvisited}
use Rattle.pf_discovery.proofs.LastLemmas.{last_split, none_last, taken_shorter, taken_split}
use Rattle.pf_discovery.proofs.depth_first.DepthFirst.waiting_branch.Goals as goal

pub branches-init : goal.branches-init
branches-init g c = record { given = refl; visited = refl; path = refl; dropped = ([], sym (append-nil _), tt) }

pub returns-then-not-was_visited : goal.returns-then-not-was_visited
returns-then-not-was_visited g c = record {
  given = c.branches.invariant.given;
  visited = c.branches.invariant.visited;
  path = c.branches.invariant.path;
  dropped = c.branches.invariant.dropped;
  next =
      let n = c.in-Some.branch.now.number in (
        _,
        last_split c.branches.self.waiting.items c.deref.result.now c.in-Some.branch.now c.deref.ensures.value c.in-Some.ensures.value,
        seen_unvisited _ _ n _ (c.deref-in-Some.ensures.value ∙ c.branches.invariant.visited) c.was_visited.ensures c.if-not-was_visited.true,
      );
}

pub branches-smaller : goal.branches-smaller
branches-smaller g c = taken_shorter c.branches.self.waiting.items c.deref.result.now c.in-Some.branch.now c.deref.ensures.value c.in-Some.ensures.value c.branches.self.waiting.len c.pop.new.self.items c.branches.self.waiting.ok.0 c.pop.ensures.rest

pub branches-preserved : goal.branches-preserved
branches-preserved g c =
    let i = c.branches.invariant in
    let b = c.in-Some.branch.now in
    record {
      given = i.given;
      visited = i.visited;
      path = i.path;
      dropped = (
        b ∷ i.dropped.0,
        taken_split c.branches.self.waiting.items c.deref.result.now c.in-Some.branch.now c.deref.ensures.value c.in-Some.ensures.value c.branches.self.waiting.len c.pop.new.self.items c.branches.self.waiting.ok.0 c.pop.ensures.rest c.args.self.now.waiting.items i.dropped.0 i.dropped.1,
        (seen_visited _ _ b.number _ (c.deref-in-Some.ensures.value ∙ i.visited) c.was_visited.ensures c.if-not-was_visited.false, i.dropped.2),
      );
    }

pub returns : goal.returns
returns g c = record {
  given = c.branches.invariant.given;
  visited = c.branches.invariant.visited;
  path = c.branches.invariant.path;
  dropped = c.branches.invariant.dropped;
  next = none_last c.branches.self.waiting.items c.deref.result.now c.deref.ensures.value c.in_default.ensures.value;
}
