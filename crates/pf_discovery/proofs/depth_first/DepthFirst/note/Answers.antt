use Rattle.std.proofs.Common.{ℕ, ◌≡◌, ◌<◌, ◌∙◌, Bool, refl, ap, List, [], ◌∷◌, ◌++◌, length, take, length-take, reverse, subst, arith}
use Rattle.std.specs.Prelude.{Contains}
use Rattle.std.proofs.lemmas.List.{length_push}
use Rattle.pf_base.proofs.Outcomes.{on_err, on_failed, refused_as}
use Rattle.pf_discovery.specs.declared.depth_first.Branch.{Branch}
use Rattle.pf_discovery.specs.DepthFirst.{branches_at, not_visited}
use Rattle.pf_discovery.proofs.MarkLemmas.{visited_more}
use Rattle.pf_discovery.proofs.depth_first.DepthFirst.note.Goals as goal

waits : (w w0 w1 : List Branch) (d d1 : ℕ) (vs vs1 : List Bool) (ns ns1 : List ℕ) → w ≡ w0 ++ branches_at d (reverse (not_visited vs ns)) → w0 ≡ w1 → d ≡ d1 → vs ≡ vs1 → ns ≡ ns1 → w ≡ w1 ++ branches_at d1 (reverse (not_visited vs1 ns1))
waits w w0 w1 d d1 vs vs1 ns ns1 h a b e f =
    h
    ∙ ap (λ (x : List Branch). x ++ branches_at d (reverse (not_visited vs ns))) a
    ∙ ap (λ (x : ℕ). w1 ++ branches_at x (reverse (not_visited vs ns))) b
    ∙ ap (λ (x : List Bool). w1 ++ branches_at d1 (reverse (not_visited x ns))) e
    ∙ ap (λ (x : List ℕ). w1 ++ branches_at d1 (reverse (not_visited vs1 x))) f

pub put_branches-requires-clause-ends : goal.put_branches-requires-clause-ends
put_branches-requires-clause-ends g c = λ k h.
    let inside : k < c.args.found = c.requires.ends k (subst (λ (ns : List ℕ). Contains ns k) c.make_room.ensures.row h) in
    omega (arith, inside, c.in_ok-make_room.ensures.few)

pub make_room-requires : goal.make_room-requires
make_room-requires g c = c.requires.inside

pub index_mut-requires : goal.index_mut-requires
index_mut-requires g c = omega (arith, c.in_ok-make_room.ensures.wide, c.make_room.new.self.visited.ok)

pub put_branches-requires-clause-room : goal.put_branches-requires-clause-room
put_branches-requires-clause-room g c = c.in_ok-make_room.ensures.room.2

pub push_reserved-requires : goal.push_reserved-requires
push_reserved-requires g c = omega (arith, c.truncate.ensures.len, c.truncate.ensures.capacity, c.in_ok-make_room.ensures.room.1, c.make_room.new.self.path.ok)

pub push-requires : goal.push-requires
push-requires g c = c.in_ok-make_room.ensures.room.0

pub returns-in_default : goal.returns-in_default
returns-in_default g c = record { given = tt; few = tt; visited = tt; path = tt; waiting = tt; kept = (refl, refl, refl, λ k. (λ h. h, λ h. h)); refused = refl }

pub returns-in_err-make_room : goal.returns-in_err-make_room
returns-in_err-make_room g c = record {
  given = on_failed _ c.from_residual.result c.from_residual.ensures.0;
  few = on_failed _ c.from_residual.result c.from_residual.ensures.0;
  visited = on_failed _ c.from_residual.result c.from_residual.ensures.0;
  path = on_failed _ c.from_residual.result c.from_residual.ensures.0;
  waiting = on_failed _ c.from_residual.result c.from_residual.ensures.0;
  kept = on_err c.from_residual.result (c.make_room.ensures.given, c.make_room.ensures.path, c.make_room.ensures.waiting, c.make_room.ensures.visited);
  refused = refused_as _ c.from_residual.result _ c.from_residual.ensures.1 c.in_err-make_room.ensures.refused;
}

pub returns : goal.returns
returns g c = record {
  given = c.push.ensures ∙ ap (λ (xs : List ℕ). xs ++ c.args.branch.number ∷ []) c.make_room.ensures.given;
  few = omega (arith, ap length c.push.ensures, length_push c.make_room.new.self.given c.args.branch.number, c.in_ok-make_room.ensures.room.0);
  visited = visited_more _ _ c.args.branch.number c.in_ok-make_room.ensures.wide c.make_room.ensures.visited;
  path = c.push_reserved.ensures.items ∙ ap (λ (xs : List ℕ). xs ++ c.args.branch.number ∷ []) (c.truncate.ensures.items ∙ ap (take c.args.branch.depth) c.make_room.ensures.path);
  waiting =
      let path = c.truncate.new.self.items in
      let cut : length path ≡ c.args.branch.depth = omega (arith, ap length c.truncate.ensures.items, length-take c.args.branch.depth c.make_room.new.self.path.items, ap length c.make_room.ensures.path, c.requires.depth) in
      let deep : c.in-Some.depth ≡ length c.push_reserved.new.self.items = omega (arith, ap length c.push_reserved.ensures.items, length_push path c.args.branch.number, cut, c.in-Some.ensures) in
      waits c.put_branches.new.waiting.items c.make_room.new.self.waiting.items c.args.self.now.waiting.items _ _ _ _ _ _ c.put_branches.ensures.put c.make_room.ensures.waiting deep c.deref.ensures.value c.make_room.ensures.row;
  kept = tt;
  refused = tt;
}
