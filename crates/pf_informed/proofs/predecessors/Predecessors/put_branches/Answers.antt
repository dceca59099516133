use Rattle.std.proofs.Common.{rules, ◌≡◌, ◌<◌, ◌-◌, ◌++◌, ◌∷◌, [], ◌∙◌, ap, sym, arith, length, slice_get, Some, suc, List, ℕ}
use Rattle.std.proofs.lemmas.List.{append-nil, append_assoc}
use Rattle.pf_informed.specs.declared.branch.Branch.{Branch}
use Rattle.pf_informed.specs.Internal.Branches.{branches_at}
use Rattle.pf_base.proofs.ListLemmas.{at_place}
use Rattle.pf_informed.specs.Internal.Chains.{chain}
use Rattle.pf_informed.proofs.ChainLemmas.{chain_step, list_at, lists_long}
use Rattle.pf_informed.proofs.Outcomes.{pushed_on}
use Rattle.pf_informed.proofs.predecessors.Predecessors.put_branches.Goals as goal

pub links-init : goal.links-init
links-init g c =
    let heads = c.self.inside.heads.items in
    let links = c.self.inside.links.items in
    let place = c.index-place.result.now in
    let inside : c.args.number < length heads = omega (arith, ap length c.self.view_is, lists_long links heads, c.requires) in
    let at : slice_get heads c.args.number ≡ Some place = at_place _ _ _ _ inside (sym c.index-place.ensures) in
    let begins = rw c.self.view_is at (list_at links heads c.args.number place at) in
    record {
      long = search rules;
      room = omega arith;
      low = c.self.invariant.begins c.args.number place at;
      put = ([], sym (append-nil c.args.waiting.now.items), ap (branches_at c.args.depth) (sym begins));
    }

pub links-smaller : goal.links-smaller
links-smaller g c =
    let links = c.self.inside.links.items in
    let low = c.links.invariant.low in
    let some : 0 < c.links.place = search rules in
    let earlier : c.links.place - 1 < length links = omega (arith, low, some) in
    let there : slice_get links (c.links.place - 1) ≡ Some c.index-link.result.now = at_place _ _ _ _ earlier (sym c.index-link.ensures) in
    let back = c.self.invariant.back (c.links.place - 1) c.index-link.result.now there in
    omega (arith, back, some)

pub links-preserved : goal.links-preserved
links-preserved g c =
    let links = c.self.inside.links.items in
    let i = c.links.invariant in
    let some : 0 < c.links.place = search rules in
    let link = c.index-link.result.now in
    let earlier : c.links.place - 1 < length links = omega (arith, i.low, some) in
    let there : slice_get links (c.links.place - 1) ≡ Some link = at_place _ _ _ _ earlier (sym c.index-link.ensures) in
    let back = c.self.invariant.back (c.links.place - 1) link there in
    let place : c.links.place ≡ suc (c.links.place - 1) = omega (arith, some) in
    let step = ap (chain links (length links)) place ∙ chain_step links c.self.invariant.back (length links) (c.links.place - 1) link there earlier in
    let branch : Branch = record { number = link.number; depth = c.args.depth } in
    let done = i.put.0 in
    let pushed = pushed_on c.push.result c.links.waiting.items _ c.push.new.self.items c.push.ensures.items (sym c.if-is_err.ensures.value) in
    record {
      long = i.long;
      room = omega (arith, i.room, c.push.ensures.capacity);
      low = omega (arith, back, i.low);
      put = (
        done ++ branch ∷ [],
        pushed ∙ ap (λ (bs : List Branch). bs ++ branch ∷ []) i.put.1 ∙ append_assoc c.args.waiting.now.items done (branch ∷ []),
        append_assoc done (branch ∷ []) (branches_at c.args.depth (chain links (length links) link.next)) ∙ ap (λ (ns : List ℕ). done ++ branches_at c.args.depth ns) (sym step) ∙ i.put.2,
      );
    }
