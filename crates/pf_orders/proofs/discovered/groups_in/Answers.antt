use Rattle.std.proofs.Common.{◌<◌, ◌∙◌, ℕ, length, ap, sym, subst}
use Rattle.std.specs.Prelude.{Err}
use Rattle.std.specs.List.{AllZip}
use Rattle.std.proofs.lemmas.Result.{IfOk-from_err}
use Rattle.pf_core.specs.Nodes.{StandsFor}
use Rattle.pf_core.specs.Hops.{hops_from}
use Rattle.pf_core.proofs.UnitLemmas.{begins_all, starts_stand}
use Rattle.pf_orders.specs.Internal.Rounds.{AreNodesAt}
use Rattle.pf_base.proofs.Outcomes.{error_of, ok_not_err, refused_as}
use Rattle.pf_orders.proofs.RoundLemmas.{only_memory, memory_of}
use Rattle.pf_orders.proofs.OrderLemmas.{member_of, is_none, is_some}
use Rattle.pf_orders.proofs.SortLemmas.{of_target}
use Rattle.pf_orders.proofs.DepthLemmas.{are_rows, closed, depth_groups, all_have, have_none, some_left}
use Rattle.pf_orders.proofs.discovered.groups_in.Goals as goal

pub read_rows-requires-clause-graph : goal.read_rows-requires-clause-graph
read_rows-requires-clause-graph g c =
    let r = c.requires.graph in
    (hops_from r.0 r.1, r.2.explores)

pub read_rows-requires-clause-begins : goal.read_rows-requires-clause-begins
read_rows-requires-clause-begins g c = λ k l. begins_all g.N.PartialEq.eq g.met.N.Eq.laws (g.M.Numbering.keys c.args.graph.now.nodes) k l

pub returns-in_err-rows : goal.returns-in_err-rows
returns-in_err-rows g c =
    let r = c.from_residual in
    record {
      groups = λ nodes next b. IfOk-from_err _ _ r.ensures.0;
      cycle = λ nodes next b. IfOk-from_err _ _ r.ensures.0;
      closed = λ nodes next b. IfOk-from_err _ _ r.ensures.0;
      unknown = λ nodes next b u.
          let eq = g.N.PartialEq.eq in
          let laws = g.met.N.Eq.laws in
          let first = g.M.Numbering.keys c.args.graph.now.nodes in
          let f = error_of _ _ _ r.ensures.1 u in
          let d = c.in_err-rows.ensures.unknown (hops_from nodes next) b.explores (ap Err f) in
          let grown = c.in_err-rows.ensures.grows in (
            d.0,
            d.1,
            (starts_stand eq laws nodes first b.same d.0).0 (d.2.0, d.2.1, grown.back d.2.0 d.0 d.2.1 d.2.2),
            of_target eq laws next d.0 d.1 d.3,
            (λ h. d.4 (let s = (starts_stand eq laws nodes first b.same d.1).1 h in (s.0, s.1, grown.stays s.0 d.1 s.2))),
          );
      errors = refused_as _ _ _ r.ensures.1 c.in_err-rows.ensures.errors;
    }

pub group_numbers-requires-clause-counted : goal.group_numbers-requires-clause-counted
group_numbers-requires-clause-counted g c =
    let e = c.in_ok-rows.ensures in
    e.read.counted

pub group_numbers-requires-clause-wide : goal.group_numbers-requires-clause-wide
group_numbers-requires-clause-wide g c =
    let e = c.in_ok-rows.ensures in
    e.read.wide ∙ sym e.read.long

pub returns-in_err-levels : goal.returns-in_err-levels
returns-in_err-levels g c =
    let r = c.from_residual-in_err-levels in
    record {
      groups = λ nodes next b. IfOk-from_err _ _ r.ensures.0;
      cycle = λ nodes next b. IfOk-from_err _ _ r.ensures.0;
      closed = λ nodes next b. IfOk-from_err _ _ r.ensures.0;
      unknown = λ nodes next b u. absurd (only_memory _ _ r.ensures.1 c.in_err-levels.ensures.refused u);
      errors = memory_of _ _ r.ensures.1 c.in_err-levels.ensures.refused;
    }

pub groups_at-requires-clause-inside : goal.groups_at-requires-clause-inside
groups_at-requires-clause-inside g c = λ i k group at h.
    let e = c.in_ok-rows.ensures in
    let l = c.in_ok-levels.ensures.levels.below i k (group, rw c.deref.ensures.value at at, member_of group.items k h) in
    subst (λ (n : ℕ). k < n) (e.read.wide ∙ sym e.read.same ∙ ap length (sym c.as_slice.ensures.keys)) l

pub groups_at-requires-clause-clones : goal.groups_at-requires-clause-clones
groups_at-requires-clause-clones g c = c.requires.clones

pub returns-in_err-groups : goal.returns-in_err-groups
returns-in_err-groups g c =
    let r = c.from_residual-in_err-groups in
    record {
      groups = λ nodes next b. IfOk-from_err _ _ r.ensures.0;
      cycle = λ nodes next b. IfOk-from_err _ _ r.ensures.0;
      closed = λ nodes next b. IfOk-from_err _ _ r.ensures.0;
      unknown = λ nodes next b u. absurd (only_memory _ _ r.ensures.1 c.in_err-groups.ensures.refused u);
      errors = memory_of _ _ r.ensures.1 c.in_err-groups.ensures.refused;
    }

pub returns-then-is_empty : goal.returns-then-is_empty
returns-then-is_empty g c =
    let laws = g.met.N.Eq.laws in
    let e = c.in_ok-rows.ensures in
    let levels = c.in_ok-levels.ensures.levels in
    record {
      groups = λ nodes next b.
          let h = hops_from nodes next in
          let read = are_rows _ laws b.same (e.graph h b.explores) e.grows e.read.same e.read.counted e.read.wide e.read.long (e.listed h b.explores) in
          let z : AllZip (AreNodesAt g.N.PartialEq.eq (g.M.Numbering.keys c.read_rows.new.graph.nodes)) c.in_ok-levels.levels.groups.items c.in_ok-groups.groups.items = rw c.as_slice.ensures.keys at (rw c.deref.ensures.value at c.in_ok-groups.ensures.nodes) in
          let none = is_none c.in_ok-levels.levels.remaining _ c.is_empty.ensures c.if-is_empty.true in
          (depth_groups laws read levels c.in_ok-groups.groups.items z, all_have laws read levels none);
      cycle = λ nodes next b. tt;
      closed = λ nodes next b.
          let h = hops_from nodes next in
          closed laws (are_rows _ laws b.same (e.graph h b.explores) e.grows e.read.same e.read.counted e.read.wide e.read.long (e.listed h b.explores));
      unknown = λ nodes next b u. absurd (ok_not_err u);
      errors = tt;
    }

pub clones_at-requires-clause-inside : goal.clones_at-requires-clause-inside
clones_at-requires-clause-inside g c = λ k h.
    let e = c.in_ok-rows.ensures in
    let l = c.in_ok-levels.ensures.levels.left_below k (member_of c.in_ok-levels.levels.remaining.items k (rw c.deref-2.ensures.value at h)) in
    subst (λ (n : ℕ). k < n) (e.read.wide ∙ sym e.read.same ∙ ap length (sym c.as_slice-2.ensures.keys)) l

pub clones_at-requires-clause-clones : goal.clones_at-requires-clause-clones
clones_at-requires-clause-clones g c = c.requires.clones

pub returns-in_err-remaining : goal.returns-in_err-remaining
returns-in_err-remaining g c =
    let r = c.from_residual-in_err-remaining in
    record {
      groups = λ nodes next b. IfOk-from_err _ _ r.ensures.0;
      cycle = λ nodes next b. IfOk-from_err _ _ r.ensures.0;
      closed = λ nodes next b. IfOk-from_err _ _ r.ensures.0;
      unknown = λ nodes next b u. absurd (only_memory _ _ r.ensures.1 c.in_err-remaining.ensures.refused u);
      errors = memory_of _ _ r.ensures.1 c.in_err-remaining.ensures.refused;
    }

pub returns : goal.returns
returns g c =
    let laws = g.met.N.Eq.laws in
    let e = c.in_ok-rows.ensures in
    let levels = c.in_ok-levels.ensures.levels in
    record {
      groups = λ nodes next b. tt;
      cycle = λ nodes next b.
          let eq = g.N.PartialEq.eq in
          let keys = g.M.Numbering.keys c.read_rows.new.graph.nodes in
          let h = hops_from nodes next in
          let read = are_rows _ laws b.same (e.graph h b.explores) e.grows e.read.same e.read.counted e.read.wide e.read.long (e.listed h b.explores) in
          let z : AllZip (AreNodesAt eq keys) c.in_ok-levels.levels.groups.items c.in_ok-groups.groups.items = rw c.as_slice.ensures.keys at (rw c.deref.ensures.value at c.in_ok-groups.ensures.nodes) in
          let left = c.in_ok-remaining.remaining.items in
          let some = is_some c.in_ok-levels.levels.remaining _ c.is_empty.ensures c.if-is_empty.false in
          let w : AllZip (StandsFor eq keys) c.in_ok-levels.levels.remaining.items left = rw c.as_slice-2.ensures.keys at (rw c.deref-2.ensures.value at c.in_ok-remaining.ensures.nodes) in
          (depth_groups laws read levels c.in_ok-groups.groups.items z, have_none laws read levels left w, some_left laws read levels left w some);
      closed = λ nodes next b.
          let h = hops_from nodes next in
          closed laws (are_rows _ laws b.same (e.graph h b.explores) e.grows e.read.same e.read.counted e.read.wide e.read.long (e.listed h b.explores));
      unknown = λ nodes next b u. absurd (ok_not_err u);
      errors = tt;
    }
