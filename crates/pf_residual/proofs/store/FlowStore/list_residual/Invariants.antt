use Rattle.std.proofs.Common.{◌≡◌, ℕ, map, take}
use Rattle.pf_residual.proofs.store.FlowStore.list_residual.Given as goal

-- the vertices so far
abbrev pub invariant-loop-successor : goal.invariant-loop-successor
invariant-loop-successor g l = map (λ (end : ℕ × ℕ). end.0) l.ends.items ≡ map (λ end. end.0) (take l.successor-index l.successor-items)
