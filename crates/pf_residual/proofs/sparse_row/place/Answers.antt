use Rattle.std.proofs.Common.{rules, arith}
use Rattle.std.proofs.lemmas.List.Sorted.{IsPartitionedBy-ltb, IsPartitionPoint-from_clause}
use Rattle.std.proofs.Math.Dec.{ltb}
use borrow.Author.Tests.{ltb-true, ltb-false}
use Rattle.pf_residual.proofs.SparseRowLemmas.{place_is, rising_or_same, past_last, at_last}
use Rattle.pf_residual.proofs.sparse_row.place.Goals as goal

pub returns-in-Some-clause-place : goal.returns-in-Some-clause-place
returns-in-Some-clause-place g c = past_last c.args.row.now c.args.to c.in-Some.last.now c.requires (search rules) c.if-last-to.true

pub returns-in-Some-2-clause-place : goal.returns-in-Some-2-clause-place
returns-in-Some-2-clause-place g c = at_last c.args.row.now c.args.to c.in-Some.last.now c.requires (search rules) c.if-last-to-2.true

pub returns-in_default-clause-place : goal.returns-in_default-clause-place
returns-in_default-clause-place g c =
    let row = c.args.row.now in
    let parts = IsPartitionPoint-from_clause (λ e. ltb e.to c.args.to) row c.partition_point.result c.partition_point.ensures.partitioned (IsPartitionedBy-ltb (λ e. e.to) row c.args.to (λ i j d. rising_or_same 0 row i j d c.requires)) (λ a r f h. search rules) in
    place_is row c.args.to c.partition_point.result c.partition_point.ensures.bound (λ k d l. ltb-true _ _ (parts.0 k d (omega arith) l)) (λ k d l m. ltb-false _ _ (parts.1 k d l m))
