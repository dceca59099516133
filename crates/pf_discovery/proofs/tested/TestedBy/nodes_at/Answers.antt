use Rattle.pf_discovery.proofs.tested.TestedBy.nodes_at.Goals as goal

pub clones_at-requires-clause-inside : goal.clones_at-requires-clause-inside
clones_at-requires-clause-inside g c = λ k h. rw c.as_slice.ensures.keys (c.requires.inside k h)
