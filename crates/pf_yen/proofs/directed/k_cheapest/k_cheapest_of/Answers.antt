use Rattle.pf_yen.specs.KCheapest.{paths_in}
use Rattle.pf_yen.proofs.KCheapestLemmas.{reordered, overflow_of, errors_of}
use Rattle.pf_yen.proofs.ResultLemmas.{made_so, error_kept}
use Rattle.pf_yen.proofs.directed.k_cheapest.k_cheapest_of.Goals as goal

pub gather-requires-clause-clones : goal.gather-requires-clause-clones
gather-requires-clause-clones g c = c.requires.clones

pub gather-requires-clause-begins : goal.gather-requires-clause-begins
gather-requires-clause-begins g c = c.requires.begins

pub gather-requires-clause-graph : goal.gather-requires-clause-graph
gather-requires-clause-graph g c = c.requires.graph

pub returns : goal.returns
returns g c = record {
  cheapest = λ edges start test w. made_so _ c.gather.result c.sorted.result c.sorted.ensures _ _ _
      (λ xs ys m a. reordered g.N.PartialEq.eq g.met.N.Eq.laws edges start test g.C.Number.value c.args.k (paths_in xs.items) (paths_in ys.items) m.0 a m.1)
      (c.gather.ensures edges start test w);
  overflow = λ edges start test w e.
      let kept = error_kept _ c.gather.result c.sorted.result c.sorted.ensures _ _ (c.gather.ensures edges start test w) in
      (overflow_of g.N.PartialEq.eq edges start test g.C.Number.fits c.args.k c.sorted.result kept e).1;
  first_overflow = λ edges start test w e k.
      let kept = error_kept _ c.gather.result c.sorted.result c.sorted.ensures _ _ (c.gather.ensures edges start test w) in
      (overflow_of g.N.PartialEq.eq edges start test g.C.Number.fits c.args.k c.sorted.result kept e).2 k;
  some_asked = λ e.
      let r = c.requires.graph in
      let kept = error_kept _ c.gather.result c.sorted.result c.sorted.ensures _ _ (c.gather.ensures r.0 r.1 r.2 r.3) in
      (overflow_of g.N.PartialEq.eq r.0 r.1 r.2 g.C.Number.fits c.args.k c.sorted.result kept e).0;
  errors =
      let r = c.requires.graph in
      errors_of g.N.PartialEq.eq r.0 r.1 r.2 g.C.Number.fits c.args.k c.sorted.result (error_kept _ c.gather.result c.sorted.result c.sorted.ensures _ _ (c.gather.ensures r.0 r.1 r.2 r.3));
}
