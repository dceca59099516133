use Rattle.std.proofs.Common.{rules, ◌≡◌, subst, sym, Bor}
use Rattle.pf_base.specs.Edges.{InReach}
use Rattle.pf_base.proofs.Asking.{Answers-takes, Answers-gives, Answers-on}
use Rattle.pf_informed.proofs.functions.AnyEstimateFunction.estimate.Goals as goal

pub self-requires : goal.self-requires
self-requires g c =
    let r = c.requires.within in
    let may : (p : Bor g.row.N.Denot) → p.now ≡ c.args.node.now → g.FH.FnMut.pre c.args.self.now (p, tt) = λ p e. Answers-takes _ _ _ r.4.answers p (subst (InReach g.N.PartialEq.eq r.1 r.0) (sym e) r.3) in
    search (rules, may)

pub returns-clause-goes_on : goal.returns-clause-goes_on
returns-clause-goes_on g c = λ starts edges estimate reach a. record {
  alike = a.alike;
  answers = Answers-on _ _ _ a.answers _ reach c.self.result c.self.new.self c.self.ensures;
}

pub returns-clause-estimated : goal.returns-clause-estimated
returns-clause-estimated g c = λ starts edges estimate reach a. Answers-gives _ _ _ a.answers _ reach c.self.result c.self.new.self c.self.ensures
