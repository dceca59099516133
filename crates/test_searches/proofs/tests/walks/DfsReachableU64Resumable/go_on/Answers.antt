use Rattle.test_searches.proofs.tests.walks.DfsReachableU64Resumable.go_on.Goals as goal

pub returns : goal.returns
returns g c =
    let r = c.requires in
    (r.0, (r.1.0, r.1.1, r.1.2, c.resume.ensures.graph r.1.0 r.1.1 r.1.2 r.1.3))
