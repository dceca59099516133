use Rattle.pf_matrix.proofs.matrix.Matrix.in_direction.Goals as goal

pub returns : goal.returns
returns g c = rw (← c.self.view_is) c.in_direction.ensures
