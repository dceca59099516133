use Rattle.pf_boards.proofs.BoardLemmas.{board_graph}
use Rattle.pf_boards.proofs.board.BoardGraph.known.Goals as goal

pub returns : goal.returns
returns g c = rw (← c.self.view_is) (board_graph _ c.self.invariant)
