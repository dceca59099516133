use Rattle.std.proofs.Common.{rules}
use Rattle.pf_routes.proofs.routes.command_line.path_command.Goals as goal

pub returns-in-dijkstra-clause-spelled : goal.returns-in-dijkstra-clause-spelled
returns-in-dijkstra-clause-spelled c = search rules

pub returns-in-bfs-clause-spelled : goal.returns-in-bfs-clause-spelled
returns-in-bfs-clause-spelled c = search rules

pub returns-in-flow-clause-spelled : goal.returns-in-flow-clause-spelled
returns-in-flow-clause-spelled c = search rules
