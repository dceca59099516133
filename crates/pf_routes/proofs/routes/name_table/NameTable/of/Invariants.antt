use Rattle.std.proofs.Common.{take}
use Rattle.pf_routes.specs.Internal.Links.{bytes_of}
use Rattle.pf_routes.proofs.Tables.{IsTable}
use Rattle.pf_routes.proofs.routes.name_table.NameTable.of.Given as goal

-- the table of the names so far
abbrev pub invariant-names : goal.invariant-names
invariant-names g l = IsTable l.offsets.items l.bytes.items (take l.name-index (bytes_of l.names))
