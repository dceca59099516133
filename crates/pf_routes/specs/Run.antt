-- What a run does, over any reader and any writer. The known bytes of each stand before and after it.
use Rattle.std.specs.Prelude.{◌≡◌, ℕ, Bool, IsTrue, List, Option, Ok, Err}
use Rattle.std.specs.Io.KnownBytes.{Keeps, Appends, Consumes, IsAtEnd}
use Rattle.pf_routes.specs.EdgeText.{Edge, edge_text}
use Rattle.pf_routes.specs.AnswerText.{IsAnswer, Overflows}
use Rattle.pf_route_io.specs.ReadSome.{HasReadSome}
use Rattle.pf_route_io.specs.Written.{AppendsBeginning}
use Rattle.pf_routes.specs.declared.routes.commands.Command.{Command}
use Rattle.pf_route_io.specs.declared.error.RouteError.{RouteError}
use Rattle.pf_route_io.specs.declared.error.RouteError.TheVariants.{BadEdge, CostOverflow, OutOfMemory, ReadFailed, WriteFailed}

-- the input was read to its end, and was this text
pub record IsWhole (old new : Option (List ℕ)) (text : List ℕ) : Type 0 where
  pub read : Consumes old new text
  pub end : IsAtEnd new

-- the input was read to its end, and is these edges
pub record HasEdges (old new : Option (List ℕ)) (edges : List Edge) : Type 0 where
  pub text : List ℕ
  pub whole : IsWhole old new text
  pub spelled : edge_text text ≡ Ok edges

-- an answer about the edges of the whole input was written, and nothing else
pub record Answered (command : Command) (in-old in-new out-old out-new : Option (List ℕ)) : Type 0 where
  pub edges : List Edge
  pub input : HasEdges in-old in-new edges
  pub answer : List ℕ
  pub right : IsAnswer command edges answer
  pub written : Appends out-old out-new answer

-- the whole input's first bad line is this one
pub record HasBadLine (old new : Option (List ℕ)) (line : ℕ) : Type 0 where
  pub text : List ℕ
  pub whole : IsWhole old new text
  pub bad : edge_text text ≡ Err line

-- the whole input was edges, and a cost did not fit
pub record Overflowed (command : Command) (in-old in-new : Option (List ℕ)) : Type 0 where
  pub edges : List Edge
  pub input : HasEdges in-old in-new edges
  pub past : Overflows command edges

-- of an answer about the edges of the whole input, a beginning was written
pub record Broken (command : Command) (in-old in-new out-old out-new : Option (List ℕ)) : Type 0 where
  pub edges : List Edge
  pub input : HasEdges in-old in-new edges
  pub answer : List ℕ
  pub right : IsAnswer command edges answer
  pub written : AppendsBeginning out-old out-new answer

-- why a run gave no answer, and what it left; `in-failed` and `out-failed` are what `failed` answers after it
abbrev pub Refused : RouteError → Command → (in-old in-new : Option (List ℕ)) (in-failed : Bool) (out-old out-new : Option (List ℕ)) (out-failed : Bool) → Type 0
Refused (BadEdge line) command in-old in-new in-failed out-old out-new out-failed = HasBadLine in-old in-new line × Keeps out-old out-new
Refused CostOverflow command in-old in-new in-failed out-old out-new out-failed = Overflowed command in-old in-new × Keeps out-old out-new
Refused OutOfMemory command in-old in-new in-failed out-old out-new out-failed = HasReadSome in-old in-new × Keeps out-old out-new
Refused ReadFailed command in-old in-new in-failed out-old out-new out-failed = IsTrue in-failed × HasReadSome in-old in-new × Keeps out-old out-new
Refused WriteFailed command in-old in-new in-failed out-old out-new out-failed = IsTrue out-failed × Broken command in-old in-new out-old out-new
