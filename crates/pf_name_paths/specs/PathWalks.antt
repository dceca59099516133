-- What contracts say of the lazy list of clean paths between two names.
use Rattle.std.specs.Prelude.{◌≡◌, ◌⊎◌, ◌++◌, ◌-◌, ◌^◌, ◌<◌, ℕ, ℤ, Bool, true, false, List, [], ◌∷◌, Option, Some, None, Result, Ok, Err, Vec, ⊤, Contains, MatchOption, get_or, length, map, nat_eq, take}
use Rattle.std.specs.Borrow.{Bor}
use Rattle.std.specs.Option.{option_map}
use Rattle.pf_base.specs.declared.error.PathError.{PathError}
use Rattle.pf_base.specs.NodeRefs.{nodes_of}
use Rattle.pf_core.specs.Nodes.{StandsFor}
use Rattle.pf_edge_lists.specs.EdgeLists.{NamesAndEdges, edges_from, names_of, places_of}
use Rattle.pf_name_numbers.specs.declared.numbers.NameGoal.{NameGoal}
use Rattle.pf_name_numbers.specs.Numbered.{is_numbered, names_with}
use Rattle.pf_table_paths.specs.RankedWalks.{TablePathWalk, IsPathWalkInTable, PathStepInTable}
use Rattle.pf_tables.specs.Graphs.{graph_of}
use Rattle.pf_yen.specs.CleanPaths.{AllGiven, IsCleanPath, IsNextPath, RefusedFor}
use Rattle.pf_yen.specs.Counting.{most_paths}
use Rattle.pf_yen.specs.Walk.{PathWalk, IsBarred, IsEnded, StepKeepsBar}

-- the list of clean paths over the numbers of a list
abbrev pub NumberedPaths : (N C : Type 0) → Type 0
NumberedPaths N C = TablePathWalk C (NamesAndEdges N C) NameGoal

-- what a caller sees of the clean paths between two names: the list, the name that they begin at and the one that they lead to, and the paths in names, as over functions; in the places of which stand the paths over numbers, and the path of numbers that was taken from these and waits to be named, of which a caller need know nothing
pub record NamePathWalk (N C : Type 0) : Type 0 where
  pub list : NamesAndEdges N C
  pub from : N
  pub to : N
  pub walk : PathWalk N C (NumberedPaths N C) (Option (List ℕ × C))

-- the path that waits
abbrev pub taken_path : {C A : Type 0} → Option (Vec ℕ A × C) → Option (List ℕ × C)
taken_path {C} {A} waiting = option_map (λ (p : Vec ℕ A × C). (p.0.items, p.1)) waiting

-- the given paths but the last, where that one waits
abbrev pub given_but : {X : Type 0} → List X → Option X → List X
given_but given None = given
given_but given (Some last) = take (length given - 1) given

-- the step was refused
abbrev pub has_refused : {X : Type 0} → Option (Result X PathError) → Bool
has_refused None = false
has_refused (Some (Ok path)) = false
has_refused (Some (Err refusal)) = true

-- the step gave neither a path nor a refusal
abbrev pub has_ended : {X : Type 0} → Option X → Bool
has_ended None = true
has_ended (Some step) = false

-- where a step gave a path, fewer had been given than there can be
abbrev pub HasRoom : {N C F T X : Type 0} → PathWalk N C F T → Option (Result X PathError) → Type 0
HasRoom walk (Some (Ok path)) = length walk.given < most_paths (2 ^ 64)
HasRoom walk (Some (Err refusal)) = ⊤
HasRoom walk None = ⊤

module _ {N C : Type 0} (eq : N → N → Bool) where
  -- a path in names, with its cost: of a number that the list does not have, the other name
  abbrev pub path_by_name : NamesAndEdges N C → N → List ℕ × C → List N × C
  path_by_name list other path = (map (λ number. get_or (names_of eq list) number other) path.0, path.1)

  -- the clean paths over the numbers of a list, in names
  abbrev pub path_walk_by_name : NamesAndEdges N C → N → N → NumberedPaths N C → Option (List ℕ × C) → Bool → Bool → NamePathWalk N C
  path_walk_by_name list from to numbers waiting refused ended = record {
    list = list;
    from = from;
    to = to;
    walk = record {
      given = map (path_by_name list from) (given_but numbers.walk.given waiting);
      refused = refused;
      barred = numbers.walk.barred;
      ended = ended;
      successors = numbers;
      success = waiting;
      plans = record {
        nodes = map (λ number. get_or (names_of eq list) number from) numbers.walk.plans.nodes;
        adjacency = numbers.walk.plans.adjacency;
        has_begun = numbers.walk.plans.has_begun;
        waiting = numbers.walk.plans.waiting;
        chosen = numbers.walk.plans.chosen;
        is_given = numbers.walk.plans.is_given;
      };
    };
  }

  -- what naming a path gives, and which path waits then: the names of its numbers, or a refusal for want of memory, behind which it waits; what is no path stays
  abbrev pub IsNamed : {A : Type 0} → NamesAndEdges N C → N → Option (Result (Vec ℕ A × C) PathError) → Option (List ℕ × C) → Option (List ℕ × C) → Option (Result (Vec (Bor N) A × C) PathError) → Type 0
  IsNamed list other None before after named = (named ≡ None) × (after ≡ before)
  IsNamed list other (Some (Err refusal)) before after named = (named ≡ Some (Err refusal)) × (after ≡ before)
  IsNamed {A} list other (Some (Ok path)) before after named = ((names : Vec (Bor N) A) × (named ≡ Some (Ok (names, path.1))) × (nodes_of names.items ≡ map (λ number. get_or (names_of eq list) number other) path.0.items) × (after ≡ before))
      ⊎ ((named ≡ Some (Err PathError.OutOfMemory)) × (after ≡ Some (path.0.items, path.1)))

  -- the graph of the list, by number
  abbrev pub graph_by_number : (C → ℤ) → NamesAndEdges N C → ℕ → List (ℕ × ℤ)
  graph_by_number value list = graph_of value (length (names_of eq list)) (places_of eq list)

  module _ (value : C → ℤ) (fits : ℤ → Type 0) where
    -- the path is the one that was given last, the next behind the others, and no step was refused since
    pub record IsTaken (list : NamesAndEdges N C) (numbers : NumberedPaths N C) (path : List ℕ × C) : Type 0 where
      pub before : List (List ℕ × C)
      pub is : numbers.walk.given ≡ before ++ path ∷ []
      pub next : IsNextPath nat_eq (graph_by_number value list) numbers.start (is_numbered numbers.goals.number) value before path.0 path.1
      pub unbarred : ¬ (IsBarred numbers.walk)
      pub room : length before < most_paths (2 ^ 64)

    -- The paths over numbers are those of the list between numbers of the two names; the path that waits is the one that was given last; and at the end each was given.
    pub record IsListed (list : NamesAndEdges N C) (from to : N) (numbers : NumberedPaths N C) (waiting : Option (List ℕ × C)) (refused ended : Bool) : Type 0 where
      pub table : numbers.table ≡ list
      pub begins : StandsFor eq (names_with eq list from) numbers.start from
      pub tests : (k : ℕ) (x : N) → StandsFor eq (names_with eq list from) k x → is_numbered numbers.goals.number k ≡ eq x to
      pub walks : IsPathWalkInTable value (λ l. length (names_of eq l)) (places_of eq) (λ (goal : NameGoal). is_numbered goal.number) fits numbers
      pub clean : (p : List ℕ × C) → Contains numbers.walk.given p → IsCleanPath nat_eq (graph_by_number value list) numbers.start (is_numbered numbers.goals.number) p.0
      pub lowered : numbers.walk.refused ≡ true → refused ≡ true
      pub waits : MatchOption waiting ⊤ (IsTaken list numbers)
      pub ends : ended ≡ true → (waiting ≡ None) × ¬ (IsBarred numbers.walk) × AllGiven nat_eq (graph_by_number value list) numbers.start (is_numbered numbers.goals.number) value numbers.walk.given

    -- The clean paths are those of the graph of the list between the two names: where a step that was refused for a cost overflow is to come, that refusal may come, and the end is not reached; at the end each clean path was given.
    pub record IsPathWalkByName (s : NamePathWalk N C) : Type 0 where
      pub bar : IsBarred s.walk → RefusedFor eq (edges_from eq value s.list) s.from (λ x. eq x s.to) value fits s.walk.given PathError.CostOverflow × ¬ (IsEnded s.walk)
      pub ends : IsEnded s.walk → AllGiven eq (edges_from eq value s.list) s.from (λ x. eq x s.to) value s.walk.given
      pub numbers : IsListed s.list s.from s.to s.walk.successors s.walk.success s.walk.refused s.walk.ended

    -- what a step takes from the paths over numbers: the path that waited, or what their next step gives; then none waits
    abbrev pub IsTakenFrom : {A : Type 0} → NumberedPaths N C → Option (Vec ℕ A × C) → Option (Result (Vec ℕ A × C) PathError) → NumberedPaths N C → Type 0
    IsTakenFrom {A} before waiting path after = MatchOption waiting
        (PathStepInTable value (λ l. length (names_of eq l)) (places_of eq) (λ (goal : NameGoal). is_numbered goal.number) fits before path after × HasRoom before.walk path)
        (λ (p : Vec ℕ A × C). (path ≡ Some (Ok p)) × (after ≡ before))

    -- What a call of `next` gives, and how it leaves the paths.
    -- a path: the next by rising cost, which is the last of the given ones from then on
    -- no path: the last step was refused, or each clean path was given, and the end is reached
    -- a refusal, of which there is none at the end: the given paths stay
    abbrev pub GivesPath : {A : Type 0} → NamePathWalk N C → Option (Result (Vec (Bor N) A × C) PathError) → NamePathWalk N C → Type 0
    GivesPath s (Some (Ok item)) t = (s.walk.refused ≡ false) × (t.walk.refused ≡ false) × IsNextPath eq (edges_from eq value s.list) s.from (λ x. eq x s.to) value s.walk.given (nodes_of item.0.items) item.1 × (t.walk.given ≡ s.walk.given ++ (nodes_of item.0.items, item.1) ∷ [])
    GivesPath s None t = ((s.walk.refused ≡ true) ⊎ (AllGiven eq (edges_from eq value s.list) s.from (λ x. eq x s.to) value s.walk.given × IsEnded t.walk)) × (t.walk.refused ≡ s.walk.refused) × (t.walk.given ≡ s.walk.given)
    GivesPath s (Some (Err refusal)) t = (s.walk.refused ≡ false) × (t.walk.refused ≡ true) × RefusedFor eq (edges_from eq value s.list) s.from (λ x. eq x s.to) value fits s.walk.given refusal × (t.walk.given ≡ s.walk.given) × ¬ (IsEnded s.walk)

    -- what a call of `next` gives, and how it leaves the paths: over this list, between these names
    abbrev pub PathStepByName : {A : Type 0} → NamePathWalk N C → Option (Result (Vec (Bor N) A × C) PathError) → NamePathWalk N C → Type 0
    PathStepByName s result t = (t.list ≡ s.list) × (t.from ≡ s.from) × (t.to ≡ s.to) × IsPathWalkByName t × GivesPath s result t × StepKeepsBar s.walk result t.walk
