use Rattle.std.proofs.Common.{◌≡◌, ◌<◌, ◌≤◌, ◌∙◌, ◌++◌, ◌∷◌, [], ℕ, Bool, true, false, List, Some, ap, sym, subst, length, inl, arith, refl, slice_get, get_or, take}
use Rattle.std.specs.Prelude.{Contains, MatchOption, None, Option, reverse}
use Rattle.std.specs.Cmp.{IsEquivalence}
use Rattle.std.specs.List.{AllZip}
use Rattle.pf_base.specs.Answers.{SameNodes}
use Rattle.pf_base.specs.Orders.{last_nodes}
use Rattle.pf_base.specs.Regions.{along_successors}
use Rattle.pf_base.specs.Successors.{HasSuccessor}
use Rattle.pf_base.specs.Walks.{IsGoalPath, IsReachable}
use Rattle.pf_base.proofs.Asking.{Gives-drains, Gives-ends}
use Rattle.pf_base.proofs.ListLemmas.{at_place}
use Rattle.pf_base.proofs.Outcomes.{if_refused, refused_as}
use Rattle.pf_core.specs.Nodes.{AddsNode, StandsFor}
use Rattle.pf_core.specs.NodeLaws.{StandsFor-inside}
use Rattle.pf_core.proofs.OrderLemmas.{Same-trans}
use Rattle.pf_search.specs.Internal.Descents.{waiting_at, AllHeld, IsDescent, StandsBefore}
use Rattle.pf_search.specs.Preorder.{IsFirstTreePath}
use Rattle.pf_search.specs.declared.directed.dfs.descent.Waiting.{Waiting}
use Rattle.pf_search.proofs.BreadthLemmas.{Same-sym}
use Rattle.pf_search.proofs.DescentLemmas.{distinct_before, preorder_before, ended_on, entered_on, found_first, last_same, same_at, stands_on, visited_reach}
use Rattle.pf_search.proofs.PreorderPaths.{none_more, none_passes, numbers_inside}
use Rattle.pf_search.proofs.directed.dfs.path_to_first.Goals as goal

-- what is said of a number that was entered
abbrev IsEntered : {N : Type 0} → (N → N → Bool) → List N → List ℕ → List (Waiting N) → List N → List ℕ → List (Waiting N) → ℕ → Type 0
IsEntered {N} eq keys numbers waiting keys' numbers' waiting' k = (passed : List (Waiting N)) × (w : Waiting N) × (reverse waiting ≡ passed ++ w ∷ reverse waiting') × AllHeld eq keys passed
    × (k ≡ length keys) × (keys' ≡ keys ++ w.node ∷ []) × StandsFor eq keys' k w.node × AddsNode eq w.node keys keys' × (numbers' ≡ take w.depth numbers ++ k ∷ [])

-- where it stands
inside_at : {N : Type 0} (eq : N → N → Bool) (keys : List N) (numbers : List ℕ) (waiting : List (Waiting N)) (keys' : List N) (numbers' : List ℕ) (waiting' : List (Waiting N)) (number : ℕ) (o : Option ℕ) → o ≡ Some number
    → MatchOption o (AllHeld eq keys (reverse waiting)) (λ k. IsEntered eq keys numbers waiting keys' numbers' waiting' k) → (nodes : List N) → nodes ≡ keys' → number < length nodes
inside_at eq keys numbers waiting keys' numbers' waiting' number o is h nodes same =
    let e = subst (λ (p : Option ℕ). MatchOption p (AllHeld eq keys (reverse waiting)) (λ k. IsEntered eq keys numbers waiting keys' numbers' waiting' k)) {x = o} {y = Some number} is h in
    subst (λ (ns : List _). number < length ns) {x = keys'} {y = nodes} (sym same) (StandsFor-inside eq keys' number e.1.node e.6)

at_most : (k n : ℕ) → k < n → k ≤ n
at_most k n l = omega (arith, l)

none_held : {N : Type 0} (eq : N → N → Bool) (keys : List N) (waiting : List (Waiting N)) (P : ℕ → Type 0) (o : Option ℕ) → o ≡ None → MatchOption o (AllHeld eq keys (reverse waiting)) P → AllHeld eq keys (reverse waiting)
none_held eq keys waiting P o is h = subst (λ (p : Option ℕ). MatchOption p (AllHeld eq keys (reverse waiting)) P) {x = o} {y = None} is h

-- the nodes of a path by another name of the numbers and of the keys
same_zip : {N : Type 0} (eq : N → N → Bool) (nodes keys : List N) (ks numbers : List ℕ) (items : List N) → nodes ≡ keys → ks ≡ numbers → AllZip (StandsFor eq nodes) ks items → AllZip (StandsFor eq keys) numbers items
same_zip eq nodes keys ks numbers items e f z = subst (λ (ns : List _). AllZip (StandsFor eq ns) numbers items) e (subst (λ (l : List ℕ). AllZip (StandsFor eq nodes) l items) f z)

module _ {N : Type 0} (eq : N → N → Bool) (laws : IsEquivalence eq) (next : N → List N) (start : N) (paths : List (List N)) (keys : List N) (numbers : List ℕ) (waiting : List (Waiting N)) (keys' : List N) (numbers' : List ℕ) (waiting' : List (Waiting N)) (number : ℕ)
    (o : Option ℕ) (is : o ≡ Some number) (entered : MatchOption o (AllHeld eq keys (reverse waiting)) (λ k. IsEntered eq keys numbers waiting keys' numbers' waiting' k)) (stood : StandsBefore eq next start paths keys numbers waiting) where
  abbrev Reached : N → Type 0
  Reached = IsReachable eq (HasSuccessor eq next) (start ∷ [])

  record Here : Type 0 where
    pub node : N
    pub path : List N
    pub up : List N
    pub last : last_nodes (path ∷ []) ≡ node ∷ []
    pub descent : IsDescent eq next start (paths ++ path ∷ []) node up up keys' numbers' waiting'
    pub stands : StandsFor eq keys' number node

  here : Here
  here =
      let e = subst (λ (p : Option ℕ). MatchOption p (AllHeld eq keys (reverse waiting)) (λ k. IsEntered eq keys numbers waiting keys' numbers' waiting' k)) {x = o} {y = Some number} is entered in
      let d = entered_on eq laws next start paths keys numbers waiting e.0 e.1 waiting' e.2 e.3 keys' e.7 e.5 number e.6 numbers' e.8 stood in
      record { node = e.1.node; path = d.path; up = d.up; last = d.last; descent = d.descent; stands = e.6 }

  at : (nodes : List N) → nodes ≡ keys' → (node : N) → node ≡ get_or nodes number node → slice_get keys' number ≡ Some node
  at nodes same node e = at_place keys' number node node (StandsFor-inside eq keys' number here.node here.stands) (sym (subst (λ (ns : List N). node ≡ get_or ns number node) same e))

  reached : (nodes : List N) → nodes ≡ keys' → (node : N) → node ≡ get_or nodes number node → Reached node
  reached nodes same node e = visited_reach eq laws next start (paths ++ here.path ∷ []) here.node here.up here.up keys' numbers' waiting' here.descent number node (at nodes same node e)

  along : (nodes : List N) → nodes ≡ keys' → (ks : List ℕ) → ks ≡ numbers' → (k : ℕ) → Contains ks k → k < length nodes
  along nodes same ks e k m = subst (λ (ns : List N). k < length ns) (sym same) (numbers_inside eq keys' numbers' _ here.descent.path k (subst (λ (l : List ℕ). Contains l k) e m))

  module _ (test : N → Bool) (alike : (a b : N) → Reached a → eq a b ≡ true → SameNodes eq (next a) (next b)) (tests : (a b : N) → Reached a → eq a b ≡ true → test a ≡ test b) (fails : (y : N) → Contains (last_nodes paths) y → test y ≡ false)
      (nodes : List N) (same : nodes ≡ keys') (node : N) (read : node ≡ get_or nodes number node) where
    ends_at : SameNodes eq (last_nodes (here.path ∷ [])) (node ∷ [])
    ends_at = last_same eq laws here.path keys' number node here.node here.last (at nodes same node read) here.stands

    first : test node ≡ true → (items : List N) → AllZip (StandsFor eq keys') numbers' items → IsGoalPath eq (HasSuccessor eq next) (start ∷ []) test items × IsFirstTreePath eq next start test items
    first good items z = found_first eq laws next start paths here.path here.node here.up keys' numbers' waiting' here.descent test alike tests node ends_at good items z fails

    goes : test node ≡ false → (others : List N) → others ≡ keys' → (asked : N) → asked ≡ get_or others number asked → (xs : List N) → SameNodes eq xs (next asked) → (found : List N) (ks : List ℕ) (wait : List (Waiting N)) → found ≡ keys' → ks ≡ numbers'
        → (depth : ℕ) → depth ≡ length numbers' → reverse wait ≡ waiting_at depth xs ++ reverse waiting' → (more : List (List N)) × StandsBefore eq next start more found ks wait × ((y : N) → Contains (last_nodes more) y → test y ≡ false)
    goes bad others known asked e xs listed found ks wait f k depth deep order =
        let x = here.node in
        let there = at others known asked e in
        let turned = alike asked x (reached others known asked e) (same_at eq laws keys' number asked x there here.stands) in (
          paths ++ here.path ∷ [],
          stands_on eq laws next start paths here.path x here.up keys' numbers' waiting' here.descent xs found ks wait
              (Same-trans eq laws (next x) (next asked) xs (Same-sym eq laws (next asked) (next x) turned) (Same-sym eq laws xs (next asked) listed)) f k (order ∙ ap (λ (n : ℕ). waiting_at n xs ++ reverse waiting') deep),
          none_more eq laws next start test alike tests paths here.path node here.descent.preorder ends_at bad fails,
        )

pub nodes-init : goal.nodes-init
nodes-init g c = λ next start test s. ([], inl (refl, s.unvisited, s.unbegun, s.waits), s.answered, s.tested, λ x h. absurd (omega (arith, h.1)))

pub enter-requires : goal.enter-requires
enter-requires g c =
    let r = c.requires.graph in
    let v = c.nodes.invariant r.0 r.1 r.2 r.3 in
    record { distinct = distinct_before g.N.PartialEq.eq g.met.N.Eq.laws r.0 r.1 v.0 (g.M.Numbering.keys c.nodes.descent.visited) c.nodes.descent.path.items c.nodes.descent.waiting.items v.1 }

pub returns-in_err-number-clause-first : goal.returns-in_err-number-clause-first
returns-in_err-number-clause-first g c = λ next start test s. if_refused _ c.from_residual.result _ c.from_residual.ensures.1

pub returns-in_err-number-clause-errors : goal.returns-in_err-number-clause-errors
returns-in_err-number-clause-errors g c = refused_as _ c.from_residual.result _ c.from_residual.ensures.1 c.in_err-number.ensures.refused

pub returns-in_default-clause-first : goal.returns-in_default-clause-first
returns-in_default-clause-first g c = λ next start test s.
    let eq = g.N.PartialEq.eq in
    let laws = g.met.N.Eq.laws in
    let v = c.nodes.invariant next start test s in
    let keys = g.M.Numbering.keys c.nodes.descent.visited in
    let numbers = c.nodes.descent.path.items in
    let waiting = c.nodes.descent.waiting.items in
    let held = none_held eq keys waiting _ c.in_ok-number.field-0 c.in_default.is c.in_ok-number.ensures.entered in
    none_passes eq laws next start test s.alike s.tests_alike v.0 (preorder_before eq laws next start v.0 keys numbers waiting v.1) (ended_on eq laws next start v.0 keys numbers waiting v.1 held) v.4

pub returns-in_default-clause-errors : goal.returns-in_default-clause-errors
returns-in_default-clause-errors g c = tt

pub bounds-as_slice-number : goal.bounds-as_slice-number
bounds-as_slice-number g c = inside_at g.N.PartialEq.eq (g.M.Numbering.keys c.nodes.descent.visited) c.nodes.descent.path.items c.nodes.descent.waiting.items (g.M.Numbering.keys c.enter.new.self.visited) c.enter.new.self.path.items c.enter.new.self.waiting.items c.in-Some.number c.in_ok-number.field-0 c.in-Some.is c.in_ok-number.ensures.entered c.as_slice.result.now c.as_slice.ensures.keys

pub offset_bounds-as_slice-number : goal.offset_bounds-as_slice-number
offset_bounds-as_slice-number g c = at_most _ _ (inside_at g.N.PartialEq.eq (g.M.Numbering.keys c.nodes.descent.visited) c.nodes.descent.path.items c.nodes.descent.waiting.items (g.M.Numbering.keys c.enter.new.self.visited) c.enter.new.self.path.items c.enter.new.self.waiting.items c.in-Some.number c.in_ok-number.field-0 c.in-Some.is c.in_ok-number.ensures.entered c.as_slice.result.now c.as_slice.ensures.keys)

pub passes-requires : goal.passes-requires
passes-requires g c =
    let r = c.requires.graph in
    let v = c.nodes.invariant r.0 r.1 r.2 r.3 in
    record { within = (along_successors (r.1 ∷ []) r.0, r.2, reached g.N.PartialEq.eq g.met.N.Eq.laws r.0 r.1 v.0 (g.M.Numbering.keys c.nodes.descent.visited) c.nodes.descent.path.items c.nodes.descent.waiting.items (g.M.Numbering.keys c.enter.new.self.visited) c.enter.new.self.path.items c.enter.new.self.waiting.items c.in-Some.number c.in_ok-number.field-0 c.in-Some.is c.in_ok-number.ensures.entered v.1 c.as_slice.result.now c.as_slice.ensures.keys c.index-as_slice-number.result c.index-as_slice-number.is, v.3) }

pub clones_along-requires-clause-clones : goal.clones_along-requires-clause-clones
clones_along-requires-clause-clones g c = c.requires.clones

pub clones_along-requires-clause-inside : goal.clones_along-requires-clause-inside
clones_along-requires-clause-inside g c =
    let r = c.requires.graph in
    let v = c.nodes.invariant r.0 r.1 r.2 r.3 in
    along g.N.PartialEq.eq g.met.N.Eq.laws r.0 r.1 v.0 (g.M.Numbering.keys c.nodes.descent.visited) c.nodes.descent.path.items c.nodes.descent.waiting.items (g.M.Numbering.keys c.enter.new.self.visited) c.enter.new.self.path.items c.enter.new.self.waiting.items c.in-Some.number c.in_ok-number.field-0 c.in-Some.is c.in_ok-number.ensures.entered v.1 c.as_slice-then-passes.result.now c.as_slice-then-passes.ensures.keys c.deref.result.now c.deref.ensures.value

pub returns-in_err-path-clause-first : goal.returns-in_err-path-clause-first
returns-in_err-path-clause-first g c = λ next start test s. if_refused _ c.from_residual-in_err-path.result _ c.from_residual-in_err-path.ensures.1

pub returns-in_err-path-clause-errors : goal.returns-in_err-path-clause-errors
returns-in_err-path-clause-errors g c = refused_as _ c.from_residual-in_err-path.result _ c.from_residual-in_err-path.ensures.1 c.in_err-path.ensures.refused

pub returns-then-passes-clause-first : goal.returns-then-passes-clause-first
returns-then-passes-clause-first g c = λ next start test s.
    let v = c.nodes.invariant next start test s in
    let node = c.index-as_slice-number.result in
    let reach = reached g.N.PartialEq.eq g.met.N.Eq.laws next start v.0 (g.M.Numbering.keys c.nodes.descent.visited) c.nodes.descent.path.items c.nodes.descent.waiting.items (g.M.Numbering.keys c.enter.new.self.visited) c.enter.new.self.path.items c.enter.new.self.waiting.items c.in-Some.number c.in_ok-number.field-0 c.in-Some.is c.in_ok-number.ensures.entered v.1 c.as_slice.result.now c.as_slice.ensures.keys node c.index-as_slice-number.is in
    let passed = c.passes.ensures.passed (along_successors (start ∷ []) next) test reach v.3 in
    first g.N.PartialEq.eq g.met.N.Eq.laws next start v.0 (g.M.Numbering.keys c.nodes.descent.visited) c.nodes.descent.path.items c.nodes.descent.waiting.items (g.M.Numbering.keys c.enter.new.self.visited) c.enter.new.self.path.items c.enter.new.self.waiting.items c.in-Some.number c.in_ok-number.field-0 c.in-Some.is c.in_ok-number.ensures.entered v.1 test s.alike s.tests_alike v.4 c.as_slice.result.now c.as_slice.ensures.keys node c.index-as_slice-number.is (sym passed ∙ c.if-passes.true) c.in_ok-path.path.items
    (same_zip g.N.PartialEq.eq c.as_slice-then-passes.result.now (g.M.Numbering.keys c.enter.new.self.visited) c.deref.result.now c.enter.new.self.path.items c.in_ok-path.path.items c.as_slice-then-passes.ensures.keys c.deref.ensures.value c.in_ok-path.ensures.nodes)

pub returns-then-passes-clause-errors : goal.returns-then-passes-clause-errors
returns-then-passes-clause-errors g c = tt

pub returns-in_err-depth-clause-first : goal.returns-in_err-depth-clause-first
returns-in_err-depth-clause-first g c = λ next start test s. if_refused _ c.from_residual-in_err-depth.result _ c.from_residual-in_err-depth.ensures.1

pub returns-in_err-depth-clause-errors : goal.returns-in_err-depth-clause-errors
returns-in_err-depth-clause-errors g c = refused_as _ c.from_residual-in_err-depth.result _ c.from_residual-in_err-depth.ensures.1 c.in_err-depth.ensures.refused

pub bounds-as_slice-number-in-nodes : goal.bounds-as_slice-number-in-nodes
bounds-as_slice-number-in-nodes g c = inside_at g.N.PartialEq.eq (g.M.Numbering.keys c.nodes.descent.visited) c.nodes.descent.path.items c.nodes.descent.waiting.items (g.M.Numbering.keys c.enter.new.self.visited) c.enter.new.self.path.items c.enter.new.self.waiting.items c.in-Some.number c.in_ok-number.field-0 c.in-Some.is c.in_ok-number.ensures.entered c.as_slice-in-nodes.result.now c.as_slice-in-nodes.ensures.keys

pub offset_bounds-as_slice-number-in-nodes : goal.offset_bounds-as_slice-number-in-nodes
offset_bounds-as_slice-number-in-nodes g c = at_most _ _ (inside_at g.N.PartialEq.eq (g.M.Numbering.keys c.nodes.descent.visited) c.nodes.descent.path.items c.nodes.descent.waiting.items (g.M.Numbering.keys c.enter.new.self.visited) c.enter.new.self.path.items c.enter.new.self.waiting.items c.in-Some.number c.in_ok-number.field-0 c.in-Some.is c.in_ok-number.ensures.entered c.as_slice-in-nodes.result.now c.as_slice-in-nodes.ensures.keys)

pub successors-items-requires : goal.successors-items-requires
successors-items-requires g c =
    let r = c.requires.graph in
    let v = c.nodes.invariant r.0 r.1 r.2 r.3 in
    record { within = (r.1 ∷ [], r.0, reached g.N.PartialEq.eq g.met.N.Eq.laws r.0 r.1 v.0 (g.M.Numbering.keys c.nodes.descent.visited) c.nodes.descent.path.items c.nodes.descent.waiting.items (g.M.Numbering.keys c.enter.new.self.visited) c.enter.new.self.path.items c.enter.new.self.waiting.items c.in-Some.number c.in_ok-number.field-0 c.in-Some.is c.in_ok-number.ensures.entered v.1 c.as_slice-in-nodes.result.now c.as_slice-in-nodes.ensures.keys c.index-as_slice-number-in-nodes.result c.index-as_slice-number-in-nodes.is, v.2) }

pub put-requires : goal.put-requires
put-requires g c =
    let r = c.requires.graph in
    let v = c.nodes.invariant r.0 r.1 r.2 r.3 in
    let reach = reached g.N.PartialEq.eq g.met.N.Eq.laws r.0 r.1 v.0 (g.M.Numbering.keys c.nodes.descent.visited) c.nodes.descent.path.items c.nodes.descent.waiting.items (g.M.Numbering.keys c.enter.new.self.visited) c.enter.new.self.path.items c.enter.new.self.waiting.items c.in-Some.number c.in_ok-number.field-0 c.in-Some.is c.in_ok-number.ensures.entered v.1 c.as_slice-in-nodes.result.now c.as_slice-in-nodes.ensures.keys c.index-as_slice-number-in-nodes.result c.index-as_slice-number-in-nodes.is in
    record { ends = Gives-ends _ _ _ _ _ _ (c.successors-items.ensures.listed (r.1 ∷ []) r.0 reach v.2) }

pub returns-in_err-put-clause-first : goal.returns-in_err-put-clause-first
returns-in_err-put-clause-first g c = λ next start test s. if_refused _ c.from_residual-in_err-put.result _ c.from_residual-in_err-put.ensures.1

pub returns-in_err-put-clause-errors : goal.returns-in_err-put-clause-errors
returns-in_err-put-clause-errors g c = refused_as _ c.from_residual-in_err-put.result _ c.from_residual-in_err-put.ensures.1 c.in_err-put.ensures.refused

pub nodes-smaller : goal.nodes-smaller
nodes-smaller g c = omega (arith, c.nodes-test.true)

pub nodes-preserved : goal.nodes-preserved
nodes-preserved g c = λ next start test s.
    let v = c.nodes.invariant next start test s in
    let node = c.index-as_slice-number.result in
    let asked = c.index-as_slice-number-in-nodes.result in
    let reach = reached g.N.PartialEq.eq g.met.N.Eq.laws next start v.0 (g.M.Numbering.keys c.nodes.descent.visited) c.nodes.descent.path.items c.nodes.descent.waiting.items (g.M.Numbering.keys c.enter.new.self.visited) c.enter.new.self.path.items c.enter.new.self.waiting.items c.in-Some.number c.in_ok-number.field-0 c.in-Some.is c.in_ok-number.ensures.entered v.1 c.as_slice.result.now c.as_slice.ensures.keys node c.index-as_slice-number.is in
    let found = reached g.N.PartialEq.eq g.met.N.Eq.laws next start v.0 (g.M.Numbering.keys c.nodes.descent.visited) c.nodes.descent.path.items c.nodes.descent.waiting.items (g.M.Numbering.keys c.enter.new.self.visited) c.enter.new.self.path.items c.enter.new.self.waiting.items c.in-Some.number c.in_ok-number.field-0 c.in-Some.is c.in_ok-number.ensures.entered v.1 c.as_slice-in-nodes.result.now c.as_slice-in-nodes.ensures.keys asked c.index-as_slice-number-in-nodes.is in
    let region = along_successors (start ∷ []) next in
    let passed = c.passes.ensures.passed region test reach v.3 in
    let p = c.in_ok-put.ensures.put in
    let listed = Gives-drains _ _ _ _ _ _ (c.successors-items.ensures.listed (start ∷ []) next found v.2) p.0 p.1 p.2 p.3 in
    let q = goes g.N.PartialEq.eq g.met.N.Eq.laws next start v.0 (g.M.Numbering.keys c.nodes.descent.visited) c.nodes.descent.path.items c.nodes.descent.waiting.items (g.M.Numbering.keys c.enter.new.self.visited) c.enter.new.self.path.items c.enter.new.self.waiting.items c.in-Some.number c.in_ok-number.field-0 c.in-Some.is c.in_ok-number.ensures.entered v.1 test s.alike s.tests_alike v.4 c.as_slice.result.now c.as_slice.ensures.keys node c.index-as_slice-number.is (sym passed ∙ c.if-passes.false) c.as_slice-in-nodes.result.now c.as_slice-in-nodes.ensures.keys asked c.index-as_slice-number-in-nodes.is
    p.1 listed (g.M.Numbering.keys c.put.new.self.visited) c.put.new.self.path.items c.put.new.self.waiting.items (ap g.M.Numbering.keys c.in_ok-put.ensures.visited) c.in_ok-put.ensures.path _ c.in_ok-depth.ensures.depth p.4 in (
      q.0,
      q.1,
      c.successors-items.ensures.goes_on (start ∷ []) next found v.2,
      c.passes.ensures.goes_on region test reach v.3,
      q.2,
    )

pub returns-clause-first : goal.returns-clause-first
returns-clause-first g c = λ next start test s. tt

pub returns-clause-errors : goal.returns-clause-errors
returns-clause-errors g c = refl
