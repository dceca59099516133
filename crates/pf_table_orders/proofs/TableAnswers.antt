-- What a table answers, as a discovery and as a closure.
use Rattle.std.proofs.Common.{◌≡◌, ◌∙◌, ℕ, ℤ, List, Option, Some, sym, subst, nat_eq}
use Rattle.std.specs.Prelude.{IfSome}
use Rattle.std.specs.Borrow.{Bor}
use Rattle.std.specs.Fn.{Mut, Called}
use Rattle.std.specs.Iterator.{YieldsFirst, item_count}
use Rattle.std.specs.List.{IsDistinct}
use Rattle.std.proofs.lemmas.Iterator.Consumers.{YieldsList-from_first}
use Rattle.pf_base.specs.Answers.{AnswersSuccessors}
use Rattle.pf_base.specs.NodeRefs.{HasSameNodes}
use Rattle.pf_base.proofs.Sources.{gives_chain}
use Rattle.pf_discovery.specs.declared.discovery.DiscoveryBy.{DiscoveryBy}
use Rattle.pf_discovery.specs.declared.source.Unweighted.{Unweighted}
use Rattle.pf_discovery.specs.Sources.{AnswersHops}
use Rattle.pf_orders.specs.Internal.Beginnings.{Begins}
use Rattle.pf_tables.specs.Graphs.{successors_of}
use Rattle.pf_table_functions.specs.Internal.Edges.{ends_of}
use Rattle.pf_table_functions.specs.TableFunctions.{TableListsSuccessors}
use Rattle.pf_table_functions.proofs.EdgeLemmas.{table_successors}
use Rattle.pf_table_functions.proofs.TableExplores.{table_hops}

-- two things that one fact shows
pub both_of : {A P Q : Type 0} → (A → P) → (A → Q) → A → P × Q
both_of p q a = (p a, q a)

module _ {C G : Type 0} (value : C → ℤ) (size : G → ℕ) (places : G → ℕ → List (Option (ℕ × C))) (table : G) where
  -- a discovery of it that has the starts alone begins with them
  pub discovery_begins : {starts keys : List ℕ} {found : Option (List ℕ)} {d : DiscoveryBy (List ℕ) (Unweighted G)} → d ≡ record { nodes = keys; source = record { function = table } } → found ≡ Some keys
      → IfSome found (λ ks. IsDistinct nat_eq ks) → IfSome found (λ ks. HasSameNodes nat_eq ks starts) → Begins nat_eq (AnswersHops nat_eq (TableListsSuccessors value size places)) starts (successors_of value (size table) (places table)) d.nodes d.source
  discovery_begins {starts} {keys} {found} {d} made is once same =
      let distinct : IsDistinct nat_eq keys = subst (λ (o : Option (List ℕ)). IfSome o (λ ks. IsDistinct nat_eq ks)) is once in
      let alike : HasSameNodes nat_eq keys starts = subst (λ (o : Option (List ℕ)). IfSome o (λ ks. HasSameNodes nat_eq ks starts)) is same in
      subst (λ (e : DiscoveryBy (List ℕ) (Unweighted G)). Begins nat_eq (AnswersHops nat_eq (TableListsSuccessors value size places)) starts (successors_of value (size table) (places table)) e.nodes e.source) (sym made)
      (record { same = alike; explores = table_hops value size places table starts keys distinct alike })

module _ {C : Type 0} (value : C → ℤ) (size : ℕ) (places : ℕ → List (Option (ℕ × C))) {F : Type 0} {calls : Mut F (Bor ℕ × Unit {0}) (List ℕ)} {within : ℕ → Type 0} {f : F} where
  -- a closure whose answer has those nodes left answers its successors
  pub closure_successors : ((x : Bor ℕ) → within x.now → calls.pre f (x, tt)) → ((x : Bor ℕ) (r : List ℕ) (t : F) → within x.now → Called calls f (x, tt) r t → (t ≡ f) × (r ≡ ends_of size places x.now))
      → AnswersSuccessors calls (λ r it. it ≡ r) (λ _. Unit {0}) (item_count {A = ℕ} (λ (nodes : List ℕ). nodes)) (YieldsFirst (λ (nodes : List ℕ). nodes)) nat_eq f within (successors_of value size places)
  closure_successors takes gives = table_successors value size places takes (λ x r t w k. let h = gives x r t w k in (h.0, gives_chain (λ it b. (tt, tt, YieldsList-from_first (λ e. e) (λ es. es) _ (b ∙ h.1)))))
