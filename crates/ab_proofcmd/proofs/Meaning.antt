-- What elaboration answers in the scope of a goal is what the expression means there.
use Rattle.std.specs.Prelude.{◌≡◌, List, [], ◌∷◌, map, codes, Result, Ok, Err}
use Rattle.std.proofs.Common.{refl, sym, ◌∙◌, ap, subst}
use Rattle.ab_term.specs.Types.{Ty}
use Rattle.ab_term.specs.Terms.{Nominal}
use Rattle.ab_term.specs.Typing.{Signature}
use Rattle.ab_term.specs.Constants.{type_in}
use Rattle.ab_norm.specs.ab_types.specs.Entries.{Table, constants, signature}
use Rattle.ab_norm.specs.ab_types.specs.Sound.{IsTable}
use Rattle.ab_norm.specs.ab_store.specs.declared.node.TermId.{TermId}
use Rattle.ab_norm.specs.ab_store.specs.declared.node.CellId.{CellId}
use Rattle.ab_norm.specs.ab_store.specs.Trees.{Contents, tree_of, Holds}
use Rattle.ab_norm.specs.Nominals.{nominal_of}
use Rattle.ab_grammar.specs.Tree.{Tree, place_of}
use Rattle.ab_meaning.specs.ResolvedNames.{Name}
use Rattle.ab_meaning.specs.Scopes.{Entry, Scope, Place, in_proof, resolved}
use Rattle.ab_meaning.specs.Normal.{normal_form}
use Rattle.ab_infer.specs.ElaborationAnswers.{IsAnswer}
use Rattle.ab_infer.specs.Outcomes as making
use Rattle.ab_inference.specs.declared.fault.InferFault.{InferFault}
use Rattle.ab_inference.specs.declared.fault.InferFault.TheVariants.{Unknown, TypeClash, Untyped, Memory}
use Rattle.ab_infer.specs.NameScopes.{entries_in}
use Rattle.ab_infer.specs.ScopeReadings as elaborate
use Rattle.ab_infer.specs.declared.scopes.Scope as given
use Rattle.ab_formulas.specs.Declarations.{Declarations, signature_in}
use Rattle.ab_formulas.specs.Formulas.{HasOneTypeEach}
use Rattle.ab_formulas.specs.Sequents.{Sequent, goal_names}
use Rattle.ab_logic.specs.Worlds.{IsWorld, read, variable_of, declarations_of}
use Rattle.ab_logic.specs.declared.world.World.{World}
use Rattle.ab_logic.specs.declared.sequent.Sequent.{Sequent as Kept}
use Rattle.ab_meaning.specs.Terms.{kinds_in, entry_of, scope_of, made, Means}
use Rattle.ab_infer.specs.Lists.{HasLists}
use Rattle.ab_infer.proofs.Heads.{IsKnown, IsFree, names_known}
use Rattle.ab_infer.proofs.FittingMeanings.{made_there, fits}
use Rattle.ab_infer.proofs.GoalLookups.{same_settled, same_resolved}
use Rattle.ab_infer.proofs.Makings.{one_too, none_too, open_too}
use Rattle.ab_declare.proofs.Knowing.{world_knows, world_constants}
use Rattle.ab_proofcmd.specs.GoalScopes.{IsScopeOf}
use Rattle.ab_proofcmd.specs.GoalExpressions.{IsReadAs}

-- a world's declarations have the constants of lists
pub world_lists : (w : World) → IsWorld w → IsTable w.types → HasLists (declarations_of w)
world_lists w is table = (
  ap (λ cs. type_in cs (codes "::")) (world_constants w is) ∙ ap (λ t. type_in (constants t) (codes "::")) table.begins.1,
  ap (λ cs. type_in cs (codes "nil")) (world_constants w is) ∙ ap (λ t. type_in (constants t) (codes "nil")) table.begins.1,
)

same_entries : (w : World) (cs : List CellId) → entries_in w.types w.store cs ≡ map entry_of (map (variable_of w) cs)
same_entries w [] = refl
same_entries w (c ∷ cs) = ap (λ es. entry_of (variable_of w c) ∷ es) (same_entries w cs)

module _ (w : World) (is : IsWorld w) (table : IsTable w.types) (s : Kept) (S : Sequent) (same : S.variables ≡ map (variable_of w) s.variables) (one : HasOneTypeEach (goal_names S)) (scope : given.Scope) (of_goal : IsScopeOf w s (goal_names S) scope) where
  abbrev D : Declarations
  D = declarations_of w

  scope_by : List Name → Signature → List Entry → List Nominal → Place → Scope
  scope_by ks sg es ns place = record { kinds = ks; constants = sg; variables = es; nominals = ns; place = place }

  -- the scope, with the goal's names in another order
  abbrev goal_scope : Scope
  goal_scope = record { kinds = kinds_in D; constants = signature_in D; variables = map entry_of S.variables; nominals = map (nominal_of w.types) scope.nominals.items; place = in_proof }

  same_scope : elaborate.scope_of w.types w.store scope ≡ goal_scope
  unfolding scope_by
  same_scope =
      let ns = map (nominal_of w.types) scope.nominals.items in
      let es = entries_in w.types w.store scope.variables.items in
      let place = elaborate.place_in scope.in_proof in
      ap (λ ks. scope_by ks (signature w.types) es ns place) (sym (world_knows w is).kinds)
      ∙ ap (λ cs. scope_by (kinds_in D) (type_in cs) es ns place) (sym (world_constants w is))
      ∙ ap (λ vs. scope_by (kinds_in D) (signature_in D) vs ns place) (ap (entries_in w.types w.store) of_goal.variables ∙ same_entries w s.variables ∙ ap (map entry_of) (sym same))
      ∙ ap (λ b. scope_by (kinds_in D) (signature_in D) (map entry_of S.variables) ns (elaborate.place_in b)) of_goal.in_proof

  same_names : (e : Tree) → resolved (scope_of D S) [] e ≡ resolved (elaborate.scope_of w.types w.store scope) [] e
  same_names e =
      same_resolved (kinds_in D) (signature_in D) (map entry_of S.variables) (goal_names S) (map (nominal_of w.types) scope.nominals.items)
      (same_settled (goal_names S) (map (nominal_of w.types) scope.nominals.items) one of_goal.nominals) [] e
      ∙ ap (λ z. resolved z [] e) (sym same_scope)

  made_back : (x : Name) → IsFree D S x → (A : Ty) → making.nominal_of x A ≡ made x A
  made_back x f A = sym (made_there D S x f A)

  pub is_read : (types : Table) (store : Contents) (v : World) (e : Tree) (A : Ty) (r : Result TermId InferFault) → v.types ≡ types → v.store ≡ store → constants types ≡ constants w.types
      → IsAnswer types store (resolved (elaborate.scope_of w.types w.store scope) [] e) A (place_of e) r → IsReadAs D S e A v r
  is_read types store v e A (Ok t) in_types in_store kept (n, names, normal) =
      let here = same_names e ∙ names in
      let whole = names_known D S (world_lists w is table) e n here in
      let constants_same : signature types ≡ signature_in D = ap type_in (kept ∙ sym (world_constants w is)) in
      let means : Means D S e A (read v t) = record {
        named = n;
        names = here;
        raw = normal.reading;
        reading = one_too (IsKnown D S) (IsFree D S) making.nominal_of made made_back n A whole normal.reading normal.one;
        normal = ap (λ ts. tree_of ts v.store t) in_types ∙ ap (λ st. tree_of types st t) in_store ∙ normal.is ∙ ap (λ sg. normal_form sg [] normal.reading) constants_same;
      } in
      (means, fits D S (world_lists w is table) e A (read v t) means one, subst (λ st. Holds st t) (sym in_store) normal.term.0)
  is_read types store v e A (Err (Unknown x)) in_types in_store same names = same_names e ∙ names
  is_read types store v e A (Err (TypeClash p)) in_types in_store same (n, names, (none, at)) =
      let here = same_names e ∙ names in
      ((n, here, none_too (IsKnown D S) (IsFree D S) making.nominal_of made made_back n A (names_known D S (world_lists w is table) e n here) none), at)
  is_read types store v e A (Err (Untyped p)) in_types in_store same (n, names, several) =
      let here = same_names e ∙ names in
      (n, here, open_too (IsKnown D S) (IsFree D S) making.nominal_of made made_back n A (names_known D S (world_lists w is table) e n here) p several)
  is_read types store v e A (Err (Memory m)) in_types in_store same names = tt
