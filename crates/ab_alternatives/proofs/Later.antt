-- A goal and its atom in a later world: they read as before, and so do the cases.
use Rattle.std.proofs.Common.{◌≡◌, ℕ, List, [], ◌∷◌, map, Some, sym, ◌∙◌, ap, subst}
use Rattle.std.specs.Prelude.{All, true}
use Rattle.std.proofs.lemmas.List.Elements.{All-nil, All-cons, All-head, All-weaker}
use Rattle.ab_term.specs.Types.{Ty, prop}
use Rattle.ab_term.specs.Typing.{Signature, HasType, TakeType, typed_spine}
use Rattle.ab_term.specs.Terms.{Terms, terms_of, constant, spine}
use Rattle.ab_term.specs.Names.{support_of_all}
use Rattle.ab_norm.specs.ab_types.specs.Entries.{signature}
use Rattle.ab_norm.specs.ab_types.specs.Ids.{HoldsConstant}
use Rattle.ab_norm.specs.ab_types.specs.declared.ids.ConstId.{ConstId}
use Rattle.ab_norm.specs.ab_store.specs.declared.node.TermId.{TermId}
use Rattle.ab_norm.specs.Nominals.{HoldsNominal}
use Rattle.ab_norm.specs.TypedArguments.{AreTaken}
use Rattle.ab_norm.specs.declared.nominal.Nominal.{Nominal}
use Rattle.ab_unifiers.specs.Clauses.{Clause}
use Rattle.ab_unifiers.specs.Choices.{in_order}
use Rattle.ab_formulas.specs.CaseClauses as kept
use Rattle.ab_typing.specs.DefinitionReadings.{clause_of, name_of}
use Rattle.ab_typing.specs.declared.definitions.Block.{Block}
use Rattle.ab_typing.specs.declared.definitions.ClauseTerm.{ClauseTerm}
use Rattle.ab_instances.specs.ListReadings.{names_read}
use Rattle.ab_instances.proofs.Made.{names_stay, names_held}
use Rattle.ab_formulas.specs.Declarations as declared
use Rattle.ab_formulas.specs.Declarations.{Declarations, signature_in, IsDefining}
use Rattle.ab_formulas.specs.Formulas.{IsFormula}
use Rattle.ab_formulas.specs.Sequents.{Sequent, IsSequent, formulas_of, goal_names}
use Rattle.ab_logic.specs.Worlds.{IsWorld, Holds, read, declarations_of, definition_of, IsKeptClause, IsKeptBlock}
use Rattle.ab_logic.specs.SequentReadings.{sequent_of}
use Rattle.ab_logic.specs.declared.world.World.{World}
use Rattle.ab_logic.specs.declared.additions.Addition.TheVariants.{Definition}
use Rattle.ab_logic.specs.declared.sequent.Sequent.{Sequent as Kept}
use Rattle.ab_logic.proofs.Growing.{map_same, same_sequent, still_held, same_constants}
use Rattle.ab_logic.proofs.Blocks.{same_clause, same_definition, still_kept, block_defines}
use Rattle.ab_theory.specs.Splits.{CaseOver}
use Rattle.ab_theory.specs.Atoms.{Defined}
use Rattle.ab_theory.specs.Analysis.{case_of}
use Rattle.ab_formulas.specs.Members.{SameMembers}
use Rattle.ab_alternatives.specs.AtomReadings.{defined_read, HoldsDefined, choice_read}
use Rattle.ab_alternatives.specs.declared.atoms.DefinedAtom.{DefinedAtom}
use Rattle.ab_alternatives.specs.CaseSteps.{IsLater, IsReady}
use Rattle.ab_alternatives.specs.declared.constants.Constants.{Constants}

-- A TYPED ATOM'S ARGUMENTS are taken by its predicate's type
pub taken_by : (w : World) → IsWorld w → (a : DefinedAtom) → HasType (signature_in (declarations_of w)) [] (spine (constant (defined_read w a).predicate) (defined_read w a).arguments) prop
    → (A : Ty) × (signature w.types (name_of w.types a.predicate) ≡ Some A) × AreTaken w.types w.store [] a.arguments.items A prop
taken_by w is a typed =
    go (signature w.types) (name_of w.types a.predicate) (terms_of (map (read w) a.arguments.items))
    (subst (λ sg. HasType sg [] (spine (constant (name_of w.types a.predicate)) (terms_of (map (read w) a.arguments.items))) prop) (sym (same_constants w is)) typed)
  where
    go : (sg : Signature) (p : List ℕ) (ts : Terms ℕ (List ℕ)) → HasType sg [] (spine (constant p) ts) prop → (A : Ty) × (sg p ≡ Some A) × TakeType sg [] ts A prop
    go sg p ts (typed_spine {A = A} e taken) = (A, e, taken)

-- the definition by this clause alone
abbrev alone : ClauseTerm → Block
alone c = record { inductive = true; predicates = []; clauses = c ∷ [] }

kept_alone : (w : World) (c : ClauseTerm) → IsKeptClause w.types w.store c → IsKeptBlock w.types w.store (alone c)
kept_alone w c k = record {
  predicates = All-nil (HoldsConstant w.types);
  clauses = All-cons (IsKeptClause w.types w.store) c [] k (All-nil (IsKeptClause w.types w.store));
}

-- A CLAUSE THAT IS KEPT defines
pub defines : (w : World) → IsWorld w → (c : ClauseTerm) → IsKeptClause w.types w.store c → IsDefining (signature_in (declarations_of w)) (kept.case_of (clause_of w.types w.store c))
defines w is c k =
    subst (λ sg. IsDefining sg (kept.case_of (clause_of w.types w.store c))) (same_constants w is)
    (All-head (IsDefining (signature w.types)) (kept.case_of (clause_of w.types w.store c)) [] (block_defines w (alone c) (kept_alone w c k)))

module _ (w v : World) (later : IsLater w v) where
  same_arguments : (ts : List TermId) → All (Holds w) ts → map (read v) ts ≡ map (read w) ts
  same_arguments ts held = map_same (read v) (read w) (Holds w) later.grows.readings ts held

  pub clause_same : (c : ClauseTerm) → IsKeptClause w.types w.store c → clause_of v.types v.store c ≡ clause_of w.types w.store c
  clause_same c k = same_clause w v later.grows.types.0 later.grows.types.1 later.grows.ids later.grows.readings later.grows.cell_ids later.grows.cells c k.held

  block_kept : (b : Block) → IsKeptBlock w.types w.store b → IsKeptBlock v.types v.store b
  block_kept b k = still_kept w v later.grows.types.0 later.grows.types.1 later.grows.ids later.grows.readings later.grows.cell_ids later.grows.cells (Definition b) k

  pub clause_kept : (c : ClauseTerm) → IsKeptClause w.types w.store c → IsKeptClause v.types v.store c
  clause_kept c k = All-head (IsKeptClause v.types v.store) c [] (block_kept (alone c) (kept_alone w c k)).clauses

  definition_same : (b : Block) → IsKeptBlock w.types w.store b → definition_of v b ≡ definition_of w b
  definition_same b k = same_definition w v later.grows.types.0 later.grows.types.1 later.grows.ids later.grows.readings later.grows.cell_ids later.grows.cells b k

  -- the definition of this predicate alone, by no clause
  abbrev of_one : ConstId → Block
  of_one p = record { inductive = true; predicates = p ∷ []; clauses = [] }

  kept_one : (p : ConstId) → HoldsConstant w.types p → IsKeptBlock w.types w.store (of_one p)
  kept_one p h = record {
    predicates = All-cons (HoldsConstant w.types) p [] h (All-nil (HoldsConstant w.types));
    clauses = All-nil (IsKeptClause w.types w.store);
  }

  name_same : (p : ConstId) → HoldsConstant w.types p → name_of v.types p ≡ name_of w.types p
  name_same p h =
      let one : name_of v.types p ∷ [] ≡ name_of w.types p ∷ [] = ap (λ (b : declared.Block). b.predicates) (definition_same (of_one p) (kept_one p h)) in
      cc

  pub atom_same : (a : DefinedAtom) → HoldsDefined w a → defined_read v a ≡ defined_read w a
  atom_same a h =
      ap (λ p. record { sign = (defined_read w a).sign; predicate = p; arguments = (defined_read v a).arguments; block = definition_of v a.block })
      (name_same a.predicate h.predicate)
      ∙ ap (λ ts. record { sign = (defined_read w a).sign; predicate = name_of w.types a.predicate; arguments = terms_of ts; block = definition_of v a.block }) (same_arguments a.arguments.items h.arguments)
      ∙ ap (λ b. record { sign = (defined_read w a).sign; predicate = name_of w.types a.predicate; arguments = terms_of (map (read w) a.arguments.items); block = b })
      (definition_same a.block h.block)

  pub atom_held : (a : DefinedAtom) → HoldsDefined w a → HoldsDefined v a
  atom_held a h = record {
    predicate = All-head (HoldsConstant v.types) a.predicate [] (block_kept (of_one a.predicate) (kept_one a.predicate h.predicate)).predicates;
    arguments = All-weaker (Holds w) (Holds v) later.grows.ids a.arguments.items h.arguments;
    block = block_kept a.block h.block;
  }

  pub choice_same : (c : ClauseTerm) (ns : List Nominal) → IsKeptClause w.types w.store c → All (HoldsNominal w.types) ns → choice_read v c ns ≡ choice_read w c ns
  choice_same c ns k h =
      ap (λ cl. record { clause = kept.case_of cl; names = names_read v.types ns }) (clause_same c k)
      ∙ ap (λ l. record { clause = kept.case_of (clause_of w.types w.store c); names = l }) (names_stay w.types v.types later.grows.types ns h)

  module _ (a : DefinedAtom) (k : Constants) (g r : Kept) (ready : IsReady w a k g r) where
    abbrev s : Sequent
    s = sequent_of w g

    abbrev t : Sequent
    t = sequent_of w r

    abbrev d : Defined
    d = defined_read w a

    goal_same : sequent_of v g ≡ s
    goal_same = same_sequent w v later.grows g ready.goal

    rest_same : sequent_of v r ≡ t
    rest_same = same_sequent w v later.grows r ready.rest

    same_atom : defined_read v a ≡ d
    same_atom = atom_same a ready.atom

    -- THE CASE OF A CHOICE is the same
    pub case_same : (name : List ℕ) (c : ClauseTerm) (ns : List Nominal) → IsKeptClause w.types w.store c → All (HoldsNominal w.types) ns
        → case_of (sequent_of v g) (sequent_of v r) name (defined_read v a) (choice_read v c ns) ≡ case_of s t name d (choice_read w c ns)
    case_same name c ns kept_there held =
        ap (λ x. case_of x (sequent_of v r) name (defined_read v a) (choice_read v c ns)) goal_same
        ∙ ap (λ x. case_of s x name (defined_read v a) (choice_read v c ns)) rest_same
        ∙ ap (λ x. case_of s t name x (choice_read v c ns)) same_atom
        ∙ ap (case_of s t name d) (choice_same c ns kept_there held)

    -- and the cases of a clause
    pub cases_same : (F : Sequent → Sequent → List ℕ → Defined → Clause (List ℕ) → List CaseOver) (name : List ℕ) (c : ClauseTerm) → IsKeptClause w.types w.store c
        → F (sequent_of v g) (sequent_of v r) name (defined_read v a) (kept.case_of (clause_of v.types v.store c)) ≡ F s t name d (kept.case_of (clause_of w.types w.store c))
    cases_same F name c kept_there =
        ap (λ x. F x (sequent_of v r) name (defined_read v a) (kept.case_of (clause_of v.types v.store c))) goal_same
        ∙ ap (λ x. F s x name (defined_read v a) (kept.case_of (clause_of v.types v.store c))) rest_same
        ∙ ap (λ x. F s t name x (kept.case_of (clause_of v.types v.store c))) same_atom
        ∙ ap (λ x. F s t name d (kept.case_of x)) (clause_same c kept_there)

    -- OTHER CASES MAY BE TRIED THEN
    pub still_ready : IsReady v a k g r
    still_ready = record {
      world = later.grows.world;
      goal = still_held w v later.grows g ready.goal;
      sequent = subst (λ D. IsSequent D (sequent_of v g)) (sym later.declared) (subst (IsSequent (declarations_of w)) (sym goal_same) ready.sequent);
      rest = still_held w v later.grows r ready.rest;
      formulas =
          subst (λ (D : Declarations). All (IsFormula (signature_in D)) (formulas_of (sequent_of v r))) (sym later.declared)
          (subst (λ x. All (IsFormula (signature_in (declarations_of w))) (formulas_of x)) (sym rest_same) ready.formulas);
      same = ready.same;
      atom = atom_held a ready.atom;
      typed =
          subst (λ (D : Declarations). HasType (signature_in D) [] (spine (constant (defined_read v a).predicate) (defined_read v a).arguments) prop) (sym later.declared)
          (subst (λ (x : Defined). HasType (signature_in (declarations_of w)) [] (spine (constant x.predicate) x.arguments) prop) (sym same_atom) ready.typed);
      of_atom = names_stay w.types v.types later.grows.types k.of_atom.items ready.of_atom_held ∙ ready.of_atom ∙ ap (λ (x : Defined). in_order (support_of_all x.arguments)) (sym same_atom);
      of_atom_held = names_held w.types v.types later.grows.types k.of_atom.items ready.of_atom_held;
      of_goal =
          subst (λ l. SameMembers l (goal_names (sequent_of v g))) (sym (names_stay w.types v.types later.grows.types k.of_goal.items ready.of_goal_held))
          (subst (λ x. SameMembers (names_read w.types k.of_goal.items) (goal_names x)) (sym goal_same) ready.of_goal);
      of_goal_held = names_held w.types v.types later.grows.types k.of_goal.items ready.of_goal_held;
    }
