-- Definitions that are kept: how they read, in a world that has grown too, and that they define.
use Rattle.std.proofs.Common.{◌≡◌, inl, inr, ℕ, ◌-◌, List, [], ◌∷◌, ◌++◌, map, take, drop, Bool, true, false, Some, None, if◌then◌else◌, bytes_eq, codes, refl, sym, ◌∙◌, ap, subst}
use Rattle.std.specs.List.{All, list_any}
use Rattle.std.specs.Option.{option_map}
use Rattle.std.proofs.lemmas.List.Elements.{All-nil, All-cons, All-head, All-tail, All-weaker}
use Rattle.ab_term.specs.Typing as typing
use Rattle.ab_term.specs.Typing.{Signature}
use Rattle.ab_term.specs.Variables.{value_in}
use Rattle.ab_term.specs.Sameness.{same_number}
use Rattle.ab_term.proofs.Unique.{more_typed}
use Rattle.ab_term.specs.Constants.{Constant}
use Rattle.ab_store.specs.ab_types.specs.Entries.{Table, signature}
use Rattle.ab_store.specs.ab_types.specs.Ids.{HoldsConstant, constant_of}
use Rattle.ab_store.specs.ab_types.specs.declared.ids.ConstId.{ConstId}
use Rattle.ab_store.specs.ab_types.proofs.Entries.{holds_constant, same_constant, same_signature}
use Rattle.ab_store.specs.Trees.{Contents}
use Rattle.ab_store.specs.declared.node.TermId.{TermId}
use Rattle.ab_store.specs.declared.node.CellId.{CellId}
use Rattle.ab_unifiers.specs.Clauses.{numbered, put_together}
use Rattle.ab_unifiers.specs.Prefixes.{own_terms}
use Rattle.ab_formulas.specs.Clauses as kept
use Rattle.ab_formulas.specs.CaseClauses.{in_terms, cell_of, case_of, IsWellKept}
use Rattle.ab_typing.specs.DefinitionReadings as clauses
use Rattle.ab_typing.specs.DefinitionReadings.{name_of, clause_of, block_of, HoldsClause, HoldsBlock}
use Rattle.ab_formulas.specs.Faults.{IsRight, IsRightBlock}
use Rattle.ab_formulas.specs.ProposedClauses.{IsProposed}
use Rattle.ab_formulas.proofs.Proposing.{well_kept}
use Rattle.ab_typing.specs.declared.definitions.Block.{Block as KeptBlock}
use Rattle.ab_typing.specs.declared.definitions.ClauseTerm.{ClauseTerm}
use Rattle.ab_formulas.proofs.ClausesCased.{is_clause}
use Rattle.ab_typing.proofs.Names.{same_search}
use Rattle.ab_formulas.specs.Formulas.{a_formula, IsFormula}
use Rattle.ab_formulas.specs.Declarations.{Declarations, a_block, a_program_clause, a_theorem, block_in, IsDefining}
use Rattle.ab_formulas.specs.Programs.{IsGoalOrNone, IsProgramKept}
use Rattle.ab_term.specs.Terms.{Read}
use Rattle.ab_logic.specs.Additions.{block_or, block_kept, is_among}
use Rattle.ab_logic.specs.Worlds.{read, Holds, HoldsCell, variable_of, head_constant, declared, defined, definition_of, declaration_of, declared_from, CameInOrder, IsKeptClause, IsKeptBlock, IsKept}
use Rattle.ab_formulas.specs.Sequents.{Variable}
use Rattle.ab_logic.specs.declared.world.World.{World}
use Rattle.ab_logic.specs.declared.additions.Added.{Added}
use Rattle.ab_logic.specs.declared.additions.Addition.{Addition}
use Rattle.ab_logic.specs.declared.additions.Addition.TheVariants.{Theorem, Definition, Clause}
use Rattle.ab_formulas.proofs.Images.{image_stands}
use Rattle.ab_formulas.proofs.Declaring.{or_else, block_in-append}
use Rattle.ab_logic.proofs.Declaring.{block-declared, in_rest, in_part, ReadsSame, declared_on, order_on}

-- what is well kept defines

defining : (sg : Signature) (c : kept.Clause) → IsWellKept sg c → IsFormula sg c.body → IsDefining sg (case_of c)
defining sg c well body =
    let clause = is_clause sg c well in
    record {
      clause = clause;
      body = record {
        typed = clause.body;
        stands = image_stands (value_in same_number (put_together (map in_terms c.variables) (own_terms (codes "x") (numbered 0 (map cell_of c.variables))))) a_formula c.body body.stands;
      };
    }

module _ (w : World) where
  clauses_define : (cs : List ClauseTerm) → All (IsKeptClause w.types w.store) cs → All (IsDefining (signature w.types)) (map case_of (map (clause_of w.types w.store) cs))
  clauses_define [] all = All-nil (IsDefining (signature w.types))
  clauses_define (c ∷ cs) all =
      let one = All-head (IsKeptClause w.types w.store) c cs all in
      All-cons (IsDefining (signature w.types)) (case_of (clause_of w.types w.store c)) (map case_of (map (clause_of w.types w.store) cs))
      (defining (signature w.types) (clause_of w.types w.store c) one.well one.body) (clauses_define cs (All-tail (IsKeptClause w.types w.store) c cs all))

  pub block_defines : (b : KeptBlock) → IsKeptBlock w.types w.store b → All (IsDefining (signature w.types)) (definition_of w b).clauses
  block_defines b k = clauses_define b.clauses k.clauses

  -- the definition that is found by a predicate's number is the one by its name
  module _ (unique : (p q : ConstId) → HoldsConstant w.types p → HoldsConstant w.types q → (constant_of w.types p).name ≡ (constant_of w.types q).name → p ≡ q) (p : ConstId) (held : HoldsConstant w.types p) where
    pub block_found : (done : ℕ) (xs : List Added) → All (λ (a : Added). IsKept w.types w.store a.what) xs
        → option_map (definition_of w) (block_kept xs p) ≡ block_in (declared_from w done xs) (name_of w.types p)
    block_found done [] all = sym (in_rest (λ ds. block_in ds (name_of w.types p) ≡ None) (λ t. block-declared t (name_of w.types p)) done w.types)
    block_found done (a ∷ xs) all =
        one a.what (All-head (λ (x : Added). IsKept w.types w.store x.what) a xs all) (block_found a.before xs (All-tail (λ (x : Added). IsKept w.types w.store x.what) a xs all))
        ∙ sym (block_in-append front (declaration_of w a.what ∷ rest) (name_of w.types p)
        ∙ ap (λ o. or_else o (block_in (declaration_of w a.what ∷ rest) (name_of w.types p))) (in_part (λ ds. block_in ds (name_of w.types p) ≡ None) (λ t. block-declared t (name_of w.types p)) (a.before - done) done w.types))
      where
        front : Declarations
        front = take (a.before - done) (drop done (declared w.types))

        rest : Declarations
        rest = declared_from w a.before xs

        test : (b : KeptBlock) (t u : Bool) → t ≡ u → option_map (definition_of w) (block_kept xs p) ≡ block_in rest (name_of w.types p)
            → option_map (definition_of w) (if t then Some b else block_kept xs p) ≡ (if u then Some (definition_of w b) else block_in rest (name_of w.types p))
        test b true true e later = refl
        test b true false e later = absurd (cc)
        test b false true e later = absurd (cc)
        test b false false e later = later

        one : (what : Addition) → IsKept w.types w.store what → option_map (definition_of w) (block_kept xs p) ≡ block_in rest (name_of w.types p)
            → option_map (definition_of w) (block_or what p (block_kept xs p)) ≡ block_in (declaration_of w what ∷ rest) (name_of w.types p)
        one (Theorem e) k later = later
        one (Clause c h) k later = later
        one (Definition b) k later = test b (is_among b.predicates p) (list_any (bytes_eq (name_of w.types p)) (map (name_of w.types) b.predicates)) (same_search w.types unique p held b.predicates k.predicates) later

-- what was proposed is kept, where the clauses have no fault
module _ (types : Table) (store : Contents) (ps : List (List ℕ)) where
  clauses_kept : (cs : List ClauseTerm) → All (HoldsClause types store) cs → All (IsProposed (signature types)) (map (clause_of types store) cs) → All (IsRight ps) (map (clause_of types store) cs) → All (IsKeptClause types store) cs
  clauses_kept [] held proposed right = All-nil (IsKeptClause types store)
  clauses_kept (c ∷ cs) held proposed right =
      let d = clause_of types store c in
      let ds = map (clause_of types store) cs in
      let one = All-head (IsProposed (signature types)) d ds proposed in
      All-cons (IsKeptClause types store) c cs (record {
        held = All-head (HoldsClause types store) c cs held;
        well = well_kept ps (signature types) d one (All-head (IsRight ps) d ds right).head;
        body = one.body;
      }) (clauses_kept cs (All-tail (HoldsClause types store) c cs held) (All-tail (IsProposed (signature types)) d ds proposed) (All-tail (IsRight ps) d ds right))

pub proposed_kept : (types : Table) (store : Contents) (b : KeptBlock) → HoldsBlock types store b → All (IsProposed (signature types)) (block_of types store b).clauses → IsRightBlock (block_of types store b)
    → IsKeptBlock types store b
proposed_kept types store b held proposed right = record {
  predicates = held.predicates;
  clauses = clauses_kept types store (map (name_of types) b.predicates) b.clauses held.clauses proposed right;
}

-- a larger world reads what was added as before, and keeps it
module _ (w v : World) (more : Table) (grown : v.types ≡ w.types ++ more)
    (ids : (t : TermId) → Holds w t → Holds v t) (reads : (t : TermId) → Holds w t → read v t ≡ read w t)
    (cell_ids : (c : CellId) → HoldsCell w c → HoldsCell v c) (cells : (c : CellId) → HoldsCell w c → variable_of v c ≡ variable_of w c) where
  same_cells : (cs : List CellId) → All (HoldsCell w) cs → map (clauses.variable_of v.types v.store) cs ≡ map (clauses.variable_of w.types w.store) cs
  same_cells [] all = refl
  same_cells (c ∷ cs) all =
      ap (λ (x : Variable). record { number = x.number; type = x.type; hint = x.name } ∷ map (clauses.variable_of v.types v.store) cs) (cells c (All-head (HoldsCell w) c cs all))
      ∙ ap (λ vs. clauses.variable_of w.types w.store c ∷ vs) (same_cells cs (All-tail (HoldsCell w) c cs all))

  pub same_clause : (c : ClauseTerm) → HoldsClause w.types w.store c → clause_of v.types v.store c ≡ clause_of w.types w.store c
  same_clause c h =
      ap (λ vs. record { variables = vs; head = read v c.head; body = read v c.body }) (same_cells c.variables h.variables)
      ∙ ap (λ t. record { variables = map (clauses.variable_of w.types w.store) c.variables; head = t; body = read v c.body }) (reads c.head h.head)
      ∙ ap (λ t. record { variables = map (clauses.variable_of w.types w.store) c.variables; head = read w c.head; body = t }) (reads c.body h.body)

  same_clauses : (cs : List ClauseTerm) → All (IsKeptClause w.types w.store) cs → map (clause_of v.types v.store) cs ≡ map (clause_of w.types w.store) cs
  same_clauses [] all = refl
  same_clauses (c ∷ cs) all =
      ap (λ d. d ∷ map (clause_of v.types v.store) cs) (same_clause c (All-head (IsKeptClause w.types w.store) c cs all).held)
      ∙ ap (λ ds. clause_of w.types w.store c ∷ ds) (same_clauses cs (All-tail (IsKeptClause w.types w.store) c cs all))

  same_name : (p : ConstId) → HoldsConstant w.types p → name_of v.types p ≡ name_of w.types p
  same_name p h = ap (λ t. name_of t p) grown ∙ ap (λ (c : Constant). c.name) (same_constant w.types more p h)

  same_names : (ps : List ConstId) → All (HoldsConstant w.types) ps → map (name_of v.types) ps ≡ map (name_of w.types) ps
  same_names [] all = refl
  same_names (p ∷ ps) all =
      ap (λ n. n ∷ map (name_of v.types) ps) (same_name p (All-head (HoldsConstant w.types) p ps all))
      ∙ ap (λ ns. name_of w.types p ∷ ns) (same_names ps (All-tail (HoldsConstant w.types) p ps all))

  pub same_definition : (b : KeptBlock) → IsKeptBlock w.types w.store b → definition_of v b ≡ definition_of w b
  same_definition b k =
      ap (λ ns. defined (record { inductive = b.inductive; predicates = ns; clauses = map (clause_of v.types v.store) b.clauses })) (same_names b.predicates k.predicates)
      ∙ ap (λ cs. defined (record { inductive = b.inductive; predicates = map (name_of w.types) b.predicates; clauses = cs })) (same_clauses b.clauses k.clauses)

  same_addition : (what : Addition) → IsKept w.types w.store what → declaration_of v what ≡ declaration_of w what
  same_addition (Theorem e) k = ap (λ F. a_theorem e.name F e.assumed) (reads e.formula k)
  same_addition (Definition b) k = ap a_block (same_definition b k)
  same_addition (Clause c h) k = ap (λ d. a_program_clause (case_of d)) (same_clause c k.0.held)

  larger : typing.IsExtendedBy (signature w.types) (signature v.types)
  larger = subst (λ t. typing.IsExtendedBy (signature w.types) (signature t)) (sym grown) (same_signature w.types more)

  still_well : (c : kept.Clause) → IsWellKept (signature w.types) c → IsWellKept (signature v.types) c
  still_well c k = record {
    different = k.different;
    is_head = k.is_head;
    head = more_typed (signature w.types) (signature v.types) larger k.head;
    body = more_typed (signature w.types) (signature v.types) larger k.body;
    head_without_constants = k.head_without_constants;
    body_without_constants = k.body_without_constants;
    head_variables = k.head_variables;
    body_variables = k.body_variables;
  }

  clause_kept : (c : ClauseTerm) → IsKeptClause w.types w.store c → IsKeptClause v.types v.store c
  clause_kept c k = record {
    held = record {
      variables = All-weaker (HoldsCell w) (HoldsCell v) cell_ids c.variables k.held.variables;
      head = ids c.head k.held.head;
      body = ids c.body k.held.body;
    };
    well = subst (IsWellKept (signature v.types)) (sym (same_clause c k.held)) (still_well (clause_of w.types w.store c) k.well);
    body =
        subst (IsFormula (signature v.types)) (sym (reads c.body k.held.body))
        (record { typed = more_typed (signature w.types) (signature v.types) larger k.body.typed; stands = k.body.stands });
  }

  still_goal : (t : Read) → IsGoalOrNone (signature w.types) t → IsGoalOrNone (signature v.types) t
  still_goal t (inl h) = inl (more_typed (signature w.types) (signature v.types) larger h)
  still_goal t (inr e) = inr e

  still_program : (c : kept.Clause) → IsProgramKept (signature w.types) c → IsProgramKept (signature v.types) c
  still_program c k = (
    record {
      different = k.0.different;
      head = more_typed (signature w.types) (signature v.types) larger k.0.head;
      body = still_goal c.body k.0.body;
      head_without_constants = k.0.head_without_constants;
      body_without_constants = k.0.body_without_constants;
      head_variables = k.0.head_variables;
      body_variables = k.0.body_variables;
    },
    k.1,
  )

  still_constant : (p : ConstId) → HoldsConstant w.types p → HoldsConstant v.types p
  still_constant p h = subst (λ t. HoldsConstant t p) (sym grown) (holds_constant w.types more p h)

  pub still_kept : (what : Addition) → IsKept w.types w.store what → IsKept v.types v.store what
  still_kept (Theorem e) k = ids e.formula k
  still_kept (Definition b) k = record {
    predicates =
        All-weaker (HoldsConstant w.types) (HoldsConstant v.types) still_constant b.predicates k.predicates;
    clauses = All-weaker (IsKeptClause w.types w.store) (IsKeptClause v.types v.store) clause_kept b.clauses k.clauses;
  }
  still_kept (Clause c h) k = (
    record {
      held = record {
        variables = All-weaker (HoldsCell w) (HoldsCell v) cell_ids c.variables k.0.held.variables;
        head = ids c.head k.0.held.head;
        body = ids c.body k.0.held.body;
      };
      well = subst (IsProgramKept (signature v.types)) (sym (same_clause c k.0.held)) (still_program (clause_of w.types w.store c) k.0.well);
    },
    record {
      held = still_constant h k.1.held;
      is = ap head_constant (reads c.head k.0.held.head) ∙ k.1.is ∙ ap Some (sym (same_name h k.1.held));
    },
  )

  pub all_kept : (xs : List Added) → All (λ (a : Added). IsKept w.types w.store a.what) xs → All (λ (a : Added). IsKept v.types v.store a.what) xs
  all_kept xs = All-weaker (λ (a : Added). IsKept w.types w.store a.what) (λ (a : Added). IsKept v.types v.store a.what) (λ a. still_kept a.what) xs

  pub declared_more : (done : ℕ) (xs : List Added) → CameInOrder w.types done xs → All (λ (a : Added). IsKept w.types w.store a.what) xs
      → declared_from v done xs ≡ declared_from w done xs ++ declared more
  declared_more done xs order all =
      declared_on w v more grown done xs order (All-weaker (λ (a : Added). IsKept w.types w.store a.what) (ReadsSame w v more grown) (λ a. same_addition a.what) xs all)

  pub order_more : (done : ℕ) (xs : List Added) → CameInOrder w.types done xs → CameInOrder v.types done xs
  order_more = order_on w v more grown
