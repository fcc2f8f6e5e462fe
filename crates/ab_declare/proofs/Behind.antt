-- A definition behind what a world declares: its predicates as constants, and its block last.
use Rattle.std.specs.Prelude.{◌≡◌, ℕ, List, [], ◌∷◌, ◌++◌, map, Bool, true, false, length, None, Ok, Err, if◌then◌else◌, bytes_eq, All, Contains, IsSome}
use Rattle.std.specs.List.{list_any}
use Rattle.std.proofs.Common.{refl, sym, ◌∙◌, ap, subst, append_assoc, append-nil}
use Rattle.std.proofs.lemmas.List.{append_cancel_left}
use Rattle.std.proofs.lemmas.List.Elements.{All-nil, All-cons, All-head, All-tail, All-weaker, Contains-get_or, Contains-append_left}
use Rattle.ab_term.specs.Typing.{Signature}
use Rattle.ab_term.proofs.Lists.{Contains-map}
use Rattle.ab_norm.specs.ab_types.specs.Entries as table
use Rattle.ab_term.specs.Constants.{Constant, constant, names, type_in}
use Rattle.ab_norm.specs.ab_types.specs.Entries.{Table, kinds, constants, signature, IsExtendedBy}
use Rattle.ab_norm.specs.ab_types.specs.Ids.{HoldsConstant, constant_of}
use Rattle.ab_norm.specs.ab_types.specs.Sound.{IsTable}
use Rattle.ab_norm.specs.ab_types.specs.declared.ids.ConstId.{ConstId}
use Rattle.ab_norm.specs.ab_types.proofs.Entries.{kinds-append, constants-append, extended_twice}
use Rattle.ab_norm.specs.ab_store.specs.Trees.{Contents}
use Rattle.ab_grammar.specs.CommandTrees as command
use Rattle.ab_grammar.specs.CommandTrees.{Defined, Clause}
use Rattle.ab_formulas.specs.Clauses as kept
use Rattle.ab_formulas.specs.CaseClauses.{case_of}
use Rattle.ab_formulas.specs.Faults.{IsRightBlock, IsFaultOf, bad_head, not_stratified}
use Rattle.ab_formulas.specs.ProposedClauses.{IsProposed}
use Rattle.ab_typing.specs.DefinitionReadings.{name_of, clause_of, block_of, HoldsBlock}
use Rattle.ab_typing.specs.declared.definitions.Block.{Block as KeptBlock}
use Rattle.ab_typing.specs.declared.definitions.ClauseTerm.{ClauseTerm}
use Rattle.ab_declare.specs.CellGrowth.{AddsVariables}
use Rattle.ab_formulas.specs.Declarations.{Declarations, Block, a_block, block_in, constants_in, signature_in, constant_names}
use Rattle.ab_logic.specs.NewDefinitions.{IsFirstDefined, IsDefinable, IsDefineFault}
use Rattle.ab_logic.specs.WorldGrowth.{Grows}
use Rattle.ab_logic.specs.Worlds.{declared, declarations_of, defined, definition_of, IsWorld}
use Rattle.ab_logic.specs.declared.world.DefineFault.{DefineFault}
use Rattle.ab_logic.specs.declared.world.DefineFault.TheVariants as define
use Rattle.ab_logic.specs.declared.world.World.{World}
use Rattle.ab_logic.proofs.Blocks.{declared_more}
use Rattle.ab_formulas.proofs.Declaring.{or_else, block_in-append, constants_in-append}
use Rattle.ab_logic.proofs.Growing.{grows_on, grows_store, grows_types, same_constants}
use Rattle.ab_meaning.specs.Terms.{kinds_in}
use Rattle.ab_declare.specs.declared.refusal.Refusal.{Refusal}
use Rattle.ab_declare.specs.declared.halt.Halt.{Halt}
use Rattle.ab_declare.specs.DeclarationAnswers.{IsDeclared}
use Rattle.ab_declare.specs.DeclarationCommands.{new_predicates}
use Rattle.ab_declare.specs.DefinitionCommands.{predicates_found, predicate_of, signature_with, block_with, FirstTold, IsPredicate, IsNoPredicate, IsNamed, IsUnnamed, MeanKept, IsRead, IsUnread, HasPredicates, HasNames, HasTypes, DefinesNothing, predicate_unnamed, clause_unnamed, no_predicate, clause_unread, faulty}
use Rattle.ab_declare.specs.Halts.{halt_by, Halts, HasKinds, ArePut, ArentPut, AreReadAs}
use Rattle.ab_declare.proofs.Knowing.{world_knows, world_constants}
use Rattle.ab_declare.proofs.Meant.{AreOnes, are_meant, all_held, all_proposed, same_cases, right_too, fault_too}
use Rattle.ab_declare.proofs.Putting.{first_found, found_kinds, still_held, still_are}
use Rattle.ab_declare.proofs.Taking.{contains_any, any_contains}
use Rattle.ab_declare.proofs.Turns.{halts_more}
use Rattle.ab_declare.proofs.Undefined.{undefined}

abbrev Name : Type 0
Name = List ℕ

-- PREDICATES AS DECLARATIONS

constants_predicates : (ps : List Constant) → constants_in (map predicate_of ps) ≡ ps
constants_predicates [] = refl
constants_predicates (p ∷ ps) = ap (λ qs. p ∷ qs) (constants_predicates ps)

none_defined : (ps : List Constant) (x : Name) → block_in (map predicate_of ps) x ≡ None
none_defined [] x = refl
none_defined (p ∷ ps) x = none_defined ps x

declared_constants : (s : Table) → kinds s ≡ [] → declared s ≡ map predicate_of (constants s)
declared_constants [] e = refl
declared_constants (table.a_kind k ∷ s) e = absurd (cc)
declared_constants (table.a_type A ∷ s) e = declared_constants s e
declared_constants (table.a_constant c ∷ s) e = ap (λ ds. predicate_of c ∷ ds) (declared_constants s e)

names-constants : (t : Table) (ids : List ConstId) → names (map (constant_of t) ids) ≡ map (name_of t) ids
names-constants t [] = refl
names-constants t (c ∷ cs) = ap (λ ns. name_of t c ∷ ns) (names-constants t cs)

-- names of predicates that were found are new
abbrev IsNew : List Name → Name → Type 0
IsNew us x = list_any (bytes_eq x) us ≡ false

still_new : (us vs : List Name) (x : Name) → IsNew (us ++ vs) x → IsNew us x
still_new us vs x n = go (list_any (bytes_eq x) us) refl
  where
    go : (b : Bool) → list_any (bytes_eq x) us ≡ b → IsNew us x
    go false e = e
    go true e = let bad : true ≡ false = sym (contains_any x (us ++ vs) (Contains-append_left us vs x (any_contains x us e))) ∙ n in absurd (cc)

new_names : (ks us : List Name) (ds : List Defined) (ps : List Constant) → predicates_found ks us ds ≡ Ok ps → All (IsNew us) (names ps)
new_names ks us [] ps e = let none : [] ≡ ps = cc in subst (λ qs. All (IsNew us) (names qs)) none (All-nil (IsNew us))
new_names ks us (d ∷ ds) ps e =
    let f = first_found ks us d ds ps e in
    subst (λ qs. All (IsNew us) (names qs)) (sym f.is)
    (All-cons (IsNew us) d.name (names f.rest) f.new_name (All-weaker (IsNew (us ++ d.name ∷ [])) (IsNew us) (still_new us (d.name ∷ [])) (names f.rest) (new_names ks (us ++ d.name ∷ []) ds f.rest f.found)))

of_middle : {X : Type 0} (P : X → Type 0) (xs ys : List X) (x : X) → All P (xs ++ x ∷ ys) → P x
of_middle P [] ys x all = All-head P x ys all
of_middle P (z ∷ xs) ys x all = of_middle P xs ys x (All-tail P z (xs ++ x ∷ ys) all)

name_listed : (cs : List Constant) (c : Constant) → Contains cs c → Contains (names cs) c.name
name_listed cs c h = subst (λ ns. Contains ns c.name) (are cs) (Contains-map (λ (k : Constant). k.name) cs c h)
  where
    are : (cs : List Constant) → map (λ (k : Constant). k.name) cs ≡ names cs
    are [] = refl
    are (c ∷ cs) = ap (λ ns. c.name ∷ ns) (are cs)

-- BEHIND A WORLD'S TABLE

module _ (w : World) (is : IsWorld w) (inductive : Bool) (ds : List Defined) (cs : List Clause) where
  D : Declarations
  D = declarations_of w

  abbrev Refuses : Halt → Type 0
  Refuses = Halts (DefinesNothing (declarations_of w) inductive ds cs)

  pub refused_predicates : (h : Halt) → Halts (ArentPut w.types ds) h → Refuses h
  refused_predicates h =
      halts_more (ArentPut w.types ds) (DefinesNothing (declarations_of w) inductive ds cs) h
      (λ r e. predicate_unnamed (ap (λ ks. predicates_found ks (constant_names (declarations_of w)) ds) (world_knows w is).kinds ∙ (ap (λ us. predicates_found (kinds w.types) us ds) (world_knows w is).constants ∙ e)))

  module _ (t : Table) (ids : List ConstId) (put : ArePut w.types t ds ids) (same_kinds : kinds t ≡ kinds w.types) where
    abbrev ps : List Constant
    ps = map (constant_of t) ids

    pub found : HasPredicates (declarations_of w) ds cs (map (constant_of t) ids)
    found =
        ap (λ ks. predicates_found ks (constant_names (declarations_of w)) ds) (world_knows w is).kinds
        ∙ (ap (λ us. predicates_found (kinds w.types) us ds) (world_knows w is).constants ∙ put.found)

    kinds_are : kinds t ≡ kinds_in (declarations_of w)
    kinds_are = same_kinds ∙ sym (world_knows w is).kinds

    signature_is : signature t ≡ signature_with (declarations_of w) (map (constant_of t) ids)
    signature_is =
        ap type_in (put.constants ∙ (ap (λ ks. ks ++ ps) (sym (world_constants w is)) ∙ ap (λ ks. constants_in (declarations_of w) ++ ks) (sym (constants_predicates ps)))
        ∙ sym (constants_in-append (declarations_of w) (map predicate_of ps)))

    pub of_kinds : (ks : List Name) → ks ≡ kinds t → All (HasKinds ks) ds
    of_kinds ks k = subst (λ us. All (HasKinds us) ds) (sym (k ∙ same_kinds)) (found_kinds (kinds w.types) (names (constants w.types)) ds ps put.found)

    module _ (ks : List Name) (k : ks ≡ kinds t) where
      pub refused_types : HasNames (declarations_of w) ds cs (map (constant_of t) ids) → (h : Halt) → Halts (FirstTold (IsPredicate ks) (IsNoPredicate ks) ds) h → Refuses h
      refused_types n h =
          halts_more (FirstTold (IsPredicate ks) (IsNoPredicate ks) ds) (DefinesNothing (declarations_of w) inductive ds cs) h
          (λ r f. no_predicate n (subst (λ us. FirstTold (IsPredicate us) (IsNoPredicate us) ds r) (k ∙ kinds_are) f))

      pub has_types : HasNames (declarations_of w) ds cs (map (constant_of t) ids) → All (IsPredicate ks) ds → HasTypes (declarations_of w) ds cs (map (constant_of t) ids)
      has_types n all = (n, subst (λ us. All (IsPredicate us) ds) (k ∙ kinds_are) all)

      module _ (sg : Signature) (s : sg ≡ signature t) where
        pub moved : (P : List Name → Signature → Type 0) → P ks sg → P (kinds_in (declarations_of w)) (signature_with (declarations_of w) (map (constant_of t) ids))
        moved P p = subst (P (kinds_in (declarations_of w))) (s ∙ signature_is) (subst (λ us. P us sg) (k ∙ kinds_are) p)

        pub refused_names : (h : Halt) → Halts (FirstTold (IsNamed ks sg) (IsUnnamed ks sg) cs) h → Refuses h
        refused_names h =
            halts_more (FirstTold (IsNamed ks sg) (IsUnnamed ks sg) cs) (DefinesNothing (declarations_of w) inductive ds cs) h
            (λ r f. clause_unnamed found (moved (λ us z. FirstTold (IsNamed us z) (IsUnnamed us z) cs r) f))

        pub has_names : All (IsNamed ks sg) cs → HasNames (declarations_of w) ds cs (map (constant_of t) ids)
        has_names all = (found, moved (λ us z. All (IsNamed us z) cs) all)

        pub refused_reading : HasTypes (declarations_of w) ds cs (map (constant_of t) ids) → (h : Halt) → Halts (FirstTold (IsRead ks sg) (IsUnread ks sg) cs) h → Refuses h
        refused_reading n h =
            halts_more (FirstTold (IsRead ks sg) (IsUnread ks sg) cs) (DefinesNothing (declarations_of w) inductive ds cs) h
            (λ r f. clause_unread n (moved (λ us z. FirstTold (IsRead us z) (IsUnread us z) cs r) f))

    -- with the clauses that were read
    module _ (u : Table) (r : Contents) (part : IsExtendedBy w.types t) (more : IsExtendedBy t u) (still_kinds : kinds u ≡ kinds t) (still_constants : constants u ≡ constants t) (sound : IsTable u)
        (adds : AddsVariables u w.store r) (terms : List ClauseTerm) (read : AreReadAs u r cs terms) (types : HasTypes (declarations_of w) ds cs (map (constant_of t) ids)) where
      abbrev v : World
      v = record { types = u; store = r; additions = w.additions }

      abbrev block : KeptBlock
      block = record { inductive = inductive; predicates = ids; clauses = terms }

      whole : IsExtendedBy w.types u
      whole = extended_twice w.types t u part more

      grows_first : Grows w (record { types = u; store = w.store; additions = w.additions })
      grows_first = grows_types w.types u w.store w.additions is whole

      pub grows_read : Grows w (record { types = u; store = r; additions = w.additions })
      grows_read =
          grows_on w (record { types = u; store = w.store; additions = w.additions }) (record { types = u; store = r; additions = w.additions }) grows_first
          (grows_store u w.store r w.additions grows_first.world adds.before adds.typed)

      no_kinds : kinds whole.0 ≡ []
      no_kinds =
          let e : kinds w.types ++ kinds whole.0 ≡ kinds w.types ++ [] =
          sym (kinds-append w.types whole.0) ∙ (sym (ap kinds whole.1) ∙ (still_kinds ∙ same_kinds) ∙ sym (append-nil (kinds w.types))) in
          append_cancel_left (kinds w.types) (kinds whole.0) [] e

      its_constants : constants whole.0 ≡ map (constant_of t) ids
      its_constants = append_cancel_left (constants w.types) (constants whole.0) ps (sym (constants-append w.types whole.0) ∙ (sym (ap constants whole.1) ∙ (still_constants ∙ put.constants)))

      pub declares : declarations_of (record { types = u; store = r; additions = w.additions }) ≡ declarations_of w ++ map predicate_of (map (constant_of t) ids)
      declares =
          declared_more w (record { types = u; store = r; additions = w.additions }) whole.0 whole.1 grows_read.ids grows_read.readings grows_read.cell_ids grows_read.cells 0 w.additions is.order is.additions
          ∙ ap (λ es. declarations_of w ++ es) (declared_constants whole.0 no_kinds ∙ ap (map predicate_of) its_constants)

      held_ids : All (HoldsConstant u) ids
      held_ids = All-weaker (HoldsConstant t) (HoldsConstant u) (still_held t u more) ids put.held

      pub held_block : HoldsBlock u r (record { inductive = inductive; predicates = ids; clauses = terms })
      held_block = record { predicates = held_ids; clauses = all_held u r cs terms read }

      pub proposed_clauses : All (IsProposed (signature_in (declarations_of (record { types = u; store = r; additions = w.additions })))) (map (clause_of u r) terms)
      proposed_clauses = subst (λ sg. All (IsProposed sg) (map (clause_of u r) terms)) (same_constants (record { types = u; store = r; additions = w.additions }) grows_read.world) (all_proposed u r cs terms read)

      names_are : map (name_of u) ids ≡ names (map (constant_of t) ids)
      names_are = sym (names-constants u ids) ∙ ap names (still_are t u more ids put.held)

      meant : (ls : List kept.Clause) × MeanKept (kinds u) (signature u) cs ls × AreOnes (map (clause_of u r) terms) ls
      meant = are_meant u sound r cs terms read

      meant_so : MeanKept (kinds_in (declarations_of w)) (signature_with (declarations_of w) (map (constant_of t) ids)) cs meant.0
      meant_so = moved (kinds u) still_kinds (signature u) (ap type_in still_constants) (λ us z. MeanKept us z cs meant.0) meant.1

      same_block : definition_of (record { types = u; store = r; additions = w.additions }) (record { inductive = inductive; predicates = ids; clauses = terms }) ≡ defined (block_with inductive (map (constant_of t) ids) meant.0)
      same_block =
          ap (λ ns. record { inductive = inductive; predicates = ns; clauses = map case_of (map (clause_of u r) terms) }) names_are
          ∙ ap (λ ks. record { inductive = inductive; predicates = names ps; clauses = ks }) (same_cases (map (clause_of u r) terms) meant.0 meant.2)

      -- IT IS PUT IN
      pub put_in : (new : World) → declarations_of new ≡ declarations_of (record { types = u; store = r; additions = w.additions }) ++ a_block (definition_of (record { types = u; store = r; additions = w.additions }) (record { inductive = inductive; predicates = ids; clauses = terms })) ∷ []
          → Grows (record { types = u; store = r; additions = w.additions }) new
          → IsDefinable (declarations_of (record { types = u; store = r; additions = w.additions })) (block_of u r (record { inductive = inductive; predicates = ids; clauses = terms }))
          → IsDeclared w new (command.define inductive ds cs)
      put_in new e g able = record {
        more = map predicate_of ps ++ a_block (defined (block_with inductive ps meant.0)) ∷ [];
        declares = new_predicates (record {
          predicates = ps;
          clauses = meant.0;
          types = types;
          meant = meant_so;
          right = right_too (names ps) (map (clause_of u r) terms) meant.0 meant.2 (subst (λ ns. IsRightBlock (record { inductive = inductive; predicates = ns; clauses = map (clause_of u r) terms })) names_are able.right);
          is = refl;
        });
        declared =
            e ∙ ap (λ es. es ++ a_block (definition_of (record { types = u; store = r; additions = w.additions }) block) ∷ []) declares
            ∙ append_assoc (declarations_of w) (map predicate_of ps) (a_block (definition_of (record { types = u; store = r; additions = w.additions }) block) ∷ [])
            ∙ ap (λ b. declarations_of w ++ (map predicate_of ps ++ a_block b ∷ [])) same_block;
        grows = grows_on w (record { types = u; store = r; additions = w.additions }) new grows_read g;
      }

      -- no predicate of it has a definition
      undefined_there : (x : Name) → IsNew (names (constants w.types)) x → block_in (declarations_of (record { types = u; store = r; additions = w.additions })) x ≡ None
      undefined_there x n =
          ap (λ es. block_in es x) declares ∙ block_in-append (declarations_of w) (map predicate_of ps) x
          ∙ ap (λ o. or_else o (block_in (map predicate_of ps) x)) (undefined w x absent 0 w.additions is.additions)
          ∙ none_defined ps x
        where
          absent : (c : ConstId) → HoldsConstant w.types c → name_of w.types c ≡ x → ⊥
          absent c h named =
              let there = name_listed (constants w.types) (constant_of w.types c) (Contains-get_or (constants w.types) c.0 _ h) in
              let bad : true ≡ false = sym (contains_any x (names (constants w.types)) (subst (Contains (names (constants w.types))) named there)) ∙ n in
              cc

      pub not_put_in : (f : DefineFault) → IsDefineFault (declarations_of (record { types = u; store = r; additions = w.additions })) (block_of u r (record { inductive = inductive; predicates = ids; clauses = terms })) f → Refuses (halt_by f)
      not_put_in (define.Clash x) h =
          let new : IsNew (names (constants w.types)) x = of_middle (IsNew (names (constants w.types))) h.before h.after x
          (subst (All (IsNew (names (constants w.types)))) (sym names_are ∙ h.whole) (new_names (kinds w.types) (names (constants w.types)) ds ps put.found)) in
          let some = subst IsSome (undefined_there x new) h.defined in
          let bad : false ≡ true = some in
          absurd (cc)
      not_put_in (define.BadHead number) h =
          faulty types meant_so (fault_too (names ps) 1 (map (clause_of u r) terms) meant.0 (bad_head number) meant.2 (subst (λ ns. IsFaultOf (record { inductive = inductive; predicates = ns; clauses = map (clause_of u r) terms }) (bad_head number)) names_are h.1))
      not_put_in (define.NotStratified p) h =
          faulty types meant_so (fault_too (names ps) 1 (map (clause_of u r) terms) meant.0 (not_stratified p) meant.2 (subst (λ ns. IsFaultOf (record { inductive = inductive; predicates = ns; clauses = map (clause_of u r) terms }) (not_stratified p)) names_are h.1))
      not_put_in (define.Memory m) h = tt
