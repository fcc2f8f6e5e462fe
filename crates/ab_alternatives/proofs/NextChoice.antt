-- What is asked for the next choice, and what it adds to the cases that were gone through.
use Rattle.std.proofs.Common.{◌≡◌, ℕ, ◌+◌, ◌<◌, List, [], ◌∷◌, ◌++◌, map, take, length, get_or, refl, sym, ◌∙◌, ap, subst, append_assoc}
use Rattle.std.specs.Prelude.{All}
use Rattle.std.proofs.lemmas.List.{map-append, map_more}
use Rattle.std.proofs.lemmas.List.Elements.{All-get_or}
use Rattle.ab_norm.specs.ab_store.specs.declared.node.CellId.{CellId}
use Rattle.ab_norm.specs.Nominals.{HoldsNominal}
use Rattle.ab_norm.specs.declared.nominal.Nominal.{Nominal}
use Rattle.ab_unifiers.specs.Clauses.{Clause}
use Rattle.ab_unifiers.specs.Choices.{for_each}
use Rattle.ab_formulas.specs.CaseClauses as kept
use Rattle.ab_typing.specs.DefinitionReadings.{clause_of, name_of}
use Rattle.ab_typing.specs.declared.definitions.ClauseTerm.{ClauseTerm}
use Rattle.ab_instances.specs.ListReadings.{names_read}
use Rattle.ab_instances.proofs.Made.{names_stay, names_held}
use Rattle.ab_formulas.specs.Sequents.{Variable}
use Rattle.ab_logic.specs.Worlds.{IsKeptClause, variable_of}
use Rattle.ab_logic.specs.SequentReadings.{sequent_of}
use Rattle.ab_logic.specs.declared.world.World.{World}
use Rattle.ab_logic.specs.declared.sequent.Sequent.{Sequent as Kept}
use Rattle.ab_theory.specs.Splits.{CaseOver}
use Rattle.ab_theory.specs.Atoms.{Defined}
use Rattle.ab_theory.specs.Analysis.{case_of, cases_of}
use Rattle.ab_alternatives.specs.AtomReadings.{defined_read, choice_read}
use Rattle.ab_alternatives.specs.declared.atoms.DefinedAtom.{DefinedAtom}
use Rattle.ab_alternatives.specs.CaseSteps.{clause_cases, IsLater, IsReady, ArePassed, AreStopped}
use Rattle.ab_alternatives.specs.declared.constants.Constants.{Constants}
use Rattle.ab_alternatives.proofs.Listed.{cases_by_clauses, for_each-append, for_each-map, for_each-more, at_place}
use Rattle.ab_alternatives.proofs.Passed.{passed_on, stopped_on, stopped_in}
use Rattle.ab_alternatives.proofs.Later.{clause_same, atom_same, case_same, cases_same}

-- ALL CASES, clause by clause, as the clauses are kept
pub all_cases : (w : World) (a : DefinedAtom) (g r : Kept) (name : List ℕ) → cases_of (sequent_of w g) (sequent_of w r) name (defined_read w a)
    ≡ for_each (λ c. clause_cases (sequent_of w g) (sequent_of w r) name (defined_read w a) (kept.case_of (clause_of w.types w.store c))) a.block.clauses
all_cases w a g r name =
    let by : Clause (List ℕ) → List CaseOver = clause_cases (sequent_of w g) (sequent_of w r) name (defined_read w a) in
    cases_by_clauses (sequent_of w g) (sequent_of w r) name (defined_read w a)
    ∙ for_each-map by kept.case_of (map (clause_of w.types w.store) a.block.clauses)
    ∙ for_each-map (λ c. by (kept.case_of c)) (clause_of w.types w.store) a.block.clauses

-- the cells of variables that read the same
pub same_variables : (w : World) (xs ys : List CellId) → map (variable_of w) xs ≡ map (variable_of w) ys → xs ≡ ys
same_variables w [] [] e = refl
same_variables w [] (y ∷ ys) e = absurd (cc)
same_variables w (x ∷ xs) [] e = absurd (cc)
same_variables w (x ∷ xs) (y ∷ ys) e =
    let one : variable_of w x ≡ variable_of w y = cc in
    let others : map (variable_of w) xs ≡ map (variable_of w) ys = cc in
    let number : x.0 ≡ y.0 = ap (λ (v : Variable). v.number) one in
    let cell : x ≡ y = ap (λ n. record { 0 = n }) number in
    ap (λ c. c ∷ xs) cell ∙ ap (λ l. y ∷ l) (same_variables w xs ys others)

module _ (w v : World) (later : IsLater w v) (a : DefinedAtom) (k : Constants) (g r : Kept) (ready : IsReady w a k g r) (name : List ℕ) where
  module _ (c : ClauseTerm) (there : IsKeptClause w.types w.store c) where
    abbrev IsChoice : World → List Nominal → Type 0
    IsChoice u ns = map (λ b. b.type) (names_read u.types ns) ≡ map (λ z. z.type) (kept.case_of (clause_of u.types u.store c)).names

    -- the case of a choice, in a world
    abbrev the_case : World → List Nominal → CaseOver
    the_case u ns = case_of (sequent_of u g) (sequent_of u r) name (defined_read u a) (choice_read u c ns)

    pub next_predicate : (kept.case_of (clause_of w.types w.store c)).predicate ≡ name_of w.types a.predicate → (kept.case_of (clause_of v.types v.store c)).predicate ≡ name_of v.types a.predicate
    next_predicate e = ap (λ cl. (kept.case_of cl).predicate) (clause_same w v later c there) ∙ e ∙ ap (λ (d : Defined). d.predicate) (sym (atom_same w v later a ready.atom))

    pub next_names : (list : List (List Nominal)) (i : ℕ) (d : List Nominal) → i < length list → All (All (HoldsNominal w.types)) list → (ns : List Nominal) → ns ≡ get_or list i d → All (HoldsNominal v.types) ns
    next_names list i d l held ns e = subst (All (HoldsNominal v.types)) (sym e) (names_held w.types v.types later.grows.types (get_or list i d) (All-get_or (All (HoldsNominal w.types)) list i d l held))

    pub next_fit : (list : List (List Nominal)) (i : ℕ) (d : List Nominal) → i < length list → All (All (HoldsNominal w.types)) list → All (IsChoice w) list → (ns : List Nominal) → ns ≡ get_or list i d → IsChoice v ns
    next_fit list i d l held fit ns e =
        subst (IsChoice v) (sym e)
        (ap (map (λ b. b.type)) (names_stay w.types v.types later.grows.types (get_or list i d) (All-get_or (All (HoldsNominal w.types)) list i d l held))
        ∙ All-get_or (IsChoice w) list i d l fit
        ∙ ap (λ cl. map (λ z. z.type) (kept.case_of cl).names) (sym (clause_same w v later c there)))

    module _ (list : List (List Nominal)) (i : ℕ) (d : List Nominal) (l : i < length list) (held : All (All (HoldsNominal w.types)) list) (ns : List Nominal) (e : ns ≡ get_or list i d) (before now : List Kept) (passed : ArePassed w before (map (the_case w) (take i list)) v now) where
      same : the_case v ns ≡ the_case w (get_or list i d)
      same = ap (the_case v) e ∙ case_same w v later a k g r ready name c (get_or list i d) there (All-get_or (All (HoldsNominal w.types)) list i d l held)

      pub one_more_passed : (x : World) (then : List Kept) → ArePassed v now (the_case v ns ∷ []) x then → ArePassed w before (map (the_case w) (take (i + 1) list)) x then
      one_more_passed x then q =
          subst (λ cs. ArePassed w before cs x then) (sym (map_more (the_case w) list i d l))
          (passed_on w v later before now (map (the_case w) (take i list)) passed x (the_case w (get_or list i d) ∷ []) then (subst (λ h. ArePassed v now (h ∷ []) x then) same q))

      pub stopped_there : (n : ℕ) → AreStopped v (the_case v ns ∷ []) n → AreStopped w (map (the_case w) list) n
      stopped_there n q =
          let rest = at_place list i d l in
          stopped_in w (map (the_case w) (take i list) ++ the_case w (get_or list i d) ∷ []) (map (the_case w) rest.0) n
          (stopped_on w v later before now (map (the_case w) (take i list)) passed (the_case w (get_or list i d) ∷ []) n (subst (λ h. AreStopped v (h ∷ []) n) same q))
          (map (the_case w) list)
          (ap (map (the_case w)) rest.1 ∙ map-append (the_case w) (take i list) (get_or list i d ∷ rest.0)
          ∙ sym (append_assoc (map (the_case w) (take i list)) (the_case w (get_or list i d) ∷ []) (map (the_case w) rest.0)))

  -- clause by clause
  abbrev by_clause : World → ClauseTerm → List CaseOver
  by_clause u c = clause_cases (sequent_of u g) (sequent_of u r) name (defined_read u a) (kept.case_of (clause_of u.types u.store c))

  module _ (cs : List ClauseTerm) (i : ℕ) (d : ClauseTerm) (l : i < length cs) (held : All (IsKeptClause w.types w.store) cs) (c : ClauseTerm) (e : c ≡ get_or cs i d) (before now : List Kept) (passed : ArePassed w before (for_each (by_clause w) (take i cs)) v now) where
    same_cases : by_clause v c ≡ by_clause w (get_or cs i d)
    same_cases = ap (by_clause v) e ∙ cases_same w v later a k g r ready clause_cases name (get_or cs i d) (All-get_or (IsKeptClause w.types w.store) cs i d l held)

    pub one_clause_passed : (x : World) (then : List Kept) → ArePassed v now (by_clause v c) x then → ArePassed w before (for_each (by_clause w) (take (i + 1) cs)) x then
    one_clause_passed x then q =
        subst (λ hs. ArePassed w before hs x then) (sym (for_each-more (by_clause w) cs i d l))
        (passed_on w v later before now (for_each (by_clause w) (take i cs)) passed x (by_clause w (get_or cs i d)) then (subst (λ hs. ArePassed v now hs x then) same_cases q))

    pub clause_stopped : (n : ℕ) → AreStopped v (by_clause v c) n → AreStopped w (for_each (by_clause w) cs) n
    clause_stopped n q =
        let rest = at_place cs i d l in
        stopped_in w (for_each (by_clause w) (take i cs) ++ by_clause w (get_or cs i d)) (for_each (by_clause w) rest.0) n
        (stopped_on w v later before now (for_each (by_clause w) (take i cs)) passed (by_clause w (get_or cs i d)) n (subst (λ hs. AreStopped v hs n) same_cases q))
        (for_each (by_clause w) cs)
        (ap (for_each (by_clause w)) rest.1 ∙ for_each-append (by_clause w) (take i cs) (get_or cs i d ∷ rest.0)
        ∙ sym (append_assoc (for_each (by_clause w) (take i cs)) (by_clause w (get_or cs i d)) (for_each (by_clause w) rest.0)))
