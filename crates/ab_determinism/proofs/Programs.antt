-- The program's clauses are typed, also where more is declared; and so is a clause that is read.
use Rattle.std.specs.Prelude.{All}
use Rattle.std.proofs.Common.{◌≡◌, inl, inr, ℕ, List, [], ◌++◌, refl, sym, subst}
use Rattle.std.proofs.lemmas.List.Elements.{All-nil, All-append, All-weaker}
use Rattle.ab_term.specs.Terms.{Read}
use Rattle.ab_term.proofs.Unique.{more_typed}
use Rattle.ab_grammar.specs.CommandTrees as written
use Rattle.ab_unifiers.specs.Clauses.{Clause}
use Rattle.ab_formulas.specs.Declarations.{Declarations, signature_in}
use Rattle.ab_formulas.specs.Programs.{program_in, IsGoalOrNone, IsProgramClause, HavePrograms}
use Rattle.ab_formulas.proofs.Declaring.{more_constants}
use Rattle.ab_formulas.proofs.ProgramClauses.{is_program_clause}
use Rattle.ab_formulas.proofs.Programs.{program_in-append}
use Rattle.ab_meaning.specs.Terms.{kinds_in}
use Rattle.ab_infer.specs.Lists.{HasLists}
use Rattle.ab_states.specs.ab_specification.specs.ab_declare.proofs.Resolving.{parts_fine}
use Rattle.ab_states.specs.ab_specification.specs.ItemDeclarations.{IsInProgram}
use Rattle.ab_states.specs.ab_specification.proofs.ReadClauses.{read_proposed}

-- behind what was declared
module _ (D E : Declarations) where
  abbrev Before : Clause (List ℕ) → Type 0
  Before = IsProgramClause (signature_in D)

  abbrev Then : Clause (List ℕ) → Type 0
  Then = IsProgramClause (signature_in (D ++ E))

  still_goal : (t : Read) → IsGoalOrNone (signature_in D) t → IsGoalOrNone (signature_in (D ++ E)) t
  still_goal t (inl h) = inl (more_typed (signature_in D) (signature_in (D ++ E)) (more_constants D (D ++ E) (E, refl)) h)
  still_goal t (inr e) = inr e

  pub still_clause : (c : Clause (List ℕ)) → Before c → Then c
  still_clause c k = record {
    no_names = k.no_names;
    head = more_typed (signature_in D) (signature_in (D ++ E)) (more_constants D (D ++ E) (E, refl)) k.head;
    body = still_goal c.body k.body;
    head_without_constants = k.head_without_constants;
    body_without_constants = k.body_without_constants;
    head_variables = k.head_variables;
    body_variables = k.body_variables;
  }

  pub programs_behind : HavePrograms D → All Then (program_in E) → HavePrograms (D ++ E)
  programs_behind all more = subst (All Then) (sym (program_in-append D E)) (All-append Then (program_in D) (program_in E) (All-weaker Before Then still_clause (program_in D) all) more)

  pub program_stays : HavePrograms D → program_in E ≡ [] → HavePrograms (D ++ E)
  program_stays all none = programs_behind all (subst (All Then) (sym none) (All-nil Then))

-- A CLAUSE OF A FILE that is read
pub read_clause : (D : Declarations) → HasLists D → (c : written.Clause) (k : Clause (List ℕ)) → IsInProgram D c k → IsProgramClause (signature_in D) k
read_clause D lists c k m =
    let sg = signature_in D in
    let means = m.means in
    let fine = parts_fine sg (kinds_in D) lists.0 lists.1 c means.parts means.names in
    subst (IsProgramClause sg) (sym means.is) (is_program_clause sg means.kept (read_proposed sg (kinds_in D) c 0 means.parts means.names fine.0 fine.1 means.kept means.reads, m.atom))
