-- The program of a world is its clauses as they are kept, in order; and each of them is one.
use Rattle.std.specs.List.{All}
use Rattle.std.proofs.Common.{◌≡◌, ℕ, ◌-◌, List, [], ◌∷◌, ◌++◌, map, take, drop, Some, refl, sym, ◌∙◌, ap, subst}
use Rattle.std.proofs.lemmas.List.Elements.{All-nil, All-cons, All-head, All-tail}
use Rattle.ab_store.specs.ab_types.specs.Entries as table
use Rattle.ab_store.specs.ab_types.specs.Entries.{Table, signature}
use Rattle.ab_typing.specs.DefinitionReadings.{clause_of}
use Rattle.ab_term.specs.Terms.{constant, logical, nominal, variable, index, lam, spine, Read}
use Rattle.ab_formulas.specs.Programs.{program_in, IsProgramClause, HavePrograms, IsProgramHead}
use Rattle.ab_formulas.proofs.Programs.{program_in-append}
use Rattle.ab_formulas.proofs.ProgramClauses.{is_program_clause}
use Rattle.ab_logic.specs.Additions.{clauses_with, clauses_kept}
use Rattle.ab_logic.specs.Worlds.{head_constant, clause_read, declared, declaration_of, declared_from, declarations_of, IsKept, IsWorld}
use Rattle.ab_logic.specs.declared.world.World.{World}
use Rattle.ab_logic.specs.declared.additions.Added.{Added}
use Rattle.ab_logic.specs.declared.additions.Addition.{Addition}
use Rattle.ab_logic.specs.declared.additions.Addition.TheVariants.{Theorem, Definition, Clause}
use Rattle.ab_logic.proofs.Declaring.{in_rest, in_part, constants_are}

pub program-declared : (s : Table) → program_in (declared s) ≡ []
program-declared [] = refl
program-declared (table.a_kind k ∷ s) = program-declared s
program-declared (table.a_type A ∷ s) = program-declared s
program-declared (table.a_constant c ∷ s) = program-declared s

pub program_is : (w : World) (done : ℕ) (xs : List Added) → program_in (declared_from w done xs) ≡ map (clause_read w) (clauses_kept xs)
program_is w done [] = in_rest (λ ds. program_in ds ≡ []) program-declared done w.types
program_is w done (a ∷ xs) =
    program_in-append (take (a.before - done) (drop done (declared w.types))) (declaration_of w a.what ∷ declared_from w a.before xs)
    ∙ ap (λ cs. cs ++ program_in (declaration_of w a.what ∷ declared_from w a.before xs)) (in_part (λ ds. program_in ds ≡ []) program-declared (a.before - done) done w.types)
    ∙ one a.what (program_is w a.before xs)
  where
    one : (what : Addition) → program_in (declared_from w a.before xs) ≡ map (clause_read w) (clauses_kept xs)
        → program_in (declaration_of w what ∷ declared_from w a.before xs) ≡ map (clause_read w) (clauses_with what (clauses_kept xs))
    one (Theorem e) rest = rest
    one (Definition b) rest = rest
    one (Clause c h) rest = ap (λ cs. clause_read w c ∷ cs) rest

-- so the clauses of a world are a program

module _ (w : World) where
  all_programs : (xs : List Added) → All (λ (a : Added). IsKept w.types w.store a.what) xs → All (IsProgramClause (signature w.types)) (map (clause_read w) (clauses_kept xs))
  all_programs [] all = All-nil (IsProgramClause (signature w.types))
  all_programs (a ∷ xs) all = one a.what (All-head (λ (b : Added). IsKept w.types w.store b.what) a xs all) (all_programs xs (All-tail (λ (b : Added). IsKept w.types w.store b.what) a xs all))
    where
      one : (what : Addition) → IsKept w.types w.store what → All (IsProgramClause (signature w.types)) (map (clause_read w) (clauses_kept xs))
          → All (IsProgramClause (signature w.types)) (map (clause_read w) (clauses_with what (clauses_kept xs)))
      one (Theorem e) k rest = rest
      one (Definition b) k rest = rest
      one (Clause c h) k rest =
          All-cons (IsProgramClause (signature w.types)) (clause_read w c) (map (clause_read w) (clauses_kept xs))
          (is_program_clause (signature w.types) (clause_of w.types w.store c) k.0.well) rest

  pub have_programs : IsWorld w → HavePrograms (declarations_of w)
  have_programs is =
      subst (λ sg. All (IsProgramClause sg) (program_in (declarations_of w))) (ap table.type_in (sym (constants_are w 0 w.additions is.order)))
      (subst (All (IsProgramClause (signature w.types))) (sym (program_is w 0 w.additions)) (all_programs w.additions is.additions))

-- a term with a constant at its head may be the head of a clause
pub is_headed : (t : Read) (p : List ℕ) → head_constant t ≡ Some p → IsProgramHead t
is_headed (lam A x t) p e = absurd (cc)
is_headed (spine (constant q) ts) p e = tt
is_headed (spine (logical l) ts) p e = absurd (cc)
is_headed (spine (nominal a) ts) p e = absurd (cc)
is_headed (spine (variable y) ts) p e = absurd (cc)
is_headed (spine (index i) ts) p e = absurd (cc)
