use Rattle.std.specs.List.{All}
use Rattle.std.proofs.Common.{[], ◌∷◌, ◌++◌, map, true, codes, sym, ap, ◌∙◌, subst}
use Rattle.std.proofs.lemmas.List.Elements.{All-nil, All-cons}
use Rattle.ab_store.specs.ab_types.specs.Ids.{HoldsConstant}
use Rattle.ab_typing.specs.DefinitionReadings.{name_of, clause_of}
use Rattle.ab_unifiers.specs.Member.{member_first}
use Rattle.ab_formulas.specs.CaseClauses.{case_of}
use Rattle.ab_logic.specs.MemberDefinition.{kept_first, kept_later}
use Rattle.ab_logic.specs.Worlds.{IsKeptClause}
use Rattle.ab_logic.proofs.Members.{clause_later, clause_held, kept_clause, first_is, later_is, first_well, first_body, later_well, later_body}
use Rattle.ab_logic.proofs.member.member_definition.Goals as goal

pub returns-clause-reads : goal.returns-clause-reads
returns-clause-reads c =
    let types = c.args.types.now in
    let s = c.later_clause.new.store in
    let are = c.in_ok-words.ensures in
    let first = clause_later types c.first_clause.new.store s c.in_ok-later.ensures.before c.in_ok-first.first (c.in_ok-first.ensures.held types) ∙ c.in_ok-first.ensures.reads types are in
    let later = c.in_ok-later.ensures.reads types are in
    let ps = c.from_vec.ensures ∙ c.in_ok-predicates.ensures.items in
    let cs = c.from_vec-2.ensures ∙ c.in_ok-push-2.ensures.items ∙ ap (λ zs. zs ++ c.in_ok-later.later ∷ []) (c.in_ok-push.ensures.items ∙ ap (λ zs. zs ++ c.in_ok-first.first ∷ []) c.new-clauses.ensures.items) in
    ap (λ qs. record { inductive = true; predicates = map (name_of types) qs; clauses = map case_of (map (clause_of types s) c.from_vec-2.result) }) ps
    ∙ ap (λ ds. record { inductive = true; predicates = name_of types c.in_ok-words.words.member ∷ []; clauses = map case_of (map (clause_of types s) ds) }) cs
    ∙ ap (λ n. record { inductive = true; predicates = n ∷ []; clauses = case_of (clause_of types s c.in_ok-first.first) ∷ case_of (clause_of types s c.in_ok-later.later) ∷ [] }) are.member_is
    ∙ ap (λ d. record { inductive = true; predicates = codes "member" ∷ []; clauses = case_of d ∷ case_of (clause_of types s c.in_ok-later.later) ∷ [] }) first
    ∙ ap (λ d. record { inductive = true; predicates = codes "member" ∷ []; clauses = case_of kept_first ∷ case_of d ∷ [] }) later
    ∙ ap (λ d. record { inductive = true; predicates = codes "member" ∷ []; clauses = d ∷ case_of kept_later ∷ [] }) first_is
    ∙ ap (λ d. record { inductive = true; predicates = codes "member" ∷ []; clauses = member_first ∷ d ∷ [] }) later_is

pub returns-clause-kept : goal.returns-clause-kept
returns-clause-kept c =
    let types = c.args.types.now in
    let s = c.later_clause.new.store in
    let are = c.in_ok-words.ensures in
    let e = c.in_ok-later.ensures.before in
    let first = clause_later types c.first_clause.new.store s e c.in_ok-first.first (c.in_ok-first.ensures.held types) ∙ c.in_ok-first.ensures.reads types are in
    let later = c.in_ok-later.ensures.reads types are in
    let ps = c.from_vec.ensures ∙ c.in_ok-predicates.ensures.items in
    let cs = c.from_vec-2.ensures ∙ c.in_ok-push-2.ensures.items ∙ ap (λ zs. zs ++ c.in_ok-later.later ∷ []) (c.in_ok-push.ensures.items ∙ ap (λ zs. zs ++ c.in_ok-first.first ∷ []) c.new-clauses.ensures.items) in
    record {
      predicates = subst (All (HoldsConstant types)) (sym ps) (All-cons (HoldsConstant types) c.in_ok-words.words.member [] are.member_held (All-nil (HoldsConstant types)));
      clauses =
          subst (All (IsKeptClause types s)) (sym cs)
          (All-cons (IsKeptClause types s) c.in_ok-first.first (c.in_ok-later.later ∷ [])
          (kept_clause types s c.in_ok-first.first kept_first (clause_held types c.first_clause.new.store s e c.in_ok-first.first (c.in_ok-first.ensures.held types)) first c.requires.types first_well first_body)
          (All-cons (IsKeptClause types s) c.in_ok-later.later []
          (kept_clause types s c.in_ok-later.later kept_later (c.in_ok-later.ensures.held types) later c.requires.types later_well later_body) (All-nil (IsKeptClause types s))));
    }
