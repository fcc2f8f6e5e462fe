-- A JUDGEMENT HAS THE SAME RULES by other numbers for its variables: those of the program as they are, and the parts of the formula
-- in focus by these numbers. Where the clauses are a program's, each rule is closed.
use Rattle.std.specs.Prelude.{if◌then◌else◌, IfSome}
use Rattle.std.specs.List.{All, list_any}
use Rattle.std.specs.Option.{option_map}
use Rattle.std.proofs.Common.{◌≡◌, ℕ, List, [], ◌∷◌, ◌++◌, map, filter, Bool, true, false, cond, ◌||◌, Option, Some, None, refl, sym, ◌∙◌, ap}
use Rattle.std.proofs.lemmas.List.Elements.{All-nil, All-cons, All-head, All-tail}
use Rattle.ab_term.specs.Terms.{Head, constant, logical, nominal, variable, index, lam, spine, Read}
use Rattle.ab_term.specs.Translation.{translate_head}
use Rattle.ab_term.specs.Typing.{Signature}
use Rattle.ab_term.proofs.Translations.{map-append}
use Rattle.ab_unifiers.specs.Clauses.{Clause}
use Rattle.ab_formulas.specs.Programs.{Program, IsProgramClause}
use Rattle.ab_theory.specs.Judgements.{Judgement}
use Rattle.ab_theory.specs.Opening.{Kind, compound, atomic, undetermined, kind_of_head, kind_of, is_undetermined}
use Rattle.ab_theory.specs.Parts.{Part, parts_of}
use Rattle.ab_theory.specs.SpecRules.{SpecRule, by_clause, by_list, by_opening, by_part, clauses_for, is_nil, list_rules, rules_unfocused, rules_in_focus, rules_for, rules_of}
use Rattle.ab_effects.specs.Judgements.{renumbered_judgement, renumbered_part, renumbered_rule, IsClosed, IsClosedRule}
use Rattle.ab_effects.proofs.MovedParts.{T, parts_moved}

module _ (f : ℕ → ℕ) where
  kind_head_moved : (h : Head ℕ) → kind_of_head (translate_head f h) ≡ kind_of_head h
  kind_head_moved (constant c) = refl
  kind_head_moved (nominal a) = refl
  kind_head_moved (logical l) = refl
  kind_head_moved (variable y) = refl
  kind_head_moved (index i) = refl

  kind_moved : (t : Read) → kind_of (T f t) ≡ kind_of t
  kind_moved (lam A x t) = refl
  kind_moved (spine h ts) = kind_head_moved h

  clauses_moved : (t : Read) (cs : Program) → clauses_for (T f t) cs ≡ clauses_for t cs
  clauses_moved (lam A x t) cs = refl
  clauses_moved (spine (constant p) ts) cs = refl
  clauses_moved (spine (logical l) ts) cs = refl
  clauses_moved (spine (nominal a) ts) cs = refl
  clauses_moved (spine (variable y) ts) cs = refl
  clauses_moved (spine (index i) ts) cs = refl

  nil_moved : (t : Read) → is_nil (T f t) ≡ is_nil t
  nil_moved (lam A x t) = refl
  nil_moved (spine (constant p) ts) = refl
  nil_moved (spine (logical l) ts) = refl
  nil_moved (spine (nominal a) ts) = refl
  nil_moved (spine (variable y) ts) = refl
  nil_moved (spine (index i) ts) = refl

  by_clauses_moved : (cs : Program) → map (renumbered_rule f) (map by_clause cs) ≡ map by_clause cs
  by_clauses_moved [] = refl
  by_clauses_moved (c ∷ cs) = ap (λ rs. by_clause c ∷ rs) (by_clauses_moved cs)

  by_list_moved : (L : Read) → list_rules (T f L) ≡ map (renumbered_rule f) (list_rules L)
  by_list_moved L = ap (λ b. if b then [] else (by_list ∷ [])) (nil_moved L) ∙ go (is_nil L)
    where
      go : (b : Bool) → (if b then [] else (by_list ∷ [])) ≡ map (renumbered_rule f) (if b then [] else (by_list ∷ []))
      go true = refl
      go false = refl

  unfocused_moved : (cs : Program) (L G : Read) (k : Kind) → rules_unfocused cs (T f L) (T f G) k ≡ option_map (map (renumbered_rule f)) (rules_unfocused cs L G k)
  unfocused_moved cs L G compound = refl
  unfocused_moved cs L G undetermined = refl
  unfocused_moved cs L G atomic =
      ap (λ ds. Some (map by_clause ds ++ list_rules (T f L))) (clauses_moved G cs)
      ∙ ap (λ rs. Some (map by_clause (clauses_for G cs) ++ rs)) (by_list_moved L)
      ∙ ap (λ rs. Some (rs ++ map (renumbered_rule f) (list_rules L))) (sym (by_clauses_moved (clauses_for G cs)))
      ∙ ap Some (sym (map-append (renumbered_rule f) (map by_clause (clauses_for G cs)) (list_rules L)))

  any_moved : (ps : List Part) → list_any (λ (p : Part). is_undetermined (kind_of p.atom)) (map (renumbered_part f) ps) ≡ list_any (λ (p : Part). is_undetermined (kind_of p.atom)) ps
  any_moved [] = refl
  any_moved (p ∷ ps) =
      ap (λ k. is_undetermined k || list_any (λ (q : Part). is_undetermined (kind_of q.atom)) (map (renumbered_part f) ps)) (kind_moved p.atom)
      ∙ ap (λ b. is_undetermined (kind_of p.atom) || b) (any_moved ps)

  by_parts_moved : (ps : List Part) → map by_part (map (renumbered_part f) ps) ≡ map (renumbered_rule f) (map by_part ps)
  by_parts_moved [] = refl
  by_parts_moved (p ∷ ps) = ap (λ rs. by_part (renumbered_part f p) ∷ rs) (by_parts_moved ps)

  abbrev parts_if : List Part → Bool → Option (List SpecRule)
  parts_if ps b = if b then None else Some (map by_part ps)

  determined_moved : (ps : List Part) (b : Bool) → parts_if (map (renumbered_part f) ps) b ≡ option_map (map (renumbered_rule f)) (parts_if ps b)
  determined_moved ps true = refl
  determined_moved ps false = ap Some (by_parts_moved ps)

  focus_moved : (ps : List Part) (k : Kind) → rules_in_focus (map (renumbered_part f) ps) k ≡ option_map (map (renumbered_rule f)) (rules_in_focus ps k)
  focus_moved ps undetermined = refl
  focus_moved ps compound = ap (parts_if (map (renumbered_part f) ps)) (any_moved ps) ∙ determined_moved ps (list_any (λ (p : Part). is_undetermined (kind_of p.atom)) ps)
  focus_moved ps atomic = ap (parts_if (map (renumbered_part f) ps)) (any_moved ps) ∙ determined_moved ps (list_any (λ (p : Part). is_undetermined (kind_of p.atom)) ps)

  rules_for_moved : (cs : Program) (o : Option Read) (L G : Read) → rules_for cs (option_map (T f) o) (T f L) (T f G) ≡ option_map (map (renumbered_rule f)) (rules_for cs o L G)
  rules_for_moved cs None L G = ap (rules_unfocused cs (T f L) (T f G)) (kind_moved G) ∙ unfocused_moved cs L G (kind_of G)
  rules_for_moved cs (Some F) L G =
      ap (λ ps. rules_in_focus ps (kind_of (T f G))) (sym (parts_moved f F))
      ∙ ap (rules_in_focus (map (renumbered_part f) (parts_of F))) (kind_moved G)
      ∙ focus_moved (parts_of F) (kind_of G)

  pub rules_moved : (cs : Program) (j : Judgement) → rules_of cs (renumbered_judgement f j) ≡ option_map (map (renumbered_rule f)) (rules_of cs j)
  rules_moved cs j = rules_for_moved cs j.focus j.context j.goal

-- each rule is closed

module _ (sg : Signature) where
  closed_clauses : (P : Clause (List ℕ) → Bool) (cs : Program) → All (IsProgramClause sg) cs → (rs : List SpecRule) → All IsClosedRule rs → All IsClosedRule (map by_clause (filter P cs) ++ rs)
  closed_clauses P [] all rs rest = rest
  closed_clauses P (c ∷ cs) all rs rest = go (P c) (closed_clauses P cs (All-tail (IsProgramClause sg) c cs all) rs rest)
    where
      closed : IsClosed c
      closed = let is = All-head (IsProgramClause sg) c cs all in record { head = is.head_variables; body = is.body_variables }

      go : (b : Bool) → All IsClosedRule (map by_clause (filter P cs) ++ rs) → All IsClosedRule (map by_clause (cond b (c ∷ filter P cs) (filter P cs)) ++ rs)
      go true more = All-cons IsClosedRule (by_clause c) (map by_clause (filter P cs) ++ rs) closed more
      go false more = more

  closed_list : (b : Bool) → All IsClosedRule (if b then [] else (by_list ∷ []))
  closed_list true = All-nil IsClosedRule
  closed_list false = All-cons IsClosedRule by_list [] tt (All-nil IsClosedRule)

  closed_parts : (ps : List Part) → All IsClosedRule (map by_part ps)
  closed_parts [] = All-nil IsClosedRule
  closed_parts (p ∷ ps) = All-cons IsClosedRule (by_part p) (map by_part ps) tt (closed_parts ps)

  closed_for : (A : Read) (cs : Program) → All (IsProgramClause sg) cs → (rs : List SpecRule) → All IsClosedRule rs → All IsClosedRule (map by_clause (clauses_for A cs) ++ rs)
  closed_for (lam B x t) cs all rs rest = rest
  closed_for (spine (constant p) ts) cs all rs rest = closed_clauses _ cs all rs rest
  closed_for (spine (logical l) ts) cs all rs rest = rest
  closed_for (spine (nominal a) ts) cs all rs rest = rest
  closed_for (spine (variable y) ts) cs all rs rest = rest
  closed_for (spine (index i) ts) cs all rs rest = rest

  closed_unfocused : (cs : Program) → All (IsProgramClause sg) cs → (L G : Read) (k : Kind) → IfSome (rules_unfocused cs L G k) (All IsClosedRule)
  closed_unfocused cs all L G compound = All-cons IsClosedRule by_opening [] tt (All-nil IsClosedRule)
  closed_unfocused cs all L G undetermined = tt
  closed_unfocused cs all L G atomic = closed_for G cs all (list_rules L) (closed_list (is_nil L))

  closed_if : (ps : List Part) (b : Bool) → IfSome (if b then None else Some (map by_part ps)) (All IsClosedRule)
  closed_if ps true = tt
  closed_if ps false = closed_parts ps

  closed_focus : (ps : List Part) (k : Kind) → IfSome (rules_in_focus ps k) (All IsClosedRule)
  closed_focus ps undetermined = tt
  closed_focus ps compound = closed_if ps (list_any (λ (p : Part). is_undetermined (kind_of p.atom)) ps)
  closed_focus ps atomic = closed_if ps (list_any (λ (p : Part). is_undetermined (kind_of p.atom)) ps)

  closed_rules_for : (cs : Program) → All (IsProgramClause sg) cs → (o : Option Read) (L G : Read) → IfSome (rules_for cs o L G) (All IsClosedRule)
  closed_rules_for cs all None L G = closed_unfocused cs all L G (kind_of G)
  closed_rules_for cs all (Some F) L G = closed_focus (parts_of F) (kind_of G)

  pub closed_rules : (cs : Program) → All (IsProgramClause sg) cs → (j : Judgement) → IfSome (rules_of cs j) (All IsClosedRule)
  closed_rules cs all j = closed_rules_for cs all j.focus j.context j.goal
