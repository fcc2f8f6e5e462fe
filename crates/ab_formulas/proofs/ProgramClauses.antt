-- What is kept of a clause of the program is one: its variables put in order.
use Rattle.std.proofs.Common.{◌≡◌, ◌⊎◌, inl, inr, ℕ, zero, suc, List, [], ◌∷◌, ◌++◌, map, length, codes, true, false, Option, Some, None, refl, sym, ◌∙◌, ap, subst}
use Rattle.std.specs.List.{All}
use Rattle.std.specs.Prelude.{Contains}
use Rattle.std.proofs.lemmas.Bool.{false≢true}
use Rattle.std.proofs.lemmas.List.Elements.{All-nil, All-cons, All-head, All-tail}
use Rattle.ab_term.specs.Types.{Ty, o}
use Rattle.ab_term.specs.Logical.{truth}
use Rattle.ab_term.specs.Terms.{Nominal, Variable, constant, logical, nominal, variable, index, lam, spine, no_terms, Read}
use Rattle.ab_term.specs.Typing.{Signature, HasType}
use Rattle.ab_term.specs.Names.{support, support_of_all}
use Rattle.ab_term.specs.Variables.{Substitution, variables, variables_of_all, value_in, image, IsTyped}
use Rattle.ab_term.specs.Sameness.{same_number}
use Rattle.ab_term.proofs.Compositions.{image_typed}
use Rattle.ab_term.proofs.Expansions.{expansion_typed}
use Rattle.ab_term.proofs.Lists.{Contains-none, Contains-here}
use Rattle.ab_unifiers.specs.Replacements.{Cell, holds}
use Rattle.ab_unifiers.proofs.Agreeing.{holds_front, holds_behind, holds_itself}
use Rattle.ab_unifiers.specs.Clauses.{Each, Clause, numbered, put_together, Within}
use Rattle.ab_unifiers.specs.Prefixes.{prefix, opened, predicate_of, arguments_of, own_terms}
use Rattle.ab_unifiers.proofs.Constants as constants
use Rattle.ab_unifiers.proofs.Variables as over
use Rattle.ab_unifiers.proofs.Rows.{each_any, found_has, found_none, nothing_found, together_typed}
use Rattle.ab_unifiers.proofs.Unifier.{append-none}
use Rattle.ab_formulas.specs.Clauses as kept
use Rattle.ab_formulas.specs.Clauses.{ClauseVariable}
use Rattle.ab_formulas.specs.CaseClauses.{in_terms, cell_of, case_of}
use Rattle.ab_formulas.specs.Programs.{IsGoalOrNone, IsProgramClause, IsProgramHead, IsProgramKept}

none_there : (xs : List Nominal) → ((a : Nominal) → Contains xs a → ⊥) → xs ≡ []
none_there [] f = refl
none_there (a ∷ xs) f = absurd (f a (Contains-here a xs))

abbrev NoConstant : Nominal → Type 0
NoConstant a = ⊥

abbrev x : List ℕ
x = codes "x"

module _ (sg : Signature) where
  owns_typed : (n : ℕ) (vs : List ClauseVariable) → Each (λ y t. HasType sg [] t y.type) (map in_terms vs) (own_terms x (numbered n (map cell_of vs)))
  owns_typed n [] = tt
  owns_typed n (v ∷ vs) = (expansion_typed sg x v.type [] (variable (record { name = n; type = v.type })) refl, owns_typed (suc n) vs)

  owns_nameless : (n : ℕ) (vs : List ClauseVariable) → Each (λ y t. constants.Has NoConstant t) (map in_terms vs) (own_terms x (numbered n (map cell_of vs)))
  owns_nameless n [] = tt
  owns_nameless n (v ∷ vs) = (constants.expansion_of_has NoConstant x v.type (variable (record { name = n; type = v.type })) no_terms tt tt, owns_nameless (suc n) vs)

  owns_within : (Q : Variable ℕ → Type 0) (n : ℕ) (vs : List ClauseVariable) → ((y : Variable ℕ) → holds (numbered n (map cell_of vs)) y ≡ true → Q y)
      → Each (λ y t. over.Has Q t) (map in_terms vs) (own_terms x (numbered n (map cell_of vs)))
  owns_within Q n [] f = tt
  owns_within Q n (v ∷ vs) f =
      let w : Variable ℕ = record { name = n; type = v.type } in
      let more = numbered (suc n) (map cell_of vs) in
      (over.expansion_of_has Q x v.type (variable w) no_terms (f w (holds_front (w ∷ []) more w (holds_itself w))) tt, owns_within Q (suc n) vs (λ i g. f i (holds_behind (w ∷ []) more i g)))

  module _ (vs : List ClauseVariable) where
    abbrev own : List (Cell (List ℕ))
    own = map cell_of vs

    abbrev ys : List (Variable ℕ)
    ys = map in_terms vs

    abbrev targets : List Read
    targets = own_terms x (numbered 0 own)

    abbrev to_own : Substitution ℕ (List ℕ)
    to_own = put_together ys targets

    abbrev InClause : Variable ℕ → Type 0
    InClause y = holds (numbered 0 own) y ≡ true

    to_own_typed : IsTyped sg to_own
    to_own_typed = together_typed sg ys targets (owns_typed 0 vs)

    put_has : (Q : Read → Type 0) → Each (λ y t. Q t) ys targets → (y : Variable ℕ) (t : Read) → value_in same_number to_own y ≡ Some t → Q t
    put_has Q e y t g = found_has Q ys targets [] e (nothing_found Q) y t (ap (λ q. value_in same_number q y) (append-none to_own) ∙ g)

    all_replaced : (y : Variable ℕ) → value_in same_number to_own y ≡ None → holds ys y ≡ true → ⊥
    all_replaced y e h = false≢true (sym (found_none ys targets [] (each_any (λ y t. HasType sg [] t y.type) ys targets (owns_typed 0 vs)) y (ap (λ q. value_in same_number q y) (append-none to_own) ∙ e)).0 ∙ h)

    nameless : (t : Read) → support t ≡ [] → constants.Has NoConstant (image same_number to_own t)
    nameless t e = constants.image_by_has NoConstant (value_in same_number to_own) (put_has (constants.Has NoConstant) (owns_nameless 0 vs)) t
        (constants.support_has NoConstant t (λ a m. Contains-none a (subst (λ l. Contains l a) e m)))

    within : (t : Read) → Within (variables t) ys → over.Has InClause (image same_number to_own t)
    within t v = over.image_by_has (λ y. holds ys y ≡ true) InClause (value_in same_number to_own) (put_has (over.Has InClause) (owns_within InClause 0 vs (λ y h. h))) (λ y e h. absurd (all_replaced y e h)) t
        (over.held_has (λ y. holds ys y ≡ true) t v)

    goal_image : (b : Read) → IsGoalOrNone sg b → IsGoalOrNone sg (image same_number to_own b)
    goal_image b (inl d) = inl (image_typed sg same_number to_own to_own_typed d)
    goal_image b (inr e) = inr (ap (image same_number to_own) e)

    abbrev atom : Read → Read
    atom h = opened (image same_number to_own h) (own_terms x (numbered (length own) (prefix h)))

    abbrev built : Read → Read → Clause (List ℕ)
    built h b = record { variables = own; names = prefix h; predicate = predicate_of (atom h); arguments = arguments_of (atom h); body = image same_number to_own b }

    program_clause : (h b : Read) → IsProgramHead h → HasType sg [] h o → IsGoalOrNone sg b → support h ≡ [] → support b ≡ [] → Within (variables h) ys → Within (variables b) ys → IsProgramClause sg (built h b)
    program_clause (lam A y t) b is head body hn bn hv bv = absurd is
    program_clause (spine (nominal a) ts) b is head body hn bn hv bv = absurd is
    program_clause (spine (variable y) ts) b is head body hn bn hv bv = absurd is
    program_clause (spine (index i) ts) b is head body hn bn hv bv = absurd is
    program_clause (spine (logical l) ts) b is head body hn bn hv bv = absurd is
    program_clause (spine (constant p) ts) b is head body hn bn hv bv = record {
      no_names = refl;
      head = image_typed sg same_number to_own to_own_typed head;
      body = goal_image b body;
      head_without_constants = none_there _ (constants.has_support NoConstant (image same_number to_own (spine (constant p) ts)) (nameless (spine (constant p) ts) hn));
      body_without_constants = none_there _ (constants.has_support NoConstant (image same_number to_own b) (nameless b bn));
      head_variables = λ y h. over.has_held InClause (image same_number to_own (spine (constant p) ts)) (within (spine (constant p) ts) hv) y h;
      body_variables = λ y h. over.has_held InClause (image same_number to_own b) (within b bv) y h;
    }

  pub is_program_clause : (c : kept.Clause) → IsProgramKept sg c → IsProgramClause sg (case_of c)
  is_program_clause c k =
      program_clause c.variables c.head c.body k.1 k.0.head k.0.body k.0.head_without_constants k.0.body_without_constants k.0.head_variables k.0.body_variables
