-- A clause of the program, as it is kept, under binders for its variables: with new variables for these it is the clause as it is read, with new
-- variables for its own.
use Rattle.std.proofs.Common.{◌≡◌, inl, inr, ℕ, zero, suc, ◌+◌, List, [], ◌∷◌, map, length, Some, codes, refl, sym, ◌∙◌, ap, subst}
use Rattle.std.specs.Prelude.{Contains}
use Rattle.ab_term.specs.Types.{Ty, o, arrows}
use Rattle.ab_term.specs.Logical.{truth}
use Rattle.ab_term.specs.Terms as tree
use Rattle.ab_term.specs.Terms.{constant, logical, variable, index, lam, nominal, spine, no_terms, terms_of, Read}
use Rattle.ab_term.specs.Typing.{Signature, HasType, TakeType, typed_spine, take_none, take_term}
use Rattle.ab_term.specs.Substitution.{instance_by_all}
use Rattle.ab_term.specs.Variables.{Substitution, variables, value_in, image, IsTyped}
use Rattle.ab_term.specs.Sameness.{same_number}
use Rattle.ab_term.proofs.ClosingImages.{variables-close}
use Rattle.ab_term.proofs.Compositions.{image_typed}
use Rattle.ab_term.proofs.Depends.{image_unmoved}
use Rattle.ab_term.proofs.Expansions.{expansion_typed}
use Rattle.ab_term.proofs.InOrder.{image-instances}
use Rattle.ab_term.proofs.Lists.{Contains-none, Contains-cases}
use Rattle.ab_unifiers.specs.Replacements.{Cell}
use Rattle.ab_unifiers.specs.Unifiers.{AreDifferent}
use Rattle.ab_unifiers.specs.Clauses.{Each, Within, numbered, put_together, head_of}
use Rattle.ab_unifiers.specs.Prefixes.{own_terms, prefix, opened, predicate_of, arguments_of}
use Rattle.ab_unifiers.proofs.Agreeing.{contains_holds}
use Rattle.ab_unifiers.proofs.Past.{own}
use Rattle.ab_unifiers.proofs.Rows.{each_any, found_each, together_typed, numbered_different}
use Rattle.ab_unifiers.proofs.Variables.{holds_contains}
use Rattle.ab_formulas.specs.Sequents.{Variable, in_terms}
use Rattle.ab_formulas.specs.Clauses.{ClauseVariable}
use Rattle.ab_formulas.specs.Clauses as kept
use Rattle.ab_formulas.specs.CaseClauses.{cell_of, case_of}
use Rattle.ab_formulas.specs.CaseClauses as cases
use Rattle.ab_formulas.specs.Programs.{IsGoalOrNone, IsProgramHead, IsProgramKept, goals_in}
use Rattle.ab_theory.specs.Equations.{variables_from}
use Rattle.ab_theory.specs.SpecRules.{stands_in_goals_alone}
use Rattle.ab_theory.proofs.FocusParts.{types_of}
use Rattle.ab_judgement_forms.specs.DemandWalks.{under_variables}
use Rattle.ab_judgement_forms.proofs.BindersPutIn.{under_typed, together_put}
use Rattle.ab_judgement_forms.proofs.ClosedInTurn.{map_then}
use Rattle.ab_judgement_forms.proofs.FormsPutIn.{own_hinted, all_own_hinted, own_put}
use Rattle.ab_judgement_forms.proofs.RenamedVariables.{AllWithin, SameTypes, alone_same}
use Rattle.ab_judgement_forms.proofs.StandIns.{IsScope, AllScopes, new_different}

abbrev x : List ℕ
x = codes "x"

-- a clause's variable, with its hint for a name
abbrev pub kept_variable : ClauseVariable → Variable
kept_variable v = record { number = v.number; type = v.type; name = v.hint }

-- under binders for its variables a term holds none
no_variable : (ys : List Variable) (t : Read) (z : tree.Variable ℕ) → Contains (variables (under_variables ys t)) z → Contains (variables t) z × ¬ Contains (map in_terms ys) z
no_variable [] t z m = (m, λ k. Contains-none z k)
no_variable (y ∷ ys) t z m =
    let one = variables-close zero (variable (in_terms y)) (under_variables ys t) z m in
    let rest = no_variable ys t z one.0 in
    (rest.0, λ k. elim (Contains-cases (in_terms y) (map in_terms ys) z k) [ inl e ↦ one.1 (ap variable (sym e)) | inr c ↦ rest.1 c ])

none_under : (ys : List Variable) (t : Read) → Within (variables t) (map in_terms ys) → (z : tree.Variable ℕ) → Contains (variables (under_variables ys t)) z → ⊥
none_under ys t w z m = let r = no_variable ys t z m in r.1 (holds_contains (map in_terms ys) z (w z (contains_holds (variables t) z r.0)))

types_same : (vs : List ClauseVariable) → map (λ (y : Variable). y.type) (map kept_variable vs) ≡ types_of (map cell_of vs)
types_same [] = refl
types_same (v ∷ vs) = ap (λ l. v.type ∷ l) (types_same vs)

truth_no_goal : (sg : Signature) → HasType sg {Var = ℕ} {Hint = List ℕ} [] (spine (logical truth) no_terms) o → ⊥
truth_no_goal sg (typed_spine e take_none) = cc

module _ (sg : Signature) where
  one_goal : (t : Read) → HasType sg [] t o → goals_in t ≡ t ∷ []
  one_goal (spine (logical truth) no_terms) d = absurd (truth_no_goal sg d)
  one_goal t d = refl

  goals_image : (s : Substitution ℕ (List ℕ)) → IsTyped sg s → (t : Read) → IsGoalOrNone sg t → goals_in (image same_number s t) ≡ map (image same_number s) (goals_in t)
  goals_image s typed (spine (logical truth) no_terms) is = refl
  goals_image s typed t (inl d) = one_goal (image same_number s t) (image_typed sg same_number s typed d)
  goals_image s typed t (inr e) = subst (λ u. goals_in (image same_number s u) ≡ map (image same_number s) (goals_in u)) (sym e) refl

  goals_within : (ys : List (tree.Variable ℕ)) (t : Read) → IsGoalOrNone sg t → Within (variables t) ys → AllWithin sg ys (goals_in t)
  goals_within ys (spine (logical truth) no_terms) is w = tt
  goals_within ys t (inl d) w = ((d, w), tt)
  goals_within ys t (inr e) w = subst (λ u. AllWithin sg ys (goals_in u)) (sym e) tt

  module _ (n : ℕ) (k : kept.Clause) (well : IsProgramKept sg k) where
    abbrev pub Ys : List Variable
    Ys = map kept_variable k.variables

    abbrev cells : List (Cell (List ℕ))
    cells = map cell_of k.variables

    abbrev pub Us : List Read
    Us = own_terms x (map in_terms (variables_from n cells))

    abbrev to_own : Substitution ℕ (List ℕ)
    to_own = put_together (map cases.in_terms k.variables) (own_terms x (numbered 0 cells))

    abbrev pub named : Substitution ℕ (List ℕ)
    named = put_together (numbered 0 cells) Us

    ys_are : map in_terms Ys ≡ map cases.in_terms k.variables
    ys_are = map_then kept_variable in_terms k.variables

    different : AreDifferent (map in_terms Ys)
    different = subst AreDifferent (sym ys_are) (well.0).different

    head_within : Within (variables k.head) (map in_terms Ys)
    head_within = subst (Within (variables k.head)) (sym ys_are) (well.0).head_variables

    body_within : Within (variables k.body) (map in_terms Ys)
    body_within = subst (Within (variables k.body)) (sym ys_are) (well.0).body_variables

    pub goals_are_within : AllWithin sg (map in_terms Ys) (goals_in k.body)
    goals_are_within = goals_within (map in_terms Ys) k.body (well.0).body body_within

    -- rows of own terms
    own_each : (vs : List ClauseVariable) (i : ℕ) → Each (λ (y : tree.Variable ℕ) t. HasType sg [] t y.type) (map in_terms (map kept_variable vs)) (own_terms x (numbered i (map cell_of vs)))
    own_each [] i = tt
    own_each (v ∷ vs) i = (expansion_typed sg x v.type [] (variable (record { name = i; type = v.type })) refl, own_each vs (suc i))

    new_each : (vs : List ClauseVariable) (i : ℕ) → Each (λ (y : tree.Variable ℕ) t. HasType sg [] t y.type) (map in_terms (map kept_variable vs)) (own_terms x (map in_terms (variables_from i (map cell_of vs))))
    new_each [] i = tt
    new_each (v ∷ vs) i = (expansion_typed sg x v.type [] (variable (record { name = i; type = v.type })) refl, new_each vs (i + 1))

    row_each : (es : List (Cell (List ℕ))) (i l : ℕ) → Each (λ (y : tree.Variable ℕ) t. HasType sg [] t y.type) (numbered i es) (own_terms x (map in_terms (variables_from l es)))
    row_each [] i l = tt
    row_each (c ∷ es) i l = (expansion_typed sg x c.type [] (variable (record { name = l; type = c.type })) refl, row_each es (suc i) (l + 1))

    row_types : (vs : List ClauseVariable) (i : ℕ) → SameTypes (map in_terms (map kept_variable vs)) (map in_terms (variables_from i (map cell_of vs)))
    row_types [] i = tt
    row_types (v ∷ vs) i = (refl, row_types vs (i + 1))

    own_taken : (D : Ty) (vs : List ClauseVariable) (i : ℕ) → TakeType sg [] (terms_of (own_terms x (numbered i (map cell_of vs)))) (arrows (map (λ (y : Variable). y.type) (map kept_variable vs)) D) D
    own_taken D [] i = take_none
    own_taken D (v ∷ vs) i = take_term (expansion_typed sg x v.type [] (variable (record { name = i; type = v.type })) refl) (own_taken D vs (suc i))

    named_typed : IsTyped sg named
    named_typed = together_typed sg (numbered 0 cells) Us (row_each cells 0 n)

    named_found : Each (λ y t. value_in same_number named y ≡ Some t) (numbered 0 cells) Us
    named_found = found_each named (numbered 0 cells) Us (numbered_different 0 cells) (λ y h t e. e) (each_any (λ (y : tree.Variable ℕ) t. HasType sg [] t y.type) (numbered 0 cells) Us (row_each cells 0 n))

    own_named : (es : List (Cell (List ℕ))) (i l : ℕ) → Each (λ y t. value_in same_number named y ≡ Some t) (numbered i es) (own_terms x (map in_terms (variables_from l es)))
        → map (image same_number named) (own_terms x (numbered i es)) ≡ own_terms x (map in_terms (variables_from l es))
    own_named [] i l e = refl
    own_named (c ∷ es) i l e =
        let y : tree.Variable ℕ = record { name = i; type = c.type } in
        let z : tree.Variable ℕ = record { name = l; type = c.type } in
        ap (λ t. t ∷ map (image same_number named) (own_terms x (numbered (suc i) es)))
        (own_put x sg (numbered 0 cells) Us named_typed (all_own_hinted x (map in_terms (variables_from n cells))) y (own x z) (own_hinted x z) e.0)
        ∙ ap (λ l. own x z ∷ l) (own_named es (suc i) (l + 1) e.1)

    -- WITH NEW VARIABLES for its own
    pub named_is : {D : Ty} (t : Read) → HasType sg [] t D → Within (variables t) (map in_terms Ys) → image same_number named (image same_number to_own t) ≡ instance_by_all (under_variables Ys t) Us
    named_is {D = D} t d w =
        let M = under_variables Ys t in
        ap (λ l. image same_number named (image same_number (put_together l (own_terms x (numbered 0 cells))) t)) (sym ys_are)
        ∙ ap (image same_number named) (together_put sg Ys (own_terms x (numbered 0 cells)) different (own_each k.variables 0) d)
        ∙ image-instances sg same_number named named_typed (own_terms x (numbered 0 cells)) (under_typed sg Ys d) (own_taken D k.variables 0)
        ∙ ap (λ m. instance_by_all m (map (image same_number named) (own_terms x (numbered 0 cells)))) (image_unmoved (value_in same_number named) M (λ z m. absurd (none_under Ys t w z m)))
        ∙ ap (instance_by_all M) (own_named cells 0 n named_found)

    abbrev pub head_scope : Read
    head_scope = under_variables Ys k.head

    abbrev pub goals_scopes : List Read
    goals_scopes = map (under_variables Ys) (goals_in k.body)

    -- the head, as the clause is read
    pub head_is : head_of (case_of k) ≡ image same_number to_own k.head
    head_is = go k.head well.1
      where
        go : (h : Read) → IsProgramHead h
            → spine (constant (predicate_of (opened (image same_number to_own h) (own_terms x (numbered (length cells) (prefix h)))))) (arguments_of (opened (image same_number to_own h) (own_terms x (numbered (length cells) (prefix h)))))
            ≡ image same_number to_own h
        go (spine (constant c) ts) h = refl
        go (spine (logical l) ts) h = absurd h
        go (spine (nominal a) ts) h = absurd h
        go (spine (variable y) ts) h = absurd h
        go (spine (index i) ts) h = absurd h
        go (lam A y t) h = absurd h

    pub head_named : image same_number named (head_of (case_of k)) ≡ instance_by_all head_scope Us
    head_named = ap (image same_number named) head_is ∙ named_is k.head (well.0).head head_within

    own_typed : IsTyped sg to_own
    own_typed = together_typed sg (map cases.in_terms k.variables) (own_terms x (numbered 0 cells)) (subst (λ l. Each (λ (y : tree.Variable ℕ) t. HasType sg [] t y.type) l (own_terms x (numbered 0 cells))) ys_are (own_each k.variables 0))

    all_named : (Gs : List Read) → AllWithin sg (map in_terms Ys) Gs → map (image same_number named) (map (image same_number to_own) Gs) ≡ map (λ M. instance_by_all M Us) (map (under_variables Ys) Gs)
    all_named [] a = refl
    all_named (G ∷ Gs) a =
        ap (λ t. t ∷ map (image same_number named) (map (image same_number to_own) Gs)) (named_is G (a.0).0 (a.0).1)
        ∙ ap (λ l. instance_by_all (under_variables Ys G) Us ∷ l) (all_named Gs a.1)

    pub goals_named : map (image same_number named) (goals_in (case_of k).body) ≡ map (λ M. instance_by_all M Us) goals_scopes
    goals_named = ap (map (image same_number named)) (goals_image to_own own_typed k.body (well.0).body) ∙ all_named (goals_in k.body) goals_are_within

    -- SCOPES
    one_scope : (t : Read) → HasType sg [] t o → Within (variables t) (map in_terms Ys) → IsScope sg n cells (under_variables Ys t)
    one_scope t d w = (subst (λ l. HasType sg [] (under_variables Ys t) (arrows l o)) (types_same k.variables) (under_typed sg Ys d), λ z m. absurd (none_under Ys t w z m))

    all_scopes : (Gs : List Read) → AllWithin sg (map in_terms Ys) Gs → AllScopes sg n cells (map (under_variables Ys) Gs)
    all_scopes [] a = tt
    all_scopes (G ∷ Gs) a = (one_scope G (a.0).0 (a.0).1, all_scopes Gs a.1)

    pub head_is_scope : IsScope sg n cells head_scope
    head_is_scope = one_scope k.head (well.0).head head_within

    pub goals_are_scopes : AllScopes sg n cells goals_scopes
    goals_are_scopes = all_scopes (goals_in k.body) goals_are_within

    -- WHICH STAND IN GOALS ALONE
    abbrev renamed : Substitution ℕ (List ℕ)
    renamed = put_together (map in_terms Ys) Us

    renamed_typed : IsTyped sg renamed
    renamed_typed = together_typed sg (map in_terms Ys) Us (new_each k.variables n)

    renamed_is : {D : Ty} (t : Read) → HasType sg [] t D → image same_number renamed t ≡ instance_by_all (under_variables Ys t) Us
    renamed_is t d = together_put sg Ys Us different (new_each k.variables n) d

    all_renamed : (Gs : List Read) → AllWithin sg (map in_terms Ys) Gs → map (image same_number renamed) Gs ≡ map (λ M. instance_by_all M Us) (map (under_variables Ys) Gs)
    all_renamed [] a = refl
    all_renamed (G ∷ Gs) a =
        ap (λ t. t ∷ map (image same_number renamed) Gs) (renamed_is G (a.0).0) ∙ ap (λ l. instance_by_all (under_variables Ys G) Us ∷ l) (all_renamed Gs a.1)

    pub alone_named : map (stands_in_goals_alone (image same_number named (head_of (case_of k))) (map (image same_number named) (goals_in (case_of k).body))) (variables_from n cells) ≡ map (stands_in_goals_alone k.head (goals_in k.body)) Ys
    alone_named =
        ap (λ A. map (stands_in_goals_alone A (map (image same_number named) (goals_in (case_of k).body))) (variables_from n cells)) (head_named ∙ sym (renamed_is k.head (well.0).head))
        ∙ ap (λ Gs. map (stands_in_goals_alone (image same_number renamed k.head) Gs) (variables_from n cells)) (goals_named ∙ sym (all_renamed (goals_in k.body) goals_are_within))
        ∙ alone_same sg x Ys (variables_from n cells) (row_types k.variables n) renamed_typed (new_different n cells) different k.head (goals_in k.body) (well.0).head head_within goals_are_within
