-- WHAT EACH RULE DEMANDS of a judgement whose list, goal and formula in focus are typed and known is well made.
use Rattle.std.proofs.Common.{◌≡◌, inl, inr, ℕ, zero, suc, ◌+◌, List, [], ◌∷◌, ◌++◌, map, length, codes, true, Option, Some, None, refl, sym, ◌∙◌, ap, subst, arith}
use Rattle.std.specs.Prelude.{All, Contains}
use Rattle.std.proofs.lemmas.Bool.{false≢true}
use Rattle.std.proofs.lemmas.List.Elements.{All-nil, All-cons, Contains-append_cases, Contains-append_left, Contains-append_right}
use Rattle.ab_term.specs.Types.{Ty, prop, o, olist}
use Rattle.ab_term.specs.Logical.{Logical, truth, existential, conjunction, focused_judgement, star, at_sign, plus, hash}
use Rattle.ab_term.specs.Terms as tree
use Rattle.ab_term.specs.Terms.{Nominal, constant, logical, nominal, variable, index, lam, spine, Terms, no_terms, term, Read}
use Rattle.ab_term.specs.Typing.{Signature, HasType, TakeType, typed_lam, typed_spine, take_none, take_term}
use Rattle.ab_term.specs.Names.{support}
use Rattle.ab_term.specs.Substitution.{shift}
use Rattle.ab_term.specs.Variables.{Substitution, variables, variables_of_all, value_in, image, image_all, IsTyped}
use Rattle.ab_term.specs.Sameness.{same_number}
use Rattle.ab_term.proofs.Lists.{Contains-none, Contains-here, Contains-there, Contains-map}
use Rattle.ab_term.proofs.Compositions.{image_typed}
use Rattle.ab_term.proofs.Expansions.{expansion_typed}
use Rattle.ab_term.proofs.Preservation.{here, shift_typed}
use Rattle.ab_unifiers.specs.Replacements.{Cell, holds}
use Rattle.ab_unifiers.specs.Unifiers.{sides, AreTyped}
use Rattle.ab_unifiers.specs.Clauses.{Clause, Each, numbered, clause_variables, head_of, put_together}
use Rattle.ab_unifiers.specs.Prefixes.{arguments_of, own_terms}
use Rattle.ab_unifiers.specs.Alternatives.{arguments_equal}
use Rattle.ab_unifiers.specs.Member.{HasMember, in_the_list}
use Rattle.ab_unifiers.proofs.Agreeing.{contains_holds}
use Rattle.ab_unifiers.proofs.Choosing.{contains_ordered}
use Rattle.ab_unifiers.proofs.Rows.{each_any, found_has, found_none, nothing_found, together_typed}
use Rattle.ab_unifiers.proofs.Sides.{arguments_typed}
use Rattle.ab_unifiers.proofs.Unifier.{append-none}
use Rattle.ab_formulas.specs.Marks.{Sign, plain as unmarked, star_of, at_of, plus_of, hash_of}
use Rattle.ab_formulas.specs.Programs.{goals_in, IsProgramClause}
use Rattle.ab_formulas.specs.Sequents.{Variable, in_terms}
use Rattle.ab_theory.specs.Equations.{variables_from}
use Rattle.ab_theory.specs.Judgements.{Judgement, marked_focus, support_of_focus, constants_of}
use Rattle.ab_theory.specs.Opening.{both}
use Rattle.ab_theory.specs.Parts.{Part, parts_of, put_under}
use Rattle.ab_theory.specs.SpecInstances.{first_own}
use Rattle.ab_theory.specs.SpecRules.{SpecRule, by_clause, by_list, by_opening, by_part, demand_of, some_item}
use Rattle.ab_theory.proofs.OpenedGoals.{opened_formula}
use Rattle.ab_theory.proofs.Demands.{demand_stands}
use Rattle.ab_theory.proofs.Known.{Known, known_one, known_two, known_given, known_under, known_index, known_shift, known_opened, known_image}
use Rattle.ab_theory.proofs.Demanded.{IsKnown, AllGoals, Over, IsWellMade, InScope, New, new_typed, image_known, atom_left, well_made}
use Rattle.ab_theory.proofs.FocusParts.{own_known, part_put}

-- THE PARTS of a judgement
abbrev pub FocusKnown : Signature → (tree.Variable ℕ → Type 0) → List Nominal → Option Read → Type 0
FocusKnown sg P M None = Unit {0}
FocusKnown sg P M (Some F) = IsKnown sg P M o F

pub record JudgementKnown (sg : Signature) (P : tree.Variable ℕ → Type 0) (M : List Nominal) (j : Judgement) : Type 0 where
  pub context : IsKnown sg P M olist j.context
  pub focus : FocusKnown sg P M j.focus
  pub goal : IsKnown sg P M o j.goal

-- what is asked of a rule, so that it may be one of the judgement
abbrev pub IsRuleOf : Signature → Judgement → SpecRule → Type 0
IsRuleOf sg j (by_clause c) = IsProgramClause sg c × (ts : Terms ℕ (List ℕ)) × (j.goal ≡ spine (constant c.predicate) ts)
IsRuleOf sg j (by_part p) = (F : Read) × (j.focus ≡ Some F) × Contains (parts_of F) p
IsRuleOf sg j r = Unit {0}

-- own terms for the variables of a clause

own_typed : (sg : Signature) (i n : ℕ) (cs : List (Cell (List ℕ))) → Each (λ (y : tree.Variable ℕ) t. HasType sg [] t y.type) (numbered i cs) (own_terms (codes "x") (map in_terms (variables_from n cs)))
own_typed sg i n [] = tt
own_typed sg i n (c ∷ cs) = (expansion_typed sg (codes "x") c.type [] (variable (record { name = n; type = c.type })) refl, own_typed sg (suc i) (n + 1) cs)

own_each : (sg : Signature) (P : tree.Variable ℕ → Type 0) (M : List Nominal) (i n : ℕ) (cs : List (Cell (List ℕ))) → ((y : Variable) → Contains (variables_from n cs) y → P (in_terms y))
    → Each (λ (y : tree.Variable ℕ) t. Known P M t) (numbered i cs) (own_terms (codes "x") (map in_terms (variables_from n cs)))
own_each sg P M i n [] f = tt
own_each sg P M i n (c ∷ cs) f =
    let y : Variable = record { number = n; type = c.type; name = c.hint } in
    (own_known sg P M y (f y (Contains-here y (variables_from (n + 1) cs))), own_each sg P M (suc i) (n + 1) cs (λ z m. f z (Contains-there y (variables_from (n + 1) cs) z m)))

same_head_typed : (sg : Signature) (c : List ℕ) (ts us : Terms ℕ (List ℕ)) → HasType sg [] (spine (constant c) ts) o → HasType sg [] (spine (constant c) us) o → AreTyped sg (arguments_equal (codes "x") 0 ts us)
same_head_typed sg c ts us (typed_spine {A = A} e ds) (typed_spine {A = B} f es) =
    let same : A ≡ B = cc in
    arguments_typed sg (codes "x") 0 ts us (subst (λ C. TakeType sg {Var = ℕ} {Hint = List ℕ} [] ts C o) same ds) es

three_of : {X : Type 0} (Q : X → Type 0) (xs ys zs : List X) → ((x : X) → Contains xs x → Q x) → ((x : X) → Contains ys x → Q x) → ((x : X) → Contains zs x → Q x) → (x : X) → Contains (xs ++ (ys ++ (zs ++ []))) x → Q x
three_of Q xs ys zs f g h x m = elim (Contains-append_cases xs (ys ++ (zs ++ [])) x m) [
  | inl a ↦ f x a
  | inr b ↦ elim (Contains-append_cases ys (zs ++ []) x b) [
    | inl c ↦ g x c
    | inr c ↦ elim (Contains-append_cases zs [] x c) [ inl d ↦ h x d | inr d ↦ absurd (Contains-none x d) ]
  ]
]

module _ (P : tree.Variable ℕ → Type 0) (M : List Nominal) where
  known_three : (l : Logical) (t u v : Read) → Known P M t → Known P M u → Known P M v → Known P M (spine (logical l) (term t (term u (term v no_terms))))
  known_three l t u v a b c = record { over = three_of P (variables t) (variables u) (variables v) a.over b.over c.over; names = three_of (Contains M) (support t) (support u) (support v) a.names b.names c.names }

  known_focus : (m : Sign) (L F A : Read) → Known P M L → Known P M F → Known P M A → Known P M (marked_focus m L F A)
  known_focus unmarked L F A a b c = known_three focused_judgement L F A a b c
  known_focus (star_of i) L F A a b c = known_one P M (star i) _ (known_three focused_judgement L F A a b c)
  known_focus (at_of i) L F A a b c = known_one P M (at_sign i) _ (known_three focused_judgement L F A a b c)
  known_focus (plus_of i) L F A a b c = known_one P M (plus i) _ (known_three focused_judgement L F A a b c)
  known_focus (hash_of i) L F A a b c = known_one P M (hash i) _ (known_three focused_judgement L F A a b c)

  known_item : (m : Sign) (L A : Read) → Known P M L → Known P M A → Known P M (some_item m L A)
  known_item m L A a b =
      let F = spine (index zero) no_terms in
      let K = shift zero L in
      let B = shift zero A in
      let left = known_focus m K F B (known_shift P M zero L a) (known_index P M zero) (known_shift P M zero A b) in
      let right = known_given P M (codes "member") F K (known_index P M zero) (known_shift P M zero L a) in
      known_one P M (existential o) (lam o (codes "F") (both (marked_focus m K F B) (spine (constant (codes "member")) (in_the_list F K))))
      (known_under P M o (codes "F") _ (known_two P M conjunction (marked_focus m K F B) (spine (constant (codes "member")) (in_the_list F K)) left right))

focus_typed : (sg : Signature) (m : Sign) (G : List Ty) (L F A : Read) → HasType sg G L olist → HasType sg G F o → HasType sg G A o → HasType sg G (marked_focus m L F A) prop
focus_typed sg unmarked G L F A a b c = typed_spine refl (take_term a (take_term b (take_term c take_none)))
focus_typed sg (star_of i) G L F A a b c = typed_spine refl (take_term (typed_spine refl (take_term a (take_term b (take_term c take_none)))) take_none)
focus_typed sg (at_of i) G L F A a b c = typed_spine refl (take_term (typed_spine refl (take_term a (take_term b (take_term c take_none)))) take_none)
focus_typed sg (plus_of i) G L F A a b c = typed_spine refl (take_term (typed_spine refl (take_term a (take_term b (take_term c take_none)))) take_none)
focus_typed sg (hash_of i) G L F A a b c = typed_spine refl (take_term (typed_spine refl (take_term a (take_term b (take_term c take_none)))) take_none)

item_typed : (sg : Signature) → HasMember sg → (m : Sign) (L A : Read) → HasType sg [] L olist → HasType sg [] A o → HasType sg [] (some_item m L A) prop
item_typed sg has m L A a b =
    let F : HasType sg {Var = ℕ} {Hint = List ℕ} (o ∷ []) (spine (index zero) no_terms) o = typed_spine refl take_none in
    let K : HasType sg (o ∷ []) (shift zero L) olist = shift_typed sg here a in
    let B : HasType sg (o ∷ []) (shift zero A) o = shift_typed sg here b in
    let left = focus_typed sg m (o ∷ []) (shift zero L) (spine (index zero) no_terms) (shift zero A) K F B in
    let right : HasType sg (o ∷ []) (spine (constant (codes "member")) (in_the_list (spine (index zero) no_terms) (shift zero L))) prop = typed_spine has.member (take_term F (take_term K take_none)) in
    typed_spine refl (take_term (typed_lam (typed_spine refl (take_term left (take_term right take_none)))) take_none)

-- the arguments of two atoms are over such variables
sides_over : (Q : tree.Variable ℕ → Type 0) (p : ℕ) (ts us : Terms ℕ (List ℕ)) → ((y : tree.Variable ℕ) → Contains (variables_of_all ts) y → Q y) → ((y : tree.Variable ℕ) → Contains (variables_of_all us) y → Q y) → All (Over Q) (sides (arguments_equal (codes "x") p ts us))
sides_over Q p no_terms us a b = All-nil (Over Q)
sides_over Q p (term t ts) no_terms a b = All-nil (Over Q)
sides_over Q p (term t ts) (term u us) a b =
    let rest = sides_over Q (suc p) ts us (λ y m. a y (Contains-append_right (variables t) (variables_of_all ts) y m)) (λ y m. b y (Contains-append_right (variables u) (variables_of_all us) y m)) in
    All-cons (Over Q) t (u ∷ sides (arguments_equal (codes "x") (suc p) ts us)) (λ y m. a y (Contains-append_left (variables t) (variables_of_all ts) y m))
    (All-cons (Over Q) u (sides (arguments_equal (codes "x") (suc p) ts us)) (λ y m. b y (Contains-append_left (variables u) (variables_of_all us) y m)) rest)

-- there were such variables, numbered below n, and there are such then
module _ (sg : Signature) (has : HasMember sg) (P Q : tree.Variable ℕ → Type 0) (old_kept : (y : tree.Variable ℕ) → P y → Q y) (n : ℕ) (M : List Nominal) (m : Sign) (j : Judgement) (known : JudgementKnown sg P M j) where
  abbrev S : List Nominal
  S = constants_of j

  within : (a : Nominal) → Contains S a → Contains M a
  within a c =
      elim (Contains-append_cases (support j.context) (support_of_focus j.focus ++ support j.goal) a (contains_ordered (support j.context ++ (support_of_focus j.focus ++ support j.goal)) a c)) [
        | inl k ↦ known.context.known.names a k
        | inr k ↦ elim (Contains-append_cases (support_of_focus j.focus) (support j.goal) a k) [
          | inl l ↦ of_focus j.focus known.focus l
          | inr l ↦ known.goal.known.names a l
        ]
      ]
    where
      of_focus : (f : Option Read) → FocusKnown sg P M f → Contains (support_of_focus f) a → Contains M a
      of_focus None k l = absurd (Contains-none a l)
      of_focus (Some F) k l = k.known.names a l

  -- the variables that the demand brings
  abbrev pub OwnKept : SpecRule → Type 0
  OwnKept r = (y : tree.Variable ℕ) → holds (numbered (first_own n (demand_of n m j r)) (demand_of n m j r).own) y ≡ true → Q y

  abbrev Goal : SpecRule → Type 0
  Goal r = IsWellMade sg Q M (demand_of n m j r)

  by_list_well : Goal by_list
  by_list_well =
      let k = known_item P M m j.context j.goal known.context.known known.goal.known in
      record {
        typed = tt;
        over = All-nil (Over Q);
        formula = record { typed = item_typed sg has m j.context j.goal known.context.typed known.goal.typed; stands = demand_stands n m j by_list };
        body = record { over = λ y c. old_kept y (k.over y c); names = k.names };
      }

  by_opening_well : Goal by_opening
  by_opening_well =
      let k = known_opened P M m j.context j.goal known.context.known known.goal.known in
      record {
        typed = tt;
        over = All-nil (Over Q);
        formula = opened_formula sg has.cons m [] j.context j.goal known.context.typed known.goal.typed;
        body = record { over = λ y c. old_kept y (k.over y c); names = k.names };
      }

  by_part_well : (p : Part) → IsRuleOf sg j (by_part p) → OwnKept (by_part p) → Goal (by_part p)
  by_part_well p is new_kept =
      let F = is.0 in
      let k = n + length p.names in
      let ys = variables_from n p.names in
      let us = own_terms (codes "x") (map in_terms ys) in
      let A = put_under p.names us p.atom in
      let Gs = map (put_under p.names us) p.goals in
      let scope = InScope sg has P Q k p.names M S within ys in
      let f : IsKnown sg P M o F = subst (FocusKnown sg P M) is.1 known.focus in
      let g : IsKnown sg scope M o F = record { typed = f.typed; known = record { over = λ y c. inl (f.known.over y c); names = f.known.names } } in
      let w = part_put sg scope M F g p is.2 n (λ y c. inr (Contains-map in_terms ys y c)) in
      let e = (λ (new : Substitution ℕ (List ℕ)). record { place = 0; left = image same_number new A; right = j.goal } ∷ []) in
      let new = New sg has P Q k p.names M S within ys m j.context A Gs known.context w.0 w.1 in
      let left = image_known sg has P Q k p.names M S within ys m j.context A Gs known.context w.0 w.1 old_kept new_kept A (atom_left sg has P Q k p.names M S within ys m j.context A Gs known.context w.0 w.1 old_kept new_kept) in
      well_made sg has P Q k p.names M S within ys m j.context A Gs known.context w.0 w.1 old_kept new_kept e
      (([], o, image_typed sg same_number new (new_typed sg has P Q k p.names M S within ys m j.context A Gs known.context w.0 w.1) (w.0).typed, known.goal.typed), tt)
      (All-cons (Over Q) (image same_number new A) (j.goal ∷ []) left.over (All-cons (Over Q) j.goal [] (λ y c. old_kept y (known.goal.known.over y c)) (All-nil (Over Q))))

  by_clause_well : (c : Clause (List ℕ)) → IsRuleOf sg j (by_clause c) → OwnKept (by_clause c) → Goal (by_clause c)
  by_clause_well c is own_kept =
      let ts = is.1 in
      let ys = variables_from n c.variables in
      let us = own_terms (codes "x") (map in_terms ys) in
      let named = put_together (clause_variables c) us in
      let A = image same_number named (head_of c) in
      let Gs = map (image same_number named) (goals_in c.body) in
      let scope = InScope sg has P Q n [] M S within ys in
      let w : IsKnown sg scope M o A = put_in (head_of c) (is.0).head (is.0).head_variables (is.0).head_without_constants in
      let gs : AllGoals sg scope M Gs = body_goals in
      let e = (λ (new : Substitution ℕ (List ℕ)). arguments_equal (codes "x") 0 (arguments_of j.goal) (image_all same_number new (arguments_of A))) in
      let new_kept : (y : tree.Variable ℕ) → holds (numbered n (demand_of n m j (by_clause c)).own) y ≡ true → Q y =
      subst (λ k. (y : tree.Variable ℕ) → holds (numbered k (demand_of n m j (by_clause c)).own) y ≡ true → Q y) (let same : n + 0 ≡ n = omega arith in same) own_kept in
      let new = New sg has P Q n [] M S within ys m j.context A Gs known.context w gs in
      let typed_A = image_typed sg same_number new (new_typed sg has P Q n [] M S within ys m j.context A Gs known.context w gs) w.typed in
      let known_A = image_known sg has P Q n [] M S within ys m j.context A Gs known.context w gs old_kept new_kept A (atom_left sg has P Q n [] M S within ys m j.context A Gs known.context w gs old_kept new_kept) in
      let goal_typed : HasType sg [] (spine (constant c.predicate) ts) o = subst (λ t. HasType sg [] t o) is.2 known.goal.typed in
      let arguments_same : arguments_of j.goal ≡ ts = ap arguments_of is.2 in
      let typed : AreTyped sg (e new) = subst (λ vs. AreTyped sg (arguments_equal (codes "x") 0 vs (image_all same_number new (arguments_of A)))) (sym arguments_same) (same_head_typed sg c.predicate ts (image_all same_number new (arguments_of A)) goal_typed typed_A) in
      let over : All (Over Q) (sides (e new)) = subst (λ vs. All (Over Q) (sides (arguments_equal (codes "x") 0 vs (image_all same_number new (arguments_of A))))) (sym arguments_same)
      (sides_over Q 0 ts (image_all same_number new (arguments_of A))
      (λ y k. old_kept y (known.goal.known.over y (subst (λ t. Contains (variables t) y) (sym is.2) k)))
      (λ y k. known_A.over y k)) in
      well_made sg has P Q n [] M S within ys m j.context A Gs known.context w gs old_kept new_kept e typed over
    where
      named_typed : IsTyped sg (put_together (clause_variables c) (own_terms (codes "x") (map in_terms (variables_from n c.variables))))
      named_typed = together_typed sg (clause_variables c) (own_terms (codes "x") (map in_terms (variables_from n c.variables))) (own_typed sg 0 n c.variables)

      put_in : (t : Read) → HasType sg [] t o → ((y : tree.Variable ℕ) → holds (variables t) y ≡ true → holds (clause_variables c) y ≡ true) → support t ≡ [] → IsKnown sg (InScope sg has P Q n [] M S within (variables_from n c.variables)) M o (image same_number (put_together (clause_variables c) (own_terms (codes "x") (map in_terms (variables_from n c.variables)))) t)
      put_in t d v s = record {
        typed = image_typed sg same_number (put_together (clause_variables c) (own_terms (codes "x") (map in_terms (variables_from n c.variables)))) named_typed d;
        known = known_image (λ z. holds (clause_variables c) z ≡ true) (InScope sg has P Q n [] M S within (variables_from n c.variables)) M (value_in same_number (put_together (clause_variables c) (own_terms (codes "x") (map in_terms (variables_from n c.variables)))))
            (λ y u q. found_has (Known (InScope sg has P Q n [] M S within (variables_from n c.variables)) M) (clause_variables c) (own_terms (codes "x") (map in_terms (variables_from n c.variables))) []
            (own_each sg (InScope sg has P Q n [] M S within (variables_from n c.variables)) M 0 n c.variables (λ z k. inr (Contains-map in_terms (variables_from n c.variables) z k)))
            (nothing_found (Known (InScope sg has P Q n [] M S within (variables_from n c.variables)) M)) y u
            (ap (λ l. value_in same_number l y) (append-none (put_together (clause_variables c) (own_terms (codes "x") (map in_terms (variables_from n c.variables))))) ∙ q))
            (λ y q h. absurd (false≢true (sym (found_none (clause_variables c) (own_terms (codes "x") (map in_terms (variables_from n c.variables))) [] (each_any (λ (y : tree.Variable ℕ) t. HasType sg [] t y.type) (clause_variables c) (own_terms (codes "x") (map in_terms (variables_from n c.variables))) (own_typed sg 0 n c.variables)) y
            (ap (λ l. value_in same_number l y) (append-none (put_together (clause_variables c) (own_terms (codes "x") (map in_terms (variables_from n c.variables))))) ∙ q)).0 ∙ h)))
            t
            (record { over = λ y k. v y (contains_holds (variables t) y k); names = λ a k. absurd (Contains-none a (subst (λ l. Contains l a) s k)) });
      }

      goals_typed : (t : Read) → HasType sg [] t o → ((y : tree.Variable ℕ) → holds (variables t) y ≡ true → holds (clause_variables c) y ≡ true) → support t ≡ []
          → AllGoals sg (InScope sg has P Q n [] M S within (variables_from n c.variables)) M (map (image same_number (put_together (clause_variables c) (own_terms (codes "x") (map in_terms (variables_from n c.variables))))) (goals_in t))
      goals_typed (spine (logical truth) no_terms) d v s = tt
      goals_typed t d v s = (put_in t d v s, tt)

      body_goals : AllGoals sg (InScope sg has P Q n [] M S within (variables_from n c.variables)) M (map (image same_number (put_together (clause_variables c) (own_terms (codes "x") (map in_terms (variables_from n c.variables))))) (goals_in c.body))
      body_goals = elim (is.0).body [
        | inl d ↦ goals_typed c.body d (is.0).body_variables (is.0).body_without_constants
        | inr e ↦ subst (λ t. AllGoals sg (InScope sg has P Q n [] M S within (variables_from n c.variables)) M (map (image same_number (put_together (clause_variables c) (own_terms (codes "x") (map in_terms (variables_from n c.variables))))) (goals_in t))) (sym e) tt
      ]

  -- WHAT THE RULE DEMANDS IS WELL MADE
  pub rule_well : (r : SpecRule) → IsRuleOf sg j r → OwnKept r → Goal r
  rule_well (by_clause c) is own = by_clause_well c is own
  rule_well by_list is own = by_list_well
  rule_well by_opening is own = by_opening_well
  rule_well (by_part p) is own = by_part_well p is own
