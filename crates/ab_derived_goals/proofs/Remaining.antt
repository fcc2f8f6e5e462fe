-- What is left of a use may stand in the goal in which the formula is used.
use Rattle.std.specs.Prelude.{All, Contains, IfSome}
use Rattle.std.proofs.Common.{◌≡◌, inl, inr, ℕ, suc, List, [], ◌∷◌, ◌++◌, map, length, true, Option, Some, None, codes, refl, sym, ◌∙◌, ap, subst, arith, append-nil}
use Rattle.std.proofs.lemmas.List.{map-append}
use Rattle.std.proofs.lemmas.List.Elements.{All-nil, All-cons, All-head, All-tail, All-weaker, All-contains, Contains-append_left, Contains-append_right, Contains-append_cases}
use Rattle.ab_term.specs.Types.{prop}
use Rattle.ab_term.specs.Logical.{universal, nabla, implication}
use Rattle.ab_term.specs.Terms as tree
use Rattle.ab_term.specs.Terms.{Nominal, logical, lam, spine, no_terms, term, Read}
use Rattle.ab_term.specs.Typing.{Signature, typed_spine, take_none, take_term}
use Rattle.ab_term.specs.Names.{support, HasOneTypeEach}
use Rattle.ab_term.specs.Abstraction.{over, given_names}
use Rattle.ab_term.specs.Substitution.{instance}
use Rattle.ab_term.specs.Variables.{Substitution, variables, image, composition}
use Rattle.ab_term.specs.Sameness.{same_number}
use Rattle.ab_term.proofs.Lists.{Contains-none, Contains-here, Contains-there, Contains-cases, Contains-map, Contains-from_map, All-from_contains}
use Rattle.ab_unifiers.specs.Clauses.{numbered, name_term}
use Rattle.ab_unifiers.specs.Replacements.{Cell}
use Rattle.ab_unifiers.specs.Unification.{Equation, unified, Solves}
use Rattle.ab_unifiers.specs.Unifiers.{AreTyped, sides}
use Rattle.ab_unifiers.specs.Choices.{in_order, outside, choices}
use Rattle.ab_unifiers.proofs.Choosing.{contains_kept, contains_ordered, outside_contains}
use Rattle.ab_unifiers.proofs.Matching.{choice_right}
use Rattle.ab_formulas.specs.Declarations.{Declarations, signature_in}
use Rattle.ab_formulas.specs.Marks.{erased}
use Rattle.ab_formulas.specs.Sequents.{Variable, Sequent, HoldsOnly, goal_names, in_terms}
use Rattle.ab_theory.specs.Equations.{AreCells, made, variables_from}
use Rattle.ab_theory.specs.Splits.{problem_of}
use Rattle.ab_theory.specs.Pieces.{Part, variable_for, given_term, constant_for, antecedent}
use Rattle.ab_theory.specs.Uses.{Use, used, use_by, types_chosen, given_constants, choices_for, equations, equation_behind, awaiting, implied}
use Rattle.ab_theory.specs.UseAnswers.{Using, case_by, standing_in, IsUsedFor, awaited, result_in}
use Rattle.ab_theory.proofs.Putting.{IsPut, put_may, numbered_from}
use Rattle.ab_theory.proofs.RulesParts.{MayStand, MayBePut, for_all_scope, nabla_scope, implies_may, instance_may, name_may}
use Rattle.ab_theory.proofs.Sequents.{may_more}
use Rattle.ab_search_proofs.proofs.Least.{above}
use Rattle.ab_search_trees.proofs.Hypotheses.{erased_variables}
use Rattle.ab_search_trees.proofs.Unmarked.{erased_typed}
use Rattle.ab_consequences.specs.UseStages.{HasParts, has_none, has_variable, has_given, has_constant, has_antecedent}
use Rattle.ab_consequences.specs.UsesFollow.{antecedents_among, GivenOver, MayUse}
use Rattle.ab_formulas.proofs.OneType.{choice_one_type}
use Rattle.ab_consequences.proofs.Filling.{constants_from, filled_from, is_filled, are_new, all_once}
use Rattle.ab_consequences.proofs.UseAnswered as answered
use Rattle.ab_consequences.proofs.UseAnswered.{IsFilled}
use Rattle.ab_consequences.proofs.UseStages as stages
use Rattle.ab_consequences.proofs.UsesFollow.{result_again, awaited_from, awaiting_under, given_may}

abbrev Cells : Type 0
Cells = List (Cell (List ℕ))

-- THE PARTS OF A USE, over these variables and constants
module _ (sg : Signature) (Z : List Variable) (M : List Nominal) where
  abbrev May : Read → Type 0
  May = MayStand sg Z M

  record UseMay (k : ℕ) (u : Use) : Type 0 where
    antecedents : All May u.antecedents
    result : May u.result
    count : length u.antecedents ≡ k

  used_may : (held : List Nominal) → ((a : Nominal) → Contains held a → Contains M a) → (ps : List Part) {F : Read} → HasParts sg ps F → (n : ℕ) (names : List Nominal) → May F
      → stages.types_of names ≡ types_chosen ps → ((a : Nominal) → Contains names a → Contains M a) → stages.AreMadeOf sg Z M n (used held n ps names F) → stages.GivenMay sg Z M ps
      → UseMay (antecedents_among ps) (used held n ps names F)
  used_may held held_in [] has_none n names may types listed within given = record { antecedents = All-nil May; result = may; count = refl }
  used_may held held_in (variable_for x A ∷ ps) (has_variable {y = y} {t = t} h) n names may types listed within given =
      let F = spine (logical (universal A)) (term (lam A y t) no_terms) in
      let free = outside held names in
      let v : tree.Variable ℕ = record { name = n; type = over free A } in
      let u : Read = given_names (codes "x") v free A in
      let later : Use = used held (suc n) ps names (instance (lam A y t) u) in
      let puts = stages.new_put sg Z M n A free (λ a c. held_in a (outside_contains held names a c).0) (within v (Contains-here v (numbered (suc n) later.variables))) in
      let is = used_may held held_in ps (stages.front_put sg _ u 0 h) (suc n) names (instance_may sg Z M (A, lam A y t) u (for_all_scope sg Z M F (A, lam A y t) may refl) puts) types listed (λ z m. within z (Contains-there v (numbered (suc n) later.variables) z m)) given in
      record { antecedents = is.antecedents; result = is.result; count = is.count }
  used_may held held_in (given_term u ∷ ps) (has_given {y = y} {A = A} {t = t} d h) n names may types listed within given =
      let F = spine (logical (universal A)) (term (lam A y t) no_terms) in
      let puts : MayBePut sg Z M A u = record { typed = d; closed = given.0; names = given.1 } in
      let is = used_may held held_in ps (stages.front_put sg _ u 0 h) n names (instance_may sg Z M (A, lam A y t) u (for_all_scope sg Z M F (A, lam A y t) may refl) puts) types listed within given.2 in
      record { antecedents = is.antecedents; result = is.result; count = is.count }
  used_may held held_in (constant_for A ∷ ps) (has_constant {y = y} {t = t} h) n [] may types listed within given = absurd (stages.none_same types)
  used_may held held_in (constant_for A ∷ ps) (has_constant {y = y} {t = t} h) n (a ∷ names) may types listed within given =
      let F = spine (logical (nabla A)) (term (lam A y t) no_terms) in
      let u : Read = name_term (codes "x") a in
      let puts : MayBePut sg Z M A u = subst (λ B. MayBePut sg Z M B u) (stages.first_same types) (name_may sg Z M a (listed a (Contains-here a names))) in
      let is = used_may held held_in ps (stages.front_put sg _ u 0 h) n names (instance_may sg Z M (A, lam A y t) u (nabla_scope sg Z M F (A, lam A y t) may refl) puts) (stages.rest_same types) (λ b m. listed b (Contains-there a names b m)) within given in
      record { antecedents = is.antecedents; result = is.result; count = is.count }
  used_may held held_in (antecedent ∷ ps) (has_antecedent {A = A} {B = B} h) n names may types listed within given =
      let both = implies_may sg Z M (spine (logical implication) (term A (term B no_terms))) (A, B) may refl in
      let is = used_may held held_in ps h n names both.1 types listed within given in
      record { antecedents = All-cons May A (used held n ps names B).antecedents both.0 is.antecedents; result = is.result; count = ap suc is.count }

  pub implied_may : (A B : Read) → May A → May B → May (implied A B)
  implied_may A B a b = record {
    formula = record { typed = typed_spine refl (take_term a.formula.typed (take_term b.formula.typed take_none)); stands = (tt, (a.formula.stands, (b.formula.stands, tt))) };
    closed = All-from_contains (Contains (map in_terms Z)) (variables (implied A B)) (λ z m. elim (Contains-append_cases (variables A) (variables B ++ []) z m) [
      | inl c ↦ All-contains (Contains (map in_terms Z)) (variables A) z a.closed c
      | inr c ↦ All-contains (Contains (map in_terms Z)) (variables B) z b.closed (subst (λ l. Contains l z) (append-nil (variables B)) c)
    ]);
    names = λ n m. elim (Contains-append_cases (support A) (support B ++ []) n m) [
      | inl c ↦ a.names n c
      | inr c ↦ b.names n (subst (λ l. Contains l n) (append-nil (support B)) c)
    ];
  }

  awaiting_may : (hs : List (Option Read)) (As : List Read) (R : Read) → All May As → May R → May (awaiting hs As R)
  awaiting_may [] As R all may = may
  awaiting_may (None ∷ hs) [] R all may = may
  awaiting_may (Some G ∷ hs) [] R all may = may
  awaiting_may (None ∷ hs) (A ∷ As) R all may = implied_may A (awaiting hs As R) (All-head May A As all) (awaiting_may hs As R (All-tail May A As all) may)
  awaiting_may (Some G ∷ hs) (A ∷ As) R all may = awaiting_may hs As R (All-tail May A As all) may

  abbrev MayIfAny : Option Read → Type 0
  MayIfAny o = IfSome o May

  erased_closed : (G : Read) → HoldsOnly Z G → HoldsOnly Z (erased G)
  erased_closed G closed = All-from_contains (Contains (map in_terms Z)) (variables (erased G)) (λ z m. All-contains (Contains (map in_terms Z)) (variables G) z closed (erased_variables G z m))

  one_equation : (p : ℕ) (A G : Read) (es : List (Equation (List ℕ))) → May A → May G → AreTyped sg es × All (HoldsOnly Z) (sides es)
      → AreTyped sg (record { place = p; left = erased A; right = erased G } ∷ es) × All (HoldsOnly Z) (sides (record { place = p; left = erased A; right = erased G } ∷ es))
  one_equation p A G es here there rest = (
    (([], prop, erased_typed sg here.formula.typed, erased_typed sg there.formula.typed), rest.0),
    All-cons (HoldsOnly Z) (erased A) (erased G ∷ sides es) (erased_closed A here.closed) (All-cons (HoldsOnly Z) (erased G) (sides es) (erased_closed G there.closed) rest.1),
  )

  equations_may : (p : ℕ) (hs : List (Option Read)) (As : List Read) (more : List (Equation (List ℕ))) → All MayIfAny hs → All May As → AreTyped sg more × All (HoldsOnly Z) (sides more)
      → AreTyped sg (equations p hs As ++ more) × All (HoldsOnly Z) (sides (equations p hs As ++ more))
  equations_may p [] As more given all rest = rest
  equations_may p (None ∷ hs) [] more given all rest = rest
  equations_may p (Some G ∷ hs) [] more given all rest = rest
  equations_may p (None ∷ hs) (A ∷ As) more given all rest = equations_may p hs As more (All-tail MayIfAny None hs given) (All-tail May A As all) rest
  equations_may p (Some G ∷ hs) (A ∷ As) more given all rest =
      one_equation p A G (equations (suc p) hs As ++ more) (All-head May A As all) (All-head MayIfAny (Some G) hs given)
      (equations_may (suc p) hs As more (All-tail MayIfAny (Some G) hs given) (All-tail May A As all) rest)

  behind_may : (o : Option Read) (R : Read) → IfSome o May → May R → AreTyped sg (equation_behind o R) × All (HoldsOnly Z) (sides (equation_behind o R))
  behind_may None R given may = (tt, All-nil (HoldsOnly Z))
  behind_may (Some C) R given may = one_equation 0 R C [] may given (tt, All-nil (HoldsOnly Z))

length_mapped : (f : Read → Read) (As : List Read) → length (map f As) ≡ length As
length_mapped f [] = refl
length_mapped f (A ∷ As) = let rest = length_mapped f As in omega (arith, rest)

module _ (D : Declarations) (u : Using) (may : MayUse D u) (cells : Cells) (are : AreCells cells u.goal) (names : List Nominal) (listed : Contains (choices_for u.goal u.parts u.formula) names)
    (more : Cells) (answer : Substitution ℕ (List ℕ)) (solves : Solves (codes "x") (problem_of (case_by cells u names)) (unified more answer))
    (none : [] ≡ standing_in (image same_number answer (case_by cells u names).goal.conclusion) (made cells more answer)) where
  abbrev s : Sequent
  s = u.goal

  abbrev sg : Signature
  sg = signature_in D

  abbrev xs : List Variable
  xs = s.variables

  abbrev hs : List (Option Read)
  hs = u.aim.hypotheses

  abbrev G : List Nominal
  G = goal_names s

  abbrev H : List Nominal
  H = G ++ given_constants u.parts

  abbrev M : List Nominal
  M = names ++ H

  abbrev taken : Use
  taken = use_by s (length cells) u.parts u.formula names

  abbrev own : Cells
  own = taken.variables

  abbrev Z : List Variable
  Z = xs ++ variables_from (length cells) own

  abbrev flexible : List (tree.Variable ℕ)
  flexible = numbered (length cells) own

  abbrev es : List (Equation (List ℕ))
  es = equations 0 hs taken.antecedents ++ equation_behind u.aim.conclusion taken.result

  in_order_goal : (a : Nominal) → Contains (in_order G) a → Contains H a
  in_order_goal a m = Contains-append_left G (given_constants u.parts) a (contains_ordered G a m)

  kept : Contains (choices (types_chosen u.parts) (in_order G) H) names × ((use_by s 0 u.parts u.formula names).outside ≡ true)
  kept = contains_kept (λ ns. (use_by s 0 u.parts u.formula ns).outside) (choices (types_chosen u.parts) (in_order G) H) names listed

  one : HasOneTypeEach M
  one = choice_one_type (types_chosen u.parts) (in_order G) H names in_order_goal may.one_type kept.0

  types : stages.types_of names ≡ types_chosen u.parts
  types = (choice_right (types_chosen u.parts) (in_order G) H in_order_goal names kept.0).0

  in_all : (a : Nominal) → Contains G a → Contains M a
  in_all a m = Contains-append_right names H a (Contains-append_left G (given_constants u.parts) a m)

  old : (x : Variable) → Contains xs x → Contains Z x
  old x m = Contains-append_left xs (variables_from (length cells) own) x m

  closed_over : (t : Read) → HoldsOnly xs t → HoldsOnly Z t
  closed_over t closed =
      All-weaker (Contains (map in_terms xs)) (Contains (map in_terms Z))
      (λ v c. let x = Contains-from_map in_terms xs v c in subst (Contains (map in_terms Z)) x.2 (Contains-map in_terms Z x.0 (old x.0 x.1))) (variables t) closed

  more_may : (E : Read) → MayStand sg xs G E → MayStand sg Z M E
  more_may = may_more D G M in_all xs Z old

  new_within : (z : tree.Variable ℕ) → Contains (numbered (length cells) own) z → Contains (map in_terms Z) z
  new_within z m =
      subst (λ l. Contains l z) (sym (map-append in_terms xs (variables_from (length cells) own)))
      (Contains-append_right (map in_terms xs) (map in_terms (variables_from (length cells) own)) z (subst (λ l. Contains l z) (sym (numbered_from (length cells) own)) m))

  within : (z : tree.Variable ℕ) → Contains flexible z → Contains (map in_terms (variables_from (length cells) own)) z
  within z m = subst (λ l. Contains l z) (sym (numbered_from (length cells) own)) m

  given_M : stages.GivenMay sg Z M u.parts
  given_M = given_may sg xs Z M closed_over u.parts may.given (λ a c. Contains-append_right names H a (Contains-append_right G (given_constants u.parts) a c))

  parts_may : UseMay sg Z M (antecedents_among u.parts) taken
  parts_may =
      used_may sg Z M (in_order G) (λ a m. in_all a (contains_ordered G a m)) u.parts may.parts (length cells) names (more_may u.formula may.formula) types
      (λ a m. Contains-append_left names H a m) new_within given_M

  if_any : (o : Option Read) → IfSome o (MayStand sg xs G) → IfSome o (MayStand sg Z M)
  if_any None m = m
  if_any (Some E) m = more_may E m

  over_may : AreTyped sg es × All (HoldsOnly Z) (sides es)
  over_may =
      equations_may sg Z M 0 hs taken.antecedents (equation_behind u.aim.conclusion taken.result)
      (All-weaker (λ o. IfSome o (MayStand sg xs G)) (λ o. IfSome o (MayStand sg Z M)) if_any hs may.hypotheses) parts_may.antecedents
      (behind_may sg Z M u.aim.conclusion taken.result (if_any u.aim.conclusion may.conclusion) parts_may.result)

  as_long : length hs ≡ length taken.antecedents
  as_long = may.as_many ∙ sym parts_may.count

  abbrev left : List Variable
  left = made cells more answer

  -- constants for what is left open, which are new
  module _ (new : List Nominal) (r : Substitution ℕ (List ℕ)) (filled : IsFilled sg left new r) (fresh : (a : Nominal) → Contains new a → Contains M a → ⊥) (one_N : HasOneTypeEach (new ++ M)) where
    abbrev N : List Nominal
    N = new ++ M

    abbrev q : Substitution ℕ (List ℕ)
    q = composition same_number answer r

    abbrev I : Read → Read
    I = image same_number q

    in_N : (a : Nominal) → Contains M a → Contains N a
    in_N a m = Contains-append_right new M a m

    put : IsPut sg xs N (Contains (map in_terms Z)) q
    put = answered.is_put sg xs cells own es flexible are over_may.0 over_may.1 within more answer solves new r filled N (λ a c. Contains-append_left new M a c)

    under_may : (E : Read) → MayStand sg Z M E → MayStand sg xs N (I E)
    under_may E m = put_may sg xs N (Contains (map in_terms Z)) q put E m.formula m.closed (λ a c. in_N a (m.names a c))

    abbrev whole : Read
    whole = awaiting hs taken.antecedents taken.result

    abbrev K : Read
    K = image same_number answer whole

    -- what is left is what is put into the use's antecedents and its result
    K_is : K ≡ awaiting hs (map I taken.antecedents) (I taken.result)
    K_is =
        let whole_may = awaiting_may sg Z M hs taken.antecedents taken.result parts_may.antecedents parts_may.result in
        sym (answered.nothing_left sg xs cells own es flexible are over_may.0 over_may.1 within more answer solves new r filled whole prop whole_may.formula.typed none)
        ∙ awaiting_under q hs taken.antecedents taken.result

    as_long_under : length hs ≡ length (map I taken.antecedents)
    as_long_under = as_long ∙ sym (length_mapped I taken.antecedents)

    -- the result and each antecedent that is awaited may stand in the goal
    pub left_stands : (E : Read) → Contains (result_in hs K ∷ awaited hs K) E → MayStand sg xs N E
    left_stands E c = elim (Contains-cases (result_in hs K) (awaited hs K) E c) [
      | inl e ↦ subst (MayStand sg xs N) (sym (ap (result_in hs) K_is ∙ result_again hs (map I taken.antecedents) (I taken.result) as_long_under) ∙ e) (under_may taken.result parts_may.result)
      | inr d ↦ of_awaited (awaited_from hs (map I taken.antecedents) (I taken.result) E as_long_under (subst (λ k. Contains (awaited hs k) E) K_is d))
    ]
      where
        of_awaited : Contains (map I taken.antecedents) E → MayStand sg xs N E
        of_awaited m =
            let found = Contains-from_map I taken.antecedents E m in
            subst (MayStand sg xs N) found.2 (under_may found.0 (All-contains (MayStand sg Z M) taken.antecedents found.0 parts_may.antecedents found.1))

-- WHAT IS LEFT OF A USE: what is awaited and the result may stand in the goal, over some more constants
pub record IsStanding (D : Declarations) (u : Using) (K : Read) : Type 0 where
  pub constants : List Nominal
  pub one_type : HasOneTypeEach constants
  pub more : (a : Nominal) → Contains (goal_names u.goal) a → Contains constants a
  pub given : (a : Nominal) → Contains (given_constants u.parts) a → Contains constants a
  pub stands : (E : Read) → Contains (result_in u.aim.hypotheses K ∷ awaited u.aim.hypotheses K) E → MayStand (signature_in D) u.goal.variables constants E

pub what_is_left_stands : (D : Declarations) (u : Using) (K : Read) → MayUse D u → IsUsedFor u K → IsStanding D u K
what_is_left_stands D u K may (cells, are, names, (before, after, is, never), m) =
    let listed : Contains (choices_for u.goal u.parts u.formula) names = subst (λ l. Contains l names) (sym is) (Contains-append_right before (names ∷ after) names (Contains-here names after)) in
    let M = names ++ (goal_names u.goal ++ given_constants u.parts) in
    let left = made cells m.more m.answer in
    let none = subst (λ E. [] ≡ standing_in E (made cells m.more m.answer)) m.left m.left_open in
    let one_M : HasOneTypeEach M = one D u may cells are names listed m.more m.answer m.solved none in
    let new = constants_from (above M) left in
    record {
      constants = new ++ M;
      one_type = all_once M one_M left;
      more = λ a c. Contains-append_right new M a (Contains-append_right names (goal_names u.goal ++ given_constants u.parts) a (Contains-append_left (goal_names u.goal) (given_constants u.parts) a c));
      given = λ a c. Contains-append_right new M a (Contains-append_right names (goal_names u.goal ++ given_constants u.parts) a (Contains-append_right (goal_names u.goal) (given_constants u.parts) a c));
      stands =
          subst (λ E. (F : Read) → Contains (result_in u.aim.hypotheses E ∷ awaited u.aim.hypotheses E) F → MayStand (signature_in D) u.goal.variables (new ++ M) F) (sym m.left)
          (left_stands D u may cells are names listed m.more m.answer m.solved none new (filled_from (above M) left) (is_filled (signature_in D) (above M) left) (are_new M one_M left) (all_once M one_M left));
    }
