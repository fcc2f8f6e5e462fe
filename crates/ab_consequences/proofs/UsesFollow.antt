-- What a use leads to follows.
use Rattle.std.specs.Prelude.{All, AllPairs, Contains, IfSome, slice_get}
use Rattle.std.proofs.Common.{◌≡◌, ◌≢◌, inl, inr, ℕ, suc, List, [], ◌∷◌, ◌++◌, map, length, true, Option, Some, None, unwrap_or, codes, refl, sym, ◌∙◌, ap, subst, arith, append-nil}
use Rattle.std.proofs.lemmas.List.{map-append}
use Rattle.std.proofs.lemmas.List.Elements.{All-nil, All-cons, All-head, All-tail, All-weaker, All-contains, Contains-append_left, Contains-append_right, Contains-append_cases}
use Rattle.ab_term.specs.Types.{prop}
use Rattle.ab_term.specs.Logical.{universal, nabla, implication}
use Rattle.ab_term.specs.Terms as tree
use Rattle.ab_term.specs.Terms.{Nominal, logical, lam, spine, no_terms, term, Read}
use Rattle.ab_term.specs.Typing.{Signature, typed_spine, take_none, take_term}
use Rattle.ab_term.specs.Names.{support, HasOneTypeEach}
use Rattle.ab_term.specs.Abstraction.{over, given_names}
use Rattle.ab_term.specs.Substitution.{instance}
use Rattle.ab_term.specs.Variables.{Substitution, variables, value_in, image, composition}
use Rattle.ab_term.specs.Sameness.{same_number}
use Rattle.ab_term.proofs.Lists.{Contains-none, Contains-here, Contains-there, Contains-cases, Contains-map, Contains-from_map, All-from_contains}
use Rattle.ab_unifiers.specs.Clauses.{numbered, name_term}
use Rattle.ab_unifiers.specs.Replacements.{Cell}
use Rattle.ab_unifiers.specs.Unification.{Equation, unified, Solves}
use Rattle.ab_unifiers.specs.Unifiers.{AreTyped, Unifies, sides}
use Rattle.ab_unifiers.specs.Choices.{in_order, outside, choices}
use Rattle.ab_unifiers.proofs.Choosing.{contains_kept, contains_ordered, outside_contains}
use Rattle.ab_unifiers.proofs.Matching.{choice_right}
use Rattle.ab_unifiers.proofs.Problems.{answer_typed, answer_unifies}
use Rattle.ab_formulas.specs.Declarations.{Declarations, signature_in}
use Rattle.ab_formulas.specs.Formulas.{IsFormula}
use Rattle.ab_formulas.specs.Marks.{erased, MarksServeIn}
use Rattle.ab_formulas.specs.Sequents.{Variable, Hypothesis, Sequent, HoldsOnly, formulas_of, goal_names, in_terms}
use Rattle.ab_theory.specs.Equations.{AreCells, made, variables_from}
use Rattle.ab_theory.specs.Splits.{problem_of, cell_for}
use Rattle.ab_theory.specs.Pieces.{Part, variable_for, given_term, constant_for, antecedent}
use Rattle.ab_theory.specs.Uses.{Use, used, use_by, types_chosen, given_constants, choices_for, equations, equation_behind, awaiting, implied}
use Rattle.ab_theory.specs.UseAnswers.{Using, case_by, standing_in, IsFirst, IsSolvedBy, IsUsedFor, awaited, result_in}
use Rattle.ab_theory.specs.Derivations.{Derivation}
use Rattle.ab_theory.proofs.Putting.{IsPut, put_may, numbered_from}
use Rattle.ab_theory.proofs.RulesParts.{MayStand, MayBePut, for_all_scope, nabla_scope, implies_may, instance_may, name_may}
use Rattle.ab_theory.proofs.Sequents.{formula_names, may_more}
use Rattle.ab_search_proofs.specs.Whole.{IsWhole}
use Rattle.ab_search_proofs.proofs.Least.{above}
use Rattle.ab_search_trees.proofs.Hypotheses.{erased_variables}
use Rattle.ab_search_trees.proofs.Unmarked.{erased_typed}
use Rattle.ab_consequences.specs.NewConstants.{constants_for, pairs_for}
use Rattle.ab_consequences.specs.Leading.{Stage, Meets, LeadsBy}
use Rattle.ab_consequences.specs.UseStages.{HasParts, has_none, has_variable, has_given, has_constant, has_antecedent, stages_of, stage_under, MeetEach}
use Rattle.ab_consequences.specs.UsesFollow.{antecedents_among, GivenOver, MarksServeEach, AreNone, MayUse, met_by, asked_of, spoken_of, IsLeftIn, StagesLead}
use Rattle.ab_formulas.proofs.OneType.{choice_one_type}
use Rattle.ab_consequences.proofs.Filling.{constants_from, filled_from, is_filled, are_new, all_once}
use Rattle.ab_consequences.proofs.Leading.{derive}
use Rattle.ab_consequences.proofs.Newest as newest
use Rattle.ab_consequences.proofs.Outside.{outside_numbered}
use Rattle.ab_consequences.proofs.Swapping.{meets_itself}
use Rattle.ab_consequences.proofs.UseAnswered as answered
use Rattle.ab_consequences.proofs.UseAnswered.{IsFilled}
use Rattle.ab_consequences.proofs.UseStages as stages

abbrev Cells : Type 0
Cells = List (Cell (List ℕ))

-- THE PARTS OF A USE, over these variables and constants
module _ (sg : Signature) (Z : List Variable) (M : List Nominal) where
  abbrev May : Read → Type 0
  May = MayStand sg Z M

  record UseMay (k : ℕ) (u : Use) : Type 0 where
    antecedents : All May u.antecedents
    result : May u.result
    count : length u.antecedents ≡ k

  used_may : (held : List Nominal) → ((a : Nominal) → Contains held a → Contains M a) → (ps : List Part) {F : Read} → HasParts sg ps F → (n : ℕ) (names : List Nominal) → May F
      → stages.types_of names ≡ types_chosen ps → ((a : Nominal) → Contains names a → Contains M a) → stages.AreMadeOf sg Z M n (used held n ps names F) → stages.GivenMay sg Z M ps
      → UseMay (antecedents_among ps) (used held n ps names F)
  used_may held held_in [] has_none n names may types listed within given = record { antecedents = All-nil May; result = may; count = refl }
  used_may held held_in (variable_for x A ∷ ps) (has_variable {y = y} {t = t} h) n names may types listed within given =
      let F = spine (logical (universal A)) (term (lam A y t) no_terms) in
      let free = outside held names in
      let v : tree.Variable ℕ = record { name = n; type = over free A } in
      let u : Read = given_names (codes "x") v free A in
      let later : Use = used held (suc n) ps names (instance (lam A y t) u) in
      let puts = stages.new_put sg Z M n A free (λ a c. held_in a (outside_contains held names a c).0) (within v (Contains-here v (numbered (suc n) later.variables))) in
      let is = used_may held held_in ps (stages.front_put sg _ u 0 h) (suc n) names (instance_may sg Z M (A, lam A y t) u (for_all_scope sg Z M F (A, lam A y t) may refl) puts) types listed (λ z m. within z (Contains-there v (numbered (suc n) later.variables) z m)) given in
      record { antecedents = is.antecedents; result = is.result; count = is.count }
  used_may held held_in (given_term u ∷ ps) (has_given {y = y} {A = A} {t = t} d h) n names may types listed within given =
      let F = spine (logical (universal A)) (term (lam A y t) no_terms) in
      let puts : MayBePut sg Z M A u = record { typed = d; closed = given.0; names = given.1 } in
      let is = used_may held held_in ps (stages.front_put sg _ u 0 h) n names (instance_may sg Z M (A, lam A y t) u (for_all_scope sg Z M F (A, lam A y t) may refl) puts) types listed within given.2 in
      record { antecedents = is.antecedents; result = is.result; count = is.count }
  used_may held held_in (constant_for A ∷ ps) (has_constant {y = y} {t = t} h) n [] may types listed within given = absurd (stages.none_same types)
  used_may held held_in (constant_for A ∷ ps) (has_constant {y = y} {t = t} h) n (a ∷ names) may types listed within given =
      let F = spine (logical (nabla A)) (term (lam A y t) no_terms) in
      let u : Read = name_term (codes "x") a in
      let puts : MayBePut sg Z M A u = subst (λ B. MayBePut sg Z M B u) (stages.first_same types) (name_may sg Z M a (listed a (Contains-here a names))) in
      let is = used_may held held_in ps (stages.front_put sg _ u 0 h) n names (instance_may sg Z M (A, lam A y t) u (nabla_scope sg Z M F (A, lam A y t) may refl) puts) (stages.rest_same types) (λ b m. listed b (Contains-there a names b m)) within given in
      record { antecedents = is.antecedents; result = is.result; count = is.count }
  used_may held held_in (antecedent ∷ ps) (has_antecedent {A = A} {B = B} h) n names may types listed within given =
      let both = implies_may sg Z M (spine (logical implication) (term A (term B no_terms))) (A, B) may refl in
      let is = used_may held held_in ps h n names both.1 types listed within given in
      record { antecedents = All-cons May A (used held n ps names B).antecedents both.0 is.antecedents; result = is.result; count = ap suc is.count }

  implied_may : (A B : Read) → May A → May B → May (implied A B)
  implied_may A B a b = record {
    formula = record { typed = typed_spine refl (take_term a.formula.typed (take_term b.formula.typed take_none)); stands = (tt, (a.formula.stands, (b.formula.stands, tt))) };
    closed = All-from_contains (Contains (map in_terms Z)) (variables (implied A B)) (λ z m. elim (Contains-append_cases (variables A) (variables B ++ []) z m) [
      | inl c ↦ All-contains (Contains (map in_terms Z)) (variables A) z a.closed c
      | inr c ↦ All-contains (Contains (map in_terms Z)) (variables B) z b.closed (subst (λ l. Contains l z) (append-nil (variables B)) c)
    ]);
    names = λ n m. elim (Contains-append_cases (support A) (support B ++ []) n m) [
      | inl c ↦ a.names n c
      | inr c ↦ b.names n (subst (λ l. Contains l n) (append-nil (support B)) c)
    ];
  }

  awaiting_may : (hs : List (Option Read)) (As : List Read) (R : Read) → All May As → May R → May (awaiting hs As R)
  awaiting_may [] As R all may = may
  awaiting_may (None ∷ hs) [] R all may = may
  awaiting_may (Some G ∷ hs) [] R all may = may
  awaiting_may (None ∷ hs) (A ∷ As) R all may = implied_may A (awaiting hs As R) (All-head May A As all) (awaiting_may hs As R (All-tail May A As all) may)
  awaiting_may (Some G ∷ hs) (A ∷ As) R all may = awaiting_may hs As R (All-tail May A As all) may

  abbrev MayIfAny : Option Read → Type 0
  MayIfAny o = IfSome o May

  erased_closed : (G : Read) → HoldsOnly Z G → HoldsOnly Z (erased G)
  erased_closed G closed = All-from_contains (Contains (map in_terms Z)) (variables (erased G)) (λ z m. All-contains (Contains (map in_terms Z)) (variables G) z closed (erased_variables G z m))

  one_equation : (p : ℕ) (A G : Read) (es : List (Equation (List ℕ))) → May A → May G → AreTyped sg es × All (HoldsOnly Z) (sides es)
      → AreTyped sg (record { place = p; left = erased A; right = erased G } ∷ es) × All (HoldsOnly Z) (sides (record { place = p; left = erased A; right = erased G } ∷ es))
  one_equation p A G es here there rest = (
    (([], prop, erased_typed sg here.formula.typed, erased_typed sg there.formula.typed), rest.0),
    All-cons (HoldsOnly Z) (erased A) (erased G ∷ sides es) (erased_closed A here.closed) (All-cons (HoldsOnly Z) (erased G) (sides es) (erased_closed G there.closed) rest.1),
  )

  equations_may : (p : ℕ) (hs : List (Option Read)) (As : List Read) (more : List (Equation (List ℕ))) → All MayIfAny hs → All May As → AreTyped sg more × All (HoldsOnly Z) (sides more)
      → AreTyped sg (equations p hs As ++ more) × All (HoldsOnly Z) (sides (equations p hs As ++ more))
  equations_may p [] As more given all rest = rest
  equations_may p (None ∷ hs) [] more given all rest = rest
  equations_may p (Some G ∷ hs) [] more given all rest = rest
  equations_may p (None ∷ hs) (A ∷ As) more given all rest = equations_may p hs As more (All-tail MayIfAny None hs given) (All-tail May A As all) rest
  equations_may p (Some G ∷ hs) (A ∷ As) more given all rest =
      one_equation p A G (equations (suc p) hs As ++ more) (All-head May A As all) (All-head MayIfAny (Some G) hs given)
      (equations_may (suc p) hs As more (All-tail MayIfAny (Some G) hs given) (All-tail May A As all) rest)

  behind_may : (o : Option Read) (R : Read) → IfSome o May → May R → AreTyped sg (equation_behind o R) × All (HoldsOnly Z) (sides (equation_behind o R))
  behind_may None R given may = (tt, All-nil (HoldsOnly Z))
  behind_may (Some C) R given may = one_equation 0 R C [] may given (tt, All-nil (HoldsOnly Z))

-- what unifies a list of equations unifies its parts
unified_first : (q : Substitution ℕ (List ℕ)) (es fs : List (Equation (List ℕ))) → Unifies q (es ++ fs) → Unifies q es × Unifies q fs
unified_first q [] fs u = (tt, u)
unified_first q (e ∷ es) fs u = let rest = unified_first q es fs u.1 in ((u.0, rest.0), rest.1)

-- where nothing is given there are no equations
pub no_equations : (p : ℕ) (hs : List (Option Read)) (As : List Read) → AreNone hs → equations p hs As ≡ []
no_equations p [] As none = refl
no_equations p (o ∷ hs) [] none = go o
  where
    go : (o : Option Read) → equations p (o ∷ hs) [] ≡ []
    go None = refl
    go (Some G) = refl
no_equations p (o ∷ hs) (A ∷ As) none = go o (All-head (λ (k : Option Read). k ≡ None) o hs none) (no_equations p hs As (All-tail (λ (k : Option Read). k ≡ None) o hs none))
  where
    go : (o : Option Read) → o ≡ None → equations p hs As ≡ [] → equations p (o ∷ hs) (A ∷ As) ≡ []
    go None e rest = rest
    go (Some G) e rest = absurd (cc)

-- one against one: what is given, and the antecedents where nothing is
abbrev against : List (Option Read) → List Read → List Read
against [] As = []
against (o ∷ hs) [] = []
against (None ∷ hs) (A ∷ As) = A ∷ against hs As
against (Some G ∷ hs) (A ∷ As) = G ∷ against hs As

no_length : (n : ℕ) → suc n ≡ 0 → ⊥
no_length n e = omega (arith, e)

less_length : (n m : ℕ) → suc n ≡ suc m → n ≡ m
less_length n m e = omega (arith, e)

-- what is left, taken apart again
met_again : (hs : List (Option Read)) (As : List Read) (R : Read) → length hs ≡ length As → met_by hs (awaited hs (awaiting hs As R)) ≡ against hs As
met_again [] As R l = refl
met_again (o ∷ hs) [] R l = absurd (no_length (length hs) l)
met_again (None ∷ hs) (A ∷ As) R l = ap (λ k. A ∷ k) (met_again hs As R (less_length (length hs) (length As) l))
met_again (Some G ∷ hs) (A ∷ As) R l = ap (λ k. G ∷ k) (met_again hs As R (less_length (length hs) (length As) l))

pub result_again : (hs : List (Option Read)) (As : List Read) (R : Read) → length hs ≡ length As → result_in hs (awaiting hs As R) ≡ R
result_again [] As R l = refl
result_again (o ∷ hs) [] R l = absurd (no_length (length hs) l)
result_again (None ∷ hs) (A ∷ As) R l = result_again hs As R (less_length (length hs) (length As) l)
result_again (Some G ∷ hs) (A ∷ As) R l = result_again hs As R (less_length (length hs) (length As) l)

pub awaited_from : (hs : List (Option Read)) (As : List Read) (R E : Read) → length hs ≡ length As → Contains (awaited hs (awaiting hs As R)) E → Contains As E
awaited_from [] As R E l c = absurd (Contains-none E c)
awaited_from (o ∷ hs) [] R E l c = absurd (no_length (length hs) l)
awaited_from (None ∷ hs) (A ∷ As) R E l c = elim (Contains-cases A (awaited hs (awaiting hs As R)) E c) [
  | inl e ↦ subst (Contains (A ∷ As)) e (Contains-here A As)
  | inr d ↦ Contains-there A As E (awaited_from hs As R E (less_length (length hs) (length As) l) d)
]
awaited_from (Some G ∷ hs) (A ∷ As) R E l c = Contains-there A As E (awaited_from hs As R E (less_length (length hs) (length As) l) c)

-- terms are put into all of it
pub awaiting_under : (q : Substitution ℕ (List ℕ)) (hs : List (Option Read)) (As : List Read) (R : Read) → image same_number q (awaiting hs As R) ≡ awaiting hs (map (image same_number q) As) (image same_number q R)
awaiting_under q [] As R = refl
awaiting_under q (None ∷ hs) [] R = refl
awaiting_under q (Some G ∷ hs) [] R = refl
awaiting_under q (None ∷ hs) (A ∷ As) R = ap (implied (image same_number q A)) (awaiting_under q hs As R)
awaiting_under q (Some G ∷ hs) (A ∷ As) R = awaiting_under q hs As R

-- terms that are given, over more variables
pub given_may : (sg : Signature) (xs Z : List Variable) (M : List Nominal) → ((t : Read) → HoldsOnly xs t → HoldsOnly Z t) → (ps : List Part) → GivenOver xs ps → ((a : Nominal) → Contains (given_constants ps) a → Contains M a) → stages.GivenMay sg Z M ps
given_may sg xs Z M more [] g within = tt
given_may sg xs Z M more (variable_for x A ∷ ps) g within = given_may sg xs Z M more ps g within
given_may sg xs Z M more (given_term t ∷ ps) g within = (
  more t g.0,
  λ a c. within a (Contains-append_left (support t) (given_constants ps) a c),
  given_may sg xs Z M more ps g.1 (λ a c. within a (Contains-append_right (support t) (given_constants ps) a c)),
)
given_may sg xs Z M more (constant_for A ∷ ps) g within = given_may sg xs Z M more ps g within
given_may sg xs Z M more (antecedent ∷ ps) g within = given_may sg xs Z M more ps g within

length_mapped : (f : Read → Read) (As : List Read) → length (map f As) ≡ length As
length_mapped f [] = refl
length_mapped f (A ∷ As) = let rest = length_mapped f As in omega (arith, rest)

module _ (D : Declarations) (u : Using) (may : MayUse D u) (cells : Cells) (are : AreCells cells u.goal) (names : List Nominal) (listed : Contains (choices_for u.goal u.parts u.formula) names)
    (more : Cells) (answer : Substitution ℕ (List ℕ)) (solves : Solves (codes "x") (problem_of (case_by cells u names)) (unified more answer))
    (none : [] ≡ standing_in (image same_number answer (case_by cells u names).goal.conclusion) (made cells more answer)) where
  abbrev s : Sequent
  s = u.goal

  abbrev sg : Signature
  sg = signature_in D

  abbrev xs : List Variable
  xs = s.variables

  abbrev hs : List (Option Read)
  hs = u.aim.hypotheses

  abbrev G : List Nominal
  G = goal_names s

  abbrev H : List Nominal
  H = G ++ given_constants u.parts

  abbrev M : List Nominal
  M = names ++ H

  abbrev taken : Use
  taken = use_by s (length cells) u.parts u.formula names

  abbrev own : Cells
  own = taken.variables

  abbrev Z : List Variable
  Z = xs ++ variables_from (length cells) own

  abbrev flexible : List (tree.Variable ℕ)
  flexible = numbered (length cells) own

  abbrev es : List (Equation (List ℕ))
  es = equations 0 hs taken.antecedents ++ equation_behind u.aim.conclusion taken.result

  in_order_goal : (a : Nominal) → Contains (in_order G) a → Contains H a
  in_order_goal a m = Contains-append_left G (given_constants u.parts) a (contains_ordered G a m)

  kept : Contains (choices (types_chosen u.parts) (in_order G) H) names × ((use_by s 0 u.parts u.formula names).outside ≡ true)
  kept = contains_kept (λ ns. (use_by s 0 u.parts u.formula ns).outside) (choices (types_chosen u.parts) (in_order G) H) names listed

  one : HasOneTypeEach M
  one = choice_one_type (types_chosen u.parts) (in_order G) H names in_order_goal may.one_type kept.0

  types : stages.types_of names ≡ types_chosen u.parts
  types = (choice_right (types_chosen u.parts) (in_order G) H in_order_goal names kept.0).0

  in_all : (a : Nominal) → Contains G a → Contains M a
  in_all a m = Contains-append_right names H a (Contains-append_left G (given_constants u.parts) a m)

  old : (x : Variable) → Contains xs x → Contains Z x
  old x m = Contains-append_left xs (variables_from (length cells) own) x m

  closed_over : (t : Read) → HoldsOnly xs t → HoldsOnly Z t
  closed_over t closed =
      All-weaker (Contains (map in_terms xs)) (Contains (map in_terms Z))
      (λ v c. let x = Contains-from_map in_terms xs v c in subst (Contains (map in_terms Z)) x.2 (Contains-map in_terms Z x.0 (old x.0 x.1))) (variables t) closed

  more_may : (E : Read) → MayStand sg xs G E → MayStand sg Z M E
  more_may = may_more D G M in_all xs Z old

  new_within : (z : tree.Variable ℕ) → Contains (numbered (length cells) own) z → Contains (map in_terms Z) z
  new_within z m =
      subst (λ l. Contains l z) (sym (map-append in_terms xs (variables_from (length cells) own)))
      (Contains-append_right (map in_terms xs) (map in_terms (variables_from (length cells) own)) z (subst (λ l. Contains l z) (sym (numbered_from (length cells) own)) m))

  within : (z : tree.Variable ℕ) → Contains flexible z → Contains (map in_terms (variables_from (length cells) own)) z
  within z m = subst (λ l. Contains l z) (sym (numbered_from (length cells) own)) m

  given_M : stages.GivenMay sg Z M u.parts
  given_M = given_may sg xs Z M closed_over u.parts may.given (λ a c. Contains-append_right names H a (Contains-append_right G (given_constants u.parts) a c))

  parts_may : UseMay sg Z M (antecedents_among u.parts) taken
  parts_may =
      used_may sg Z M (in_order G) (λ a m. in_all a (contains_ordered G a m)) u.parts may.parts (length cells) names (more_may u.formula may.formula) types
      (λ a m. Contains-append_left names H a m) new_within given_M

  if_any : (o : Option Read) → IfSome o (MayStand sg xs G) → IfSome o (MayStand sg Z M)
  if_any None m = m
  if_any (Some E) m = more_may E m

  over_may : AreTyped sg es × All (HoldsOnly Z) (sides es)
  over_may =
      equations_may sg Z M 0 hs taken.antecedents (equation_behind u.aim.conclusion taken.result)
      (All-weaker (λ o. IfSome o (MayStand sg xs G)) (λ o. IfSome o (MayStand sg Z M)) if_any hs may.hypotheses) parts_may.antecedents
      (behind_may sg Z M u.aim.conclusion taken.result (if_any u.aim.conclusion may.conclusion) parts_may.result)

  as_long : length hs ≡ length taken.antecedents
  as_long = may.as_many ∙ sym parts_may.count

  abbrev left : List Variable
  left = made cells more answer

  -- constants for what is left open, which are new
  module _ (new : List Nominal) (r : Substitution ℕ (List ℕ)) (filled : IsFilled sg left new r) (fresh : (a : Nominal) → Contains new a → Contains M a → ⊥) (one_N : HasOneTypeEach (new ++ M)) where
    abbrev N : List Nominal
    N = new ++ M

    abbrev q : Substitution ℕ (List ℕ)
    q = composition same_number answer r

    abbrev I : Read → Read
    I = image same_number q

    in_N : (a : Nominal) → Contains M a → Contains N a
    in_N a m = Contains-append_right new M a m

    may_N : (E : Read) → MayStand sg Z M E → MayStand sg Z N E
    may_N = may_more D M N in_N Z Z (λ x c. c)

    put : IsPut sg xs N (Contains (map in_terms Z)) q
    put = answered.is_put sg xs cells own es flexible are over_may.0 over_may.1 within more answer solves new r filled N (λ a c. Contains-append_left new M a c)

    apart : (y : tree.Variable ℕ) (v : Read) → value_in same_number q y ≡ Some v → (a : Nominal) → Contains (support v) a → Contains names a → ⊥
    apart = answered.holds_none sg xs cells own es flexible are over_may.0 over_may.1 within more answer solves new r filled names (λ a c d. fresh a c (Contains-append_left names H a d))

    under_may : (E : Read) → MayStand sg Z M E → MayStand sg xs N (I E)
    under_may E m = put_may sg xs N (Contains (map in_terms Z)) q put E m.formula m.closed (λ a c. in_N a (m.names a c))

    abbrev whole : Read
    whole = awaiting hs taken.antecedents taken.result

    abbrev K : Read
    K = image same_number answer whole

    -- what is left is what is put into the use's antecedents and its result
    K_is : K ≡ awaiting hs (map I taken.antecedents) (I taken.result)
    K_is =
        let whole_may = awaiting_may sg Z M hs taken.antecedents taken.result parts_may.antecedents parts_may.result in
        sym (answered.nothing_left sg xs cells own es flexible are over_may.0 over_may.1 within more answer solves new r filled whole prop whole_may.formula.typed none)
        ∙ awaiting_under q hs taken.antecedents taken.result

    as_long_under : length hs ≡ length (map I taken.antecedents)
    as_long_under = as_long ∙ sym (length_mapped I taken.antecedents)

    unifies : Unifies answer (equations 0 hs taken.antecedents) × Unifies answer (equation_behind u.aim.conclusion taken.result)
    unifies =
        unified_first answer (equations 0 hs taken.antecedents) (equation_behind u.aim.conclusion taken.result)
        (answer_unifies sg (codes "x") es (cells ++ own) flexible over_may.0 (answered.known sg xs cells own es flexible are over_may.0 over_may.1 within more answer solves) more answer solves)

    meet_all : (p : ℕ) (gs : List (Option Read)) (As : List Read) → All (λ o. IfSome o (MayStand sg xs G)) gs → All (MayStand sg Z M) As → Unifies answer (equations p gs As) → MarksServeEach gs As → length gs ≡ length As
        → MeetEach (map I As) (against gs (map I As))
    meet_all p [] [] given mays eqs serve l = tt
    meet_all p [] (A ∷ As) given mays eqs serve l = absurd (no_length (length As) (sym l))
    meet_all p (o ∷ gs) [] given mays eqs serve l = absurd (no_length (length gs) l)
    meet_all p (None ∷ gs) (A ∷ As) given mays eqs serve l =
        (meets_itself (I A), meet_all p gs As (All-tail (λ o. IfSome o (MayStand sg xs G)) None gs given) (All-tail (MayStand sg Z M) A As mays) eqs serve (less_length (length gs) (length As) l))
    meet_all p (Some E ∷ gs) (A ∷ As) given mays eqs serve l =
        let here = All-head (MayStand sg Z M) A As mays in
        let there = All-head (λ o. IfSome o (MayStand sg xs G)) (Some E) gs given in (
          answered.met_by_equation sg xs cells own es flexible are over_may.0 over_may.1 within more answer solves new r filled A E here.formula.typed here.formula.stands there.closed eqs.0 serve.0,
          meet_all (suc p) gs As (All-tail (λ o. IfSome o (MayStand sg xs G)) (Some E) gs given) (All-tail (MayStand sg Z M) A As mays) eqs.1 serve.1 (less_length (length gs) (length As) l),
        )

    last : Meets (I taken.result) (asked_of u K)
    last = go u.aim.conclusion may.conclusion (may.serve_result (length cells) names types) unifies.1
      where
        here : MayStand sg Z M taken.result
        here = parts_may.result

        go : (o : Option Read) → IfSome o (MayStand sg xs G) → IfSome o (λ C. MarksServeIn C taken.result) → Unifies answer (equation_behind o taken.result) → Meets (I taken.result) (unwrap_or o (result_in hs K))
        go None m serve eqs = subst (Meets (I taken.result)) (sym (ap (result_in hs) K_is ∙ result_again hs (map I taken.antecedents) (I taken.result) as_long_under)) (meets_itself (I taken.result))
        go (Some C) m serve eqs =
            answered.meets_by_equation sg xs cells own es flexible are over_may.0 over_may.1 within more answer solves new r filled taken.result C here.formula.typed here.formula.stands m.closed eqs.0 serve

    -- THE STAGES LEAD THERE
    pub leads : LeadsBy sg xs N (map (stage_under q) (stages_of (in_order G) (length cells) u.parts names)) u.formula (met_by hs (awaited hs K)) (asked_of u K)
    leads =
        subst (λ Hs. LeadsBy sg xs N (map (stage_under q) (stages_of (in_order G) (length cells) u.parts names)) u.formula Hs (asked_of u K))
        (sym (ap (λ E. met_by hs (awaited hs E)) K_is ∙ met_again hs (map I taken.antecedents) (I taken.result) as_long_under))
        (subst (λ E. LeadsBy sg xs N (map (stage_under q) (stages_of (in_order G) (length cells) u.parts names)) E (against hs (map I taken.antecedents)) (asked_of u K))
        (answered.stays_under sg xs cells own es flexible are over_may.0 over_may.1 within more answer solves new r filled u.formula prop may.formula.formula.typed may.formula.closed)
        (stages.lead sg Z N xs q put names apart (in_order G) (λ a m. in_N a (in_all a (contains_ordered G a m))) u.parts may.parts (length cells) names (may_N u.formula (more_may u.formula may.formula)) types
        (λ a m. (in_N a (Contains-append_left names H a m), m)) new_within
        (given_may sg xs Z N closed_over u.parts may.given (λ a c. in_N a (Contains-append_right names H a (Contains-append_right G (given_constants u.parts) a c)))) outside_so (against hs (map I taken.antecedents)) (asked_of u K)
        (meet_all 0 hs taken.antecedents may.hypotheses parts_may.antecedents unifies.0 (may.serve (length cells) names types) as_long) last))
      where
        outside_so : taken.outside ≡ true
        outside_so = outside_numbered (in_order G) (length cells) 0 u.parts names u.formula u.formula refl ∙ kept.1

    spoken_may : (E : Read) → Contains (spoken_of u K) E → MayStand sg xs N E
    spoken_may E c = elim (Contains-append_cases (formulas_of s) (u.formula ∷ result_in hs K ∷ awaited hs K) E c) [
      | inl a ↦ old_may E (goal_formula E a)
      | inr a ↦ elim (Contains-cases u.formula (result_in hs K ∷ awaited hs K) E a) [
        | inl e ↦ subst (MayStand sg xs N) e (old_may u.formula may.formula)
        | inr b ↦ elim (Contains-cases (result_in hs K) (awaited hs K) E b) [
          | inl e ↦ subst (MayStand sg xs N) (sym (ap (result_in hs) K_is ∙ result_again hs (map I taken.antecedents) (I taken.result) as_long_under) ∙ e) (under_may taken.result parts_may.result)
          | inr d ↦ of_awaited (awaited_from hs (map I taken.antecedents) (I taken.result) E as_long_under (subst (λ k. Contains (awaited hs k) E) K_is d))
        ]
      ]
    ]
      where
        old_may : (B : Read) → MayStand sg xs G B → MayStand sg xs N B
        old_may = may_more D G N (λ a m. in_N a (in_all a m)) xs xs (λ x m. m)

        goal_formula : (B : Read) → Contains (formulas_of s) B → MayStand sg xs G B
        goal_formula B there = record {
          formula = All-contains (IsFormula sg) (formulas_of s) B may.sequent.formulas there;
          closed = All-contains (HoldsOnly xs) (formulas_of s) B may.sequent.closed there;
          names = λ a k. formula_names (formulas_of s) B a there k;
        }

        of_awaited : Contains (map I taken.antecedents) E → MayStand sg xs N E
        of_awaited d =
            let found = Contains-from_map I taken.antecedents E d in
            subst (MayStand sg xs N) found.2 (under_may found.0 (All-contains (MayStand sg Z M) taken.antecedents found.0 parts_may.antecedents found.1))

    asked_may : MayStand sg xs N (asked_of u K)
    asked_may = go u.aim.conclusion may.conclusion
      where
        go : (o : Option Read) → IfSome o (MayStand sg xs G) → MayStand sg xs N (unwrap_or o (result_in hs K))
        go None m = spoken_may (result_in hs K) (Contains-append_right (formulas_of s) (u.formula ∷ result_in hs K ∷ awaited hs K) (result_in hs K) (Contains-there u.formula (result_in hs K ∷ awaited hs K) (result_in hs K) (Contains-here (result_in hs K) (awaited hs K))))
        go (Some C) m = may_more D G N (λ a k. in_N a (in_all a k)) xs xs (λ x k. k) C m

    pub stages_lead : StagesLead D u K N (map (stage_under r) (map (stage_under answer) (stages_of (in_order G) (length cells) u.parts names)))
    stages_lead =
        let known = answered.known sg xs cells own es flexible are over_may.0 over_may.1 within more answer solves in
        let typed = answer_typed sg (codes "x") es (cells ++ own) flexible over_may.0 known more answer solves in
        subst (StagesLead D u K N) (sym (stages.staged_twice sg answer r typed filled.typed (in_order G) u.parts may.parts (length cells) names))
        (record { one_type = one_N; spoken = spoken_may; asked = asked_may; leads = leads })

    pub use_follows : (k : Sequent) (x : List ℕ) (zs : List (List ℕ)) → IsLeftIn u K k x zs → (d : Derivation) × IsWhole D k d
    use_follows k x zs is =
        derive D N one_N cells (map (stage_under q) (stages_of (in_order G) (length cells) u.parts names)) u.formula (met_by hs (awaited hs K)) k x zs
        (record {
          conclusion = subst (λ ys. MayStand sg ys N k.conclusion) (sym is.variables) (subst (MayStand sg xs N) (sym is.asked) asked_may);
          hypotheses = All-weaker (λ (h : Hypothesis). Contains (spoken_of u K) h.formula) (λ (h : Hypothesis). MayStand sg k.variables N h.formula) (λ h c. subst (λ ys. MayStand sg ys N h.formula) (sym is.variables) (spoken_may h.formula c)) k.hypotheses is.spoken;
          numbers_differ = subst (AllPairs (λ (y z : Variable). y.number ≢ z.number)) (sym is.variables) may.sequent.numbers_differ;
          names_differ = subst (AllPairs (λ (y z : Variable). y.name ≢ z.name)) (sym is.variables) may.sequent.names_differ;
          labels_differ = is.labels;
        })
        (subst (λ ys. All (λ (y : Variable). slice_get cells y.number ≡ Some (cell_for y)) ys) (sym is.variables) are)
        (subst (λ ys. LeadsBy sg ys N (map (stage_under q) (stages_of (in_order G) (length cells) u.parts names)) u.formula (met_by hs (awaited hs K)) k.conclusion) (sym is.variables)
        (subst (λ C. LeadsBy sg xs N (map (stage_under q) (stages_of (in_order G) (length cells) u.parts names)) u.formula (met_by hs (awaited hs K)) C) (sym is.asked) leads))
        is.formula is.met

-- WITH THE LEAST NEW CONSTANTS for what is left open the formula leads there
pub leads_newly : (D : Declarations) (cells : Cells) (u : Using) (names known : List Nominal) (K : Read) → MayUse D u → AreCells cells u.goal → IsFirst cells u names → (is : IsSolvedBy cells u names K []) →
    ((a : Nominal) → Contains (names ++ (goal_names u.goal ++ given_constants u.parts)) a → Contains known a) →
    StagesLead D u K (constants_for known (made cells is.more is.answer) ++ (names ++ (goal_names u.goal ++ given_constants u.parts)))
    (map (stage_under (pairs_for known (made cells is.more is.answer))) (map (stage_under is.answer) (stages_of (in_order (goal_names u.goal)) (length cells) u.parts names)))
leads_newly D cells u names known K may are (before, after, is, never) m within =
    let listed : Contains (choices_for u.goal u.parts u.formula) names = subst (λ l. Contains l names) (sym is) (Contains-append_right before (names ∷ after) names (Contains-here names after)) in
    let M : List Nominal = names ++ (goal_names u.goal ++ given_constants u.parts) in
    let left : List Variable = made cells m.more m.answer in
    let none = subst (λ E. [] ≡ standing_in E left) m.left m.left_open in
    let one_M : HasOneTypeEach M = one D u may cells are names listed m.more m.answer m.solved none in
    let N : List Nominal = constants_for known left ++ M in
    let ss : List Stage = map (stage_under (pairs_for known left)) (map (stage_under m.answer) (stages_of (in_order (goal_names u.goal)) (length cells) u.parts names)) in
    subst (λ E. StagesLead D u E N ss) (sym m.left)
    (stages_lead D u may cells are names listed m.more m.answer m.solved none (constants_for known left) (pairs_for known left) (newest.is_filled (signature_in D) known left) (newest.are_new known left M within) (newest.all_once known left M within one_M))

-- A USE LEADS where it is said to lead
pub follows : (D : Declarations) (u : Using) (K : Read) → MayUse D u → IsUsedFor u K → (k : Sequent) (x : List ℕ) (zs : List (List ℕ)) → IsLeftIn u K k x zs → (d : Derivation) × IsWhole D k d
follows D u K may (cells, are, names, (before, after, is, never), m) k x zs left_in =
    let listed : Contains (choices_for u.goal u.parts u.formula) names = subst (λ l. Contains l names) (sym is) (Contains-append_right before (names ∷ after) names (Contains-here names after)) in
    let M = names ++ (goal_names u.goal ++ given_constants u.parts) in
    let left = made cells m.more m.answer in
    let one_M : HasOneTypeEach M = one D u may cells are names listed m.more m.answer m.solved (subst (λ E. [] ≡ standing_in E (made cells m.more m.answer)) m.left m.left_open) in
    use_follows D u may cells are names listed m.more m.answer m.solved (subst (λ E. [] ≡ standing_in E (made cells m.more m.answer)) m.left m.left_open)
    (constants_from (above M) left) (filled_from (above M) left) (is_filled (signature_in D) (above M) left) (are_new M one_M left) (all_once M one_M left) k x zs
    (subst (λ E. IsLeftIn u E k x zs) m.left left_in)
