-- What is known of the formulas of a goal, and of their parts.
use Rattle.std.proofs.Common.{◌≡◌, inl, inr, ℕ, List, [], ◌∷◌, ◌++◌, Bool, true, false, subst}
use Rattle.std.specs.Prelude.{Contains}
use Rattle.std.proofs.lemmas.List.Elements.{Contains-append_left, Contains-append_right}
use Rattle.std.proofs.lemmas.Bool.{false≢true}
use Rattle.ab_term.specs.Types.{Ty, arrow, prop}
use Rattle.ab_term.specs.Logical as plain
use Rattle.ab_term.specs.Logical.{Logical, logical_type}
use Rattle.ab_term.specs.Terms.{Nominal, Variable, constant, logical, nominal, variable, index, lam, spine, Terms, no_terms, term, Read}
use Rattle.ab_term.specs.Typing.{Signature, HasType, TakeType, typed_spine, take_term}
use Rattle.ab_term.specs.Names.{support, support_of_all}
use Rattle.ab_term.specs.Substitution.{instance}
use Rattle.ab_term.specs.Variables.{variables, variables_of_all}
use Rattle.ab_term.proofs.Preservation.{instance_typed}
use Rattle.ab_term.proofs.Stands.{support-instance, variables-instance}
use Rattle.ab_unifiers.specs.Replacements.{holds}
use Rattle.ab_unifiers.specs.Unifiers.{HoldsCells}
use Rattle.ab_formulas.specs.Formulas.{a_scope, a_marked, StandsIn, AllStandIn, places_of_constant, IsFormula}
use Rattle.ab_formulas.specs.Forms.{Form, both, either, implies, equal, for_all, exists, nabla, marked, form_of, form_alone, form_with, form_between}
use Rattle.ab_search_trees.specs.Goals.{Goal, Now}
use Rattle.ab_search_trees.specs.Guesses.{HoldsOf}
use Rattle.ab_search_trees.proofs.Weights.{instance_stands}

-- what is known of a term of a goal: its variables are cells, its constants the branch's; and where nothing was unfolded and
-- no `exists` opened, none of its variables may be replaced
pub record Facts (now : Now) (branch : List Nominal) (untouched : Bool) (t : Read) : Type 0 where
  pub over : HoldsCells now.cells t
  pub constants : HoldsOf branch t
  pub fixed : untouched ≡ true → (y : Variable ℕ) → Contains (variables t) y → holds now.flexible y ≡ false

pub record IsPart (sg : Signature) (now : Now) (branch : List Nominal) (untouched : Bool) (F : Read) : Type 0 where
  pub formula : IsFormula sg F
  pub facts : Facts now branch untouched F

abbrev pub AllParts : Signature → Now → List Nominal → Bool → List Read → Type 0
AllParts sg now branch untouched [] = Unit {0}
AllParts sg now branch untouched (F ∷ Fs) = IsPart sg now branch untouched F × AllParts sg now branch untouched Fs

pub record IsTask (sg : Signature) (now : Now) (g : Goal) : Type 0 where
  pub conclusion : IsPart sg now g.constants g.untouched g.conclusion
  pub hypotheses : AllParts sg now g.constants g.untouched g.hypotheses

abbrev pub AllTasks : Signature → Now → List Goal → Type 0
AllTasks sg now [] = Unit {0}
AllTasks sg now (g ∷ gs) = IsTask sg now g × AllTasks sg now gs

pub all_tasks_both : (sg : Signature) (now : Now) (gs hs : List Goal) → AllTasks sg now gs → AllTasks sg now hs → AllTasks sg now (gs ++ hs)
all_tasks_both sg now [] hs a b = b
all_tasks_both sg now (g ∷ gs) hs a b = (a.0, all_tasks_both sg now gs hs a.1 b)

-- less is asked where something was unfolded
pub facts_touched : {now : Now} {branch : List Nominal} {u : Bool} {t : Read} → Facts now branch u t → Facts now branch false t
facts_touched f = record { over = f.over; constants = f.constants; fixed = λ e. absurd (false≢true e) }

pub part_touched : {sg : Signature} {now : Now} {branch : List Nominal} {u : Bool} {t : Read} → IsPart sg now branch u t → IsPart sg now branch false t
part_touched p = record { formula = p.formula; facts = facts_touched p.facts }

pub all_touched : (sg : Signature) (now : Now) (branch : List Nominal) (u : Bool) (ts : List Read) → AllParts sg now branch u ts → AllParts sg now branch false ts
all_touched sg now branch u [] a = tt
all_touched sg now branch u (t ∷ ts) a = (part_touched a.0, all_touched sg now branch u ts a.1)

-- and of a larger branch
pub facts_more : {now : Now} {branch more : List Nominal} {u : Bool} {t : Read} → ((a : Nominal) → Contains branch a → Contains more a) → Facts now branch u t → Facts now more u t
facts_more m f = record { over = f.over; constants = λ a c. m a (f.constants a c); fixed = f.fixed }

pub part_more : {sg : Signature} {now : Now} {branch more : List Nominal} {u : Bool} {t : Read} → ((a : Nominal) → Contains branch a → Contains more a) → IsPart sg now branch u t → IsPart sg now more u t
part_more m p = record { formula = p.formula; facts = facts_more m p.facts }

pub all_more : (sg : Signature) (now : Now) (branch more : List Nominal) (u : Bool) → ((a : Nominal) → Contains branch a → Contains more a) → (ts : List Read) → AllParts sg now branch u ts → AllParts sg now more u ts
all_more sg now branch more u m [] a = tt
all_more sg now branch more u m (t ∷ ts) a = (part_more m a.0, all_more sg now branch more u m ts a.1)

pub all_parts_both : (sg : Signature) (now : Now) (branch : List Nominal) (u : Bool) (ts us : List Read) → AllParts sg now branch u ts → AllParts sg now branch u us → AllParts sg now branch u (ts ++ us)
all_parts_both sg now branch u [] us a b = b
all_parts_both sg now branch u (t ∷ ts) us a b = (a.0, all_parts_both sg now branch u ts us a.1 b)

module _ {now : Now} {branch : List Nominal} {u : Bool} where
  pub facts_first : {l : Logical} {t : Read} {ts : Terms ℕ (List ℕ)} → Facts now branch u (spine (logical l) (term t ts)) → Facts now branch u t
  facts_first {t = t} {ts = ts} f = record {
    over = λ y m. f.over y (Contains-append_left (variables t) (variables_of_all ts) y m);
    constants = λ a m. f.constants a (Contains-append_left (support t) (support_of_all ts) a m);
    fixed = λ e y m. f.fixed e y (Contains-append_left (variables t) (variables_of_all ts) y m);
  }

  pub facts_second : {l : Logical} {t v : Read} {ts : Terms ℕ (List ℕ)} → Facts now branch u (spine (logical l) (term t (term v ts))) → Facts now branch u v
  facts_second {t = t} {v = v} {ts = ts} f = record {
    over = λ y m. f.over y (Contains-append_right (variables t) (variables v ++ variables_of_all ts) y (Contains-append_left (variables v) (variables_of_all ts) y m));
    constants = λ a m. f.constants a (Contains-append_right (support t) (support v ++ support_of_all ts) a (Contains-append_left (support v) (support_of_all ts) a m));
    fixed = λ e y m. f.fixed e y (Contains-append_right (variables t) (variables v ++ variables_of_all ts) y (Contains-append_left (variables v) (variables_of_all ts) y m));
  }

  -- an instance holds no more
  pub facts_instance : {t v : Read} → Facts now branch u t → Facts now branch u v → Facts now branch u (instance t v)
  facts_instance {t = t} {v = v} f g = record {
    over = λ y m. elim (variables-instance t v y m) [ inl a ↦ f.over y a | inr a ↦ g.over y a ];
    constants = λ y m. elim (support-instance t v y m) [ inl a ↦ f.constants y a | inr a ↦ g.constants y a ];
    fixed = λ e y m. elim (variables-instance t v y m) [ inl a ↦ f.fixed e y a | inr a ↦ g.fixed e y a ];
  }

module _ (sg : Signature) (now : Now) (branch : List Nominal) (u : Bool) where
  -- what a quantifier is given
  pub record IsScope (A : Ty) (F : Read) : Type 0 where
    pub typed : HasType sg [] F (arrow A prop)
    pub stands : StandsIn a_scope F
    pub facts : Facts now branch u F

  pub instance_part : {A : Ty} {F t : Read} → IsScope A F → HasType sg [] t A → Facts now branch u t → IsPart sg now branch u (instance F t)
  instance_part {F = F} {t = t} s d f = record {
    formula = record { typed = instance_typed sg s.typed d; stands = instance_stands F t s.stands };
    facts = facts_instance s.facts f;
  }

  -- by the form
  abbrev pub FormFacts : Form → Type 0
  FormFacts (both A B) = IsPart sg now branch u A × IsPart sg now branch u B
  FormFacts (either A B) = IsPart sg now branch u A × IsPart sg now branch u B
  FormFacts (implies A B) = IsPart sg now branch u A × IsPart sg now branch u B
  FormFacts (equal A t v) = HasType sg [] t A × HasType sg [] v A × Facts now branch u t × Facts now branch u v
  FormFacts (for_all A F) = IsScope A F
  FormFacts (exists A F) = IsScope A F
  FormFacts (nabla A F) = IsScope A F
  FormFacts (marked m A) = HasType sg [] A prop × StandsIn a_marked A × Facts now branch u A
  FormFacts _ = Unit {0}

  pub arguments_of : {l : Logical} {ts : Terms ℕ (List ℕ)} {A : Ty} → HasType sg [] (spine (logical l) ts) A → TakeType sg [] ts (logical_type l) A
  arguments_of {l = l} {ts = ts} {A = A} (typed_spine {A = D} e ds) = let same : D ≡ logical_type l = cc in subst (λ E. TakeType sg [] ts E A) same ds

  pub first_of : {A B C : Ty} {t : Read} {ts : Terms ℕ (List ℕ)} → TakeType sg [] (term t ts) (arrow A B) C → HasType sg [] t A
  first_of (take_term d ds) = d

  pub rest_of : {A B C : Ty} {t : Read} {ts : Terms ℕ (List ℕ)} → TakeType sg [] (term t ts) (arrow A B) C → TakeType sg [] ts B C
  rest_of (take_term d ds) = ds

  alone_facts : (l : Logical) → FormFacts (form_alone l)
  alone_facts plain.truth = tt
  alone_facts plain.falsity = tt
  alone_facts _ = tt

  with_facts : (l : Logical) (t : Read) → TakeType sg [] (term t no_terms) (logical_type l) prop → AllStandIn (places_of_constant l) (term t no_terms) → Facts now branch u t → FormFacts (form_with l t)
  with_facts (plain.universal A) t d s f = record { typed = first_of d; stands = s.0; facts = f }
  with_facts (plain.existential A) t d s f = record { typed = first_of d; stands = s.0; facts = f }
  with_facts (plain.nabla A) t d s f = record { typed = first_of d; stands = s.0; facts = f }
  with_facts (plain.star i) t d s f = (first_of d, s.0, f)
  with_facts (plain.at_sign i) t d s f = (first_of d, s.0, f)
  with_facts (plain.plus i) t d s f = (first_of d, s.0, f)
  with_facts (plain.hash i) t d s f = (first_of d, s.0, f)
  with_facts _ t d s f = tt

  between_facts : (l : Logical) (t v : Read) → TakeType sg [] (term t (term v no_terms)) (logical_type l) prop → AllStandIn (places_of_constant l) (term t (term v no_terms)) → Facts now branch u t → Facts now branch u v → FormFacts (form_between l t v)
  between_facts plain.conjunction t v d s f g = (record { formula = record { typed = first_of d; stands = s.0 }; facts = f }, record { formula = record { typed = first_of (rest_of d); stands = s.1.0 }; facts = g })
  between_facts plain.disjunction t v d s f g = (record { formula = record { typed = first_of d; stands = s.0 }; facts = f }, record { formula = record { typed = first_of (rest_of d); stands = s.1.0 }; facts = g })
  between_facts plain.implication t v d s f g = (record { formula = record { typed = first_of d; stands = s.0 }; facts = f }, record { formula = record { typed = first_of (rest_of d); stands = s.1.0 }; facts = g })
  between_facts (plain.equality A) t v d s f g = (first_of d, first_of (rest_of d), f, g)
  between_facts _ t v d s f g = tt

  pub form_facts : (C : Read) → IsPart sg now branch u C → FormFacts (form_of C)
  form_facts (lam A x t) p = absurd p.formula.stands
  form_facts (spine (constant c) ts) p = tt
  form_facts (spine (nominal a) ts) p = tt
  form_facts (spine (variable y) ts) p = absurd p.formula.stands.0
  form_facts (spine (index i) ts) p = absurd p.formula.stands.0
  form_facts (spine (logical l) no_terms) p = alone_facts l
  form_facts (spine (logical l) (term t no_terms)) p = with_facts l t (arguments_of p.formula.typed) p.formula.stands.1 (facts_first p.facts)
  form_facts (spine (logical l) (term t (term v no_terms))) p = between_facts l t v (arguments_of p.formula.typed) p.formula.stands.1 (facts_first p.facts) (facts_second p.facts)
  form_facts (spine (logical l) (term t (term v (term w ts)))) p = tt
