-- WORKED INSTANCES of the definitions of judgements: each computes.
use Rattle.std.specs.Prelude.{ℕ, List, [], ◌∷◌, codes, Option, None, map, length, ◌≡◌, Some}
use Rattle.ab_term.specs.Types.{Ty, kind, arrow, o, olist}
use Rattle.ab_term.specs.Logical.{truth, conjunction, implication, universal, existential, nabla, judgement, focused_judgement, star, spec_universal, spec_implication, spec_conjunction}
use Rattle.ab_term.specs.Terms.{Nominal, constant, logical, nominal, variable, index, lam, spine, no_terms, terms_of, Read}
use Rattle.ab_unifiers.specs.Replacements.{Cell}
use Rattle.ab_unifiers.specs.Unification.{Equation}
use Rattle.ab_formulas.specs.Marks.{plain, star_of}
use Rattle.ab_theory.specs.Judgements.{Judgement, as_unfocused}
use Rattle.ab_formulas.specs.Programs.{Program}
use Rattle.ab_theory.specs.SpecRules.{Demand, rules_of, demand_of}
use Rattle.std.specs.Option.{option_map}
use Rattle.ab_theory.specs.Opening.{open_goal}
use Rattle.ab_theory.specs.Contexts.{cut_list, replace_constants, is_within}
use Rattle.std.proofs.Common.{refl}

abbrev i : Ty
i = kind (codes "i")

abbrev called : List ℕ → Ty → Cell (List ℕ)
called b A = record { hint = b; type = A }

abbrev n : ℕ → Nominal
n k = record { number = k; type = i }

abbrev the : ℕ → Read
the k = spine (nominal (n k)) no_terms

abbrev cell : ℕ → Ty → List Read → Read
cell k A ts = spine (variable (record { name = k; type = A })) (terms_of ts)

abbrev known : List ℕ → List Read → Read
known b ts = spine (constant b) (terms_of ts)

abbrev bound : ℕ → List Read → Read
bound k ts = spine (index k) (terms_of ts)

abbrev pi : List ℕ → Read → Read
pi x t = spine (logical (spec_universal i)) (terms_of (lam i x t ∷ []))

abbrev imply : Read → Read → Read
imply F G = spine (logical spec_implication) (terms_of (F ∷ G ∷ []))

abbrev with_also : Read → Read → Read
with_also F G = spine (logical spec_conjunction) (terms_of (F ∷ G ∷ []))

abbrev and : Read → Read → Read
and F G = spine (logical conjunction) (terms_of (F ∷ G ∷ []))

abbrev some : List ℕ → Ty → Read → Read
some x A t = spine (logical (existential A)) (terms_of (lam A x t ∷ []))

abbrev new : List ℕ → Read → Read
new x t = spine (logical (nabla i)) (terms_of (lam i x t ∷ []))

abbrev true_term : Read
true_term = spine (logical truth) no_terms

abbrev holds : Read → Read → Read
holds L G = spine (logical judgement) (terms_of (L ∷ G ∷ []))

abbrev holds_by : Read → Read → Read → Read
holds_by L F A = spine (logical focused_judgement) (terms_of (L ∷ F ∷ A ∷ []))

abbrev smaller : ℕ → Read → Read
smaller k F = spine (logical (star k)) (terms_of (F ∷ []))

abbrev cons : Read → Read → Read
cons F L = known (codes "::") (F ∷ L ∷ [])

abbrev nil : Read
nil = known (codes "nil") []

abbrev equal : ℕ → Read → Read → Equation (List ℕ)
equal p t u = record { place = p; left = t; right = u }

abbrev p : Read → Read
p t = known (codes "p") (t ∷ [])

abbrev q : Read → Read
q t = known (codes "q") (t ∷ [])

abbrev r : Read → Read
r t = known (codes "r") (t ∷ [])

-- `q X :- p X.`, `r X :- p Y, q X, r Y.` and `p c.`
abbrev program : Program
program =
    record { variables = called (codes "X") i ∷ []; names = []; predicate = codes "q"; arguments = terms_of (cell 0 i [] ∷ []); body = p (cell 0 i []) } ∷
    record { variables = called (codes "X") i ∷ called (codes "Y") i ∷ []; names = []; predicate = codes "r"; arguments = terms_of (cell 0 i [] ∷ []); body = with_also (with_also (p (cell 1 i [])) (q (cell 0 i []))) (r (cell 1 i [])) } ∷
    record { variables = []; names = []; predicate = codes "p"; arguments = terms_of (known (codes "c") [] ∷ []); body = true_term } ∷ []

-- the list L, which is the variable 0
abbrev the_list : Read
the_list = cell 0 olist []

abbrev unfocused : Read → Read → Judgement
unfocused L G = record { sign = plain; context = L; focus = None; goal = G }

abbrev in_focus : Read → Read → Read → Judgement
in_focus L F A = record { sign = plain; context = L; focus = Option.Some F; goal = A }

-- what the rules ask, in order, where one variable was made
abbrev asked_all : Judgement → Option (List Demand)
asked_all j = option_map (map (demand_of 1 plain j)) (rules_of program j)

-- how many rules there are
abbrev counted : Program → Judgement → Option ℕ
counted cs j = option_map length (rules_of cs j)

-- A clause that the program gets later is a rule more of a judgement: so what is proved by its rules before doesn't stay so
-- from all that is declared then.
rules_without : counted [] (unfocused the_list (q (known (codes "c") []))) ≡ Some 1
rules_without = refl

rules_with : counted program (unfocused the_list (q (known (codes "c") []))) ≡ Some 2
rules_with = refl

-- Goals are opened.
atom_example : open_goal plain the_list (p (the 1)) ≡ holds the_list (p (the 1))
atom_example = refl

-- pi x\ p x => q x & r x
compound_example : open_goal plain the_list (pi (codes "x") (imply (p (bound 0 [])) (with_also (q (bound 0 [])) (r (bound 0 []))))) ≡
    new (codes "x") (and (holds (cons (p (bound 0 [])) the_list) (q (bound 0 []))) (holds (cons (p (bound 0 [])) the_list) (r (bound 0 []))))
compound_example = refl

marked_example : open_goal (star_of 1) the_list (pi (codes "x") (p (bound 0 []))) ≡ new (codes "x") (smaller 1 (holds the_list (p (bound 0 []))))
marked_example = refl

-- What the rules of a judgement ask.
-- {L |- q c}: a clause, or some formula of the list
clause_example : asked_all (unfocused the_list (q (known (codes "c") []))) ≡ Some (
    record { passing = []; own = called (codes "X") i ∷ []; equations = equal 0 (known (codes "c") []) (cell 1 i []) ∷ []; body = holds the_list (p (cell 1 i [])) } ∷
    record { passing = []; own = []; equations = []; body = some (codes "F") o (and (holds_by the_list (bound 0 []) (q (known (codes "c") []))) (known (codes "member") (bound 0 [] ∷ the_list ∷ []))) } ∷ [])
clause_example = refl

-- {r n1}: a variable of goals alone is closed, and the others depend on the constants of the judgement
closed_example : asked_all (unfocused nil (r (the 1))) ≡ Some (
    record {
      passing = [];
      own = called (codes "X") (arrow i i) ∷ [];
      equations = equal 0 (the 1) (cell 1 (arrow i i) (the 1 ∷ [])) ∷ [];
      body = some (codes "Y") i (and (and (holds nil (p (bound 0 []))) (holds nil (q (cell 1 (arrow i i) (the 1 ∷ []))))) (holds nil (r (bound 0 []))));
    } ∷ [])
closed_example = refl

-- {p c}: a clause without a goal
fact_example : asked_all (unfocused nil (p (known (codes "c") []))) ≡ Some (record { passing = []; own = []; equations = equal 0 (known (codes "c") []) (known (codes "c") []) ∷ []; body = true_term } ∷ [])
fact_example = refl

-- no rule is known of a variable
open_example : asked_all (unfocused nil (cell 0 o [])) ≡ None
open_example = refl

open_focus_example : asked_all (in_focus nil (pi (codes "x") (with_also (p (bound 0 [])) (cell 0 o []))) (p (the 1))) ≡ None
open_focus_example = refl

-- {L, [pi x\ p x => pi y\ q y => r x & p n1] |- r n1}: y stands in a goal alone
focus_example : asked_all (in_focus the_list (pi (codes "x") (imply (p (bound 0 [])) (pi (codes "y") (imply (q (bound 0 [])) (with_also (r (bound 1 [])) (p (the 1))))))) (r (the 1))) ≡ Some (
    record {
      passing = called (codes "x") i ∷ called (codes "y") i ∷ [];
      own = called (codes "x") (arrow i i) ∷ [];
      equations = equal 0 (r (cell 3 (arrow i i) (the 1 ∷ []))) (r (the 1)) ∷ [];
      body = some (codes "y") i (and (holds the_list (p (cell 3 (arrow i i) (the 1 ∷ [])))) (holds the_list (q (bound 0 []))));
    } ∷
    record {
      passing = called (codes "x") i ∷ called (codes "y") i ∷ [];
      own = [];
      equations = equal 0 (p (the 1)) (r (the 1)) ∷ [];
      body = some (codes "x") i (some (codes "y") i (and (holds the_list (p (bound 1 []))) (holds the_list (q (bound 0 [])))));
    } ∷ [])
focus_example = refl

-- a name that stands nowhere stays a variable
vacuous_example : asked_all (in_focus nil (pi (codes "x") (p (the 1))) (p (the 1))) ≡ Some (
    record { passing = called (codes "x") i ∷ []; own = called (codes "x") (arrow i i) ∷ []; equations = equal 0 (p (the 1)) (p (the 1)) ∷ []; body = true_term } ∷ [])
vacuous_example = refl

-- Cut, instance and monotonicity.
cut_example : cut_list (cons (p (the 1)) (cons (q (the 1)) the_list)) (q (the 1)) (cons (p (the 1)) the_list) ≡ Some (cons (p (the 1)) the_list)
cut_example = refl

no_cut_example : cut_list (cons (p (the 1)) the_list) (q (the 1)) the_list ≡ None
no_cut_example = refl

other_list_example : cut_list (cons (q (the 1)) the_list) (q (the 1)) nil ≡ None
other_list_example = refl

-- {p n1, q n2} with n2 for n1 and n1 for n2, all at once
instance_example : replace_constants ((n 1, the 2) ∷ (n 2, the 1) ∷ []) (holds (cons (p (the 1)) nil) (q (the 2))) ≡ holds (cons (p (the 2)) nil) (q (the 1))
instance_example = refl

judgement_example : as_unfocused (smaller 1 (holds the_list (p (the 1)))) ≡ Some (the_list, p (the 1))
judgement_example = refl

focused_example : as_unfocused (holds_by the_list (p (the 1)) (p (the 1))) ≡ None
focused_example = refl

-- From {L, p n1 |- q n1} and {L |- p c}, over `q X :- p X`: c for n1 gives {L, p c |- q c}, and the cut {L |- q c}. And from
-- {L |- p c} comes {L, q c |- p c}, if all that is in L is in L, q c.
abbrev c : Read
c = known (codes "c") []

abbrev is_in : Read → Read → Read
is_in F L = known (codes "member") (F ∷ L ∷ [])

abbrev any_formula : List ℕ → Read → Read
any_formula x t = spine (logical (universal o)) (terms_of (lam o x t ∷ []))

abbrev implies : Read → Read → Read
implies F G = spine (logical implication) (terms_of (F ∷ G ∷ []))

given_example : replace_constants ((n 1, c) ∷ []) (holds (cons (p (the 1)) the_list) (q (the 1))) ≡ holds (cons (p c) the_list) (q c)
given_example = refl

left_example : cut_list (cons (p c) the_list) (p c) the_list ≡ Some the_list
left_example = refl

within_example : is_within the_list (cons (q c) the_list) ≡ any_formula (codes "X") (implies (is_in (bound 0 []) the_list) (is_in (bound 0 []) (cons (q c) the_list)))
within_example = refl
