-- Substitutions for variables: a finite list of pairs of a variable and a term of its type, put in all at once.
-- Of two pairs for one variable the first counts. Variables are compared by a test on what stands for them.
use Rattle.std.specs.Prelude.{List, [], ◌∷◌, ◌++◌, map, Bool, ◌&&◌, Option, Some, None, if◌then◌else◌, All, Contains}
use Rattle.ab_term.specs.Types.{same_type}
use Rattle.ab_term.specs.Terms.{Variable, Head, constant, logical, nominal, variable, index, Term, lam, spine, Terms, no_terms, term}
use Rattle.ab_term.specs.Typing.{Signature, HasType}
use Rattle.ab_term.specs.Substitution.{reduce}
use Rattle.ab_term.specs.Names.{support}

module _ {Var : Type 0} where
  abbrev pub variables_of_head : Head Var → List (Variable Var)
  variables_of_head (variable x) = x ∷ []
  variables_of_head _ = []

module _ {Var Hint : Type 0} where
  -- the variables of a term, in order, each as often as it stands there
  abbrev mutual
    pub variables : Term Var Hint → List (Variable Var)
    variables (lam A x t) = variables t
    variables (spine h ts) = variables_of_head h ++ variables_of_all ts

    pub variables_of_all : Terms Var Hint → List (Variable Var)
    variables_of_all no_terms = []
    variables_of_all (term t ts) = variables t ++ variables_of_all ts

  -- the variable stays, or a term is put in for it, which is given the arguments
  abbrev pub put_for : Variable Var → Option (Term Var Hint) → Terms Var Hint → Term Var Hint
  put_for x None ts = spine (variable x) ts
  put_for x (Some u) ts = reduce x.type u ts

  abbrev pub put_at : (Variable Var → Option (Term Var Hint)) → Head Var → Terms Var Hint → Term Var Hint
  put_at f (constant c) ts = spine (constant c) ts
  put_at f (logical l) ts = spine (logical l) ts
  put_at f (nominal a) ts = spine (nominal a) ts
  put_at f (variable x) ts = put_for x (f x) ts
  put_at f (index i) ts = spine (index i) ts

  -- a term, with the term that `f` gives for each variable. What is put in holds no free index.
  abbrev mutual
    pub image_by : (Variable Var → Option (Term Var Hint)) → Term Var Hint → Term Var Hint
    image_by f (lam A x t) = lam A x (image_by f t)
    image_by f (spine h ts) = put_at f h (image_all_by f ts)

    pub image_all_by : (Variable Var → Option (Term Var Hint)) → Terms Var Hint → Terms Var Hint
    image_all_by f no_terms = no_terms
    image_all_by f (term t ts) = term (image_by f t) (image_all_by f ts)

abbrev pub Substitution : Type 0 → Type 0 → Type 0
Substitution Var Hint = List (Variable Var × Term Var Hint)

module _ {Var : Type 0} (same : Var → Var → Bool) where
  abbrev pub same_variable : Variable Var → Variable Var → Bool
  same_variable x y = same x.name y.name && same_type x.type y.type

module _ {Var Hint : Type 0} (same : Var → Var → Bool) where
  abbrev pub value_in : Substitution Var Hint → Variable Var → Option (Term Var Hint)
  value_in [] x = None
  value_in (p ∷ s) x = if same_variable same p.0 x then Some p.1 else value_in s x

  -- the action of a substitution on a term
  abbrev pub image : Substitution Var Hint → Term Var Hint → Term Var Hint
  image s = image_by (value_in s)

  abbrev pub image_all : Substitution Var Hint → Terms Var Hint → Terms Var Hint
  image_all s = image_all_by (value_in s)

  -- the first and then the second, as one
  abbrev pub composition : Substitution Var Hint → Substitution Var Hint → Substitution Var Hint
  composition s r = map (λ p. (p.0, image r p.1)) s ++ r

  -- the pairs put in one after another, the first of the list first
  abbrev pub one_by_one : Substitution Var Hint → Term Var Hint → Term Var Hint
  one_by_one [] t = t
  one_by_one (p ∷ s) t = one_by_one s (image (p ∷ []) t)

  -- the same as one substitution
  abbrev pub at_once : Substitution Var Hint → Substitution Var Hint
  at_once [] = []
  at_once (p ∷ s) = composition (p ∷ []) (at_once s)

module _ {Var Hint : Type 0} where
  -- each variable has a term of its type
  abbrev pub IsTyped : Signature → Substitution Var Hint → Type 0
  IsTyped sg s = All (λ p. HasType sg [] p.1 p.0.type) s

  -- no nominal constant of the listed terms stands in what is put in
  abbrev pub IsClean : Substitution Var Hint → List (Term Var Hint) → Type 0
  IsClean s ts = All (λ p. All (λ t. All (λ a. ¬ (Contains (support t) a)) (support p.1)) ts) s
