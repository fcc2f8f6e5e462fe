-- What the names of a printed term stand for, where each is looked up from the innermost binder out, as elaboration does.
-- In terms of printed shapes and plain terms; the hints of the term play no part.
use Rattle.std.specs.Prelude.{◌≡◌, ℕ, List, ◌∷◌, Option, Some, None}
use Rattle.ab_term.specs.Types.{Ty}
use Rattle.ab_term.specs.Logical.{Logical}
use Rattle.ab_term.specs.Terms.{Head, constant, logical, nominal, variable, index, Term, lam, spine, Terms, no_terms, term}
use Rattle.ab_meaning.specs.Scopes.{index_of}
use Rattle.ab_print.specs.Shapes.{Shape, abstraction, Shapes, no_shapes, shape}
use Rattle.ab_print.specs.PrintedNames.{name_of}
use Rattle.ab_print.specs.NameAssignment.{logical_form, constant_form, name_form, alone}

module _ {Var : Type 0} where
  -- the number of binders between a bound name and its own; other heads have none
  abbrev pub binder_of : Head Var → Option ℕ
  binder_of (constant c) = None
  binder_of (logical l) = None
  binder_of (nominal a) = None
  binder_of (variable x) = None
  binder_of (index i) = Some i

  -- what is written for a head that is called so, given its arguments
  abbrev pub form : Head Var → List ℕ → Shapes → Shape
  form (constant c) x ss = constant_form x ss
  form h x ss = name_form x ss

module _ {Var : Type 0} (name : Var → List ℕ) where
  -- The name x, under binders of these names, the innermost first, is this head: the head is called so, and the innermost
  -- binder of that name is the head's own. A head that no binder binds is called by a name that none of them has.
  pub record StandsFor (names : List (List ℕ)) (x : List ℕ) (h : Head Var) : Type 0 where
    pub called : name_of name names h ≡ Some x
    pub found : index_of names x ≡ binder_of h

  mutual
    -- THE SHAPE IS THE TERM, under binders of these names
    pub data ReadsAs : List (List ℕ) → Shape → Term Var (List ℕ) → Type 0 where
      under_binder : {names : List (List ℕ)} {y x : List ℕ} {A : Ty} {s : Shape} {t : Term Var (List ℕ)} → ReadsAs (y ∷ names) s t → ReadsAs names (abstraction y s) (lam A x t)
      by_name : {names : List (List ℕ)} {x : List ℕ} {h : Head Var} {ss : Shapes} {ts : Terms Var (List ℕ)} → StandsFor names x h → ReadAllAs names ss ts → ReadsAs names (form h x ss) (spine h ts)
      by_sign : {names : List (List ℕ)} {l : Logical} {ss : Shapes} {ts : Terms Var (List ℕ)} → ReadAllAs names ss ts → ReadsAs names (logical_form l ss) (spine (logical l) ts)

    -- a term that stands by itself or as an argument: it may be written as the name of which it is the eta-long form
    pub data StandsAs : List (List ℕ) → Shape → Term Var (List ℕ) → Type 0 where
      in_full : {names : List (List ℕ)} {s : Shape} {t : Term Var (List ℕ)} → ReadsAs names s t → StandsAs names s t
      as_name : {names : List (List ℕ)} {s : Shape} {t : Term Var (List ℕ)} {h : Head Var} → alone 0 t ≡ Some h → ReadsAs names s (spine h no_terms) → StandsAs names s t

    pub data ReadAllAs : List (List ℕ) → Shapes → Terms Var (List ℕ) → Type 0 where
      none : {names : List (List ℕ)} → ReadAllAs names no_shapes no_terms
      more : {names : List (List ℕ)} {s : Shape} {ss : Shapes} {t : Term Var (List ℕ)} {ts : Terms Var (List ℕ)} → StandsAs names s t → ReadAllAs names ss ts → ReadAllAs names (shape s ss) (term t ts)
