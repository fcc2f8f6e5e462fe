-- Names, and terms that are abstracted over names. A name is a nominal constant or an index: a bound name. Lists of
-- names are read from outside a term, and go along under its binders. Variables are numbered.
use Rattle.std.specs.Prelude.{◌≡◌, ℕ, zero, suc, List, [], ◌∷◌, map, Bool, true, false, cond, Some, Contains}
use Rattle.std.specs.List.{list_any}
use Rattle.ab_term.specs.Types.{Ty, kind, arrow, arrows}
use Rattle.ab_term.specs.Terms.{Nominal, Variable, Head, constant, logical, nominal, variable, index, Term, lam, spine, Terms, no_terms, term}
use Rattle.ab_term.specs.Typing.{Signature, head_type}
use Rattle.ab_term.specs.Substitution.{shift_head}
use Rattle.ab_term.specs.Expansion.{expansion_of, expansion}
use Rattle.ab_term.specs.Names.{support}
use Rattle.ab_term.specs.Variables.{variables}
use Rattle.ab_term.specs.Sameness.{same_head}

abbrev pub is_name : Head ℕ → Bool
is_name (nominal a) = true
is_name (index i) = true
is_name _ = false

-- whether the head is among those listed
abbrev pub among : List (Head ℕ) → Head ℕ → Bool
among hs h = list_any (λ g. same_head g h) hs

-- the names, as they are called under one more binder, and that binder's name before them
abbrev pub under : List (Head ℕ) → List (Head ℕ)
under hs = index zero ∷ map (shift_head zero) hs

-- no name, or one of those listed
abbrev pub may_stand : List (Head ℕ) → Head ℕ → Bool
may_stand names (nominal a) = among names (nominal a)
may_stand names (index i) = among names (index i)
may_stand names _ = true

module _ {Hint : Type 0} where
  -- each free name of the term is one of these: no foreign name stands in it
  abbrev mutual
    pub Only : List (Head ℕ) → Term ℕ Hint → Type 0
    Only names (lam A x t) = Only (under names) t
    Only names (spine h ts) = (may_stand names h ≡ true) × OnlyAll names ts

    pub OnlyAll : List (Head ℕ) → Terms ℕ Hint → Type 0
    OnlyAll names no_terms = Unit {0}
    OnlyAll names (term t ts) = Only names t × OnlyAll names ts

-- pairwise different names
abbrev pub Distinct : List (Head ℕ) → Type 0
Distinct [] = Unit {0}
Distinct (h ∷ hs) = (among hs h ≡ false) × (is_name h ≡ true) × Distinct hs

module _ (sg : Signature) where
  -- heads of the types of what a type takes, down to another
  pub data Named (G : List Ty) : List (Head ℕ) → Ty → Ty → Type 0 where
    named_none : {A : Ty} → Named G [] A A
    named_more : {A B C : Ty} {h : Head ℕ} {hs : List (Head ℕ)} → head_type sg G h ≡ Some A → Named G hs B C → Named G (h ∷ hs) (arrow A B) C

module _ {Hint : Type 0} where
  -- the heads as arguments for something of this type: their eta-long forms
  abbrev pub name_terms : Hint → Ty → List (Head ℕ) → Terms ℕ Hint
  name_terms x A [] = no_terms
  name_terms x (kind k) (h ∷ hs) = no_terms
  name_terms x (arrow A B) (h ∷ hs) = term (expansion x A h) (name_terms x B hs)

-- a head, where a binder is put in at k: the head h is that binder's name
abbrev pub close_head : ℕ → Head ℕ → Head ℕ → Head ℕ
close_head k h g = cond (same_head g h) (index k) (shift_head k g)

module _ {Hint : Type 0} where
  -- a term, where a binder is put in at k: the head h is that binder's name
  abbrev mutual
    pub close : ℕ → Head ℕ → Term ℕ Hint → Term ℕ Hint
    close k h (lam A x t) = lam A x (close (suc k) (shift_head zero h) t)
    close k h (spine g ts) = spine (close_head k h g) (close_all k h ts)

    pub close_all : ℕ → Head ℕ → Terms ℕ Hint → Terms ℕ Hint
    close_all k h no_terms = no_terms
    close_all k h (term t ts) = term (close k h t) (close_all k h ts)

  -- the term, abstracted over the heads, the first outermost, as something of this type
  abbrev pub abstracted : Hint → Ty → List (Head ℕ) → Term ℕ Hint → Term ℕ Hint
  abstracted x A [] t = t
  abstracted x (kind k) (h ∷ hs) t = t
  abstracted x (arrow A B) (h ∷ hs) t = lam A x (close zero h (abstracted x B hs t))

-- the nominal constant or the variable doesn't stand in the closed term (a bound name can't; nothing is said of others)
abbrev pub IsAbsent : {Hint : Type 0} → Head ℕ → Term ℕ Hint → Type 0
IsAbsent (nominal a) u = ¬ Contains (support u) a
IsAbsent (variable y) u = ¬ Contains (variables u) y
IsAbsent (index i) u = Unit {0}
IsAbsent (constant c) u = ⊥
IsAbsent (logical l) u = ⊥

-- RAISING: the type of what depends on the constants besides
abbrev pub over : List Nominal → Ty → Ty
over ns A = arrows (map (λ a. a.type) ns) A

-- the variable, given the constants, as a term of the type that is left
abbrev pub given_names : {Hint : Type 0} → Hint → Variable ℕ → List Nominal → Ty → Term ℕ Hint
given_names x z ns A = expansion_of x A (variable z) (name_terms x z.type (map nominal ns))
