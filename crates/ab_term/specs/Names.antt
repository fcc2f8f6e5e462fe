-- The nominal constants of a term, and their permutations.
use Rattle.std.specs.Prelude.{◌≡◌, ◌≢◌, ◌↔◌, ◌≤◌, List, [], ◌∷◌, ◌++◌, map, Bool, ◌&&◌, ◌==◌, if◌then◌else◌, All, AllPairs, Contains}
use Rattle.ab_term.specs.Types.{same_type}
use Rattle.ab_term.specs.Terms.{Nominal, Head, constant, logical, nominal, variable, index, Term, lam, spine, Terms, no_terms, term}
use Rattle.ab_term.specs.Translation.{forget}

module _ {Var : Type 0} where
  abbrev pub support_of_head : Head Var → List Nominal
  support_of_head (nominal a) = a ∷ []
  support_of_head _ = []

  abbrev pub rename_head : (Nominal → Nominal) → Head Var → Head Var
  rename_head f (constant c) = constant c
  rename_head f (logical l) = logical l
  rename_head f (nominal a) = nominal (f a)
  rename_head f (variable x) = variable x
  rename_head f (index i) = index i

module _ {Var Hint : Type 0} where
  -- the nominal constants of a term, in order, each as often as it stands there. As a set: `Contains`
  abbrev mutual
    pub support : Term Var Hint → List Nominal
    support (lam A x t) = support t
    support (spine h ts) = support_of_head h ++ support_of_all ts

    pub support_of_all : Terms Var Hint → List Nominal
    support_of_all no_terms = []
    support_of_all (term t ts) = support t ++ support_of_all ts

  -- each nominal constant renamed
  abbrev mutual
    pub rename : (Nominal → Nominal) → Term Var Hint → Term Var Hint
    rename f (lam A x t) = lam A x (rename f t)
    rename f (spine h ts) = spine (rename_head f h) (rename_all f ts)

    pub rename_all : (Nominal → Nominal) → Terms Var Hint → Terms Var Hint
    rename_all f no_terms = no_terms
    rename_all f (term t ts) = term (rename f t) (rename_all f ts)

abbrev pub same_nominal : Nominal → Nominal → Bool
same_nominal a b = (a.number == b.number) && same_type a.type b.type

-- what a permutation, a list of pairs of a constant and what it becomes, makes of one constant
abbrev pub moved_by : List (Nominal × Nominal) → Nominal → Nominal
moved_by [] a = a
moved_by (p ∷ ps) a = if same_nominal p.0 a then p.1 else moved_by ps a

-- The constants on the left are pairwise different, those on the right are the same in some order, and each
-- pair has one type.
pub record IsPermutationTable (ps : List (Nominal × Nominal)) : Type 0 where
  pub from_distinct : AllPairs (λ p q. p.0 ≢ q.0) ps
  pub to_distinct : AllPairs (λ p q. p.1 ≢ q.1) ps
  pub same_constants : (a : Nominal) → Contains (map (λ p. p.0) ps) a ↔ Contains (map (λ p. p.1) ps) a
  pub keeps_types : All (λ p. p.0.type ≡ p.1.type) ps

-- The list has the same constants as the other, each once, in order of number.
pub record IsOrderOf (list standing : List Nominal) : Type 0 where
  pub same : (a : Nominal) → Contains list a ↔ Contains standing a
  pub once : AllPairs (λ a b. a ≢ b) list
  pub order : AllPairs (λ a b. a.number ≤ b.number) list

-- each number stands at one type
abbrev pub HasOneTypeEach : List Nominal → Type 0
HasOneTypeEach standing = (a b : Nominal) → Contains standing a → Contains standing b → a.number ≡ b.number → a ≡ b

module _ {Var Hint : Type 0} where
  -- THE SUPPORT AS A LIST: each nominal constant of the term once, in order of number
  abbrev pub IsSupport : Term Var Hint → List Nominal → Type 0
  IsSupport t list = IsOrderOf list (support t)

  abbrev pub permute : List (Nominal × Nominal) → Term Var Hint → Term Var Hint
  permute ps = rename (moved_by ps)

  -- some permutation of nominal constants sends the first to the second, past hints
  abbrev pub EqualUpToNames : Term Var Hint → Term Var Hint → Type 0
  EqualUpToNames t u = (ps : List (Nominal × Nominal)) × IsPermutationTable ps × (forget (permute ps t) ≡ forget u)
