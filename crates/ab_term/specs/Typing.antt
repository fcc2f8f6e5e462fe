-- Well-typed, beta-normal and eta-long, as one judgement: an abstraction has an arrow, and a head has all the
-- arguments that its type takes, so that it stands at a kind. The signature gives the constants' types; nominal
-- constants and variables carry theirs. The list of types is that of the bound names, the innermost first.
use Rattle.std.specs.Prelude.{◌≡◌, ℕ, zero, suc, List, [], ◌∷◌, Option, Some, None}
use Rattle.ab_term.specs.Types.{Ty, kind, arrow}
use Rattle.ab_term.specs.Logical.{logical_type}
use Rattle.ab_term.specs.Terms.{Head, constant, logical, nominal, variable, index, Term, lam, spine, Terms, no_terms, term}

-- what types the constants have; `None` for what is no constant
abbrev pub Signature : Type 0
Signature = List ℕ → Option Ty

-- the second gives each constant of the first the same type, and may have more
abbrev pub IsExtendedBy : Signature → Signature → Type 0
IsExtendedBy sg more = (c : List ℕ) (A : Ty) → sg c ≡ Some A → more c ≡ Some A

abbrev pub type_at : List Ty → ℕ → Option Ty
type_at [] i = None
type_at (A ∷ G) zero = Some A
type_at (A ∷ G) (suc i) = type_at G i

abbrev pub head_type : {Var : Type 0} → Signature → List Ty → Head Var → Option Ty
head_type sg G (constant c) = sg c
head_type sg G (logical l) = Some (logical_type l)
head_type sg G (nominal a) = Some a.type
head_type sg G (variable x) = Some x.type
head_type sg G (index i) = type_at G i

module _ (sg : Signature) {Var Hint : Type 0} where
  mutual
    -- the term is canonical, of this type
    pub data HasType : List Ty → Term Var Hint → Ty → Type 0 where
      typed_lam : {G : List Ty} {A B : Ty} {x : Hint} {t : Term Var Hint} → HasType (A ∷ G) t B → HasType G (lam A x t) (arrow A B)
      typed_spine : {G : List Ty} {A : Ty} {h : Head Var} {ts : Terms Var Hint} {k : List ℕ} → head_type sg G h ≡ Some A → TakeType G ts A (kind k) → HasType G (spine h ts) (kind k)

    -- a term of the first type may be given these arguments, and is of the second type then
    pub data TakeType : List Ty → Terms Var Hint → Ty → Ty → Type 0 where
      take_none : {G : List Ty} {A : Ty} → TakeType G no_terms A A
      take_term : {G : List Ty} {A B C : Ty} {t : Term Var Hint} {ts : Terms Var Hint} → HasType G t A → TakeType G ts B C → TakeType G (term t ts) (arrow A B) C
