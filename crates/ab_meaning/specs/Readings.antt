-- The readings of an expression whose names are resolved: the well-typed terms, with types at all binders and free names,
-- of which the expression is what is left without the types. Terms may hold redexes here.
use Rattle.std.specs.Prelude.{◌≡◌, ℕ, List, [], ◌∷◌, ◌++◌, Option, Some, None}
use Rattle.ab_term.specs.Types.{Ty, arrow, prop}
use Rattle.ab_term.specs.Logical.{equality}
use Rattle.ab_term.specs.Terms.{Head, index, logical}
use Rattle.ab_term.specs.Typing.{type_at}
use Rattle.ab_term.specs.Beta.{Plain, atom, abstraction, application}
use Rattle.ab_meaning.specs.Types.{PropFree}
use Rattle.ab_meaning.specs.ResolvedNames.{Name, Resolved, bound, known, free, apply, behind, abs, equal, bind, Binding, binding_head, binding_type}

-- a written type is kept
abbrev pub Keeps : Option Ty → Ty → Type 0
Keeps None A = Unit {0}
Keeps (Some W) A = W ≡ A

abbrev pub Raw : Type 0
Raw = Plain ℕ Name

-- what a free name stands for, given its type
abbrev pub Making : Type 0
Making = Name → Ty → Head ℕ

-- a quantifier at a type, over a body
abbrev pub bound_term : Binding → Name → Ty → Raw → Raw
bound_term q x A t = application (atom (logical (binding_head q A))) (abstraction A x t)

abbrev pub equation : Ty → Raw → Raw → Raw
equation A t u = application (application (atom (logical (equality A))) t) u

-- Each free name has one type throughout. Under bound names of the listed types the expression is read as the term, at
-- the type; the last list has the types at binders and free names, in the order of the text.
module _ (made : Making) (types : Name → Ty) where
  pub data Reads : List Ty → Resolved → Raw → Ty → List Ty → Type 0 where
    reads_bound : {G : List Ty} {i : ℕ} {A : Ty} → type_at G i ≡ Some A → Reads G (bound i) (atom (index i)) A []
    reads_known : {G : List Ty} {h : Head ℕ} {A : Ty} → Reads G (known h A) (atom h) A []
    reads_free : {G : List Ty} {x : Name} {p : ℕ} → PropFree (types x) → Reads G (free x p) (atom (made x (types x))) (types x) (types x ∷ [])
    reads_apply : {G : List Ty} {e f : Resolved} {t u : Raw} {A B : Ty} {As Bs : List Ty} → Reads G e t (arrow A B) As → Reads G f u A Bs → Reads G (apply e f) (application t u) B (As ++ Bs)
    reads_behind : {G : List Ty} {e f : Resolved} {t u : Raw} {A B : Ty} {As Bs : List Ty} → Reads G e u A As → Reads G f t (arrow A B) Bs → Reads G (behind e f) (application t u) B (As ++ Bs)
    reads_abs : {G : List Ty} {x : Name} {p : ℕ} {e : Resolved} {t : Raw} {A B : Ty} {As : List Ty} → PropFree A → Reads (A ∷ G) e t B As → Reads G (abs x p e) (abstraction A x t) (arrow A B) (A ∷ As)
    reads_equal : {G : List Ty} {e f : Resolved} {t u : Raw} {A : Ty} {As Bs : List Ty} → Reads G e t A As → Reads G f u A Bs → Reads G (equal e f) (equation A t u) prop (As ++ Bs)
    reads_bind : {G : List Ty} {q : Binding} {x : Name} {p : ℕ} {w : Option Ty} {e : Resolved} {t : Raw} {A : Ty} {As : List Ty} → PropFree A → Keeps w A → Reads (A ∷ G) e t (binding_type q) As → Reads G (bind q x p w e) (bound_term q x A t) (binding_type q) (A ∷ As)
