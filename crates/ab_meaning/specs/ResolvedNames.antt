-- The trees that are left of expressions when their names are resolved. Each head is a bound name, a head whose type is
-- known, or a free name, whose type the text leaves open and which carries its place. Connectives are heads that are
-- applied; a quantifier over several names is nested.
use Rattle.std.specs.Prelude.{ℕ, List, [], ◌∷◌, ◌++◌, Option}
use Rattle.ab_term.specs.Types.{Ty, prop, o}
use Rattle.ab_term.specs.Logical.{Logical, universal, existential, nabla, spec_universal}
use Rattle.ab_term.specs.Terms.{Head}
use Rattle.ab_grammar.specs.declared.Quant.{Quant}
use Rattle.ab_grammar.specs.declared.Quant.TheVariants.{Forall, Exists, Nabla}

abbrev pub Name : Type 0
Name = List ℕ

-- what binds a name before a body
pub data Binding : Type 0 where
  quantified : Quant → Binding
  pi : Binding

-- the logical constant, for names of the type
abbrev pub binding_head : Binding → Ty → Logical
binding_head (quantified Forall) A = universal A
binding_head (quantified Exists) A = existential A
binding_head (quantified Nabla) A = nabla A
binding_head pi A = spec_universal A

-- the type of the body, and of the whole
abbrev pub binding_type : Binding → Ty
binding_type (quantified q) = prop
binding_type pi = o

pub data Resolved : Type 0 where
  -- the number of binders between it and its own
  bound : ℕ → Resolved
  known : Head ℕ → Ty → Resolved
  free : Name → ℕ → Resolved
  apply : Resolved → Resolved → Resolved
  -- an argument, and the function that takes it, which stands behind it in the text
  behind : Resolved → Resolved → Resolved
  -- a name, its place and the body
  abs : Name → ℕ → Resolved → Resolved
  equal : Resolved → Resolved → Resolved
  -- with the type, where one is written
  bind : Binding → Name → ℕ → Option Ty → Resolved → Resolved

-- the places at which a type is to be found, in the order of the text: those of binders and of free names
abbrev pub places_of : Resolved → List ℕ
places_of (bound i) = []
places_of (known h A) = []
places_of (free x p) = p ∷ []
places_of (apply e f) = places_of e ++ places_of f
places_of (behind e f) = places_of e ++ places_of f
places_of (abs x p e) = p ∷ places_of e
places_of (equal e f) = places_of e ++ places_of f
places_of (bind q x p w e) = p ∷ places_of e
