-- Miller patterns: a variable, given arguments that are up to eta pairwise different names. What is put in for a
-- variable, so that the variable, given its names, is a certain term.
use Rattle.std.specs.Prelude.{ℕ, List, [], ◌∷◌, Bool, true, false, cond, ◌&&◌, Option, Some, None}
use Rattle.ab_term.specs.Types.{Ty, kind, arrow}
use Rattle.ab_term.specs.Terms.{Variable, Head, variable, Term, spine, Terms, no_terms, term}
use Rattle.ab_term.specs.Abstraction.{among, is_name, name_terms, abstracted}
use Rattle.ab_term.specs.EtaHeads.{inner_head, expands}

-- the head, where a test holds
abbrev pub name_if : Bool → Head ℕ → Option (Head ℕ)
name_if true h = Some h
name_if false h = None

-- one name more in front, if there are names at all and it isn't among them
abbrev pub new_name : Option (Head ℕ) → Option (List (Head ℕ)) → Option (List (Head ℕ))
new_name None hs = None
new_name (Some h) None = None
new_name (Some h) (Some hs) = cond (among hs h) None (Some (h ∷ hs))

module _ {Hint : Type 0} where
  -- the head that was found under the abstractions, where it is a name and the term its eta-long form
  abbrev pub tested_name : Ty → Term ℕ Hint → Option (Head ℕ) → Option (Head ℕ)
  tested_name A t None = None
  tested_name A t (Some h) = name_if (is_name h && expands A t h) h

  -- the name that a term of type A is, up to eta and past hints, if it is one
  abbrev pub name_of : Ty → Term ℕ Hint → Option (Head ℕ)
  name_of A t = tested_name A t (inner_head t)

  -- THE NAMES OF A PATTERN: the arguments of a variable of this type, where they are up to eta pairwise different
  -- names; `None` where they are not
  abbrev pub pattern : Ty → Terms ℕ Hint → Option (List (Head ℕ))
  pattern A no_terms = Some []
  pattern (kind k) (term t ts) = None
  pattern (arrow A B) (term t ts) = new_name (name_of A t) (pattern B ts)

  -- the variable, given the names
  abbrev pub applied : Hint → Variable ℕ → List (Head ℕ) → Term ℕ Hint
  applied x y hs = spine (variable y) (name_terms x y.type hs)

  -- WHAT IS PUT IN FOR A VARIABLE, so that the variable, given these names, is the term: the term abstracted over the
  -- names. The binders have the hint x.
  abbrev pub value : Hint → Variable ℕ → List (Head ℕ) → Term ℕ Hint → Term ℕ Hint
  value x y hs t = abstracted x y.type hs t

-- the items whose flag is set
abbrev pub kept : {X : Type 0} → List Bool → List X → List X
kept [] xs = []
kept (b ∷ bs) [] = []
kept (b ∷ bs) (x ∷ xs) = cond b (x ∷ kept bs xs) (kept bs xs)

-- a type without the arguments whose flag isn't set
abbrev pub kept_type : List Bool → Ty → Ty
kept_type [] A = A
kept_type (b ∷ bs) (kind k) = kind k
kept_type (true ∷ bs) (arrow A B) = arrow A (kept_type bs B)
kept_type (false ∷ bs) (arrow A B) = kept_type bs B
