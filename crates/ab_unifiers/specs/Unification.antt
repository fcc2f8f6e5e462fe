-- PATTERN UNIFICATION: equations between canonical terms over flexible variables, and the six rules that solve them.
-- Repeatedly the first equation to which a rule applies is replaced, in its place, by what the first such rule gives.
-- Terms are compared past hints.
use Rattle.std.specs.Prelude.{◌≡◌, ℕ, List, [], ◌∷◌, ◌++◌, map, Bool, false, cond, ◌&&◌, ◌||◌, not, Option, Some, None}
use Rattle.std.specs.List.{list_all}
use Rattle.ab_term.specs.Terms.{Variable, Head, variable, Term, lam, spine, Terms, no_terms, term}
use Rattle.ab_term.specs.Variables.{Substitution, image, composition}
use Rattle.ab_term.specs.Sameness.{same_numbered, same_head, same_number, same_term}
use Rattle.ab_term.specs.Abstraction.{among}
use Rattle.ab_unifiers.specs.Patterns.{pattern, applied, kept, kept_type}
use Rattle.ab_unifiers.specs.Replacements.{Cell, Change, without, holds, is_flexible, has_patterns, occurs, no_foreign, made, next_variable, one, narrowed, pruned}

-- two terms of one type, over the bound names of the binders that were taken off so far. `place` is the number of
-- the given equation that it came from.
pub record Equation (Hint : Type 0) : Type 0 where
  pub place : ℕ
  pub left : Term ℕ Hint
  pub right : Term ℕ Hint

-- what is left to solve, all variables by their numbers, those that may still be replaced, in order of age, and the
-- substitution so far
pub record State (Hint : Type 0) : Type 0 where
  pub equations : List (Equation Hint)
  pub cells : List (Cell Hint)
  pub flexible : List (Variable ℕ)
  pub pairs : Substitution ℕ Hint

pub data Answer (Hint : Type 0) : Type 0 where
  -- the variables, those that were made at the end, and what each that is replaced stands for
  unified : List (Cell Hint) → Substitution ℕ Hint → Answer Hint
  apart : Answer Hint
  -- the number of the first given equation that is left
  stuck : ℕ → Answer Hint

-- what a rule gives for an equation: that it can't be met; equations that take its place; or variables that are
-- replaced, so that both sides become the same and the equation goes
pub data Result (Hint : Type 0) : Type 0 where
  clash : Result Hint
  parts : List (Equation Hint) → Result Hint
  replaced : Change Hint → Result Hint

module _ {Hint : Type 0} where
  abbrev pub or_else : Option (Result Hint) → Option (Result Hint) → Option (Result Hint)
  or_else (Some r) o = Some r
  or_else None o = o

  -- the arguments, one against one (as many on both sides, where the equation is typed)
  abbrev pub paired : ℕ → Terms ℕ Hint → Terms ℕ Hint → List (Equation Hint)
  paired p no_terms us = []
  paired p (term t ts) no_terms = []
  paired p (term t ts) (term u us) = record { place = p; left = t; right = u } ∷ paired p ts us

  -- 1. equal sides: dropped
  abbrev pub equal_sides : Equation Hint → Option (Result Hint)
  equal_sides e = cond (same_term e.left e.right) (Some (parts [])) None

  -- 2. two abstractions: the bodies, under one bound name
  abbrev pub bodies : ℕ → Term ℕ Hint → Term ℕ Hint → Option (Result Hint)
  bodies p (lam A x t) (lam B y u) = Some (parts (record { place = p; left = t; right = u } ∷ []))
  bodies p _ _ = None

  -- 3. two rigid heads: the arguments' equations where the heads are equal, else apart
  abbrev pub rigid_heads : List (Variable ℕ) → ℕ → Term ℕ Hint → Term ℕ Hint → Option (Result Hint)
  rigid_heads ys p (spine g ts) (spine h us) = cond (is_flexible ys g || is_flexible ys h) None (Some (cond (same_head g h) (parts (paired p ts us)) clash))
  rigid_heads ys p _ _ = None

-- whether y comes before z in the list
abbrev pub is_older : List (Variable ℕ) → Variable ℕ → Variable ℕ → Bool
is_older [] y z = false
is_older (v ∷ vs) y z = cond (same_numbered v y) (not (same_numbered v z)) (cond (same_numbered v z) false (is_older vs y z))

-- at each place, whether the names are the same
abbrev pub agreeing : List (Head ℕ) → List (Head ℕ) → List Bool
agreeing [] [] = []
agreeing [] (h ∷ hs) = false ∷ agreeing [] hs
agreeing (g ∷ gs) [] = false ∷ agreeing gs []
agreeing (g ∷ gs) (h ∷ hs) = same_head g h ∷ agreeing gs hs

module _ {Hint : Type 0} (x : Hint) (cells : List (Cell Hint)) (ys : List (Variable ℕ)) where
  -- the change at the start of rules 4 and 6: y is no longer flexible
  abbrev pub begun : Variable ℕ → Change Hint
  begun y = record { cells = cells; flexible = without y ys; pairs = [] }

  -- the change at the start of rule 5
  abbrev pub unchanged : Change Hint
  unchanged = record { cells = cells; flexible = ys; pairs = [] }

  -- y, given the names, becomes the term, after what was done before
  abbrev pub put_in : Variable ℕ → List (Head ℕ) → Term ℕ Hint → Change Hint → Change Hint
  put_in y names t c = record { cells = c.cells; flexible = c.flexible; pairs = composition same_number c.pairs (one x y names (image same_number c.pairs t)) }

  -- the names of y's arguments against the term
  abbrev pub pattern_of : Variable ℕ → Term ℕ Hint → Option (List (Head ℕ)) → Option (Result Hint)
  pattern_of y t None = None
  pattern_of y t (Some names) =
      cond (has_patterns ys t)
      (Some (cond (occurs y t || not (no_foreign ys names t)) clash (replaced (put_in y names t (pruned x ys names t (begun y))))))
      None

  -- 4. a pattern and a rigid term whose flexible subterms are patterns: apart where the variable or a foreign name
  -- stands in the term; else the term's flexible subterms are pruned, and the variable is bound to the term
  abbrev pub pattern_and_rigid : Term ℕ Hint → Term ℕ Hint → Option (Result Hint)
  pattern_and_rigid (spine (variable y) ts) (spine h us) = cond (holds ys y && not (is_flexible ys h)) (pattern_of y (spine h us) (pattern y.type ts)) None
  pattern_and_rigid _ _ = None

  -- the names on both sides
  abbrev pub same_variable_at : Variable ℕ → Option (List (Head ℕ)) → Option (List (Head ℕ)) → Option (Result Hint)
  same_variable_at y (Some names) (Some others) = Some (replaced (narrowed x y names (agreeing names others) unchanged))
  same_variable_at y _ _ = None

  -- 5. two patterns with one variable: it becomes a new one over the places where the arguments agree
  abbrev pub one_variable : Term ℕ Hint → Term ℕ Hint → Option (Result Hint)
  one_variable (spine (variable y) ts) (spine (variable z) us) = cond (holds ys y && same_numbered y z) (same_variable_at y (pattern y.type ts) (pattern z.type us)) None
  one_variable _ _ = None

  -- both become a new variable over the common names, in the order of y's
  abbrev pub joined_at : Variable ℕ → List (Head ℕ) → Variable ℕ → List (Head ℕ) → Change Hint
  joined_at y names z others =
      let keep = map (among others) names in
      let w = next_variable x cells (kept_type keep y.type) in
      let common = applied x w (kept keep names) in
      record {
        cells = cells ++ made x cells y (kept_type keep y.type) ∷ [];
        flexible = without z (without y ys) ++ w ∷ [];
        pairs = one x y names common ++ one x z others common;
      }

  -- the names on both sides
  abbrev pub two_at : Variable ℕ → Option (List (Head ℕ)) → Variable ℕ → Option (List (Head ℕ)) → Option (Result Hint)
  two_at y (Some names) z (Some others) =
      Some (replaced (cond (list_all (among others) names) (put_in z others (applied x y names) (begun z))
      (cond (list_all (among names) others) (put_in y names (applied x z others) (begun y))
      (joined_at y names z others))))
  two_at y _ z _ = None

  -- 6. two patterns, y older than z: where all names of y are among z's, z is bound to y; else where all of z's are
  -- among y's, y to z; else both to a new variable over the common names
  abbrev pub two_variables : Term ℕ Hint → Term ℕ Hint → Option (Result Hint)
  two_variables (spine (variable y) ts) (spine (variable z) us) = cond (holds ys z && is_older ys y z) (two_at y (pattern y.type ts) z (pattern z.type us)) None
  two_variables _ _ = None

  -- a rule on either side
  abbrev pub either_way : (Term ℕ Hint → Term ℕ Hint → Option (Result Hint)) → Equation Hint → Option (Result Hint)
  either_way rule e = or_else (rule e.left e.right) (rule e.right e.left)

  -- THE FIRST RULE THAT APPLIES, and what it gives
  abbrev pub rule : Equation Hint → Option (Result Hint)
  rule e =
      or_else (equal_sides e)
      (or_else (bodies e.place e.left e.right)
      (or_else (rigid_heads ys e.place e.left e.right)
      (or_else (either_way pattern_and_rigid e)
      (or_else (one_variable e.left e.right)
      (either_way two_variables e)))))

-- the first equation to which a rule applies: those before it, what the rule gives, and those behind it
pub record Found (Hint : Type 0) : Type 0 where
  pub before : List (Equation Hint)
  pub result : Result Hint
  pub behind : List (Equation Hint)

-- what one step leads to
pub data Next (Hint : Type 0) : Type 0 where
  finished : Answer Hint → Next Hint
  goes_on : State Hint → Next Hint

module _ {Hint : Type 0} where
  -- at this equation, or behind it
  abbrev pub found_at : Equation Hint → List (Equation Hint) → Option (Result Hint) → Option (Found Hint) → Option (Found Hint)
  found_at e es (Some r) o = Some (record { before = []; result = r; behind = es })
  found_at e es None None = None
  found_at e es None (Some f) = Some (record { before = e ∷ f.before; result = f.result; behind = f.behind })

  abbrev pub first_found : (Equation Hint → Option (Result Hint)) → List (Equation Hint) → Option (Found Hint)
  first_found f [] = None
  first_found f (e ∷ es) = found_at e es (f e) (first_found f es)

  abbrev pub image_of : Substitution ℕ Hint → Equation Hint → Equation Hint
  image_of s e = record { place = e.place; left = image same_number s e.left; right = image same_number s e.right }

  -- no rule applies: solved where no equation is left
  abbrev pub ending : State Hint → List (Equation Hint) → Answer Hint
  ending s [] = unified s.cells s.pairs
  ending s (e ∷ es) = stuck e.place

  -- what was found, carried out: a substitution goes to all equations
  abbrev pub carried : State Hint → Found Hint → Result Hint → Next Hint
  carried s f clash = finished apart
  carried s f (parts es) = goes_on (record { equations = f.before ++ es ++ f.behind; cells = s.cells; flexible = s.flexible; pairs = s.pairs })
  carried s f (replaced c) = goes_on (record { equations = map (image_of c.pairs) (f.before ++ f.behind); cells = c.cells; flexible = c.flexible; pairs = composition same_number s.pairs c.pairs })

  abbrev pub next_by : State Hint → Option (Found Hint) → Next Hint
  next_by s None = finished (ending s s.equations)
  next_by s (Some f) = carried s f f.result

  -- ONE STEP
  abbrev pub next : Hint → State Hint → Next Hint
  next x s = next_by s (first_found (rule x s.cells s.flexible) s.equations)

  -- SOLVE: a finite row of steps from the state leads to the answer
  pub data Solves (x : Hint) : State Hint → Answer Hint → Type 0 where
    at_end : {s : State Hint} {a : Answer Hint} → next x s ≡ finished a → Solves x s a
    by_step : {s r : State Hint} {a : Answer Hint} → next x s ≡ goes_on r → Solves x r a → Solves x s a
