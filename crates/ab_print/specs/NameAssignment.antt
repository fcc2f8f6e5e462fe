-- What is printed of a term, as a shape. Names are given from the outside in: each bound name is the first that is no
-- printed name of a head that stands in its binder's body.
use Rattle.std.specs.Prelude.{ℕ, zero, suc, ◌-◌, List, [], ◌∷◌, Bool, true, false, ◌&&◌, ◌==◌, Option, Some, None, unwrap_or, codes, replicate, bytes_eq, if◌then◌else◌, nat_lt}
use Rattle.std.specs.List.{filter_map}
use Rattle.ab_grammar.specs.declared.Infix.{Infix}
use Rattle.ab_grammar.specs.declared.Infix.TheVariants.{Arrow, Or, And, Equal, Imply, With, Cons}
use Rattle.ab_grammar.specs.declared.Quant.{Quant}
use Rattle.ab_grammar.specs.declared.Quant.TheVariants.{Forall, Exists, Nabla}
use Rattle.ab_term.specs.Logical.{Logical, truth, falsity, conjunction, disjunction, implication, equality, universal, existential, nabla, judgement, focused_judgement, star, at_sign, plus, hash, spec_universal, spec_implication, spec_conjunction}
use Rattle.ab_term.specs.Terms.{Head, constant, logical, nominal, variable, index, Term, lam, spine, Terms, no_terms, term}
use Rattle.ab_term.specs.Substitution.{lower_head}
use Rattle.ab_print.specs.Shapes as shape
use Rattle.ab_print.specs.Shapes.{Shape, word, empty, applied, abstraction, join, bind, pi, judge, focus, marked, broken, Shapes, no_shapes}
use Rattle.ab_print.specs.PrintedNames.{name_of, free_heads, fresh}

-- Eta-long forms of names

module _ {Var Hint : Type 0} where
  -- the arguments are the last n bound names in order, each in its eta-long form; and a term, n abstractions of it
  -- taken off, is the eta-long form of the bound name k
  abbrev mutual
    pub are_last : ℕ → Terms Var Hint → Bool
    are_last zero no_terms = true
    are_last zero (term t ts) = false
    are_last (suc n) no_terms = false
    are_last (suc n) (term t ts) = is_bound_name zero n t && are_last n ts

    pub is_bound_name : ℕ → ℕ → Term Var Hint → Bool
    is_bound_name n k (lam A x t) = is_bound_name (suc n) (suc k) t
    is_bound_name n k (spine (index i) ts) = (i == k) && are_last n ts
    is_bound_name n k (spine (constant c) ts) = false
    is_bound_name n k (spine (logical l) ts) = false
    is_bound_name n k (spine (nominal a) ts) = false
    is_bound_name n k (spine (variable x) ts) = false

module _ {Var : Type 0} where
  -- a head, where it stands under n binders and outside them; the logical constants are no names that can stand alone
  abbrev pub outside : ℕ → Head Var → Option (Head Var)
  outside n (constant c) = Some (constant c)
  outside n (logical l) = None
  outside n (nominal a) = Some (nominal a)
  outside n (variable x) = Some (variable x)
  outside n (index i) = if nat_lt i n then None else Some (index (i - n))

module _ {Var Hint : Type 0} where
  -- the name of which a term, n abstractions of it taken off, is the eta-long form, where it is one of a name
  abbrev pub alone : ℕ → Term Var Hint → Option (Head Var)
  alone n (lam A x t) = alone (suc n) t
  alone n (spine h ts) = if are_last n ts then outside n h else None

-- Forms

abbrev pub same_quantifier : Quant → Quant → Bool
same_quantifier Forall Forall = true
same_quantifier Exists Exists = true
same_quantifier Nabla Nabla = true
same_quantifier _ _ = false

-- one more name before what a quantifier reaches over: equal quantifiers in a row are one
abbrev pub joined_to : Quant → List ℕ → Shape → Shape
joined_to q x (bind p ys s) = if same_quantifier q p then (bind q (x ∷ ys) s) else (bind q (x ∷ []) (bind p ys s))
joined_to q x s = bind q (x ∷ []) s

abbrev pub quantified : Quant → Shapes → Shape
quantified q (shape.shape (abstraction x s) no_shapes) = joined_to q x s
quantified q _ = broken

abbrev pub with_pi : Shapes → Shape
with_pi (shape.shape (abstraction x s) no_shapes) = pi x s
with_pi _ = broken

abbrev pub constant_of : List ℕ → Shapes → Shape
constant_of x no_shapes = shape.truth x
constant_of x _ = broken

abbrev pub between : Infix → Shapes → Shape
between o (shape.shape s (shape.shape u no_shapes)) = join o s u
between o _ = broken

abbrev pub with_mark : ℕ → ℕ → Shapes → Shape
with_mark sign level (shape.shape s no_shapes) = marked (replicate level sign) s
with_mark sign level _ = broken

-- the items of a list, before these, in the order in which a judgement writes them: the last put in is the last
-- written, `nil` is left out
abbrev pub written_from : Shapes → Shape → Shapes
written_from cs (join Cons s u) = written_from (shape.shape s cs) u
written_from cs empty = cs
written_from cs s = shape.shape s cs

-- a name alone in front would be read as a list: `nil` is written before it
abbrev pub guarded : Bool → Shapes → Shapes
guarded ends_empty (shape.shape (word x) cs) = if ends_empty then (shape.shape empty (shape.shape (word x) cs)) else (shape.shape (word x) cs)
guarded ends_empty cs = cs

abbrev pub ends_empty : Shape → Bool
ends_empty (join Cons s u) = ends_empty u
ends_empty empty = true
ends_empty _ = false

abbrev pub written : Shape → Shapes
written s = guarded (ends_empty s) (written_from no_shapes s)

abbrev pub judged : Shapes → Shape
judged (shape.shape l (shape.shape g no_shapes)) = judge (written l) g
judged _ = broken

abbrev pub judged_in_focus : Shapes → Shape
judged_in_focus (shape.shape l (shape.shape f (shape.shape g no_shapes))) = focus (written l) f g
judged_in_focus _ = broken

abbrev pub logical_form : Logical → Shapes → Shape
logical_form truth = constant_of (codes "true")
logical_form falsity = constant_of (codes "false")
logical_form conjunction = between And
logical_form disjunction = between Or
logical_form implication = between Arrow
logical_form (equality A) = between Equal
logical_form (universal A) = quantified Forall
logical_form (existential A) = quantified Exists
logical_form (nabla A) = quantified Nabla
logical_form judgement = judged
logical_form focused_judgement = judged_in_focus
logical_form (star i) = with_mark 42 i
logical_form (at_sign i) = with_mark 64 i
logical_form (plus i) = with_mark 43 i
logical_form (hash i) = with_mark 35 i
logical_form (spec_universal A) = with_pi
logical_form spec_implication = between Imply
logical_form spec_conjunction = between With

-- a name with its arguments, where it has any
abbrev pub name_form : List ℕ → Shapes → Shape
name_form x no_shapes = word x
name_form x (shape.shape s ss) = applied x (shape.shape s ss)

abbrev pub constant_form : List ℕ → Shapes → Shape
constant_form c no_shapes = if bytes_eq c (codes "nil") then empty else word c
constant_form c (shape.shape s ss) = if bytes_eq c (codes "::") then between Cons (shape.shape s ss) else applied c (shape.shape s ss)

-- whether it is a quantifier or `pi`, which stand before an abstraction
abbrev pub logical_binds : Logical → Bool
logical_binds (universal A) = true
logical_binds (existential A) = true
logical_binds (nabla A) = true
logical_binds (spec_universal A) = true
logical_binds _ = false

abbrev pub takes_binder : {Var : Type 0} → Head Var → Bool
takes_binder (logical l) = logical_binds l
takes_binder (constant c) = false
takes_binder (nominal a) = false
takes_binder (variable x) = false
takes_binder (index i) = false

module _ {Var : Type 0} (name : Var → List ℕ) where
  -- what is printed for a head, given its arguments as they are printed
  abbrev pub head_form : List (List ℕ) → Head Var → Shapes → Shape
  head_form names (constant c) = constant_form c
  head_form names (logical l) = logical_form l
  head_form names (nominal a) = name_form (unwrap_or (name_of name names (nominal a)) [])
  head_form names (variable x) = name_form (unwrap_or (name_of name names (variable x)) [])
  head_form names (index i) = name_form (unwrap_or (name_of name names (index i)) [])

  -- the printed names of the heads that stand in an abstraction, and what is chosen for its bound name
  abbrev pub names_in : List (List ℕ) → List (Head Var) → List (List ℕ)
  names_in names hs = filter_map (name_of name names) hs

  abbrev pub bound_name : List (List ℕ) → List ℕ → Term Var (List ℕ) → List ℕ
  bound_name names x t = fresh (names_in names (filter_map (lower_head 0) (free_heads t))) x

  -- the name alone, where the term is the eta-long form of one
  abbrev pub contracted : List (List ℕ) → Option (Head Var) → Shape → Shape
  contracted names None s = s
  contracted names (Some h) s = head_form names h no_shapes

  -- what is printed of a term; the listed names are those of the binders around it, the innermost first
  abbrev mutual
    pub named : List (List ℕ) → Term Var (List ℕ) → Shape
    named names (lam A x t) = abstraction (bound_name names x t) (named (bound_name names x t ∷ names) t)
    named names (spine h ts) = head_form names h (named_all (takes_binder h) names ts)

    -- arguments; a quantifier and `pi` stand before an abstraction, everywhere else an eta-long name is a name
    pub named_all : Bool → List (List ℕ) → Terms Var (List ℕ) → Shapes
    named_all binds names no_terms = no_shapes
    named_all binds names (term t ts) = shape.shape (contracted names (if binds then None else alone 0 t) (named names t)) (named_all binds names ts)

  -- WHAT IS PRINTED of a term that stands by itself
  abbrev pub printed : Term Var (List ℕ) → Shape
  printed t = contracted [] (alone 0 t) (named [] t)
