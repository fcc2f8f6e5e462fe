-- What the names of an expression stand for, and the expression with its names resolved.
use Rattle.std.specs.Prelude.{ℕ, suc, zero, List, [], ◌∷◌, Bool, true, false, ◌&&◌, not, Option, Some, None, option_map, Result, Ok, Err, codes, bytes_eq, if◌then◌else◌, ◌==◌, nat_le, length}
use Rattle.std.specs.List.{list_all}
use Rattle.std.specs.Char.{is_ascii_digit}
use Rattle.std.specs.Str.Parse.{digits_value}
use Rattle.ab_term.specs.Types.{Ty, prop, arrows, o, olist}
use Rattle.ab_term.specs.Logical as logic
use Rattle.ab_term.specs.Logical.{Logical, logical_type}
use Rattle.ab_term.specs.Terms.{constant, logical, nominal, variable, Nominal}
use Rattle.ab_term.specs.Typing.{Signature}
use Rattle.ab_grammar.specs.declared.Infix.{Infix}
use Rattle.ab_grammar.specs.declared.Infix.TheVariants.{Arrow, Or, And, Equal, Imply, With, Cons}
use Rattle.ab_grammar.specs.declared.Quant.{Quant}
use Rattle.ab_grammar.specs.Tree as tree
use Rattle.ab_grammar.specs.Tree.{Tree, Trees, no_trees, Focus}
use Rattle.ab_meaning.specs.ResolvedNames.{Name, Resolved, bound, known, free, apply, behind, abs, equal, bind, quantified, pi}
use Rattle.ab_meaning.specs.Types.{written_type}

-- a variable of a sequent: its name, the number that stands for it in terms, and its type
pub record Entry : Type 0 where
  pub name : Name
  pub number : ℕ
  pub type : Ty

-- whose names may be free: nominal names in a proof command, words with a capital first letter in a clause
pub data Place : Type 0 where
  in_proof : Place
  in_clause : Place
  elsewhere : Place

pub record Scope : Type 0 where
  pub kinds : List Name
  pub constants : Signature
  pub variables : List Entry
  -- the nominal constants whose types are settled
  pub nominals : List Nominal
  pub place : Place

-- n, and a number without a leading zero, of one to nine digits
abbrev pub is_number : List ℕ → Bool
is_number [] = false
is_number (d ∷ ds) = not (d == 48) && (nat_le (length ds) 8 && list_all is_ascii_digit (d ∷ ds))

abbrev pub nominal_number : Name → Option ℕ
nominal_number [] = None
nominal_number (c ∷ ds) = if c == 110 && is_number ds then Some (digits_value 10 ds) else None

abbrev pub begins_with_capital : Name → Bool
begins_with_capital [] = false
begins_with_capital (c ∷ cs) = nat_le 65 c && nat_le c 90

abbrev pub or_else : {X : Type 0} → Option X → Option X → Option X
or_else None b = b
or_else (Some x) b = Some x

-- the number of binders between a name and its own, where the innermost comes first
abbrev pub index_of : List Name → Name → Option ℕ
index_of [] x = None
index_of (y ∷ ys) x = if bytes_eq y x then Some zero else option_map suc (index_of ys x)

abbrev pub truth_named : Name → Option Resolved
truth_named x = if bytes_eq x (codes "true") then Some (known (logical logic.truth) prop) else
    if bytes_eq x (codes "false") then Some (known (logical logic.falsity) prop) else None

abbrev pub variable_named : List Entry → Name → Option Resolved
variable_named [] x = None
variable_named (e ∷ es) x = if bytes_eq e.name x then Some (known (variable (record { name = e.number; type = e.type })) e.type) else variable_named es x

abbrev pub constant_at : Name → Option Ty → Option Resolved
constant_at x = option_map (known (constant x))

abbrev pub settled_nominal : List Nominal → ℕ → Option Resolved
settled_nominal [] n = None
settled_nominal (a ∷ ns) n = if a.number == n then Some (known (nominal a) a.type) else settled_nominal ns n

-- a nominal name stands for the constant whose type is settled, and is free where there is none
abbrev pub nominal_at : List Nominal → Name → ℕ → Option ℕ → Option Resolved
nominal_at ns x p None = None
nominal_at ns x p (Some n) = or_else (settled_nominal ns n) (Some (free x p))

abbrev pub nominal_named : Place → List Nominal → Name → ℕ → Option Resolved
nominal_named in_proof ns x p = nominal_at ns x p (nominal_number x)
nominal_named in_clause ns x p = None
nominal_named elsewhere ns x p = None

abbrev pub clause_variable : Place → Name → ℕ → Option Resolved
clause_variable in_clause x p = if begins_with_capital x then Some (free x p) else None
clause_variable in_proof x p = None
clause_variable elsewhere x p = None

-- the head that a name at a place stands for, under these bound names: names are looked for in this order
abbrev pub head_named : Scope → List Name → Name → ℕ → Option Resolved
head_named s bs x p =
    or_else (option_map bound (index_of bs x))
    (or_else (truth_named x)
    (or_else (clause_variable s.place x p)
    (or_else (variable_named s.variables x)
    (or_else (constant_at x (s.constants x)) (nominal_named s.place s.nominals x p)))))

abbrev pub Found : Type 0
Found = Result Resolved Name

abbrev pub or_unknown : Name → Option Resolved → Found
or_unknown x None = Err x
or_unknown x (Some e) = Ok e

abbrev pub made_of : (Resolved → Resolved) → Found → Found
made_of f (Ok e) = Ok (f e)
made_of f (Err x) = Err x

-- of two parts, the first in the text first
abbrev pub made_of_both : (Resolved → Resolved → Resolved) → Found → Found → Found
made_of_both f (Ok a) b = made_of (f a) b
made_of_both f (Err x) b = Err x

abbrev pub connective : Logical → Resolved → Resolved → Resolved
connective l a b = apply (apply (known (logical l) (logical_type l)) a) b

-- the constants of lists: `::`, which puts an item before a list, and the empty list
abbrev pub before_list : Resolved
before_list = known (constant (codes "::")) (arrows (o ∷ olist ∷ []) olist)

abbrev pub empty_list : Resolved
empty_list = known (constant (codes "nil")) olist

-- a sign between two operands; `::` is the constant of that name
abbrev pub joined : Scope → Infix → Found → Found → Found
joined s Arrow a b = made_of_both (connective logic.implication) a b
joined s Or a b = made_of_both (connective logic.disjunction) a b
joined s And a b = made_of_both (connective logic.conjunction) a b
joined s Equal a b = made_of_both equal a b
joined s Imply a b = made_of_both (connective logic.spec_implication) a b
joined s With a b = made_of_both (connective logic.spec_conjunction) a b
joined s Cons a b = made_of_both (λ t u. apply (apply before_list t) u) a b

-- an item that is written behind a list stands before it
abbrev pub put_before : Resolved → Resolved → Resolved
put_before l t = behind l (apply before_list t)

-- whether the first item of a judgement is a list: a name alone, or written with `::`
abbrev pub is_list : Tree → Bool
is_list (tree.name x p) = true
is_list (tree.join Cons t u p) = true
is_list _ = false

-- the list that a judgement begins with
abbrev pub first_list : Tree → Found → Found
first_list c f = if is_list c then f else made_of_both put_before (Ok empty_list) f

-- `{l |- g}`, and `{l, [f] |- g}`
abbrev pub with_goal : Found → Found → Found
with_goal l g = made_of_both apply (made_of (apply (known (logical logic.judgement) (logical_type logic.judgement))) l) g

abbrev pub with_focus_and_goal : Found → Found → Found → Found
with_focus_and_goal l f g =
    made_of_both apply (made_of_both apply (made_of (apply (known (logical logic.focused_judgement) (logical_type logic.focused_judgement))) l) f) g

-- an abstraction to which `pi` is applied
abbrev pub pi_over : Resolved → Found
pi_over (abs x p e) = Ok (bind pi x p None e)
pi_over _ = Err (codes "pi")

abbrev pub after : (Resolved → Found) → Found → Found
after f (Ok e) = f e
after f (Err x) = Err x

abbrev pub some_type : Result Ty Name → Result (Option Ty) Name
some_type (Ok A) = Ok (Some A)
some_type (Err x) = Err x

-- the written type, where there is one
abbrev pub written : List Name → Option tree.Ty → Result (Option Ty) Name
written kinds None = Ok None
written kinds (Some w) = some_type (written_type kinds w)

-- a quantifier over names around what it reaches over
abbrev pub with_binder : Quant → tree.Binder → Result (Option Ty) Name → Found → Found
with_binder q b (Ok w) e = made_of (bind (quantified q) b.name b.place w) e
with_binder q b (Err x) e = Err x

abbrev pub with_binders : List Name → Quant → List tree.Binder → Found → Found
with_binders kinds q [] e = e
with_binders kinds q (b ∷ bs) e = with_binder q b (written kinds b.type_of) (with_binders kinds q bs e)

abbrev pub under : List tree.Binder → List Name → List Name
under [] xs = xs
under (b ∷ bs) xs = under bs (b.name ∷ xs)

abbrev pub is_pi : Tree → Bool
is_pi (tree.name x p) = bytes_eq x (codes "pi")
is_pi _ = false

-- The expression with its names resolved, or the first name in the text that stands for nothing.
abbrev mutual
  pub resolved : Scope → List Name → Tree → Found
  resolved s bs (tree.name x p) = or_unknown x (head_named s bs x p)
  resolved s bs (tree.apply f vs p) = if is_pi f then pi_applied s bs vs else applied s bs (resolved s bs f) vs
  resolved s bs (tree.abs x e p) = made_of (abs x p) (resolved s (x ∷ bs) e)
  resolved s bs (tree.join o t u p) = joined s o (resolved s bs t) (resolved s bs u)
  resolved s bs (tree.bind q xs e p) = with_binders s.kinds q xs (resolved s (under xs bs) e)
  resolved s bs (tree.judge cs f g p) = judgement s bs (context s bs cs) f (resolved s bs g)

  -- a head that is given its arguments one after another
  pub applied : Scope → List Name → Found → Trees → Found
  applied s bs f no_trees = f
  applied s bs f (tree.tree v vs) = applied s bs (made_of_both apply f (resolved s bs v)) vs

  -- `pi` is applied to one abstraction
  pub pi_applied : Scope → List Name → Trees → Found
  pi_applied s bs (tree.tree v no_trees) = after pi_over (resolved s bs v)
  pi_applied s bs _ = Err (codes "pi")

  -- the list of a judgement, from its items in the order of writing: the last written stands first
  pub context : Scope → List Name → Trees → Found
  context s bs no_trees = Ok empty_list
  context s bs (tree.tree c cs) = items_before s bs (first_list c (resolved s bs c)) cs

  pub items_before : Scope → List Name → Found → Trees → Found
  items_before s bs l no_trees = l
  items_before s bs l (tree.tree c cs) = items_before s bs (made_of_both put_before l (resolved s bs c)) cs

  -- the judgement with this list and goal
  pub judgement : Scope → List Name → Found → Focus → Found → Found
  judgement s bs l tree.unfocused g = with_goal l g
  judgement s bs l (tree.focused f) g = with_focus_and_goal l (resolved s bs f) g
