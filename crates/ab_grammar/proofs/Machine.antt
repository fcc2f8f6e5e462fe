-- How the parser goes from token to token: a stack of what is not finished yet, and what comes next.
-- No public contract speaks of it: the parser's own functions are held against it, and it is proved to read the grammar.
use Rattle.std.specs.Prelude.{ℕ, List, [], ◌∷◌, ◌++◌, Bool, true, false, cond, Option, Some, None}
use Rattle.std.proofs.Math.Dec.{leb}
use Rattle.ab_grammar.specs.declared.Infix.{Infix}
use Rattle.ab_grammar.specs.declared.Infix.TheVariants.{Arrow}
use Rattle.ab_grammar.specs.declared.Quant.{Quant}
use Rattle.ab_grammar.specs.Token.{Token, word, truth, quantifier, pi_word, sign, left_paren, right_paren, left_brace, right_brace, left_bracket, right_bracket, turnstile, backslash, comma, colon}
use Rattle.ab_grammar.specs.Tree.{Ty, base, arrow, Binder, Tree, name, abs, bind, applied, joined, judgement, pi_of}
use Rattle.ab_grammar.specs.Grammar.{level, left, right, plain, typed}

-- a machine's run over tokens
module _ {S : Type 0} (step : S → Token → Option S) where
  abbrev pub step_in : Option S → Token → Option S
  step_in None k = None
  step_in (Some s) k = step s k

  abbrev pub run : Option S → List Token → Option S
  run s [] = s
  run s (k ∷ ks) = run (step_in s k) ks

-- what a machine that may have stopped has found
abbrev pub found : {S A : Type 0} → (S → Option A) → Option S → Option A
found finish None = None
found finish (Some s) = finish s

-- types

-- an open parenthesis; what stands left of an arrow
pub data TypeFrame : Type 0 where
  type_paren : TypeFrame
  type_arrow : Ty → TypeFrame

-- a type must come; a type stands there
pub data TypeState : Type 0 where
  type_want : List TypeFrame → TypeState
  type_have : List TypeFrame → Ty → TypeState

-- the type up to the innermost parenthesis, and what is below it
pub record TypeShut : Type 0 where
  pub inner : Ty
  pub below : Option (List TypeFrame)

abbrev pub type_shut : Ty → List TypeFrame → TypeShut
type_shut B (type_arrow A ∷ gs) = type_shut (arrow A B) gs
type_shut B (type_paren ∷ gs) = record { inner = B; below = Some gs }
type_shut B [] = record { inner = B; below = None }

abbrev pub type_closed : Option (List TypeFrame) → Ty → Option TypeState
type_closed None A = None
type_closed (Some gs) A = Some (type_have gs A)

abbrev pub type_whole : Option (List TypeFrame) → Ty → Option Ty
type_whole None A = Some A
type_whole (Some gs) A = None

abbrev pub step_type_want : List TypeFrame → Token → Option TypeState
step_type_want gs (word x p) = Some (type_have gs (base x p))
step_type_want gs left_paren = Some (type_want (type_paren ∷ gs))
step_type_want gs k = None

abbrev pub step_type_sign : List TypeFrame → Ty → Infix → Option TypeState
step_type_sign gs A Arrow = Some (type_want (type_arrow A ∷ gs))
step_type_sign gs A o = None

abbrev pub step_type_have : List TypeFrame → Ty → Token → Option TypeState
step_type_have gs A (sign o) = step_type_sign gs A o
step_type_have gs A right_paren = type_closed (type_shut A gs).below (type_shut A gs).inner
step_type_have gs A k = None

abbrev pub type_step : TypeState → Token → Option TypeState
type_step (type_want gs) k = step_type_want gs k
type_step (type_have gs A) k = step_type_have gs A k

abbrev pub type_finish : TypeState → Option Ty
type_finish (type_want gs) = None
type_finish (type_have gs A) = type_whole (type_shut A gs).below (type_shut A gs).inner

abbrev pub type_start : TypeState
type_start = type_want []

-- expressions

-- an open bracket, with what was read in it
pub data Bracket : Type 0 where
  paren : Bracket
  pi_paren : Bracket  -- around what pi takes
  item_in : ℕ → List Tree → Bracket  -- a judgement, with the items so far
  focus_in : ℕ → List Tree → Bracket
  goal_in : ℕ → List Tree → Option Tree → Bracket

pub data Frame : Type 0 where
  infix_at : Infix → Tree → Frame  -- a left operand and its sign
  args_at : Tree → List Tree → Frame  -- a head and its arguments so far
  pi_at : ℕ → Frame
  abs_at : List ℕ → ℕ → Frame
  bind_at : Quant → ℕ → List Binder → Frame
  bracket_at : Bracket → Frame

-- whether what stands there is a name alone, that a backslash can follow
pub data Bare : Type 0 where
  compound : Bare
  alone : List ℕ → ℕ → Bare

pub data State : Type 0 where
  want : List Frame → State  -- an operand must come
  have : Bare → List Frame → Tree → State  -- behind an operand
  pi_want : List Frame → State  -- behind pi
  pi_name : List Frame → List ℕ → ℕ → State  -- behind pi and a name
  enclosed : List Frame → Tree → State  -- behind what pi takes in parentheses: no argument can follow
  item : List Frame → ℕ → List Tree → State  -- where an item of a judgement begins
  focus_end : List Frame → ℕ → List Tree → Tree → State
  binders : List Frame → Quant → ℕ → List Binder → State
  binder_name : List Frame → Quant → ℕ → List Binder → State
  binder_colon : List Frame → Quant → ℕ → List Binder → List ℕ → ℕ → State
  binder_type : List Frame → Quant → ℕ → List Binder → List ℕ → ℕ → TypeState → State

-- where a further argument begins
abbrev pub grow : List Frame → Tree → List Frame
grow (args_at f vs ∷ fs) t = args_at f (vs ++ t ∷ []) ∷ fs
grow fs t = args_at t [] ∷ fs

abbrev pub choose : Bool → Bool → List Frame → Option (List Frame) → Option (List Frame)
choose true b x y = Some x
choose false true x y = y
choose false false x y = None

-- around what pi takes nothing but a closer can follow
abbrev pub is_around_pi : Bracket → Bool
is_around_pi pi_paren = true
is_around_pi b = false

-- the frames where t, or what it is the last part of, is the left operand of o
abbrev pub pop : Infix → Tree → List Frame → Option (List Frame)
pop o t (infix_at p a ∷ fs) = choose (leb (right p) (level o)) (leb (left o) (level p)) (infix_at o t ∷ infix_at p a ∷ fs) (pop o (joined p a t) fs)
pop o t (args_at f vs ∷ fs) = pop o (applied f (vs ++ t ∷ [])) fs
pop o t (pi_at p ∷ fs) = pop o (pi_of p t) fs
pop o t (bracket_at b ∷ fs) = cond (is_around_pi b) None (Some (infix_at o t ∷ bracket_at b ∷ fs))
pop o t (abs_at x p ∷ fs) = Some (infix_at o t ∷ abs_at x p ∷ fs)
pop o t (bind_at q p bs ∷ fs) = Some (infix_at o t ∷ bind_at q p bs ∷ fs)
pop o t [] = Some (infix_at o t ∷ [])

-- the bracket that is closed, and the frames below it
pub data Below : Type 0 where
  bottom : Below
  bracket : Bracket → List Frame → Below

pub record Shut : Type 0 where
  pub inner : Tree
  pub below : Below

-- the tree up to the innermost bracket
abbrev pub shut : Tree → List Frame → Shut
shut t (infix_at p a ∷ fs) = shut (joined p a t) fs
shut t (args_at f vs ∷ fs) = shut (applied f (vs ++ t ∷ [])) fs
shut t (pi_at p ∷ fs) = shut (pi_of p t) fs
shut t (abs_at x p ∷ fs) = shut (abs x t p) fs
shut t (bind_at q p bs ∷ fs) = shut (bind q bs t p) fs
shut t (bracket_at b ∷ fs) = record { inner = t; below = bracket b fs }
shut t [] = record { inner = t; below = bottom }

-- a token behind the last expression in a bracket
abbrev pub close : Bracket → List Frame → Tree → Token → Option State
close paren fs t right_paren = Some (have compound fs t)
close pi_paren fs t right_paren = Some (enclosed fs t)
close (item_in p cs) fs t comma = Some (item fs p (cs ++ t ∷ []))
close (item_in p cs) fs t turnstile = Some (want (bracket_at (goal_in p (cs ++ t ∷ []) None) ∷ fs))
close (item_in p []) fs t right_brace = Some (have compound fs (judgement [] None t p))
close (focus_in p cs) fs t right_bracket = Some (focus_end fs p cs t)
close (goal_in p cs f) fs t right_brace = Some (have compound fs (judgement cs f t p))
close b fs t k = None

abbrev pub closing : Below → Tree → Token → Option State
closing bottom t k = None
closing (bracket b fs) t k = close b fs t k

abbrev pub want_in : Option (List Frame) → Option State
want_in None = None
want_in (Some fs) = Some (want fs)

-- a token where an argument may begin
abbrev pub starts : List Frame → Token → Option State
starts fs (word x p) = Some (have (alone x p) fs (name x p))
starts fs (truth x p) = Some (have compound fs (name x p))
starts fs left_paren = Some (want (bracket_at paren ∷ fs))
starts fs (left_brace p) = Some (item fs p [])
starts fs (quantifier q p) = Some (binders fs q p [])
starts fs k = None

abbrev pub starts_operand : List Frame → Token → Option State
starts_operand fs (pi_word p) = Some (pi_want (pi_at p ∷ fs))
starts_operand fs k = starts fs k

abbrev pub starts_item : List Frame → ℕ → List Tree → Token → Option State
starts_item fs p cs left_bracket = Some (want (bracket_at (focus_in p cs) ∷ fs))
starts_item fs p cs k = starts_operand (bracket_at (item_in p cs) ∷ fs) k

abbrev pub bound_name : Bare → List Frame → Option State
bound_name (alone x p) fs = Some (want (abs_at x p ∷ fs))
bound_name compound fs = None

abbrev pub bind_body : List Frame → Quant → ℕ → List Binder → Option State
bind_body fs q p [] = None
bind_body fs q p (b ∷ bs) = Some (want (bind_at q p (b ∷ bs) ∷ fs))

-- behind what is whole: a sign, or what closes the innermost bracket
abbrev pub closed_by : List Frame → Tree → Token → Option State
closed_by fs t k = closing (shut t fs).below (shut t fs).inner k

abbrev pub step_enclosed : List Frame → Tree → Token → Option State
step_enclosed fs t (sign o) = want_in (pop o t fs)
step_enclosed fs t right_paren = closed_by fs t right_paren
step_enclosed fs t right_brace = closed_by fs t right_brace
step_enclosed fs t right_bracket = closed_by fs t right_bracket
step_enclosed fs t turnstile = closed_by fs t turnstile
step_enclosed fs t comma = closed_by fs t comma
step_enclosed fs t k = None

abbrev pub step_have : Bare → List Frame → Tree → Token → Option State
step_have b fs t backslash = bound_name b fs
step_have b fs t (word x p) = starts (grow fs t) (word x p)
step_have b fs t (truth x p) = starts (grow fs t) (truth x p)
step_have b fs t left_paren = starts (grow fs t) left_paren
step_have b fs t (left_brace p) = starts (grow fs t) (left_brace p)
step_have b fs t (quantifier q p) = starts (grow fs t) (quantifier q p)
step_have b fs t k = step_enclosed fs t k

abbrev pub step_pi : List Frame → Token → Option State
step_pi fs (word x p) = Some (pi_name fs x p)
step_pi fs left_paren = Some (pi_want (bracket_at pi_paren ∷ fs))
step_pi fs k = None

abbrev pub step_pi_name : List Frame → List ℕ → ℕ → Token → Option State
step_pi_name fs x p backslash = Some (want (abs_at x p ∷ fs))
step_pi_name fs x p k = None

abbrev pub step_focus_end : List Frame → ℕ → List Tree → Tree → Token → Option State
step_focus_end fs p cs t turnstile = Some (want (bracket_at (goal_in p cs (Some t)) ∷ fs))
step_focus_end fs p cs t k = None

abbrev pub step_binders : List Frame → Quant → ℕ → List Binder → Token → Option State
step_binders fs q p bs (word x r) = Some (binders fs q p (bs ++ plain x r ∷ []))
step_binders fs q p bs left_paren = Some (binder_name fs q p bs)
step_binders fs q p bs comma = bind_body fs q p bs
step_binders fs q p bs k = None

abbrev pub step_binder_name : List Frame → Quant → ℕ → List Binder → Token → Option State
step_binder_name fs q p bs (word x r) = Some (binder_colon fs q p bs x r)
step_binder_name fs q p bs k = None

abbrev pub step_binder_colon : List Frame → Quant → ℕ → List Binder → List ℕ → ℕ → Token → Option State
step_binder_colon fs q p bs x r colon = Some (binder_type fs q p bs x r type_start)
step_binder_colon fs q p bs x r k = None

-- behind a binder's type its parenthesis closes
abbrev pub binder_closed : List Frame → Quant → ℕ → List Binder → Binder → Token → Option State
binder_closed fs q p bs b right_paren = Some (binders fs q p (bs ++ b ∷ []))
binder_closed fs q p bs b k = None

abbrev pub binder_done : List Frame → Quant → ℕ → List Binder → List ℕ → ℕ → Option Ty → Token → Option State
binder_done fs q p bs x r (Some A) k = binder_closed fs q p bs (typed x r A) k
binder_done fs q p bs x r None k = None

abbrev pub binder_on : List Frame → Quant → ℕ → List Binder → List ℕ → ℕ → Option TypeState → Option Ty → Token → Option State
binder_on fs q p bs x r (Some s) A k = Some (binder_type fs q p bs x r s)
binder_on fs q p bs x r None A k = binder_done fs q p bs x r A k

abbrev pub step : State → Token → Option State
step (want fs) k = starts_operand fs k
step (have b fs t) k = step_have b fs t k
step (pi_want fs) k = step_pi fs k
step (pi_name fs x p) k = step_pi_name fs x p k
step (enclosed fs t) k = step_enclosed fs t k
step (item fs p cs) k = starts_item fs p cs k
step (focus_end fs p cs t) k = step_focus_end fs p cs t k
step (binders fs q p bs) k = step_binders fs q p bs k
step (binder_name fs q p bs) k = step_binder_name fs q p bs k
step (binder_colon fs q p bs x r) k = step_binder_colon fs q p bs x r k
step (binder_type fs q p bs x r s) k = binder_on fs q p bs x r (type_step s k) (type_finish s) k

abbrev pub whole_of : Tree → Below → Option Tree
whole_of t bottom = Some t
whole_of t (bracket b fs) = None

abbrev pub finish : State → Option Tree
finish (have b fs t) = whole_of (shut t fs).inner (shut t fs).below
finish (enclosed fs t) = whole_of (shut t fs).inner (shut t fs).below
finish s = None

abbrev pub start : State
start = want []
