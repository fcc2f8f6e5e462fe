-- Every state of the machine goes on to a whole text; behind a whole expression no follower is taken.
use Rattle.std.proofs.Common.{◌≡◌, ℕ, List, [], ◌∷◌, ◌++◌, Option, Some, None, refl, ap, ◌∙◌}
use Rattle.ab_grammar.specs.declared.Quant.{Quant}
use Rattle.ab_grammar.specs.Token.{Token, word, right_paren, right_brace, right_bracket, turnstile, backslash, comma, colon}
use Rattle.ab_grammar.specs.Tree.{Ty, base, arrow, Binder, Tree, name, abs, bind, applied, joined, judgement, pi_of}
use Rattle.ab_grammar.specs.Grammar.{plain, typed}
use Rattle.ab_grammar.proofs.Following.{Follower, by_right_paren, by_right_brace, by_right_bracket, by_turnstile, by_comma, by_colon, by_other}
use Rattle.ab_grammar.proofs.Machine.{run, found, TypeFrame, type_paren, type_arrow, TypeShut, type_shut, type_closed, type_whole, TypeState, type_want, type_have, type_step, type_finish, type_start, Bracket, paren, pi_paren, item_in, focus_in, goal_in, Frame, infix_at, args_at, pi_at, abs_at, bind_at, bracket_at, Bare, compound, alone, State, want, have, pi_want, pi_name, enclosed, item, focus_end, binders, binder_name, binder_colon, binder_type, binder_on, Shut, shut, Below, bottom, bracket, close, closing, step, whole_of, finish}
use Rattle.ab_grammar.proofs.Complete.{operand, Closer, c_right_paren, c_right_brace, c_right_bracket, c_turnstile, step_close, finish_operand}

abbrev go : State → List Token → Option State
go s ts = run step (Some s) ts

-- some word, where any will do
abbrev a_word : Token
a_word = word [] 0

abbrev a_tree : Tree
a_tree = name [] 0

-- what closes a bracket, and what is then behind it
abbrev pub closer : Bracket → List Token
closer paren = right_paren ∷ []
closer pi_paren = right_paren ∷ []
closer (item_in p []) = right_brace ∷ []
closer (item_in p (c ∷ cs)) = turnstile ∷ a_word ∷ right_brace ∷ []
closer (focus_in p cs) = right_bracket ∷ turnstile ∷ a_word ∷ right_brace ∷ []
closer (goal_in p cs f) = right_brace ∷ []

abbrev pub closers : List Frame → List Token
closers [] = []
closers (infix_at p a ∷ fs) = closers fs
closers (args_at f vs ∷ fs) = closers fs
closers (pi_at p ∷ fs) = closers fs
closers (abs_at x p ∷ fs) = closers fs
closers (bind_at q p bs ∷ fs) = closers fs
closers (bracket_at b ∷ fs) = closer b ++ closers fs

abbrev pub Finishes : Option State → Type 0
Finishes s = (t : Tree) × (found finish s ≡ Some t)

moved : (s r : Option State) → s ≡ r → Finishes r → Finishes s
moved s r e f = (f.0, ap (found finish) e ∙ f.1)

module _ {k : Token} (c : Closer k) (m : Option Bare) (gs : List Frame) (t : Tree) (b : Bracket) (fs : List Frame) (u : Tree) (e : shut t gs ≡ shut u (bracket_at b ∷ fs)) where
  closed_by : (ks : List Token) → go (operand m gs t) (k ∷ ks) ≡ run step (close b fs u k) ks
  closed_by ks = ap (λ q. run step q ks) (step_close c m gs t ∙ ap (λ (q : Shut). closing (q.below) (q.inner) k) e)

-- behind an operand the open brackets can be closed
ends : (fs : List Frame) (u : Tree) (m : Option Bare) (gs : List Frame) (t : Tree) → shut t gs ≡ shut u fs → Finishes (go (operand m gs t) (closers fs))
ends [] u m gs t e = (u, finish_operand m gs t ∙ ap (λ (q : Shut). whole_of (q.inner) (q.below)) e)
ends (infix_at p a ∷ fs) u m gs t e = ends fs (joined p a u) m gs t e
ends (args_at f vs ∷ fs) u m gs t e = ends fs (applied f (vs ++ u ∷ [])) m gs t e
ends (pi_at p ∷ fs) u m gs t e = ends fs (pi_of p u) m gs t e
ends (abs_at x p ∷ fs) u m gs t e = ends fs (abs x u p) m gs t e
ends (bind_at q p bs ∷ fs) u m gs t e = ends fs (bind q bs u p) m gs t e
ends (bracket_at paren ∷ fs) u m gs t e = moved _ _ (closed_by c_right_paren m gs t paren fs u e (closers fs)) (ends fs u (Some compound) fs u refl)
ends (bracket_at pi_paren ∷ fs) u m gs t e = moved _ _ (closed_by c_right_paren m gs t pi_paren fs u e (closers fs)) (ends fs u None fs u refl)
ends (bracket_at (item_in p []) ∷ fs) u m gs t e =
    let g = judgement [] None u p in
    moved _ _ (closed_by c_right_brace m gs t (item_in p []) fs u e (closers fs)) (ends fs g (Some compound) fs g refl)
ends (bracket_at (item_in p (c ∷ cs)) ∷ fs) u m gs t e =
    let g = judgement ((c ∷ cs) ++ u ∷ []) None a_tree p in
    moved _ _ (closed_by c_turnstile m gs t (item_in p (c ∷ cs)) fs u e (a_word ∷ right_brace ∷ closers fs)) (ends fs g (Some compound) fs g refl)
ends (bracket_at (focus_in p cs) ∷ fs) u m gs t e =
    let g = judgement cs (Some u) a_tree p in
    moved _ _ (closed_by c_right_bracket m gs t (focus_in p cs) fs u e (turnstile ∷ a_word ∷ right_brace ∷ closers fs)) (ends fs g (Some compound) fs g refl)
ends (bracket_at (goal_in p cs f) ∷ fs) u m gs t e =
    let g = judgement cs f u p in
    moved _ _ (closed_by c_right_brace m gs t (goal_in p cs f) fs u e (closers fs)) (ends fs g (Some compound) fs g refl)

-- from an operand's place
from_want : (fs : List Frame) → Finishes (go (want fs) (a_word ∷ closers fs))
from_want fs = ends fs a_tree (Some (alone [] 0)) fs a_tree refl

from_body : (fs : List Frame) (q : Quant) (p : ℕ) (bs : List Binder) (b : Binder) → Finishes (go (binders fs q p (bs ++ b ∷ [])) (comma ∷ a_word ∷ closers fs))
from_body fs q p [] b = from_want (bind_at q p (b ∷ []) ∷ fs)
from_body fs q p (c ∷ bs) b = from_want (bind_at q p (c ∷ bs ++ b ∷ []) ∷ fs)

-- what closes a type in a binder
abbrev binder_closers : List TypeFrame → List Token → List Token
binder_closers [] ks = right_paren ∷ ks
binder_closers (type_paren ∷ gs) ks = right_paren ∷ binder_closers gs ks
binder_closers (type_arrow A ∷ gs) ks = binder_closers gs ks

module _ (fs : List Frame) (q : Quant) (p : ℕ) (bs : List Binder) (x : List ℕ) (r : ℕ) where
  abbrev rest : List Token
  rest = comma ∷ a_word ∷ closers fs

  abbrev typing : TypeState → State
  typing s = binder_type fs q p bs x r s

  from_type : (gs : List TypeFrame) (A : Ty) (hs : List TypeFrame) (B : Ty) → type_shut B hs ≡ type_shut A gs → Finishes (go (typing (type_have hs B)) (binder_closers gs rest))
  from_type [] A hs B e =
      moved _ _ (ap (λ (w : TypeShut). run step (binder_on fs q p bs x r (type_closed (w.below) (w.inner)) (type_whole (w.below) (w.inner)) right_paren) rest) e)
      (from_body fs q p bs (typed x r A))
  from_type (type_paren ∷ gs) A hs B e =
      moved _ _ (ap (λ (w : TypeShut). run step (binder_on fs q p bs x r (type_closed (w.below) (w.inner)) (type_whole (w.below) (w.inner)) right_paren) (binder_closers gs rest)) e)
      (from_type gs A gs A refl)
  from_type (type_arrow C ∷ gs) A hs B e = from_type gs (arrow C A) hs B e

  from_typing : (s : TypeState) → (ks : List Token) × Finishes (go (typing s) ks)
  from_typing (type_want gs) = (a_word ∷ binder_closers gs rest, from_type gs (base [] 0) gs (base [] 0) refl)
  from_typing (type_have gs A) = (binder_closers gs rest, from_type gs A gs A refl)

-- every state of the machine can go on to a whole text
pub goes_on : (s : State) → (ks : List Token) × Finishes (go s ks)
goes_on (want fs) = (a_word ∷ closers fs, from_want fs)
goes_on (have b fs t) = (closers fs, ends fs t (Some b) fs t refl)
goes_on (enclosed fs t) = (closers fs, ends fs t None fs t refl)
goes_on (pi_want fs) = (a_word ∷ backslash ∷ a_word ∷ closers fs, from_want (abs_at [] 0 ∷ fs))
goes_on (pi_name fs x p) = (backslash ∷ a_word ∷ closers fs, from_want (abs_at x p ∷ fs))
goes_on (item fs p cs) = (a_word ∷ closers (bracket_at (item_in p cs) ∷ fs), from_want (bracket_at (item_in p cs) ∷ fs))
goes_on (focus_end fs p cs t) = (turnstile ∷ a_word ∷ closers (bracket_at (goal_in p cs (Some t)) ∷ fs), from_want (bracket_at (goal_in p cs (Some t)) ∷ fs))
goes_on (binders fs q p bs) = (a_word ∷ comma ∷ a_word ∷ closers fs, from_body fs q p bs (plain [] 0))
goes_on (binder_name fs q p bs) = let r = from_typing fs q p bs [] 0 type_start in (a_word ∷ colon ∷ r.0, r.1)
goes_on (binder_colon fs q p bs x r) = let r = from_typing fs q p bs x r type_start in (colon ∷ r.0, r.1)
goes_on (binder_type fs q p bs x r s) = from_typing fs q p bs x r s

-- behind a whole expression no follower is taken
closing_stuck : (b : Below) (u t : Tree) (k : Token) → whole_of u b ≡ Some t → closing b u k ≡ None
closing_stuck bottom u t k e = refl
closing_stuck (bracket b fs) u t k e = absurd (cc)

pub stops : {k : Token} → Follower (Some k) → (s : State) (t : Tree) → finish s ≡ Some t → step s k ≡ None
stops by_right_paren (have b fs u) t e = closing_stuck ((shut u fs).below) ((shut u fs).inner) t right_paren e
stops by_right_paren (enclosed fs u) t e = closing_stuck ((shut u fs).below) ((shut u fs).inner) t right_paren e
stops by_right_brace (have b fs u) t e = closing_stuck ((shut u fs).below) ((shut u fs).inner) t right_brace e
stops by_right_brace (enclosed fs u) t e = closing_stuck ((shut u fs).below) ((shut u fs).inner) t right_brace e
stops by_right_bracket (have b fs u) t e = closing_stuck ((shut u fs).below) ((shut u fs).inner) t right_bracket e
stops by_right_bracket (enclosed fs u) t e = closing_stuck ((shut u fs).below) ((shut u fs).inner) t right_bracket e
stops by_turnstile (have b fs u) t e = closing_stuck ((shut u fs).below) ((shut u fs).inner) t turnstile e
stops by_turnstile (enclosed fs u) t e = closing_stuck ((shut u fs).below) ((shut u fs).inner) t turnstile e
stops by_comma (have b fs u) t e = closing_stuck ((shut u fs).below) ((shut u fs).inner) t comma e
stops by_comma (enclosed fs u) t e = closing_stuck ((shut u fs).below) ((shut u fs).inner) t comma e
stops by_colon (have b fs u) t e = refl
stops by_colon (enclosed fs u) t e = refl
stops (by_other o) (have b fs u) t e = refl
stops (by_other o) (enclosed fs u) t e = refl
stops f s t e = absurd (cc)

type_stuck : (b : Option (List TypeFrame)) (u t : Ty) → type_whole b u ≡ Some t → type_closed b u ≡ None
type_stuck None u t e = refl
type_stuck (Some gs) u t e = absurd (cc)

pub type_stops : {k : Token} → Follower (Some k) → (s : TypeState) (A : Ty) → type_finish s ≡ Some A → type_step s k ≡ None
type_stops by_right_paren (type_have gs B) A e = type_stuck ((type_shut B gs).below) ((type_shut B gs).inner) A e
type_stops by_right_brace (type_have gs B) A e = refl
type_stops by_right_bracket (type_have gs B) A e = refl
type_stops by_turnstile (type_have gs B) A e = refl
type_stops by_comma (type_have gs B) A e = refl
type_stops by_colon (type_have gs B) A e = refl
type_stops (by_other o) (type_have gs B) A e = refl
type_stops f s A e = absurd (cc)
