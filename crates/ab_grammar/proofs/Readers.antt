-- The readers of expressions and of types.
use Rattle.std.proofs.Common.{◌≡◌, ℕ, ◌≤◌, List, [], ◌∷◌, ◌++◌, Option, Some, None, refl, ◌⊎◌}
use Rattle.ab_grammar.specs.declared.Quant.{Quant}
use Rattle.ab_grammar.specs.Token.{Token, Other, other}
use Rattle.ab_grammar.specs.Tree.{Ty, Binder, Tree}
use Rattle.ab_grammar.specs.Grammar.{Text, TypeText}
use Rattle.ab_grammar.specs.Nesting.{Spot, Layer, nest, depth_of, outside, limit}
use Rattle.ab_grammar.specs.Language.{tokens_of, Expression, TypeExpression}
use Rattle.ab_grammar.proofs.Following.{Follower, Followed}
use Rattle.ab_grammar.proofs.Reading.{ReadsOff, StopsAt, NestsAt}
use Rattle.ab_grammar.proofs.Machine.{run, found, State, want, have, pi_want, pi_name, enclosed, item, focus_end, binders, binder_name, binder_colon, binder_type, binder_done, Frame, step, finish, start, TypeState, type_want, type_have, type_step, type_finish, type_start}
use Rattle.ab_grammar.proofs.Complete.{reads_text}
use Rattle.ab_grammar.proofs.Sound.{accepted}
use Rattle.ab_grammar.proofs.Types.{reads_type, accepted_type, type_goes_on}
use Rattle.ab_grammar.proofs.Whole.{goes_on, stops, type_stops}
use Rattle.ab_grammar.proofs.Reader as reader

pub text_reads : (ts : List Token) (t : Tree) → Text ts t → found finish (run step (Some start) ts) ≡ Some t
text_reads ts t d = reads_text d

pub text_goes : (s : State) → (ks : List Token) × (t : Tree) × (found finish (run step (Some s) ks) ≡ Some t)
text_goes s = let r = goes_on s in (r.0, r.1.0, r.1.1)

pub text_stops : (k : Token) → Follower (Some k) → (s : State) (t : Tree) → finish s ≡ Some t → step s k ≡ None
text_stops k f s t e = stops f s t e

pub type_reads : (ts : List Token) (A : Ty) → TypeText ts A → found type_finish (run type_step (Some type_start) ts) ≡ Some A
type_reads ts A d = reads_type d

pub type_stop : (k : Token) → Follower (Some k) → (s : TypeState) (A : Ty) → type_finish s ≡ Some A → type_step s k ≡ None
type_stop k f s A e = type_stops f s A e

-- an expression has been read so far
abbrev pub SoFar : List Token → List Token → State → List Layer → Type 0
SoFar = reader.SoFar step finish start Text text_reads accepted text_goes text_stops

pub at_start : (ks : List Token) → SoFar ks ks start outside
at_start = reader.at_start step finish start Text text_reads accepted text_goes text_stops

module _ (ks : List Token) (k : Token) (rest : List Token) (s : State) (ls : List Layer) (so_far : SoFar ks (k ∷ rest) s ls) where
  pub goes : (t : State) → step s k ≡ Some t → depth_of (nest ls k) ≤ limit → SoFar ks rest t (nest ls k)
  goes = reader.goes step finish start Text text_reads accepted text_goes text_stops ks k rest s ls so_far

  pub done : (t : Tree) → step s k ≡ None → finish s ≡ Some t → ReadsOff Expression Followed ks t (k ∷ rest)
  done = reader.done step finish start Text text_reads accepted text_goes text_stops ks k rest s ls so_far

  pub wrong : step s k ≡ None → (finish s ≡ None) ⊎ (Follower (Some k) → ⊥) → StopsAt Expression Followed ks (k ∷ rest)
  wrong = reader.wrong step finish start Text text_reads accepted text_goes text_stops ks k rest s ls so_far

  pub too_deep : (t : State) → step s k ≡ Some t → (depth_of (nest ls k) ≤ limit → ⊥) → NestsAt Expression Followed ks (k ∷ rest)
  too_deep = reader.too_deep step finish start Text text_reads accepted text_goes text_stops ks k rest s ls so_far

module _ (ks : List Token) (s : State) (ls : List Layer) (so_far : SoFar ks [] s ls) where
  pub done_at_end : (t : Tree) → finish s ≡ Some t → ReadsOff Expression Followed ks t []
  done_at_end = reader.done_at_end step finish start Text text_reads accepted text_goes text_stops ks s ls so_far

  pub wrong_at_end : finish s ≡ None → StopsAt Expression Followed ks []
  wrong_at_end = reader.wrong_at_end step finish start Text text_reads accepted text_goes text_stops ks s ls so_far

-- a type has been read so far
abbrev pub TypeSoFar : List Token → List Token → TypeState → List Layer → Type 0
TypeSoFar = reader.SoFar type_step type_finish type_start TypeText type_reads accepted_type type_goes_on type_stop

pub type_at_start : (ks : List Token) → TypeSoFar ks ks type_start outside
type_at_start = reader.at_start type_step type_finish type_start TypeText type_reads accepted_type type_goes_on type_stop

module _ (ks : List Token) (k : Token) (rest : List Token) (s : TypeState) (ls : List Layer) (so_far : TypeSoFar ks (k ∷ rest) s ls) where
  pub type_goes : (t : TypeState) → type_step s k ≡ Some t → depth_of (nest ls k) ≤ limit → TypeSoFar ks rest t (nest ls k)
  type_goes = reader.goes type_step type_finish type_start TypeText type_reads accepted_type type_goes_on type_stop ks k rest s ls so_far

  pub type_done : (A : Ty) → type_step s k ≡ None → type_finish s ≡ Some A → ReadsOff TypeExpression Followed ks A (k ∷ rest)
  type_done = reader.done type_step type_finish type_start TypeText type_reads accepted_type type_goes_on type_stop ks k rest s ls so_far

  pub type_wrong : type_step s k ≡ None → (type_finish s ≡ None) ⊎ (Follower (Some k) → ⊥) → StopsAt TypeExpression Followed ks (k ∷ rest)
  type_wrong = reader.wrong type_step type_finish type_start TypeText type_reads accepted_type type_goes_on type_stop ks k rest s ls so_far

  pub type_too_deep : (t : TypeState) → type_step s k ≡ Some t → (depth_of (nest ls k) ≤ limit → ⊥) → NestsAt TypeExpression Followed ks (k ∷ rest)
  type_too_deep = reader.too_deep type_step type_finish type_start TypeText type_reads accepted_type type_goes_on type_stop ks k rest s ls so_far

module _ (ks : List Token) (s : TypeState) (ls : List Layer) (so_far : TypeSoFar ks [] s ls) where
  pub type_done_at_end : (A : Ty) → type_finish s ≡ Some A → ReadsOff TypeExpression Followed ks A []
  type_done_at_end = reader.done_at_end type_step type_finish type_start TypeText type_reads accepted_type type_goes_on type_stop ks s ls so_far

  pub type_wrong_at_end : type_finish s ≡ None → StopsAt TypeExpression Followed ks []
  type_wrong_at_end = reader.wrong_at_end type_step type_finish type_start TypeText type_reads accepted_type type_goes_on type_stop ks s ls so_far

pub sure_expression : (u v : List Spot) (a b : Tree) (r s : List Token) → Expression u a → Expression v b → Followed r → Followed s → tokens_of u ++ r ≡ tokens_of v ++ s → (u ≡ v) × (a ≡ b)
sure_expression = reader.sure step finish start Text text_reads accepted text_goes text_stops

pub sure_type : (u v : List Spot) (a b : Ty) (r s : List Token) → TypeExpression u a → TypeExpression v b → Followed r → Followed s → tokens_of u ++ r ≡ tokens_of v ++ s → (u ≡ v) × (a ≡ b)
sure_type = reader.sure type_step type_finish type_start TypeText type_reads accepted_type type_goes_on type_stop

-- what stands in no expression ends each
other_done : (fs : List Frame) (q : Quant) (p : ℕ) (bs : List Binder) (x : List ℕ) (r : ℕ) (A : Option Ty) (o : Other) → binder_done fs q p bs x r A (other o) ≡ None
other_done fs q p bs x r None o = refl
other_done fs q p bs x r (Some A) o = refl

pub type_other_stuck : (s : TypeState) (o : Other) → type_step s (other o) ≡ None
type_other_stuck (type_want gs) o = refl
type_other_stuck (type_have gs A) o = refl

pub other_stuck : (s : State) (o : Other) → step s (other o) ≡ None
other_stuck (want fs) o = refl
other_stuck (have b fs t) o = refl
other_stuck (pi_want fs) o = refl
other_stuck (pi_name fs x p) o = refl
other_stuck (enclosed fs t) o = refl
other_stuck (item fs p cs) o = refl
other_stuck (focus_end fs p cs t) o = refl
other_stuck (binders fs q p bs) o = refl
other_stuck (binder_name fs q p bs) o = refl
other_stuck (binder_colon fs q p bs x r) o = refl
other_stuck (binder_type fs q p bs x r (type_want gs)) o = refl
other_stuck (binder_type fs q p bs x r (type_have gs A)) o = other_done fs q p bs x r (type_finish (type_have gs A)) o
