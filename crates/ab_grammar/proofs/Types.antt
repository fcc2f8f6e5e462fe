-- The machine of types reads the texts of types, with their trees, and no others.
use Rattle.std.proofs.Common.{◌≡◌, ℕ, ◌≤◌, List, [], ◌∷◌, ◌++◌, Option, Some, None, refl, ap, sym, ◌∙◌, subst, append_assoc, append-nil, arith}
use Rattle.ab_grammar.specs.declared.Infix.{Infix}
use Rattle.ab_grammar.specs.declared.Infix.TheVariants.{Arrow}
use Rattle.ab_grammar.specs.Token.{Token, word, sign, left_paren, right_paren}
use Rattle.ab_grammar.specs.Tree.{Ty, base, arrow}
use Rattle.ab_grammar.specs.Grammar.{ReadsType, named_type, grouped_type, arrow_type, looser_type, TypeText}
use Rattle.ab_grammar.proofs.Machine.{run, step_in, found, TypeFrame, type_paren, type_arrow, TypeState, type_want, type_have, TypeShut, type_shut, type_closed, type_whole, step_type_want, step_type_sign, step_type_have, type_step, type_finish, type_start}
use Rattle.ab_grammar.proofs.Runs.{then_run}

-- complete

-- behind the tokens ts the machine is as if the type A stood over gs
pub record ReachedType (gs : List TypeFrame) (ts : List Token) (l : ℕ) (A : Ty) : Type 0 where
  pub frames : List TypeFrame
  pub last : Ty
  pub runs : run type_step (Some (type_want gs)) ts ≡ Some (type_have frames last)
  pub shuts : type_shut last frames ≡ type_shut A gs
  pub single : 1 ≤ l → (frames ≡ gs) × (last ≡ A)

pub reached_type : {l : ℕ} {ts : List Token} {A : Ty} → ReadsType l ts A → (gs : List TypeFrame) → ReachedType gs ts l A
reached_type (named_type x p) gs = record { frames = gs; last = base x p; runs = refl; shuts = refl; single = λ h. (refl, refl) }
reached_type (looser_type d) gs = let r = reached_type d gs in record { frames = r.frames; last = r.last; runs = r.runs; shuts = r.shuts; single = λ h. absurd (omega arith) }
reached_type (grouped_type {ts = ts} {A = A} d) gs =
    let r = reached_type d (type_paren ∷ gs) in
    record {
      frames = gs;
      last = A;
      runs = then_run type_step (Some (type_want (type_paren ∷ gs))) ts (right_paren ∷ []) _ (r.runs) ∙ ap (λ (q : TypeShut). type_closed (q.below) (q.inner)) (r.shuts);
      shuts = refl;
      single = λ h. (refl, refl);
    }
reached_type (arrow_type {ts = ts} {us = us} {A = A} {B = B} d d2) gs =
    let r = reached_type d gs in
    let s = reached_type d2 (type_arrow A ∷ gs) in
    let one = r.single (omega arith) in
    record {
      frames = s.frames;
      last = s.last;
      runs = then_run type_step (Some (type_want gs)) ts (sign Arrow ∷ us) _ (r.runs)
          ∙ ap (λ w. run type_step (Some (type_want (type_arrow (r.last) ∷ w))) us) (one.0)
          ∙ ap (λ w. run type_step (Some (type_want (type_arrow w ∷ gs))) us) (one.1)
          ∙ s.runs;
      shuts = s.shuts;
      single = λ h. absurd (omega arith);
    }

pub reads_type : {ts : List Token} {A : Ty} → TypeText ts A → found type_finish (run type_step (Some type_start) ts) ≡ Some A
reads_type d = let r = reached_type d [] in ap (found type_finish) (r.runs) ∙ ap (λ (q : TypeShut). type_whole (q.below) (q.inner)) (r.shuts)

-- sound

-- the frames were made by these tokens
pub data UnderType : List TypeFrame → List Token → Type 0 where
  ty_start : UnderType [] []
  ty_paren : {gs : List TypeFrame} {ts : List Token} → UnderType gs ts → UnderType (type_paren ∷ gs) (ts ++ left_paren ∷ [])
  ty_arrow : {gs : List TypeFrame} {ts us : List Token} {A : Ty} → UnderType gs ts → ReadsType 1 us A → UnderType (type_arrow A ∷ gs) (ts ++ us ++ sign Arrow ∷ [])

pub data ValidType : TypeState → List Token → Type 0 where
  valid_type_want : {gs : List TypeFrame} {ts : List Token} → UnderType gs ts → ValidType (type_want gs) ts
  valid_type_have : {gs : List TypeFrame} {ts us : List Token} {A : Ty} → UnderType gs ts → ReadsType 1 us A → ValidType (type_have gs A) (ts ++ us)

abbrev pub ValidTypeIn : Option TypeState → List Token → Type 0
ValidTypeIn None ts = Unit {0}
ValidTypeIn (Some s) ts = ValidType s ts

pub data TypeShutOf : Ty → Option (List TypeFrame) → List Token → Type 0 where
  type_at_bottom : {us : List Token} {A : Ty} → TypeText us A → TypeShutOf A None us
  type_at_paren : {gs : List TypeFrame} {ts us : List Token} {A : Ty} → UnderType gs ts → TypeText us A → TypeShutOf A (Some gs) (ts ++ left_paren ∷ us)

abbrev TypeShutIn : TypeShut → List Token → Type 0
TypeShutIn s ts = TypeShutOf (s.inner) (s.below) ts

type_shut_sound : {gs : List TypeFrame} {ts us : List Token} {A : Ty} → UnderType gs ts → TypeText us A → TypeShutIn (type_shut A gs) (ts ++ us)
type_shut_sound ty_start d = type_at_bottom d
type_shut_sound {us = us} {A = A} (ty_paren {gs = gs} g) d = subst (λ (w : List Token). TypeShutOf A (Some gs) w) (simp append_assoc) (type_at_paren g d)
type_shut_sound {us = us} {A = B} (ty_arrow {gs = gs} {A = A} g a) d = subst (λ (w : List Token). TypeShutIn (type_shut (arrow A B) gs) w) (simp append_assoc) (type_shut_sound g (arrow_type a d))

type_closed_sound : {A : Ty} {q : Option (List TypeFrame)} {ts : List Token} → TypeShutOf A q ts → ValidTypeIn (type_closed q A) (ts ++ right_paren ∷ [])
type_closed_sound (type_at_bottom d) = tt
type_closed_sound {A = A} (type_at_paren {gs = gs} g d) = subst (λ (w : List Token). ValidType (type_have gs A) w) (simp append_assoc) (valid_type_have g (grouped_type d))

type_sign_sound : {gs : List TypeFrame} {ts us : List Token} {A : Ty} → UnderType gs ts → ReadsType 1 us A → (o : Infix) → ValidTypeIn (step_type_sign gs A o) ((ts ++ us) ++ sign o ∷ [])
type_sign_sound {gs = gs} {A = A} g d Arrow = subst (λ (w : List Token). ValidType (type_want (type_arrow A ∷ gs)) w) (simp append_assoc) (valid_type_want (ty_arrow g d))
type_sign_sound g d o = tt

type_want_sound : {gs : List TypeFrame} {ts : List Token} → UnderType gs ts → (k : Token) → ValidTypeIn (step_type_want gs k) (ts ++ k ∷ [])
type_want_sound g (word x p) = valid_type_have g (named_type x p)
type_want_sound g left_paren = valid_type_want (ty_paren g)
type_want_sound g k = tt

type_have_sound : {gs : List TypeFrame} {ts us : List Token} {A : Ty} → UnderType gs ts → ReadsType 1 us A → (k : Token) → ValidTypeIn (step_type_have gs A k) ((ts ++ us) ++ k ∷ [])
type_have_sound g d (sign o) = type_sign_sound g d o
type_have_sound g d right_paren = type_closed_sound (type_shut_sound g (looser_type d))
type_have_sound g d k = tt

pub type_step_sound : {s : TypeState} {ts : List Token} → ValidType s ts → (k : Token) → ValidTypeIn (type_step s k) (ts ++ k ∷ [])
type_step_sound (valid_type_want g) k = type_want_sound g k
type_step_sound (valid_type_have g d) k = type_have_sound g d k

type_step_in_sound : (s : Option TypeState) (ts : List Token) → ValidTypeIn s ts → (k : Token) → ValidTypeIn (step_in type_step s k) (ts ++ k ∷ [])
type_step_in_sound None ts d k = tt
type_step_in_sound (Some s) ts d k = type_step_sound d k

type_run_sound : (s : Option TypeState) (ts ks : List Token) → ValidTypeIn s ts → ValidTypeIn (run type_step s ks) (ts ++ ks)
type_run_sound s ts [] d = subst (λ (w : List Token). ValidTypeIn s w) (sym (append-nil ts)) d
type_run_sound s ts (k ∷ ks) d = subst (λ (w : List Token). ValidTypeIn (run type_step (step_in type_step s k) ks) w) (append_assoc ts (k ∷ []) ks) (type_run_sound (step_in type_step s k) (ts ++ k ∷ []) ks (type_step_in_sound s ts d k))

type_whole_sound : {A : Ty} {q : Option (List TypeFrame)} {ts : List Token} → TypeShutOf A q ts → (B : Ty) → type_whole q A ≡ Some B → TypeText ts B
type_whole_sound {A = A} (type_at_bottom {us = us} d) B h = let same : A ≡ B = cc in subst (λ (w : Ty). TypeText us w) same d
type_whole_sound (type_at_paren g d) B h = absurd (cc)

pub type_finish_sound : {s : TypeState} {ts : List Token} → ValidType s ts → (A : Ty) → type_finish s ≡ Some A → TypeText ts A
type_finish_sound (valid_type_want g) A e = absurd (cc)
type_finish_sound (valid_type_have g d) A e = type_whole_sound (type_shut_sound g (looser_type d)) A e

type_found_sound : (s : Option TypeState) (ts : List Token) → ValidTypeIn s ts → (A : Ty) → found type_finish s ≡ Some A → TypeText ts A
type_found_sound None ts d A e = absurd (cc)
type_found_sound (Some s) ts d A e = type_finish_sound d A e

pub accepted_type : (ts : List Token) (A : Ty) → found type_finish (run type_step (Some type_start) ts) ≡ Some A → TypeText ts A
accepted_type ts A e = type_found_sound (run type_step (Some type_start) ts) ts (type_run_sound (Some type_start) [] ts (valid_type_want ty_start)) A e

-- every state goes on to a whole type

abbrev pub type_closers : List TypeFrame → List Token
type_closers [] = []
type_closers (type_paren ∷ gs) = right_paren ∷ type_closers gs
type_closers (type_arrow A ∷ gs) = type_closers gs

type_ends : (gs : List TypeFrame) (A : Ty) (hs : List TypeFrame) (B : Ty) → type_shut B hs ≡ type_shut A gs → (C : Ty) × (found type_finish (run type_step (Some (type_have hs B)) (type_closers gs)) ≡ Some C)
type_ends [] A hs B e = (A, ap (λ (q : TypeShut). type_whole (q.below) (q.inner)) e)
type_ends (type_paren ∷ gs) A hs B e =
    let r = type_ends gs A gs A refl in
    (r.0, ap (λ (q : TypeShut). found type_finish (run type_step (type_closed (q.below) (q.inner)) (type_closers gs))) e ∙ r.1)
type_ends (type_arrow C ∷ gs) A hs B e = type_ends gs (arrow C A) hs B e

pub type_goes_on : (s : TypeState) → (rest : List Token) × (A : Ty) × (found type_finish (run type_step (Some s) rest) ≡ Some A)
type_goes_on (type_want gs) = let r = type_ends gs (base [] 0) gs (base [] 0) refl in (word [] 0 ∷ type_closers gs, r.0, r.1)
type_goes_on (type_have gs A) = let r = type_ends gs A gs A refl in (type_closers gs, r.0, r.1)
