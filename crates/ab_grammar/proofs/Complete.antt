-- Each text of the grammar is read by the machine, and gives its tree.
use Rattle.std.proofs.Common.{◌≡◌, ℕ, suc, ◌≤◌, List, [], ◌∷◌, ◌++◌, Bool, true, false, Option, Some, None, refl, ap, sym, ◌∙◌, append_assoc, append-nil, arith}
use Rattle.std.proofs.Math.Dec.{leb}
use Rattle.std.proofs.lemmas.Bool.{le-leb, leb-true}
use Rattle.ab_grammar.specs.declared.Infix.{Infix}
use Rattle.ab_grammar.specs.declared.Quant.{Quant}
use Rattle.ab_grammar.specs.Token.{Token, word, truth, quantifier, pi_word, sign, left_paren, right_paren, left_brace, right_brace, left_bracket, right_bracket, turnstile, comma}
use Rattle.ab_grammar.specs.Tree.{Ty, Binder, Tree, name, applied, joined, judgement}
use Rattle.ab_grammar.specs.Grammar.{level, left, right, typed, Ends, closed, ReadsBinder, plain_binder, typed_binder, ReadsBinders, no_binders, more_binders, Reads, looser, infixed, application, pi_applied, named, true_or_false, grouped, abstracted, quantified, judged, judged_from, Args, last_arg, more_args, Abs, bare_abs, grouped_abs, Front, listed, with_focus, Items, no_items, more_items, Text}
use Rattle.ab_grammar.proofs.Machine.{run, found, TypeState, TypeShut, type_have, type_step, type_finish, type_start, type_closed, type_shut, type_whole, TypeFrame, Bracket, paren, pi_paren, item_in, focus_in, goal_in, Frame, infix_at, args_at, pi_at, abs_at, bind_at, bracket_at, Bare, compound, alone, State, want, have, pi_want, enclosed, item, binders, binder_type, binder_on, grow, choose, pop, Shut, shut, close, closing, want_in, step, whole_of, finish, start}
use Rattle.ab_grammar.proofs.Table.{level_high, left_low, right_low, left_high, not_both}
use Rattle.ab_grammar.proofs.Runs.{then_run, run_none}
use Rattle.ab_grammar.proofs.Types.{reached_type}

abbrev go : State → List Token → Option State
go s ts = run step (Some s) ts

-- an operand of level l may stand behind these frames
abbrev pub Admits : List Frame → ℕ → Type 0
Admits (infix_at p a ∷ fs) l = right p ≤ l
Admits (args_at f vs ∷ fs) l = 9 ≤ l
Admits (pi_at p ∷ fs) l = ⊥
Admits (bracket_at pi_paren ∷ fs) l = ⊥
Admits (bracket_at paren ∷ fs) l = Unit {0}
Admits (bracket_at (item_in p cs) ∷ fs) l = Unit {0}
Admits (bracket_at (focus_in p cs) ∷ fs) l = Unit {0}
Admits (bracket_at (goal_in p cs f) ∷ fs) l = Unit {0}
Admits (abs_at x p ∷ fs) l = Unit {0}
Admits (bind_at q p bs ∷ fs) l = Unit {0}
Admits [] l = Unit {0}

admits_from : (fs : List Frame) (l m : ℕ) → l ≤ m → Admits fs l → Admits fs m
admits_from (infix_at p a ∷ fs) l m q h = omega arith
admits_from (args_at f vs ∷ fs) l m q h = omega arith
admits_from (pi_at p ∷ fs) l m q h = absurd h
admits_from (bracket_at pi_paren ∷ fs) l m q h = absurd h
admits_from (bracket_at paren ∷ fs) l m q h = tt
admits_from (bracket_at (item_in p cs) ∷ fs) l m q h = tt
admits_from (bracket_at (focus_in p cs) ∷ fs) l m q h = tt
admits_from (bracket_at (goal_in p cs f) ∷ fs) l m q h = tt
admits_from (abs_at x p ∷ fs) l m q h = tt
admits_from (bind_at q' p bs ∷ fs) l m q h = tt
admits_from [] l m q h = tt

push : (o : Infix) (t : Tree) (fs : List Frame) → Admits fs (level o) → pop o t fs ≡ Some (infix_at o t ∷ fs)
push o t (infix_at p a ∷ fs) h = ap (λ b. choose b (leb (left o) (level p)) (infix_at o t ∷ infix_at p a ∷ fs) (pop o (joined p a t) fs)) (le-leb _ _ h)
push o t (args_at f vs ∷ fs) h = absurd (let b = level_high o in omega arith)
push o t (pi_at p ∷ fs) h = absurd h
push o t (bracket_at pi_paren ∷ fs) h = absurd h
push o t (bracket_at paren ∷ fs) h = refl
push o t (bracket_at (item_in p cs) ∷ fs) h = refl
push o t (bracket_at (focus_in p cs) ∷ fs) h = refl
push o t (bracket_at (goal_in p cs f) ∷ fs) h = refl
push o t (abs_at x p ∷ fs) h = refl
push o t (bind_at q p bs ∷ fs) h = refl
push o t [] h = refl

is_false : (b : Bool) → (b ≡ true → ⊥) → b ≡ false
is_false true h = absurd (h refl)
is_false false h = refl

reduce : (o p : Infix) (a t : Tree) (fs : List Frame) → left o ≤ level p → pop o t (infix_at p a ∷ fs) ≡ pop o (joined p a t) fs
reduce o p a t fs h =
    ap (λ b. choose b (leb (left o) (level p)) (infix_at o t ∷ infix_at p a ∷ fs) (pop o (joined p a t) fs)) (is_false _ (λ e. not_both o p (leb-true _ _ e) h))
    ∙ ap (λ b. choose false b (infix_at o t ∷ infix_at p a ∷ fs) (pop o (joined p a t) fs)) (le-leb _ _ h)

grow_plain : (fs : List Frame) (t : Tree) → Admits fs 8 → grow fs t ≡ args_at t [] ∷ fs
grow_plain (infix_at p a ∷ fs) t h = refl
grow_plain (args_at f vs ∷ fs) t h = absurd (omega arith)
grow_plain (pi_at p ∷ fs) t h = refl
grow_plain (bracket_at b ∷ fs) t h = refl
grow_plain (abs_at x p ∷ fs) t h = refl
grow_plain (bind_at q p bs ∷ fs) t h = refl
grow_plain [] t h = refl

-- behind an operand: with arguments to come or, behind pi, without
abbrev pub operand : Option Bare → List Frame → Tree → State
operand (Some b) fs t = have b fs t
operand None fs t = enclosed fs t

pub data Closer : Token → Type 0 where
  c_right_paren : Closer right_paren
  c_right_brace : Closer right_brace
  c_right_bracket : Closer right_bracket
  c_comma : Closer comma
  c_turnstile : Closer turnstile

pub step_sign : (m : Option Bare) (fs : List Frame) (t : Tree) (o : Infix) → step (operand m fs t) (sign o) ≡ want_in (pop o t fs)
step_sign None fs t o = refl
step_sign (Some b) fs t o = refl

pub step_close : {k : Token} → Closer k → (m : Option Bare) (fs : List Frame) (t : Tree) → step (operand m fs t) k ≡ closing ((shut t fs).below) ((shut t fs).inner) k
step_close c_right_paren None fs t = refl
step_close c_right_paren (Some b) fs t = refl
step_close c_right_brace None fs t = refl
step_close c_right_brace (Some b) fs t = refl
step_close c_right_bracket None fs t = refl
step_close c_right_bracket (Some b) fs t = refl
step_close c_comma None fs t = refl
step_close c_comma (Some b) fs t = refl
step_close c_turnstile None fs t = refl
step_close c_turnstile (Some b) fs t = refl

-- behind the tokens ts the machine, begun in the state from, is as if t stood over fs
pub record Reached (from : State) (fs : List Frame) (ts : List Token) (l : ℕ) (e : Ends) (t : Tree) : Type 0 where
  pub mode : Option Bare
  pub frames : List Frame
  pub last : Tree
  pub runs : go from ts ≡ Some (operand mode frames last)
  pub shuts : shut last frames ≡ shut t fs
  pub pops : e ≡ closed → (o : Infix) → left o ≤ l → pop o last frames ≡ pop o t fs
  pub single : e ≡ closed → 9 ≤ l → (b : Bare) × (operand mode frames last ≡ have b fs t)

-- a closer behind what was read in a bracket
closes : {from : State} {fs : List Frame} {ts : List Token} {l : ℕ} {e : Ends} {t : Tree} {b : Bracket} {k : Token} → Reached from (bracket_at b ∷ fs) ts l e t → Closer k → go from (ts ++ k ∷ []) ≡ close b fs t k
closes {from = from} {ts = ts} {k = k} r c =
    then_run step (Some from) ts (k ∷ []) (Some (operand (r.mode) (r.frames) (r.last))) (r.runs)
    ∙ step_close c (r.mode) (r.frames) (r.last)
    ∙ ap (λ (q : Shut). closing (q.below) (q.inner) k) (r.shuts)

-- what an expression can begin with
pub data Opens9 : List Token → Type 0 where
  by_word : {x : List ℕ} {p : ℕ} {ts : List Token} → Opens9 (word x p ∷ ts)
  by_truth : {x : List ℕ} {p : ℕ} {ts : List Token} → Opens9 (truth x p ∷ ts)
  by_paren : {ts : List Token} → Opens9 (left_paren ∷ ts)
  by_brace : {p : ℕ} {ts : List Token} → Opens9 (left_brace p ∷ ts)
  by_quantifier : {q : Quant} {p : ℕ} {ts : List Token} → Opens9 (quantifier q p ∷ ts)

pub data Opens : List Token → Type 0 where
  by_nine : {ts : List Token} → Opens9 ts → Opens ts
  by_pi : {p : ℕ} {ts : List Token} → Opens (pi_word p ∷ ts)

opens9_more : {ts : List Token} → Opens9 ts → (us : List Token) → Opens9 (ts ++ us)
opens9_more by_word us = by_word
opens9_more by_truth us = by_truth
opens9_more by_paren us = by_paren
opens9_more by_brace us = by_brace
opens9_more by_quantifier us = by_quantifier

opens_more : {ts : List Token} → Opens ts → (us : List Token) → Opens (ts ++ us)
opens_more (by_nine p) us = by_nine (opens9_more p us)
opens_more by_pi us = by_pi

opens : {l : ℕ} {e : Ends} {ts : List Token} {t : Tree} → Reads l e ts t → Opens ts
opens (looser d) = opens d
opens (infixed o d d2) = opens_more (opens d) _
opens (application d ds) = opens_more (opens d) _
opens (pi_applied p d) = by_pi
opens (named x p) = by_nine by_word
opens (true_or_false x p) = by_nine by_truth
opens (grouped d) = by_nine by_paren
opens (abstracted x p d) = by_nine by_word
opens (quantified q p d d2) = by_nine by_quantifier
opens (judged p d) = by_nine by_brace
opens (judged_from p d d2) = by_nine by_brace

opens9 : {l : ℕ} {e : Ends} {ts : List Token} {t : Tree} → 9 ≤ l → Reads l e ts t → Opens9 ts
opens9 h (looser d) = opens9 (omega arith) d
opens9 h (infixed o d d2) = absurd (let b = level_high o in omega arith)
opens9 h (application d ds) = absurd (omega arith)
opens9 h (pi_applied p d) = absurd (omega arith)
opens9 h (named x p) = by_word
opens9 h (true_or_false x p) = by_truth
opens9 h (grouped d) = by_paren
opens9 h (abstracted x p d) = by_word
opens9 h (quantified q p d d2) = by_quantifier
opens9 h (judged p d) = by_brace
opens9 h (judged_from p d d2) = by_brace

opens_args : {e : Ends} {ts : List Token} {vs : List Tree} → Args e ts vs → Opens9 ts
opens_args (last_arg d) = opens9 (omega arith) d
opens_args (more_args d ds) = opens9_more (opens9 (omega arith) d) _

argument : {ts : List Token} → Opens9 ts → (b : Bare) (fs : List Frame) (t : Tree) → go (have b fs t) ts ≡ go (want (grow fs t)) ts
argument by_word b fs t = refl
argument by_truth b fs t = refl
argument by_paren b fs t = refl
argument by_brace b fs t = refl
argument by_quantifier b fs t = refl

begins_item : {ts : List Token} → Opens ts → (fs : List Frame) (p : ℕ) (cs : List Tree) → go (item fs p cs) ts ≡ go (want (bracket_at (item_in p cs) ∷ fs)) ts
begins_item (by_nine by_word) fs p cs = refl
begins_item (by_nine by_truth) fs p cs = refl
begins_item (by_nine by_paren) fs p cs = refl
begins_item (by_nine by_brace) fs p cs = refl
begins_item (by_nine by_quantifier) fs p cs = refl
begins_item by_pi fs p cs = refl

-- a binder's type

module _ (fs : List Frame) (q : Quant) (p : ℕ) (bs : List Binder) (x : List ℕ) (r : ℕ) where
  abbrev in_binder : Option TypeState → Option State
  in_binder None = None
  in_binder (Some s) = Some (binder_type fs q p bs x r s)

  on_some : (m : Option TypeState) (A : Option Ty) (k : Token) → (m ≡ None → ⊥) → binder_on fs q p bs x r m A k ≡ in_binder m
  on_some None A k h = absurd (h refl)
  on_some (Some s) A k h = refl

  -- a run of the machine of types is one in the binder
  type_runs : (m : Option TypeState) (ts : List Token) (n : TypeState) → run type_step m ts ≡ Some n → run step (in_binder m) ts ≡ Some (binder_type fs q p bs x r n)
  type_runs None ts n e = let none = run_none type_step ts in absurd (cc)
  type_runs (Some s) [] n e = ap in_binder e
  type_runs (Some s) (k ∷ ts) n e =
      ap (λ w. run step w ts) (on_some (type_step s k) (type_finish s) k (λ f. let none = run_none type_step ts in let bad : run type_step None ts ≡ Some n = ap (λ w. run type_step w ts) (sym f) ∙ e in cc))
      ∙ type_runs (type_step s k) ts n e

  -- behind a whole type the binder's parenthesis closes
  type_done : (gs : List TypeFrame) (B A : Ty) → type_shut B gs ≡ type_shut A [] → step (binder_type fs q p bs x r (type_have gs B)) right_paren ≡ Some (binders fs q p (bs ++ typed x r A ∷ []))
  type_done gs B A e = ap (λ (w : TypeShut). binder_on fs q p bs x r (type_closed (w.below) (w.inner)) (type_whole (w.below) (w.inner)) right_paren) e

reads_binder : {ts : List Token} {b : Binder} → ReadsBinder ts b → (fs : List Frame) (q : Quant) (p : ℕ) (cs : List Binder) → go (binders fs q p cs) ts ≡ Some (binders fs q p (cs ++ b ∷ []))
reads_binder (plain_binder x r) fs q p cs = refl
reads_binder (typed_binder {ts = ts} {A = A} x r d) fs q p cs =
    let t = reached_type d [] in
    then_run step (Some (binder_type fs q p cs x r type_start)) ts (right_paren ∷ []) _ (type_runs fs q p cs x r (Some type_start) ts (type_have (t.frames) (t.last)) (t.runs))
    ∙ type_done fs q p cs x r (t.frames) (t.last) A (t.shuts)

reads_binders : {ts : List Token} {bs : List Binder} → ReadsBinders ts bs → (fs : List Frame) (q : Quant) (p : ℕ) (cs : List Binder) → go (binders fs q p cs) ts ≡ Some (binders fs q p (cs ++ bs))
reads_binders no_binders fs q p cs = ap (λ w. Some (binders fs q p w)) (sym (append-nil cs))
reads_binders (more_binders {ts = ts} {us = us} {b = b} {bs = bs} d ds) fs q p cs =
    then_run step (Some (binders fs q p cs)) ts us _ (reads_binder d fs q p cs)
    ∙ reads_binders ds fs q p (cs ++ b ∷ [])
    ∙ ap (λ w. Some (binders fs q p w)) (append_assoc cs (b ∷ []) bs)

mutual
  pub reached : {l : ℕ} {e : Ends} {ts : List Token} {t : Tree} → Reads l e ts t → (fs : List Frame) → Admits fs l → Reached (want fs) fs ts l e t
  reached (looser {l = l} d) fs h =
      let r = reached d fs (admits_from fs l (suc l) (omega arith) h) in
      record {
        mode = r.mode;
        frames = r.frames;
        last = r.last;
        runs = r.runs;
        shuts = r.shuts;
        pops = λ c o q. r.pops c o (omega arith);
        single = λ c q. r.single c (omega arith);
      }
  reached (infixed {ts = ts} {us = us} {t = t} {u = u} o d d2) fs h =
      let low = left_low o in
      let high = right_low o in
      let r = reached d fs (admits_from fs (level o) (left o) low h) in
      let s = reached d2 (infix_at o t ∷ fs) (omega arith) in
      record {
        mode = s.mode;
        frames = s.frames;
        last = s.last;
        runs = then_run step (Some (want fs)) ts (sign o ∷ us) _ (r.runs)
            ∙ ap (λ q. run step q us) (step_sign (r.mode) (r.frames) (r.last) o ∙ ap want_in (r.pops refl o (omega arith) ∙ push o t fs h))
            ∙ s.runs;
        shuts = s.shuts;
        pops = λ c p q. s.pops c p (omega arith) ∙ reduce p o t u fs q;
        single = λ c q. absurd (let b = level_high o in omega arith);
      }
  reached (application {ts = ts} {us = us} {f = f} d ds) fs h =
      let r = reached d fs (admits_from fs 8 9 (omega arith) h) in
      let s = reached_args ds fs f [] in
      let one = r.single refl (omega arith) in
      record {
        mode = s.mode;
        frames = s.frames;
        last = s.last;
        runs = then_run step (Some (want fs)) ts us _ (r.runs)
            ∙ ap (λ q. go q us) (one.1)
            ∙ argument (opens_args ds) (one.0) fs f
            ∙ ap (λ q. go (want q) us) (grow_plain fs f h)
            ∙ s.runs;
        shuts = s.shuts;
        pops = λ c p q. s.pops c p (left_high p);
        single = λ c q. absurd (omega arith);
      }
  reached (pi_applied p d) fs h =
      let r = reached_abs d (pi_at p ∷ fs) in
      record {
        mode = r.mode;
        frames = r.frames;
        last = r.last;
        runs = r.runs;
        shuts = r.shuts;
        pops = λ c o q. r.pops c o (left_high o);
        single = λ c q. absurd (omega arith);
      }
  reached (named x p) fs h = record { mode = Some (alone x p); frames = fs; last = name x p; runs = refl; shuts = refl; pops = λ c o q. refl; single = λ c q. (alone x p, refl) }
  reached (true_or_false x p) fs h = record { mode = Some compound; frames = fs; last = name x p; runs = refl; shuts = refl; pops = λ c o q. refl; single = λ c q. (compound, refl) }
  reached (grouped {t = t} d) fs h =
      record { mode = Some compound; frames = fs; last = t; runs = closes (reached d (bracket_at paren ∷ fs) tt) c_right_paren; shuts = refl; pops = λ c o q. refl; single = λ c q. (compound, refl) }
  reached (abstracted x p d) fs h =
      let r = reached d (abs_at x p ∷ fs) tt in
      record { mode = r.mode; frames = r.frames; last = r.last; runs = r.runs; shuts = r.shuts; pops = λ c o q. absurd (cc); single = λ c q. absurd (cc) }
  reached (quantified {ts = ts} {us = us} {b = b} {bs = bs} q p d d2) fs h =
      let r = reached d2 (bind_at q p (b ∷ bs) ∷ fs) tt in
      record {
        mode = r.mode;
        frames = r.frames;
        last = r.last;
        runs = then_run step (Some (binders fs q p [])) ts (comma ∷ us) _ (reads_binders d fs q p []) ∙ r.runs;
        shuts = r.shuts;
        pops = λ c o q. absurd (cc);
        single = λ c q. absurd (cc);
      }
  reached (judged {ts = ts} {g = g} p d) fs h =
      record {
        mode = Some compound;
        frames = fs;
        last = judgement [] None g p;
        runs = begins_item (opens_more (opens d) (right_brace ∷ [])) fs p [] ∙ closes (reached d (bracket_at (item_in p []) ∷ fs) tt) c_right_brace;
        shuts = refl;
        pops = λ c o q. refl;
        single = λ c q. (compound, refl);
      }
  reached (judged_from {ts = ts} {us = us} {cs = cs} {f = f} {g = g} p d d2) fs h =
      record {
        mode = Some compound;
        frames = fs;
        last = judgement cs f g p;
        runs = (let e : (ts ++ turnstile ∷ us) ++ right_brace ∷ [] ≡ (ts ++ turnstile ∷ []) ++ (us ++ right_brace ∷ []) = simp append_assoc in ap (go (item fs p [])) e)
            ∙ then_run step (Some (item fs p [])) (ts ++ turnstile ∷ []) (us ++ right_brace ∷ []) _ (reached_front d fs p)
            ∙ closes (reached d2 (bracket_at (goal_in p cs f) ∷ fs) tt) c_right_brace;
        shuts = refl;
        pops = λ c o q. refl;
        single = λ c q. (compound, refl);
      }

  pub reached_args : {e : Ends} {ts : List Token} {vs : List Tree} → Args e ts vs → (fs : List Frame) (f : Tree) (us : List Tree) → Reached (want (args_at f us ∷ fs)) fs ts 8 e (applied f (us ++ vs))
  reached_args (last_arg {t = t} d) fs f us =
      let r = reached d (args_at f us ∷ fs) (omega arith) in
      record {
        mode = r.mode;
        frames = r.frames;
        last = r.last;
        runs = r.runs;
        shuts = r.shuts;
        pops = λ c o q. r.pops c o (omega arith);
        single = λ c q. absurd (omega arith);
      }
  reached_args (more_args {ts = ts} {us = ks} {t = t} {vs = vs} d ds) fs f us =
      let r = reached d (args_at f us ∷ fs) (omega arith) in
      let s = reached_args ds fs f (us ++ t ∷ []) in
      let one = r.single refl (omega arith) in
      let same : applied f ((us ++ t ∷ []) ++ vs) ≡ applied f (us ++ t ∷ vs) = ap (λ ws. applied f ws) (append_assoc us (t ∷ []) vs) in
      record {
        mode = s.mode;
        frames = s.frames;
        last = s.last;
        runs = then_run step (Some (want (args_at f us ∷ fs))) ts ks _ (r.runs)
            ∙ ap (λ q. go q ks) (one.1)
            ∙ argument (opens_args ds) (one.0) (args_at f us ∷ fs) t
            ∙ s.runs;
        shuts = s.shuts ∙ ap (λ q. shut q fs) same;
        pops = λ c o q. s.pops c o q ∙ ap (λ w. pop o w fs) same;
        single = λ c q. absurd (omega arith);
      }

  pub reached_abs : {e : Ends} {ts : List Token} {t : Tree} → Abs e ts t → (fs : List Frame) → Reached (pi_want fs) fs ts 8 e t
  reached_abs (bare_abs x p d) fs =
      let r = reached d (abs_at x p ∷ fs) tt in
      record { mode = r.mode; frames = r.frames; last = r.last; runs = r.runs; shuts = r.shuts; pops = λ c o q. absurd (cc); single = λ c q. absurd (cc) }
  reached_abs (grouped_abs {t = t} d) fs =
      record { mode = None; frames = fs; last = t; runs = closes (reached_abs d (bracket_at pi_paren ∷ fs)) c_right_paren; shuts = refl; pops = λ c o q. refl; single = λ c q. absurd (omega arith) }

  -- the front of a judgement, with its turnstile
  pub reached_front : {ts : List Token} {cs : List Tree} {f : Option Tree} → Front ts cs f → (fs : List Frame) (p : ℕ) → go (item fs p []) (ts ++ turnstile ∷ []) ≡ Some (want (bracket_at (goal_in p cs f) ∷ fs))
  reached_front (listed {ts = ts} {us = us} {cs = cs} ds d) fs p =
      ap (go (item fs p [])) (append_assoc ts us (turnstile ∷ []))
      ∙ then_run step (Some (item fs p [])) ts (us ++ turnstile ∷ []) _ (reached_items ds fs p)
      ∙ begins_item (opens_more (opens d) (turnstile ∷ [])) fs p cs
      ∙ closes (reached d (bracket_at (item_in p cs) ∷ fs) tt) c_turnstile
  reached_front (with_focus {ts = ts} {us = us} {f = f} {cs = cs} ds d) fs p =
      (let e : ((ts ++ left_bracket ∷ us) ++ right_bracket ∷ []) ++ turnstile ∷ [] ≡ ts ++ ((left_bracket ∷ us ++ right_bracket ∷ []) ++ turnstile ∷ []) = simp append_assoc in ap (go (item fs p [])) e)
      ∙ then_run step (Some (item fs p [])) ts ((left_bracket ∷ us ++ right_bracket ∷ []) ++ turnstile ∷ []) _ (reached_items ds fs p)
      ∙ then_run step (Some (want (bracket_at (focus_in p cs) ∷ fs))) (us ++ right_bracket ∷ []) (turnstile ∷ []) _ (closes (reached d (bracket_at (focus_in p cs) ∷ fs) tt) c_right_bracket)

  pub reached_items : {ts : List Token} {cs : List Tree} → Items ts cs → (fs : List Frame) (p : ℕ) → go (item fs p []) ts ≡ Some (item fs p cs)
  reached_items no_items fs p = refl
  reached_items (more_items {ts = ts} {us = us} {c = c} {cs = cs} ds d) fs p =
      ap (go (item fs p [])) (append_assoc ts us (comma ∷ []))
      ∙ then_run step (Some (item fs p [])) ts (us ++ comma ∷ []) _ (reached_items ds fs p)
      ∙ begins_item (opens_more (opens d) (comma ∷ [])) fs p cs
      ∙ closes (reached d (bracket_at (item_in p cs) ∷ fs) tt) c_comma

pub finish_operand : (m : Option Bare) (fs : List Frame) (t : Tree) → finish (operand m fs t) ≡ whole_of ((shut t fs).inner) ((shut t fs).below)
finish_operand None fs t = refl
finish_operand (Some b) fs t = refl

-- the machine finds the tree of each text
pub reads_text : {ts : List Token} {t : Tree} → Text ts t → found finish (go start ts) ≡ Some t
reads_text (e, d) =
    let r = reached d [] tt in
    ap (found finish) (r.runs) ∙ finish_operand (r.mode) (r.frames) (r.last) ∙ ap (λ (q : Shut). whole_of (q.inner) (q.below)) (r.shuts)

-- one tree for each text
pub unique : {ts : List Token} {t u : Tree} → Text ts t → Text ts u → t ≡ u
unique a b = let p = reads_text a in let q = reads_text b in cc
