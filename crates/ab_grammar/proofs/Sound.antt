-- What the machine accepts is a text of the grammar, with its tree.
use Rattle.std.proofs.Common.{◌≡◌, ℕ, zero, suc, ◌+◌, ◌-◌, ◌≤◌, List, [], ◌∷◌, ◌++◌, Bool, true, false, Option, Some, None, refl, sym, subst, append_assoc, append-nil, arith}
use Rattle.std.proofs.Math.Dec.{leb}
use Rattle.std.proofs.lemmas.Bool.{leb-true}
use Rattle.ab_grammar.specs.declared.Infix.{Infix}
use Rattle.ab_grammar.specs.declared.Quant.{Quant}
use Rattle.ab_grammar.specs.Token.{Token, word, truth, quantifier, pi_word, sign, left_paren, right_paren, left_brace, right_brace, left_bracket, right_bracket, turnstile, backslash, comma, colon}
use Rattle.ab_grammar.specs.Tree.{Ty, Binder, Tree, name, abs, bind, applied, joined, judgement, pi_of}
use Rattle.ab_grammar.specs.Grammar.{level, left, right, plain, typed, Ends, closed, TypeText, ReadsBinder, plain_binder, typed_binder, ReadsBinders, no_binders, more_binders, Reads, looser, infixed, application, pi_applied, named, true_or_false, grouped, abstracted, quantified, judged, judged_from, Args, last_arg, more_args, Abs, bare_abs, grouped_abs, Front, listed, with_focus, Items, no_items, more_items, Text}
use Rattle.ab_grammar.proofs.Machine.{run, step_in, found, TypeState, type_step, type_finish, type_start, Bracket, paren, pi_paren, item_in, focus_in, goal_in, Frame, infix_at, args_at, pi_at, abs_at, bind_at, bracket_at, Bare, compound, alone, State, want, have, pi_want, pi_name, enclosed, item, focus_end, binders, binder_name, binder_colon, binder_type, binder_done, binder_on, grow, choose, pop, Below, bottom, bracket, Shut, shut, close, closing, want_in, starts, starts_operand, starts_item, bound_name, bind_body, step_have, step_enclosed, step_pi, step_pi_name, step_focus_end, step_binders, step_binder_name, step_binder_colon, step, whole_of, finish, start}
use Rattle.ab_grammar.proofs.Table.{level_low, level_high, left_high, right_high}
use Rattle.ab_grammar.proofs.Types.{ValidType, ValidTypeIn, valid_type_want, ty_start, type_step_sound, type_finish_sound}

lower_by : {e : Ends} {ts : List Token} {t : Tree} → (k l m : ℕ) → m ≡ l + k → Reads m e ts t → Reads l e ts t
lower_by {e = e} {ts = ts} {t = t} zero l m q d = let same : m ≡ l = omega arith in subst (λ (n : ℕ). Reads n e ts t) same d
lower_by {e = e} {ts = ts} {t = t} (suc k) l m q d = let same : m ≡ suc (l + k) = omega arith in lower_by k l (l + k) refl (looser (subst (λ (n : ℕ). Reads n e ts t) same d))

pub lower : {e : Ends} {ts : List Token} {t : Tree} {m : ℕ} → (l : ℕ) → l ≤ m → Reads m e ts t → Reads l e ts t
lower {m = m} l h d = lower_by (m - l) l m (omega arith) d

-- closed arguments, from the left
pub data Many : List Token → List Tree → Type 0 where
  no_args : Many [] []
  one_more : {ts us : List Token} {vs : List Tree} {t : Tree} → Many ts vs → Reads 9 closed us t → Many (ts ++ us) (vs ++ t ∷ [])

many_args : {e : Ends} {ts us : List Token} {vs ws : List Tree} → Many ts vs → Args e us ws → Args e (ts ++ us) (vs ++ ws)
many_args no_args r = r
many_args {e = e} {us = us} {ws = ws} (one_more {ts = ks} {us = js} {vs = vs} {t = t} m d) r =
    subst (λ (q : List Tree). Args e ((ks ++ js) ++ us) q) (sym (append_assoc vs (t ∷ []) ws))
    (subst (λ (q : List Token). Args e q (vs ++ t ∷ ws)) (sym (append_assoc ks js us)) (many_args m (more_args d r)))

binders_snoc : {ts us : List Token} {bs : List Binder} {b : Binder} → ReadsBinders ts bs → ReadsBinder us b → ReadsBinders (ts ++ us) (bs ++ b ∷ [])
binders_snoc {us = us} {b = b} no_binders d = subst (λ (q : List Token). ReadsBinders q (b ∷ [])) (append-nil us) (more_binders d no_binders)
binders_snoc {us = us} {b = b} (more_binders {ts = ks} {us = js} {b = c} {bs = bs} d ds) d2 =
    subst (λ (q : List Token). ReadsBinders q (c ∷ bs ++ b ∷ [])) (sym (append_assoc ks js us)) (more_binders d (binders_snoc ds d2))

-- what stands between the text before an open bracket and what is read in it
pub data Opened : Bracket → List Token → Type 0 where
  opened_paren : Opened paren (left_paren ∷ [])
  opened_item : {p : ℕ} {us : List Token} {cs : List Tree} → Items us cs → Opened (item_in p cs) (left_brace p ∷ us)
  opened_focus : {p : ℕ} {us : List Token} {cs : List Tree} → Items us cs → Opened (focus_in p cs) (left_brace p ∷ us ++ left_bracket ∷ [])
  opened_goal : {p : ℕ} {us : List Token} {cs : List Tree} {f : Option Tree} → Front us cs f → Opened (goal_in p cs f) (left_brace p ∷ us ++ turnstile ∷ [])

-- the frames were made by these tokens, and an operand of the level comes next; 10 is what pi takes
pub data Under : List Frame → ℕ → List Token → Type 0 where
  at_start : Under [] 1 []
  in_infix : {fs : List Frame} {l : ℕ} {ts us : List Token} {a : Tree} → (o : Infix) → Under fs l ts → l ≤ level o → Reads (left o) closed us a → Under (infix_at o a ∷ fs) (right o) (ts ++ us ++ sign o ∷ [])
  in_bracket : {fs : List Frame} {l : ℕ} {ts us : List Token} {b : Bracket} → Under fs l ts → l ≤ 9 → Opened b us → Under (bracket_at b ∷ fs) 1 (ts ++ us)
  in_pi : {fs : List Frame} {l : ℕ} {ts : List Token} → (p : ℕ) → Under fs l ts → l ≤ 8 → Under (pi_at p ∷ fs) 10 (ts ++ pi_word p ∷ [])
  in_pi_paren : {fs : List Frame} {l : ℕ} {ts : List Token} → Under fs l ts → l ≡ 10 → Under (bracket_at pi_paren ∷ fs) 10 (ts ++ left_paren ∷ [])
  in_abs : {fs : List Frame} {l : ℕ} {ts : List Token} → (x : List ℕ) (p : ℕ) → Under fs l ts → l ≤ 9 → Under (abs_at x p ∷ fs) 1 (ts ++ word x p ∷ backslash ∷ [])
  in_pi_abs : {fs : List Frame} {l : ℕ} {ts : List Token} → (x : List ℕ) (p : ℕ) → Under fs l ts → l ≡ 10 → Under (abs_at x p ∷ fs) 1 (ts ++ word x p ∷ backslash ∷ [])
  in_bind : {fs : List Frame} {l : ℕ} {ts us : List Token} {b : Binder} {bs : List Binder} → (q : Quant) (p : ℕ) → Under fs l ts → l ≤ 9 → ReadsBinders us (b ∷ bs) → Under (bind_at q p (b ∷ bs) ∷ fs) 1 (ts ++ quantifier q p ∷ us ++ comma ∷ [])
  in_args : {fs : List Frame} {l : ℕ} {ts us ks : List Token} {f : Tree} {vs : List Tree} → Under fs l ts → l ≤ 8 → Reads 9 closed us f → Many ks vs → Under (args_at f vs ∷ fs) 9 (ts ++ us ++ ks)

abbrev pub UnderIn : ℕ → List Token → Option (List Frame) → Type 0
UnderIn l ts None = Unit {0}
UnderIn l ts (Some fs) = Under fs l ts

choose_under : (l : ℕ) (ts : List Token) (b c : Bool) (fs : List Frame) (o : Option (List Frame)) → (b ≡ true → Under fs l ts) → (c ≡ true → UnderIn l ts o) → UnderIn l ts (choose b c fs o)
choose_under l ts true c fs o h k = h refl
choose_under l ts false true fs o h k = k refl
choose_under l ts false false fs o h k = tt

pushed : {fs : List Frame} {l m : ℕ} {ts us : List Token} {t : Tree} → (o : Infix) → Under fs l ts → l ≤ level o → left o ≤ m → Reads m closed us t → Under (infix_at o t ∷ fs) (right o) (ts ++ us ++ sign o ∷ [])
pushed o u h k d = in_infix o u h (lower (left o) k d)

pop_sound : {fs : List Frame} {l m : ℕ} {ts us : List Token} {t : Tree} → Under fs l ts → l ≤ 9 → (o : Infix) → l ≤ m → left o ≤ m → Reads m closed us t → UnderIn (right o) (ts ++ us ++ sign o ∷ []) (pop o t fs)
pop_sound at_start n o h k d = let low = level_low o in pushed o at_start (omega arith) k d
pop_sound (in_bracket u q opened_paren) n o h k d = let low = level_low o in pushed o (in_bracket u q opened_paren) (omega arith) k d
pop_sound (in_bracket u q (opened_item i)) n o h k d = let low = level_low o in pushed o (in_bracket u q (opened_item i)) (omega arith) k d
pop_sound (in_bracket u q (opened_focus i)) n o h k d = let low = level_low o in pushed o (in_bracket u q (opened_focus i)) (omega arith) k d
pop_sound (in_bracket u q (opened_goal i)) n o h k d = let low = level_low o in pushed o (in_bracket u q (opened_goal i)) (omega arith) k d
pop_sound (in_pi p u q) n o h k d = absurd (omega arith)
pop_sound (in_pi_paren u q) n o h k d = absurd (omega arith)
pop_sound (in_abs x p u q) n o h k d = let low = level_low o in pushed o (in_abs x p u q) (omega arith) k d
pop_sound (in_pi_abs x p u q) n o h k d = let low = level_low o in pushed o (in_pi_abs x p u q) (omega arith) k d
pop_sound (in_bind x p u q bs) n o h k d = let low = level_low o in pushed o (in_bind x p u q bs) (omega arith) k d
pop_sound {us = us} {t = t} (in_args {fs = fs} {ts = ts} {us = js} {ks = ks} {f = f} {vs = vs} u q c m) n o h k d =
    let high = left_high o in
    subst (λ (w : List Token). UnderIn (right o) w (pop o (applied f (vs ++ t ∷ [])) fs)) (simp append_assoc)
    (pop_sound u (omega arith) o (omega arith) high (application c (many_args m (last_arg (lower 9 h d)))))
pop_sound {us = us} {t = t} (in_infix {fs = fs} {ts = ts} {us = js} {a = a} p u q c) n o h k d =
    let high = level_high p in
    choose_under (right o) _ (leb (right p) (level o)) (leb (left o) (level p)) (infix_at o t ∷ infix_at p a ∷ fs) (pop o (joined p a t) fs)
    (λ e. pushed o (in_infix p u q c) (leb-true _ _ e) k d)
    (λ e. subst (λ (w : List Token). UnderIn (right o) w (pop o (joined p a t) fs)) (simp append_assoc)
    (pop_sound u (omega arith) o q (leb-true _ _ e) (infixed p c (lower (right p) h d))))

pop_abs : {fs : List Frame} {l : ℕ} {ts us : List Token} {t : Tree} → Under fs l ts → l ≡ 10 → (o : Infix) → Abs closed us t → UnderIn (right o) (ts ++ us ++ sign o ∷ []) (pop o t fs)
pop_abs at_start n o d = absurd (omega arith)
pop_abs (in_bracket u q b) n o d = absurd (omega arith)
pop_abs {us = us} {t = t} (in_pi {fs = fs} {ts = ts} p u q) n o d =
    let high = left_high o in
    subst (λ (w : List Token). UnderIn (right o) w (pop o (pi_of p t) fs)) (simp append_assoc) (pop_sound u (omega arith) o q high (pi_applied p d))
pop_abs (in_pi_paren u q) n o d = tt
pop_abs (in_abs x p u q) n o d = absurd (omega arith)
pop_abs (in_pi_abs x p u q) n o d = absurd (omega arith)
pop_abs (in_bind x p u q bs) n o d = absurd (omega arith)
pop_abs (in_args u q c m) n o d = absurd (omega arith)
pop_abs (in_infix p u q c) n o d = absurd (let high = right_high p in omega arith)

pub data ShutOf : Tree → Below → List Token → Type 0 where
  at_bottom : {e : Ends} {us : List Token} {t : Tree} → Reads 1 e us t → ShutOf t bottom us
  at_bracket : {e : Ends} {fs : List Frame} {l : ℕ} {ts vs us : List Token} {t : Tree} {b : Bracket} → Under fs l ts → l ≤ 9 → Opened b vs → Reads 1 e us t → ShutOf t (bracket b fs) (ts ++ vs ++ us)
  at_pi : {e : Ends} {fs : List Frame} {l : ℕ} {ts us : List Token} {t : Tree} → Under fs l ts → l ≡ 10 → Abs e us t → ShutOf t (bracket pi_paren fs) (ts ++ left_paren ∷ us)

abbrev ShutIn : Shut → List Token → Type 0
ShutIn s ts = ShutOf (s.inner) (s.below) ts

mutual
  shut_sound : {fs : List Frame} {l : ℕ} {ts : List Token} → Under fs l ts → {m : ℕ} {e : Ends} {us : List Token} {t : Tree} → l ≤ 9 → l ≤ m → Reads m e us t → ShutIn (shut t fs) (ts ++ us)
  shut_sound at_start n h d = at_bottom (lower 1 h d)
  shut_sound (in_bracket u q b) n h d = at_bracket u q b (lower 1 h d)
  shut_sound (in_pi p u q) n h d = absurd (omega arith)
  shut_sound (in_pi_paren u q) n h d = absurd (omega arith)
  shut_sound (in_abs {fs = fs} x p u q) {t = t} n h d = subst (λ (w : List Token). ShutIn (shut (abs x t p) fs) w) (simp append_assoc) (shut_sound u q q (abstracted x p (lower 1 h d)))
  shut_sound (in_pi_abs {fs = fs} x p u q) {t = t} n h d = subst (λ (w : List Token). ShutIn (shut (abs x t p) fs) w) (simp append_assoc) (shut_abs u q (bare_abs x p (lower 1 h d)))
  shut_sound (in_bind {fs = fs} {b = b} {bs = bs} q p u k ds) {t = t} n h d = subst (λ (w : List Token). ShutIn (shut (bind q (b ∷ bs) t p) fs) w) (simp append_assoc) (shut_sound u k k (quantified q p ds (lower 1 h d)))
  shut_sound (in_args {fs = fs} {f = f} {vs = vs} u q c m) {t = t} n h d =
      subst (λ (w : List Token). ShutIn (shut (applied f (vs ++ t ∷ [])) fs) w) (simp append_assoc)
      (shut_sound u (omega arith) q (application c (many_args m (last_arg (lower 9 h d)))))
  shut_sound (in_infix {fs = fs} {a = a} p u q c) {t = t} n h d =
      subst (λ (w : List Token). ShutIn (shut (joined p a t) fs) w) (simp append_assoc)
      (shut_sound u (let high = level_high p in omega arith) q (infixed p c (lower (right p) h d)))

  shut_abs : {fs : List Frame} {l : ℕ} {ts : List Token} → Under fs l ts → {e : Ends} {us : List Token} {t : Tree} → l ≡ 10 → Abs e us t → ShutIn (shut t fs) (ts ++ us)
  shut_abs at_start n d = absurd (omega arith)
  shut_abs (in_bracket u q b) n d = absurd (omega arith)
  shut_abs (in_pi {fs = fs} p u q) {t = t} n d = subst (λ (w : List Token). ShutIn (shut (pi_of p t) fs) w) (simp append_assoc) (shut_sound u (omega arith) q (pi_applied p d))
  shut_abs (in_pi_paren {fs = fs} u q) {t = t} n d = subst (λ (w : List Token). ShutOf t (bracket pi_paren fs) w) (simp append_assoc) (at_pi u q d)
  shut_abs (in_abs x p u q) n d = absurd (omega arith)
  shut_abs (in_pi_abs x p u q) n d = absurd (omega arith)
  shut_abs (in_bind q p u k ds) n d = absurd (omega arith)
  shut_abs (in_args u q c m) n d = absurd (omega arith)
  shut_abs (in_infix p u q c) n d = absurd (let high = right_high p in omega arith)

-- what the machine has read
pub data IsBare : Bare → List Token → Tree → Type 0 where
  a_name : (x : List ℕ) (p : ℕ) → IsBare (alone x p) (word x p ∷ []) (name x p)
  no_name : {ts : List Token} {t : Tree} → IsBare compound ts t

pub data Valid : State → List Token → Type 0 where
  valid_want : {fs : List Frame} {l : ℕ} {ts : List Token} → Under fs l ts → l ≤ 8 → Valid (want fs) ts
  valid_have : {b : Bare} {fs : List Frame} {l : ℕ} {ts us : List Token} {t : Tree} → Under fs l ts → l ≤ 9 → Reads 9 closed us t → IsBare b us t → Valid (have b fs t) (ts ++ us)
  valid_pi_want : {fs : List Frame} {l : ℕ} {ts : List Token} → Under fs l ts → l ≡ 10 → Valid (pi_want fs) ts
  valid_pi_name : {fs : List Frame} {l p : ℕ} {ts : List Token} {x : List ℕ} → Under fs l ts → l ≡ 10 → Valid (pi_name fs x p) (ts ++ word x p ∷ [])
  valid_enclosed : {fs : List Frame} {l : ℕ} {ts us : List Token} {t : Tree} → Under fs l ts → l ≡ 10 → Abs closed us t → Valid (enclosed fs t) (ts ++ us)
  valid_item : {fs : List Frame} {l p : ℕ} {ts us : List Token} {cs : List Tree} → Under fs l ts → l ≤ 9 → Items us cs → Valid (item fs p cs) (ts ++ left_brace p ∷ us)
  valid_focus : {e : Ends} {fs : List Frame} {l p : ℕ} {ts us vs : List Token} {cs : List Tree} {f : Tree} → Under fs l ts → l ≤ 9 → Items us cs → Reads 1 e vs f → Valid (focus_end fs p cs f) (ts ++ left_brace p ∷ us ++ left_bracket ∷ vs ++ right_bracket ∷ [])
  valid_binders : {fs : List Frame} {l p : ℕ} {q : Quant} {ts us : List Token} {bs : List Binder} → Under fs l ts → l ≤ 9 → ReadsBinders us bs → Valid (binders fs q p bs) (ts ++ quantifier q p ∷ us)
  valid_binder_name : {fs : List Frame} {l p : ℕ} {q : Quant} {ts us : List Token} {bs : List Binder} → Under fs l ts → l ≤ 9 → ReadsBinders us bs → Valid (binder_name fs q p bs) (ts ++ quantifier q p ∷ us ++ left_paren ∷ [])
  valid_binder_colon : {fs : List Frame} {l p r : ℕ} {q : Quant} {x : List ℕ} {ts us : List Token} {bs : List Binder} → Under fs l ts → l ≤ 9 → ReadsBinders us bs → Valid (binder_colon fs q p bs x r) (ts ++ quantifier q p ∷ us ++ left_paren ∷ word x r ∷ [])
  valid_binder_type : {fs : List Frame} {l p r : ℕ} {q : Quant} {x : List ℕ} {ts us vs : List Token} {bs : List Binder} {s : TypeState} → Under fs l ts → l ≤ 9 → ReadsBinders us bs → ValidType s vs → Valid (binder_type fs q p bs x r s) (ts ++ quantifier q p ∷ us ++ left_paren ∷ word x r ∷ colon ∷ vs)

abbrev pub ValidIn : Option State → List Token → Type 0
ValidIn None ts = Unit {0}
ValidIn (Some s) ts = Valid s ts

first_arg : {fs : List Frame} {l : ℕ} {ts us : List Token} {t : Tree} → Under fs l ts → l ≤ 8 → Reads 9 closed us t → Under (args_at t [] ∷ fs) 9 (ts ++ us)
first_arg {fs = fs} {ts = ts} {us = us} {t = t} u h d = subst (λ (w : List Token). Under (args_at t [] ∷ fs) 9 w) (append-nil (ts ++ us)) (in_args u h d no_args)

grow_sound : {fs : List Frame} {l : ℕ} {ts us : List Token} {t : Tree} → Under fs l ts → l ≤ 9 → Reads 9 closed us t → Under (grow fs t) 9 (ts ++ us)
grow_sound at_start n d = first_arg at_start (omega arith) d
grow_sound (in_bracket u q b) n d = first_arg (in_bracket u q b) (omega arith) d
grow_sound (in_pi p u q) n d = absurd (omega arith)
grow_sound (in_pi_paren u q) n d = absurd (omega arith)
grow_sound (in_abs x p u q) n d = first_arg (in_abs x p u q) (omega arith) d
grow_sound (in_pi_abs x p u q) n d = first_arg (in_pi_abs x p u q) (omega arith) d
grow_sound (in_bind q p u k ds) n d = first_arg (in_bind q p u k ds) (omega arith) d
grow_sound (in_infix o u q c) n d = first_arg (in_infix o u q c) (right_high o) d
grow_sound {us = us} {t = t} (in_args {fs = fs} {f = f} {vs = vs} u q c m) n d =
    subst (λ (w : List Token). Under (args_at f (vs ++ t ∷ []) ∷ fs) 9 w) (simp append_assoc) (in_args u q c (one_more m d))

starts_sound : {fs : List Frame} {l : ℕ} {ts : List Token} → Under fs l ts → l ≤ 9 → (k : Token) → ValidIn (starts fs k) (ts ++ k ∷ [])
starts_sound u h (word x p) = valid_have u h (named x p) (a_name x p)
starts_sound u h (truth x p) = valid_have u h (true_or_false x p) no_name
starts_sound u h left_paren = valid_want (in_bracket u h opened_paren) (omega arith)
starts_sound u h (left_brace p) = valid_item u h no_items
starts_sound u h (quantifier q p) = valid_binders u h no_binders
starts_sound u h k = tt

operand_sound : {fs : List Frame} {l : ℕ} {ts : List Token} → Under fs l ts → l ≤ 8 → (k : Token) → ValidIn (starts_operand fs k) (ts ++ k ∷ [])
operand_sound u h (pi_word p) = valid_pi_want (in_pi p u h) refl
operand_sound u h k = starts_sound u (omega arith) k

item_sound : (p : ℕ) → {fs : List Frame} {l : ℕ} {ts us : List Token} {cs : List Tree} → Under fs l ts → l ≤ 9 → Items us cs → (k : Token) → ValidIn (starts_item fs p cs k) ((ts ++ left_brace p ∷ us) ++ k ∷ [])
item_sound p {fs = fs} {cs = cs} u h i left_bracket = subst (λ (w : List Token). Valid (want (bracket_at (focus_in p cs) ∷ fs)) w) (simp append_assoc) (valid_want (in_bracket u h (opened_focus i)) (omega arith))
item_sound p u h i k = operand_sound (in_bracket u h (opened_item {p = p} i)) (omega arith) k

want_sound : (o : Infix) (q : Option (List Frame)) (ts : List Token) → UnderIn (right o) ts q → ValidIn (want_in q) ts
want_sound o None ts u = tt
want_sound o (Some fs) ts u = valid_want u (right_high o)

backslash_sound : {fs : List Frame} {l : ℕ} {ts us : List Token} {b : Bare} {t : Tree} → IsBare b us t → Under fs l ts → l ≤ 9 → ValidIn (bound_name b fs) ((ts ++ us) ++ backslash ∷ [])
backslash_sound {fs = fs} (a_name x p) u h = subst (λ (w : List Token). Valid (want (abs_at x p ∷ fs)) w) (simp append_assoc) (valid_want (in_abs x p u h) (omega arith))
backslash_sound no_name u h = tt

no_brace : (p : ℕ) (cs : List Tree) (c : Tree) (fs : List Frame) (t : Tree) → close (item_in p (cs ++ c ∷ [])) fs t right_brace ≡ None
no_brace p [] c fs t = refl
no_brace p (b ∷ cs) c fs t = refl

-- `{ G }`: no item before
judge_sound : (p : ℕ) → {fs : List Frame} {l : ℕ} {ts us vs : List Token} {e : Ends} {cs : List Tree} {t : Tree} → Under fs l ts → l ≤ 9 → Items vs cs → Reads 1 e us t → ValidIn (close (item_in p cs) fs t right_brace) ((ts ++ left_brace p ∷ vs ++ us) ++ right_brace ∷ [])
judge_sound p {fs = fs} {t = t} u q no_items d = subst (λ (w : List Token). Valid (have compound fs (judgement [] None t p)) w) (simp append_assoc) (valid_have u q (judged p d) no_name)
judge_sound p {fs = fs} {ts = ts} {us = us} {t = t} u q (more_items {ts = js} {us = ks} {c = c} {cs = cs} i d0) d = subst (λ (w : Option State). ValidIn w ((ts ++ left_brace p ∷ (js ++ ks ++ comma ∷ []) ++ us) ++ right_brace ∷ [])) (sym (no_brace p cs c fs t)) tt

close_sound : {t : Tree} {q : Below} {ts : List Token} → ShutOf t q ts → (k : Token) → ValidIn (closing q t k) (ts ++ k ∷ [])
close_sound (at_bottom d) k = tt
close_sound (at_pi {fs = fs} {t = t} u q d) right_paren = subst (λ (w : List Token). Valid (enclosed fs t) w) (simp append_assoc) (valid_enclosed u q (grouped_abs d))
close_sound (at_pi u q d) k = tt
close_sound (at_bracket {fs = fs} {t = t} u q opened_paren d) right_paren = subst (λ (w : List Token). Valid (have compound fs t) w) (simp append_assoc) (valid_have u q (grouped d) no_name)
close_sound (at_bracket u q opened_paren d) k = tt
close_sound (at_bracket {fs = fs} {t = t} u q (opened_item {p = p} {cs = cs} i) d) comma = subst (λ (w : List Token). Valid (item fs p (cs ++ t ∷ [])) w) (simp append_assoc) (valid_item u q (more_items i d))
close_sound (at_bracket {fs = fs} {t = t} u q (opened_item {p = p} {cs = cs} i) d) turnstile = subst (λ (w : List Token). Valid (want (bracket_at (goal_in p (cs ++ t ∷ []) None) ∷ fs)) w) (simp append_assoc) (valid_want (in_bracket u q (opened_goal (listed i d))) (omega arith))
close_sound (at_bracket {fs = fs} {t = t} u q (opened_item {p = p} i) d) right_brace = judge_sound p u q i d
close_sound (at_bracket u q (opened_item i) d) k = tt
close_sound (at_bracket {fs = fs} {t = t} u q (opened_focus {p = p} {cs = cs} i) d) right_bracket = subst (λ (w : List Token). Valid (focus_end fs p cs t) w) (simp append_assoc) (valid_focus u q i d)
close_sound (at_bracket u q (opened_focus i) d) k = tt
close_sound (at_bracket {fs = fs} {t = t} u q (opened_goal {p = p} {cs = cs} {f = f} i) d) right_brace = subst (λ (w : List Token). Valid (have compound fs (judgement cs f t p)) w) (simp append_assoc) (valid_have u q (judged_from p i d) no_name)
close_sound (at_bracket u q (opened_goal i) d) k = tt

body_sound : (q : Quant) (p : ℕ) → {fs : List Frame} {l : ℕ} {ts us : List Token} → (bs : List Binder) → Under fs l ts → l ≤ 9 → ReadsBinders us bs → ValidIn (bind_body fs q p bs) ((ts ++ quantifier q p ∷ us) ++ comma ∷ [])
body_sound q p [] u h ds = tt
body_sound q p {fs = fs} (b ∷ bs) u h ds = subst (λ (w : List Token). Valid (want (bind_at q p (b ∷ bs) ∷ fs)) w) (simp append_assoc) (valid_want (in_bind q p u h ds) (omega arith))

have_sound : {b : Bare} {fs : List Frame} {l : ℕ} {ts us : List Token} {t : Tree} → Under fs l ts → l ≤ 9 → Reads 9 closed us t → IsBare b us t → (k : Token) → ValidIn (step_have b fs t k) ((ts ++ us) ++ k ∷ [])
have_sound u h d b (word x p) = starts_sound (grow_sound u h d) (omega arith) (word x p)
have_sound u h d b (truth x p) = starts_sound (grow_sound u h d) (omega arith) (truth x p)
have_sound u h d b left_paren = starts_sound (grow_sound u h d) (omega arith) left_paren
have_sound u h d b (left_brace p) = starts_sound (grow_sound u h d) (omega arith) (left_brace p)
have_sound u h d b (quantifier q p) = starts_sound (grow_sound u h d) (omega arith) (quantifier q p)
have_sound {fs = fs} {ts = ts} {us = us} {t = t} u h d b (sign o) =
    let high = left_high o in
    want_sound o (pop o t fs) _ (subst (λ (w : List Token). UnderIn (right o) w (pop o t fs)) (simp append_assoc) (pop_sound u h o h (omega arith) d))
have_sound u h d b backslash = backslash_sound b u h
have_sound u h d b right_paren = close_sound (shut_sound u h h d) right_paren
have_sound u h d b right_brace = close_sound (shut_sound u h h d) right_brace
have_sound u h d b right_bracket = close_sound (shut_sound u h h d) right_bracket
have_sound u h d b turnstile = close_sound (shut_sound u h h d) turnstile
have_sound u h d b comma = close_sound (shut_sound u h h d) comma
have_sound u h d b k = tt

enclosed_sound : {fs : List Frame} {l : ℕ} {ts us : List Token} {t : Tree} → Under fs l ts → l ≡ 10 → Abs closed us t → (k : Token) → ValidIn (step_enclosed fs t k) ((ts ++ us) ++ k ∷ [])
enclosed_sound {fs = fs} {ts = ts} {us = us} {t = t} u h d (sign o) = want_sound o (pop o t fs) _ (subst (λ (w : List Token). UnderIn (right o) w (pop o t fs)) (simp append_assoc) (pop_abs u h o d))
enclosed_sound u h d right_paren = close_sound (shut_abs u h d) right_paren
enclosed_sound u h d right_brace = close_sound (shut_abs u h d) right_brace
enclosed_sound u h d right_bracket = close_sound (shut_abs u h d) right_bracket
enclosed_sound u h d turnstile = close_sound (shut_abs u h d) turnstile
enclosed_sound u h d comma = close_sound (shut_abs u h d) comma
enclosed_sound u h d k = tt

pi_sound : {fs : List Frame} {l : ℕ} {ts : List Token} → Under fs l ts → l ≡ 10 → (k : Token) → ValidIn (step_pi fs k) (ts ++ k ∷ [])
pi_sound u h (word x p) = valid_pi_name u h
pi_sound u h left_paren = valid_pi_want (in_pi_paren u h) refl
pi_sound u h k = tt

pi_name_sound : (x : List ℕ) (p : ℕ) → {fs : List Frame} {l : ℕ} {ts : List Token} → Under fs l ts → l ≡ 10 → (k : Token) → ValidIn (step_pi_name fs x p k) ((ts ++ word x p ∷ []) ++ k ∷ [])
pi_name_sound x p {fs = fs} u h backslash = subst (λ (w : List Token). Valid (want (abs_at x p ∷ fs)) w) (simp append_assoc) (valid_want (in_pi_abs x p u h) (omega arith))
pi_name_sound x p u h k = tt

focus_sound : (p : ℕ) → {e : Ends} {fs : List Frame} {l : ℕ} {ts us vs : List Token} {cs : List Tree} {f : Tree} → Under fs l ts → l ≤ 9 → Items us cs → Reads 1 e vs f → (k : Token) → ValidIn (step_focus_end fs p cs f k) ((ts ++ left_brace p ∷ us ++ left_bracket ∷ vs ++ right_bracket ∷ []) ++ k ∷ [])
focus_sound p {fs = fs} {cs = cs} {f = f} u h i d turnstile = subst (λ (w : List Token). Valid (want (bracket_at (goal_in p cs (Some f)) ∷ fs)) w) (simp append_assoc) (valid_want (in_bracket u h (opened_goal (with_focus i d))) (omega arith))
focus_sound p u h i d k = tt

-- in the binders of a quantifier
module _ (q : Quant) (p : ℕ) {fs : List Frame} {l : ℕ} {ts us : List Token} {bs : List Binder} (u : Under fs l ts) (h : l ≤ 9) (ds : ReadsBinders us bs) where
  binders_sound : (k : Token) → ValidIn (step_binders fs q p bs k) ((ts ++ quantifier q p ∷ us) ++ k ∷ [])
  binders_sound (word x r) = subst (λ (w : List Token). Valid (binders fs q p (bs ++ plain x r ∷ [])) w) (simp append_assoc) (valid_binders {p = p} {q = q} u h (binders_snoc ds (plain_binder x r)))
  binders_sound left_paren = subst (λ (w : List Token). Valid (binder_name fs q p bs) w) (simp append_assoc) (valid_binder_name {p = p} {q = q} u h ds)
  binders_sound comma = body_sound q p bs u h ds
  binders_sound k = tt

  binder_name_sound : (k : Token) → ValidIn (step_binder_name fs q p bs k) ((ts ++ quantifier q p ∷ us ++ left_paren ∷ []) ++ k ∷ [])
  binder_name_sound (word x r) = subst (λ (w : List Token). Valid (binder_colon fs q p bs x r) w) (simp append_assoc) (valid_binder_colon {p = p} {r = r} {q = q} {x = x} u h ds)
  binder_name_sound k = tt

  module _ (x : List ℕ) (r : ℕ) where
    binder_colon_sound : (k : Token) → ValidIn (step_binder_colon fs q p bs x r k) ((ts ++ quantifier q p ∷ us ++ left_paren ∷ word x r ∷ []) ++ k ∷ [])
    binder_colon_sound colon = subst (λ (w : List Token). Valid (binder_type fs q p bs x r type_start) w) (simp append_assoc) (valid_binder_type {p = p} {r = r} {q = q} {x = x} u h ds (valid_type_want ty_start))
    binder_colon_sound k = tt

    module _ (vs : List Token) where
      done_sound : (A : Option Ty) → ((B : Ty) → A ≡ Some B → TypeText vs B) → (k : Token) → ValidIn (binder_done fs q p bs x r A k) ((ts ++ quantifier q p ∷ us ++ left_paren ∷ word x r ∷ colon ∷ vs) ++ k ∷ [])
      done_sound None f k = tt
      done_sound (Some A) f right_paren = subst (λ (w : List Token). Valid (binders fs q p (bs ++ typed x r A ∷ [])) w) (simp append_assoc) (valid_binders {p = p} {q = q} u h (binders_snoc ds (typed_binder x r (f A refl))))
      done_sound (Some A) f k = tt

      on_sound : (m : Option TypeState) (A : Option Ty) (k : Token) → ValidTypeIn m (vs ++ k ∷ []) → ((B : Ty) → A ≡ Some B → TypeText vs B) → ValidIn (binder_on fs q p bs x r m A k) ((ts ++ quantifier q p ∷ us ++ left_paren ∷ word x r ∷ colon ∷ vs) ++ k ∷ [])
      on_sound (Some s) A k v f = subst (λ (w : List Token). Valid (binder_type fs q p bs x r s) w) (simp append_assoc) (valid_binder_type {p = p} {r = r} {q = q} {x = x} u h ds v)
      on_sound None A k v f = done_sound A f k

    type_sound : {s : TypeState} {vs : List Token} → ValidType s vs → (k : Token) → ValidIn (binder_on fs q p bs x r (type_step s k) (type_finish s) k) ((ts ++ quantifier q p ∷ us ++ left_paren ∷ word x r ∷ colon ∷ vs) ++ k ∷ [])
    type_sound {s = s} {vs = vs} v k = on_sound vs (type_step s k) (type_finish s) k (type_step_sound v k) (type_finish_sound v)

step_sound : {s : State} {ts : List Token} → Valid s ts → (k : Token) → ValidIn (step s k) (ts ++ k ∷ [])
step_sound (valid_want u h) k = operand_sound u h k
step_sound (valid_have u h d b) k = have_sound u h d b k
step_sound (valid_pi_want u h) k = pi_sound u h k
step_sound (valid_pi_name {p = p} {x = x} u h) k = pi_name_sound x p u h k
step_sound (valid_enclosed u h d) k = enclosed_sound u h d k
step_sound (valid_item {p = p} u h i) k = item_sound p u h i k
step_sound (valid_focus {p = p} u h i d) k = focus_sound p u h i d k
step_sound (valid_binders {p = p} {q = q} u h ds) k = binders_sound q p u h ds k
step_sound (valid_binder_name {p = p} {q = q} u h ds) k = binder_name_sound q p u h ds k
step_sound (valid_binder_colon {p = p} {r = r} {q = q} {x = x} u h ds) k = binder_colon_sound q p u h ds x r k
step_sound (valid_binder_type {p = p} {r = r} {q = q} {x = x} u h ds v) k = type_sound q p u h ds x r v k

state_sound : (s : Option State) (ts : List Token) → ValidIn s ts → (k : Token) → ValidIn (step_in step s k) (ts ++ k ∷ [])
state_sound None ts d k = tt
state_sound (Some s) ts d k = step_sound d k

run_sound : (s : Option State) (ts ks : List Token) → ValidIn s ts → ValidIn (run step s ks) (ts ++ ks)
run_sound s ts [] d = subst (λ (w : List Token). ValidIn s w) (sym (append-nil ts)) d
run_sound s ts (k ∷ ks) d = subst (λ (w : List Token). ValidIn (run step (step_in step s k) ks) w) (append_assoc ts (k ∷ []) ks) (run_sound (step_in step s k) (ts ++ k ∷ []) ks (state_sound s ts d k))

whole_sound : {t : Tree} {q : Below} {ts : List Token} → ShutOf t q ts → (u : Tree) → whole_of t q ≡ Some u → Text ts u
whole_sound {t = t} (at_bottom {e = e} {us = us} d) u h = let same : t ≡ u = cc in subst (λ (w : Tree). Text us w) same (e, d)
whole_sound (at_bracket v q b d) u h = absurd (cc)
whole_sound (at_pi v q d) u h = absurd (cc)

finish_sound : {s : State} {ts : List Token} → Valid s ts → (t : Tree) → finish s ≡ Some t → Text ts t
finish_sound (valid_have u h d b) t e = whole_sound (shut_sound u h h d) t e
finish_sound (valid_enclosed u h d) t e = whole_sound (shut_abs u h d) t e
finish_sound v t e = absurd (cc)

finish_in_sound : (s : Option State) (ts : List Token) → ValidIn s ts → (t : Tree) → found finish s ≡ Some t → Text ts t
finish_in_sound None ts d t e = absurd (cc)
finish_in_sound (Some s) ts d t e = finish_sound d t e

-- a tree that the machine finds is that of the text
pub accepted : (ts : List Token) (t : Tree) → found finish (run step (Some start) ts) ≡ Some t → Text ts t
accepted ts t e = finish_in_sound (run step (Some start) ts) ts (run_sound (Some start) [] ts (valid_want at_start (omega arith))) t e
