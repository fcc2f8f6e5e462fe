-- The tokens of a shape that has all its parts are a text of the grammar, of the tree that the shape stands for.
use Rattle.std.proofs.Common.{◌≡◌, ℕ, ◌≤◌, List, [], ◌∷◌, ◌++◌, map, Bool, true, false, ◌||◌, cond, None, codes, refl, sym, ◌∙◌, ap, subst, append_assoc, append-nil, arith}
use Rattle.std.specs.Prelude.{nat_lt}
use Rattle.std.proofs.Math.Dec.{ltb}
use Rattle.ab_grammar.specs.Token.{Token, left_paren, right_paren, left_brace, right_brace, left_bracket, right_bracket, turnstile, comma}
use Rattle.ab_grammar.specs.Tree.{Tree}
use Rattle.ab_grammar.specs.Grammar.{left, right, plain, Ends, closed, free, ReadsBinders, no_binders, more_binders, plain_binder, Reads, infixed, application, pi_applied, named, true_or_false, grouped, abstracted, quantified, judged, judged_from, Args, last_arg, more_args, bare_abs, grouped_abs, Front, listed, with_focus, Items, no_items, more_items, Text}
use Rattle.ab_grammar.proofs.Table.{level_low, left_high, right_high}
use Rattle.ab_grammar.proofs.Sound.{lower}
use Rattle.ab_print.specs.Shapes.{Shape, word, truth, empty, applied, abstraction, join, bind, pi, judge, focus, marked, broken, Shapes, no_shapes, shape}
use Rattle.ab_print.specs.ShapeText.{reaches_far, level_of, is_enclosed, placed, bound, bare, arguments, context, items, part_tokens, tokens}
use Rattle.ab_print.specs.ShapeTrees.{tree_of, trees, IsFormed, AreFormed}

abbrev text : Shape → Bool → List Token
text = bare part_tokens

abbrev at : ℕ → Bool → Shape → List Token
at l last s = placed part_tokens l last s (text s)

pub level_of_low : (s : Shape) → 1 ≤ level_of s
level_of_low (join o s u) = level_low o
level_of_low (applied f ss) = omega arith
level_of_low (pi x s) = omega arith
level_of_low (marked m s) = omega arith
level_of_low (word x) = omega arith
level_of_low (truth x) = omega arith
level_of_low empty = omega arith
level_of_low (abstraction x s) = omega arith
level_of_low (bind q xs s) = omega arith
level_of_low (judge cs g) = omega arith
level_of_low (focus cs f g) = omega arith
level_of_low broken = omega arith

-- how a shape reads: to its end where nothing follows it, and before anything where it doesn't reach far
record Laid (s : Shape) : Type 0 where
  before : reaches_far s ≡ false → Reads (level_of s) closed (text s false) (tree_of s)
  last : (e : Ends) × Reads (level_of s) e (text s true) (tree_of s)

far_last : (s : Shape) → reaches_far s ≡ true → level_of s ≡ 9
far_last (abstraction x s) h = refl
far_last (bind q xs s) h = refl
far_last (join o s u) h = cc
far_last (applied f ss) h = cc
far_last (pi x s) h = cc
far_last (marked m s) h = cc
far_last (word x) h = cc
far_last (truth x) h = cc
far_last empty h = cc
far_last (judge cs g) h = cc
far_last (focus cs f g) h = cc
far_last broken h = cc

in_parentheses : {s : Shape} {l : ℕ} → Laid s → l ≤ 9 → Reads l closed (left_paren ∷ (text s true ++ right_paren ∷ [])) (tree_of s)
in_parentheses {s = s} {l = l} d h = lower l h (grouped (lower 1 (level_of_low s) d.last.1))

not_lower : (l m : ℕ) → nat_lt m l ≡ false → l ≤ m
not_lower l m h = grind (arith)

-- before anything
first_by : (s : Shape) (l : ℕ) (far lower_level : Bool) → reaches_far s ≡ far → nat_lt (level_of s) l ≡ lower_level → Laid s → l ≤ 9 → Reads l closed (at l false s) (tree_of s)
first_by s l true b p q d h = let e : is_enclosed l false s ≡ true = ap (λ (w : Bool). cond w true (nat_lt (level_of s) l)) p in
    subst (λ (w : Bool). Reads l closed (cond w (left_paren ∷ (text s (w || false) ++ right_paren ∷ [])) (text s (w || false))) (tree_of s)) (sym e) (in_parentheses d h)
first_by s l false true p q d h = let e : is_enclosed l false s ≡ true = ap (λ (w : Bool). cond w true (nat_lt (level_of s) l)) p ∙ q in
    subst (λ (w : Bool). Reads l closed (cond w (left_paren ∷ (text s (w || false) ++ right_paren ∷ [])) (text s (w || false))) (tree_of s)) (sym e) (in_parentheses d h)
first_by s l false false p q d h = let e : is_enclosed l false s ≡ false = ap (λ (w : Bool). cond w true (nat_lt (level_of s) l)) p ∙ q in
    subst (λ (w : Bool). Reads l closed (cond w (left_paren ∷ (text s (w || false) ++ right_paren ∷ [])) (text s (w || false))) (tree_of s)) (sym e) (lower l (not_lower l (level_of s) q) (d.before p))

first : {s : Shape} → (l : ℕ) → l ≤ 9 → Laid s → Reads l closed (at l false s) (tree_of s)
first {s = s} l h d = first_by s l (reaches_far s) (nat_lt (level_of s) l) refl refl d h

-- before a closing bracket or the end
last_by : (s : Shape) (l : ℕ) (far lower_level : Bool) → reaches_far s ≡ far → nat_lt (level_of s) l ≡ lower_level → Laid s → l ≤ 9 → (e : Ends) × Reads l e (at l true s) (tree_of s)
last_by s l true b p q d h = let e : is_enclosed l true s ≡ false = ap (λ (w : Bool). cond w false (nat_lt (level_of s) l)) p in
    let high : l ≤ level_of s = subst (λ (w : ℕ). l ≤ w) (sym (far_last s p)) h in
    subst (λ (w : Bool). (e : Ends) × Reads l e (cond w (left_paren ∷ (text s (w || true) ++ right_paren ∷ [])) (text s (w || true))) (tree_of s)) (sym e) (d.last.0, lower l high d.last.1)
last_by s l false true p q d h = let e : is_enclosed l true s ≡ true = ap (λ (w : Bool). cond w false (nat_lt (level_of s) l)) p ∙ q in
    subst (λ (w : Bool). (e : Ends) × Reads l e (cond w (left_paren ∷ (text s (w || true) ++ right_paren ∷ [])) (text s (w || true))) (tree_of s)) (sym e) (closed, in_parentheses d h)
last_by s l false false p q d h = let e : is_enclosed l true s ≡ false = ap (λ (w : Bool). cond w false (nat_lt (level_of s) l)) p ∙ q in
    subst (λ (w : Bool). (e : Ends) × Reads l e (cond w (left_paren ∷ (text s (w || true) ++ right_paren ∷ [])) (text s (w || true))) (tree_of s)) (sym e) (d.last.0, lower l (not_lower l (level_of s) q) d.last.1)

final : {s : Shape} → (l : ℕ) → l ≤ 9 → Laid s → (e : Ends) × Reads l e (at l true s) (tree_of s)
final {s = s} l h d = last_by s l (reaches_far s) (nat_lt (level_of s) l) refl refl d h

whole : {s : Shape} → Laid s → (e : Ends) × Reads 1 e (text s true) (tree_of s)
whole {s = s} d = (d.last.0, lower 1 (level_of_low s) d.last.1)

bound_reads : (xs : List (List ℕ)) → ReadsBinders (bound part_tokens xs) (map (λ x. plain x 0) xs)
bound_reads [] = no_binders
bound_reads (x ∷ xs) = more_binders (plain_binder x 0) (bound_reads xs)

mutual
  laid : (s : Shape) → IsFormed s → Laid s
  laid (word x) f = record { before = λ h. named x 0; last = (closed, named x 0) }
  laid (truth x) f = record { before = λ h. true_or_false x 0; last = (closed, true_or_false x 0) }
  laid empty f = record { before = λ h. named (codes "nil") 0; last = (closed, named (codes "nil") 0) }
  laid (applied x no_shapes) f = absurd (f.0 refl)
  laid (applied x (shape s ss)) f =
      let d : Laid s = laid s f.1.0 in
      record { before = λ h. application (named x 0) (before_all s d ss f.1.1); last = let r = last_all s d ss f.1.1 in (r.0, application (named x 0) r.1) }
  laid (abstraction x s) f = let r = whole (laid s f) in record { before = λ h. absurd (cc); last = (free, abstracted x 0 r.1) }
  laid (join o s u) f =
      let a = first (left o) (omega (arith, left_high o)) (laid s f.0) in
      let d : Laid u = laid u f.1 in
      let z = final (right o) (omega (arith, right_high o)) d in
      record { before = λ h. infixed o a (first (right o) (omega (arith, right_high o)) d); last = (z.0, infixed o a z.1) }
  laid (bind q [] s) f = absurd (f.0 refl)
  laid (bind q (x ∷ xs) s) f = let r = whole (laid s f.1) in record { before = λ h. absurd (cc); last = (free, quantified q 0 (bound_reads (x ∷ xs)) r.1) }
  laid (pi x s) f = let r = whole (laid s f) in record { before = λ h. pi_applied 0 (grouped_abs (bare_abs x 0 r.1)); last = (free, pi_applied 0 (bare_abs x 0 r.1)) }
  laid (judge no_shapes g) f = let r = whole (laid g f.1) in record { before = λ h. judged 0 r.1; last = (closed, judged 0 r.1) }
  laid (judge (shape c cs) g) f =
      let r = whole (laid g f.1) in
      let p = context_reads [] [] no_items c (laid c f.0.0) cs f.0.1 in
      let d = judged_from 0 p.1.1 r.1 in
      let same : left_brace 0 ∷ (p.0 ++ turnstile ∷ (text g true ++ right_brace ∷ [])) ≡ text (judge (shape c cs) g) true = ap (λ (w : List Token). left_brace 0 ∷ w) (sym (append_assoc p.0 (turnstile ∷ []) (text g true ++ right_brace ∷ [])) ∙ ap (λ (w : List Token). w ++ (text g true ++ right_brace ∷ [])) (sym p.1.0)) in
      let regroup : left_brace 0 ∷ p.0 ++ turnstile ∷ text g true ++ right_brace ∷ [] ≡ left_brace 0 ∷ (p.0 ++ turnstile ∷ (text g true ++ right_brace ∷ [])) = ap (λ (w : List Token). left_brace 0 ∷ w) (append_assoc p.0 (turnstile ∷ text g true) (right_brace ∷ [])) in
      let e = subst (λ (w : List Token). Reads 9 closed w (tree_of (judge (shape c cs) g))) (regroup ∙ same) d in
      record { before = λ h. e; last = (closed, e) }
  laid (focus cs b g) f =
      let r = whole (laid g f.2) in
      let k = whole (laid b f.1) in
      let p = items_read [] [] no_items cs f.0 in
      let d = judged_from 0 (with_focus p k.1) r.1 in
      let same : left_brace 0 ∷ (items part_tokens cs ++ left_bracket ∷ text b true ++ right_bracket ∷ []) ++ turnstile ∷ text g true ++ right_brace ∷ [] ≡ text (focus cs b g) true = simp append_assoc in
      let e = subst (λ (w : List Token). Reads 9 closed w (tree_of (focus cs b g))) same d in
      record { before = λ h. e; last = (closed, e) }
  laid (marked m s) f =
      let a = first 8 (omega arith) (laid s f) in
      let e = subst (λ (w : List Token). Reads 8 closed w (tree_of s)) (sym (append-nil (at 8 false s))) a in
      record { before = λ h. e; last = (closed, e) }
  laid broken f = absurd f

  before_all : (s : Shape) → Laid s → (ss : Shapes) → AreFormed ss → Args closed (arguments part_tokens (shape s ss) false) (tree_of s ∷ trees ss)
  before_all s d no_shapes f = subst (λ (w : List Token). Args closed w (tree_of s ∷ [])) (sym (append-nil (at 9 false s))) (last_arg (first 9 (omega arith) d))
  before_all s d (shape u ss) f = more_args (first 9 (omega arith) d) (before_all u (laid u f.0) ss f.1)

  last_all : (s : Shape) → Laid s → (ss : Shapes) → AreFormed ss → (e : Ends) × Args e (arguments part_tokens (shape s ss) true) (tree_of s ∷ trees ss)
  last_all s d no_shapes f = let r = final 9 (omega arith) d in (r.0, subst (λ (w : List Token). Args r.0 w (tree_of s ∷ [])) (sym (append-nil (at 9 true s))) (last_arg r.1))
  last_all s d (shape u ss) f = let r = last_all u (laid u f.0) ss f.1 in (r.0, more_args (first 9 (omega arith) d) r.1)

  -- what stands before the turnstile, behind the items that are read already
  context_reads : (done : List Token) (ds : List Tree) → Items done ds → (c : Shape) → Laid c → (cs : Shapes) → AreFormed cs
      → (ts : List Token) × ((done ++ context part_tokens (shape c cs) ≡ ts ++ turnstile ∷ []) × Front ts (ds ++ trees (shape c cs)) None)
  context_reads done ds i c d no_shapes f = (done ++ at 1 false c, (sym (append_assoc done (at 1 false c) (turnstile ∷ [])), listed i (first 1 (omega arith) d)))
  context_reads done ds i c d (shape b cs) f =
      let r = context_reads (done ++ at 1 false c ++ comma ∷ []) (ds ++ tree_of c ∷ []) (more_items i (first 1 (omega arith) d)) b (laid b f.0) cs f.1 in
      let same : done ++ context part_tokens (shape c (shape b cs)) ≡ (done ++ at 1 false c ++ comma ∷ []) ++ context part_tokens (shape b cs) = simp append_assoc in
      (r.0, (same ∙ r.1.0, subst (λ (w : List Tree). Front r.0 w None) (append_assoc ds (tree_of c ∷ []) (trees (shape b cs))) r.1.1))

  items_read : (done : List Token) (ds : List Tree) → Items done ds → (cs : Shapes) → AreFormed cs → Items (done ++ items part_tokens cs) (ds ++ trees cs)
  items_read done ds i no_shapes f = subst (λ (w : List Token). Items w (ds ++ [])) (sym (append-nil done)) (subst (λ (w : List Tree). Items done w) (sym (append-nil ds)) i)
  items_read done ds i (shape c cs) f =
      let r = items_read (done ++ at 1 false c ++ comma ∷ []) (ds ++ tree_of c ∷ []) (more_items i (first 1 (omega arith) (laid c f.0))) cs f.1 in
      let same : (done ++ at 1 false c ++ comma ∷ []) ++ items part_tokens cs ≡ done ++ items part_tokens (shape c cs) = simp append_assoc in
      subst (λ (w : List Token). Items w (ds ++ trees (shape c cs))) same (subst (λ (w : List Tree). Items ((done ++ at 1 false c ++ comma ∷ []) ++ items part_tokens cs) w) (append_assoc ds (tree_of c ∷ []) (trees cs)) r)

pub reads_tokens : (s : Shape) → IsFormed s → Text (tokens s) (tree_of s)
reads_tokens s f = whole (laid s f)
