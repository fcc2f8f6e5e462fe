-- The marks of a text are those of its tokens, and say its nesting.
use Rattle.std.proofs.Common.{◌≡◌, ℕ, suc, ◌+◌, List, [], ◌∷◌, ◌++◌, map, Bool, false, Option, refl, ap, sym, ◌∙◌, subst, arith}
use Rattle.std.proofs.lemmas.List.{map-append}
use Rattle.ab_grammar.specs.Token.{Token, word, backslash, quantifier, pi_word, sign, left_paren, left_brace, right_brace, left_bracket, turnstile, comma, colon}
use Rattle.ab_grammar.specs.Tree.{Ty, Tree, Binder}
use Rattle.ab_grammar.specs.Nesting.{Layer, nest, depth_of, spots, spots_from, begins_with_backslash}
use Rattle.ab_grammar.specs.Grammar.{ReadsType, named_type, grouped_type, arrow_type, looser_type, ReadsBinder, plain_binder, typed_binder, ReadsBinders, no_binders, more_binders, Ends, Reads, looser, infixed, application, pi_applied, named, true_or_false, grouped, abstracted, quantified, judged, judged_from, Args, last_arg, more_args, Abs, bare_abs, grouped_abs, Front, listed, with_focus, Items, no_items, more_items, Text, TypeText}
use Rattle.ab_language_laws.specs.NestingMarks.{Marked, free, tokens_of, type_marks, binder_marks, binders_marks, marks, args_marks, abs_marks, front_marks, items_marks, nesting, nestings, nestings_from, Alike, none, same, abstraction as alike_abstraction}
use Rattle.ab_language_laws.proofs.Going.{layer, counts, Goes, stays, step, abstraction, passes, type_passes}

-- the tokens

two : (ps qs : List Marked) (ts us : List Token) → tokens_of ps ≡ ts → tokens_of qs ≡ us → tokens_of (ps ++ qs) ≡ ts ++ us
two ps qs ts us e f = map-append (λ m. m.token) ps qs ∙ ap (λ (w : List Token). w ++ tokens_of qs) e ∙ ap (λ (w : List Token). ts ++ w) f

first : (k : Token) (ps : List Marked) (ts : List Token) → tokens_of ps ≡ ts → k ∷ tokens_of ps ≡ k ∷ ts
first k ps ts e = ap (λ (w : List Token). k ∷ w) e

pub type_tokens : {n : ℕ} {ts : List Token} {A : Ty} → (d : ReadsType n ts A) → tokens_of (type_marks d) ≡ ts
type_tokens (named_type x p) = refl
type_tokens (grouped_type d) = first left_paren _ _ (two _ _ _ _ (type_tokens d) refl)
type_tokens (arrow_type d e) = two _ _ _ _ (type_tokens d) (first (sign _) _ _ (type_tokens e))
type_tokens (looser_type d) = type_tokens d

binder_tokens : {ts : List Token} {b : Binder} → (d : ReadsBinder ts b) → tokens_of (binder_marks d) ≡ ts
binder_tokens (plain_binder x p) = refl
binder_tokens (typed_binder x p d) = ap (λ (w : List Token). left_paren ∷ word x p ∷ colon ∷ w) (two _ _ _ _ (type_tokens d) refl)

binders_tokens : {ts : List Token} {bs : List Binder} → (d : ReadsBinders ts bs) → tokens_of (binders_marks d) ≡ ts
binders_tokens no_binders = refl
binders_tokens (more_binders d ds) = two _ _ _ _ (binder_tokens d) (binders_tokens ds)

mutual
  pub text_tokens : {n : ℕ} {e : Ends} {ts : List Token} {t : Tree} → (d : Reads n e ts t) → tokens_of (marks d) ≡ ts
  text_tokens (looser d) = text_tokens d
  text_tokens (infixed o d e) = two _ _ _ _ (text_tokens d) (first (sign o) _ _ (text_tokens e))
  text_tokens (application d vs) = two _ _ _ _ (text_tokens d) (args_tokens vs)
  text_tokens (pi_applied p d) = first (pi_word p) _ _ (abs_tokens d)
  text_tokens (named x p) = refl
  text_tokens (true_or_false x p) = refl
  text_tokens (grouped d) = first left_paren _ _ (two _ _ _ _ (text_tokens d) refl)
  text_tokens (abstracted x p d) = ap (λ (w : List Token). word x p ∷ backslash ∷ w) (text_tokens d)
  text_tokens (quantified q p bs d) = first (quantifier q p) _ _ (two _ _ _ _ (binders_tokens bs) (first comma _ _ (text_tokens d)))
  text_tokens (judged p d) = first (left_brace p) _ _ (two _ _ _ _ (text_tokens d) refl)
  text_tokens (judged_from {ts = ts} {us = us} p f d) =
      two (free (left_brace p) ∷ front_marks f ++ free turnstile ∷ marks d) (free right_brace ∷ []) (left_brace p ∷ ts ++ turnstile ∷ us) (right_brace ∷ [])
      (two (free (left_brace p) ∷ front_marks f) (free turnstile ∷ marks d) (left_brace p ∷ ts) (turnstile ∷ us) (first (left_brace p) _ _ (front_tokens f)) (first turnstile _ _ (text_tokens d)))
      refl

  args_tokens : {e : Ends} {ts : List Token} {vs : List Tree} → (d : Args e ts vs) → tokens_of (args_marks d) ≡ ts
  args_tokens (last_arg d) = text_tokens d
  args_tokens (more_args d vs) = two _ _ _ _ (text_tokens d) (args_tokens vs)

  abs_tokens : {e : Ends} {ts : List Token} {t : Tree} → (d : Abs e ts t) → tokens_of (abs_marks d) ≡ ts
  abs_tokens (bare_abs x p d) = ap (λ (w : List Token). word x p ∷ backslash ∷ w) (text_tokens d)
  abs_tokens (grouped_abs d) = first left_paren _ _ (two _ _ _ _ (abs_tokens d) refl)

  front_tokens : {ts : List Token} {cs : List Tree} {f : Option Tree} → (d : Front ts cs f) → tokens_of (front_marks d) ≡ ts
  front_tokens (listed is d) = two _ _ _ _ (items_tokens is) (text_tokens d)
  front_tokens (with_focus is d) = two _ _ _ _ (two _ _ _ _ (items_tokens is) (first left_bracket _ _ (text_tokens d))) refl

  items_tokens : {ts : List Token} {cs : List Tree} → (d : Items ts cs) → tokens_of (items_marks d) ≡ ts
  items_tokens no_items = refl
  items_tokens (more_items is d) = two _ _ _ _ (two _ _ _ _ (items_tokens is) (text_tokens d)) refl

-- the nesting

depth_counts : (ls : List Layer) → nesting (counts ls) ≡ depth_of ls
depth_counts [] = refl
depth_counts (l ∷ []) = refl
depth_counts (l ∷ m ∷ ls) = ap (λ n. suc (l.count + n)) (depth_counts (m ∷ ls))

abbrev depths_from : List Layer → List Token → List ℕ
depths_from ls ts = map (λ s. s.depth) (spots_from ls ts)

not_backslash : (k : Token) → begins_with_backslash (k ∷ []) ≡ false → k ≡ backslash → ⊥
not_backslash k n e = let f = ap (λ (j : Token). begins_with_backslash (j ∷ [])) e in cc

one_more : (n : ℕ) (b : Bool) (ls : List Layer) → suc (depth_of (layer n b ∷ ls)) ≡ depth_of (layer (suc n) b ∷ ls)
one_more n b [] = refl
one_more n b (l ∷ ls) = omega arith

alike : {ls ms : List Layer} {ps : List Marked} → Goes ls ps ms → Alike (tokens_of ps) (nestings_from (counts ls) ps) (depths_from ls (tokens_of ps))
alike stays = none
alike (step {ls = ls} {ps = ps} m e n g) =
    let l : List Layer = nest ls m.token in
    let h : Alike (m.token ∷ tokens_of ps) (nesting (counts l) ∷ nestings_from (counts l) ps) (depth_of l ∷ depths_from l (tokens_of ps)) =
    subst (λ d. Alike (m.token ∷ tokens_of ps) (nesting (counts l) ∷ nestings_from (counts l) ps) (d ∷ depths_from l (tokens_of ps))) (depth_counts l) (same (nesting (counts l)) (not_backslash m.token n) (alike g)) in
    subst (λ (c : List ℕ). Alike (m.token ∷ tokens_of ps) (nesting c ∷ nestings_from c ps) (depth_of l ∷ depths_from l (tokens_of ps))) e h
alike (abstraction {ls = ls} {ps = ps} x p n g) =
    let l : List Layer = layer (suc n) false ∷ ls in
    let d : ℕ = depth_of (layer n false ∷ ls) in
    let more : suc d ≡ depth_of l = one_more n false ls in
    let h : Alike (word x p ∷ backslash ∷ tokens_of ps) (suc d ∷ suc d ∷ nestings_from (counts l) ps) (d ∷ suc d ∷ depths_from l (tokens_of ps)) = alike_abstraction x p d (alike g) in
    let k : Alike (word x p ∷ backslash ∷ tokens_of ps) (suc d ∷ suc d ∷ nestings_from (counts l) ps) (d ∷ depth_of l ∷ depths_from l (tokens_of ps)) =
    subst (λ c. Alike (word x p ∷ backslash ∷ tokens_of ps) (suc d ∷ suc d ∷ nestings_from (counts l) ps) (d ∷ c ∷ depths_from l (tokens_of ps))) more h in
    subst (λ c. Alike (word x p ∷ backslash ∷ tokens_of ps) (c ∷ c ∷ nestings_from (counts l) ps) (d ∷ depth_of l ∷ depths_from l (tokens_of ps))) (more ∙ sym (depth_counts l)) k

pub text_alike : (ts : List Token) (t : Tree) → (d : Text ts t) → Alike ts (nestings (marks d.1)) (map (λ s. s.depth) (spots ts))
text_alike ts t d = let g = passes d.1 0 [] in subst (λ (w : List Token). Alike w (nestings (marks d.1)) (map (λ s. s.depth) (spots w))) (text_tokens d.1) (alike g.1)

pub type_alike : (ts : List Token) (A : Ty) → (d : TypeText ts A) → Alike ts (nestings (type_marks d)) (map (λ s. s.depth) (spots ts))
type_alike ts A d = let g = type_passes d 0 [] in subst (λ (w : List Token). Alike w (nestings (type_marks d)) (map (λ s. s.depth) (spots w))) (type_tokens d) (alike g.1)
