-- A tree says what its texts are but for their parentheses.
use Rattle.std.proofs.Common.{◌≡◌, ℕ, List, [], ◌∷◌, ◌++◌, Option, Some, None, refl, ap, sym, ◌∙◌, append_assoc, append-nil}
use Rattle.ab_grammar.specs.declared.Infix.TheVariants.{Arrow}
use Rattle.ab_grammar.specs.Token.{Token, word, quantifier, sign, left_paren, right_paren, left_brace, right_brace, left_bracket, right_bracket, turnstile, backslash, comma, colon}
use Rattle.ab_grammar.specs.Tree.{Ty, base, arrow, Binder, Tree, name, apply, abs, join, bind, judge, Trees, no_trees, tree, trees_of, unfocused, focused, focus_of}
use Rattle.ab_grammar.specs.Grammar.{Ends, ReadsType, named_type, grouped_type, arrow_type, looser_type, ReadsBinder, plain_binder, typed_binder, ReadsBinders, no_binders, more_binders, Reads, looser, infixed, application, pi_applied, named, true_or_false, grouped, abstracted, quantified, judged, judged_from, Args, last_arg, more_args, Abs, bare_abs, grouped_abs, Front, listed, with_focus, Items, no_items, more_items, Text}
use Rattle.ab_grammar.specs.Parentheses.{without_parentheses, spelled}

abbrev bare : List Token → List Token
bare = without_parentheses

pub bare-append : (ks js : List Token) → bare (ks ++ js) ≡ bare ks ++ bare js
bare-append [] js = refl
bare-append (left_paren ∷ ks) js = bare-append ks js
bare-append (right_paren ∷ ks) js = bare-append ks js
bare-append (k ∷ ks) js = ap (λ (w : List Token). spelled k ∷ w) (bare-append ks js)

-- the text of a tree, without parentheses
abbrev type_text : Ty → List Token
type_text (base x p) = word x p ∷ []
type_text (arrow A B) = type_text A ++ sign Arrow ∷ type_text B

abbrev typing_text : Option Ty → List Token
typing_text None = []
typing_text (Some A) = colon ∷ type_text A

abbrev binder_text : Binder → List Token
binder_text b = word b.name b.place ∷ typing_text b.type_of

abbrev binders_text : List Binder → List Token
binders_text [] = []
binders_text (b ∷ bs) = binder_text b ++ binders_text bs

abbrev mutual
  tree_text : Tree → List Token
  tree_text (name x p) = word x p ∷ []
  tree_text (apply f vs p) = tree_text f ++ args_text vs
  tree_text (abs x t p) = word x p ∷ backslash ∷ tree_text t
  tree_text (join o t u p) = tree_text t ++ sign o ∷ tree_text u
  tree_text (bind q bs t p) = quantifier q p ∷ binders_text bs ++ comma ∷ tree_text t
  tree_text (judge cs unfocused g p) = left_brace p ∷ listed_text cs ++ tree_text g ++ right_brace ∷ []
  tree_text (judge cs (focused f) g p) = left_brace p ∷ (items_text cs ++ left_bracket ∷ tree_text f ++ right_bracket ∷ turnstile ∷ []) ++ tree_text g ++ right_brace ∷ []

  args_text : Trees → List Token
  args_text no_trees = []
  args_text (tree t ts) = tree_text t ++ args_text ts

  -- items, each with its comma
  items_text : Trees → List Token
  items_text no_trees = []
  items_text (tree c cs) = tree_text c ++ comma ∷ items_text cs

  -- items with commas between, and the turnstile
  listed_text : Trees → List Token
  listed_text no_trees = []
  listed_text (tree c cs) = tree_text c ++ rest_text cs

  rest_text : Trees → List Token
  rest_text no_trees = turnstile ∷ []
  rest_text (tree c cs) = comma ∷ tree_text c ++ rest_text cs

-- what stands before a goal
abbrev front_text : Trees → Option Tree → List Token
front_text cs None = listed_text cs
front_text cs (Some f) = items_text cs ++ left_bracket ∷ tree_text f ++ right_bracket ∷ turnstile ∷ []

judge_text : (cs : Trees) (f : Option Tree) (g : Tree) (p : ℕ) → tree_text (judge cs (focus_of f) g p) ≡ left_brace p ∷ front_text cs f ++ tree_text g ++ right_brace ∷ []
judge_text cs None g p = refl
judge_text cs (Some f) g p = refl

items_snoc : (cs : List Tree) (c : Tree) → items_text (trees_of (cs ++ c ∷ [])) ≡ items_text (trees_of cs) ++ tree_text c ++ comma ∷ []
items_snoc [] c = refl
items_snoc (d ∷ cs) c = ap (λ (w : List Token). tree_text d ++ comma ∷ w) (items_snoc cs c) ∙ (let e : tree_text d ++ comma ∷ (items_text (trees_of cs) ++ tree_text c ++ comma ∷ []) ≡ (tree_text d ++ comma ∷ items_text (trees_of cs)) ++ tree_text c ++ comma ∷ [] = simp append_assoc in e)

rest_snoc : (cs : List Tree) (c : Tree) → rest_text (trees_of (cs ++ c ∷ [])) ≡ comma ∷ ((items_text (trees_of cs) ++ tree_text c) ++ turnstile ∷ [])
rest_snoc [] c = refl
rest_snoc (d ∷ cs) c =
    ap (λ (w : List Token). comma ∷ (tree_text d ++ w)) (rest_snoc cs c)
    ∙ (let e : tree_text d ++ comma ∷ ((items_text (trees_of cs) ++ tree_text c) ++ turnstile ∷ []) ≡ ((tree_text d ++ comma ∷ items_text (trees_of cs)) ++ tree_text c) ++ turnstile ∷ [] = simp append_assoc in ap (λ (w : List Token). comma ∷ w) e)

front_listed : (cs : List Tree) (c : Tree) → listed_text (trees_of (cs ++ c ∷ [])) ≡ (items_text (trees_of cs) ++ tree_text c) ++ turnstile ∷ []
front_listed [] c = refl
front_listed (d ∷ cs) c =
    ap (λ (w : List Token). tree_text d ++ w) (rest_snoc cs c)
    ∙ (let e : tree_text d ++ comma ∷ ((items_text (trees_of cs) ++ tree_text c) ++ turnstile ∷ []) ≡ ((tree_text d ++ comma ∷ items_text (trees_of cs)) ++ tree_text c) ++ turnstile ∷ [] = simp append_assoc in e)

in_parens : (ts ws : List Token) → bare ts ≡ ws → bare (left_paren ∷ ts ++ right_paren ∷ []) ≡ ws
in_parens ts ws e = bare-append ts (right_paren ∷ []) ∙ append-nil (bare ts) ∙ e

two : (ts us vs ws : List Token) → bare ts ≡ vs → bare us ≡ ws → bare (ts ++ us) ≡ vs ++ ws
two ts us vs ws e f = bare-append ts us ∙ ap (λ (w : List Token). w ++ bare us) e ∙ ap (λ (w : List Token). vs ++ w) f

bare_type : {l : ℕ} {ts : List Token} {A : Ty} → ReadsType l ts A → bare ts ≡ type_text A
bare_type (named_type x p) = refl
bare_type (grouped_type {ts = ts} {A = A} d) = in_parens ts (type_text A) (bare_type d)
bare_type (arrow_type {ts = ts} {us = us} {A = A} {B = B} d d2) = two ts (sign Arrow ∷ us) (type_text A) (sign Arrow ∷ type_text B) (bare_type d) (ap (λ (w : List Token). sign Arrow ∷ w) (bare_type d2))
bare_type (looser_type d) = bare_type d

bare_binder : {ts : List Token} {b : Binder} → ReadsBinder ts b → bare ts ≡ binder_text b
bare_binder (plain_binder x p) = refl
bare_binder (typed_binder {ts = ts} {A = A} x p d) = ap (λ (w : List Token). word x p ∷ colon ∷ w) (bare-append ts (right_paren ∷ []) ∙ append-nil (bare ts) ∙ bare_type d)

bare_binders : {ts : List Token} {bs : List Binder} → ReadsBinders ts bs → bare ts ≡ binders_text bs
bare_binders no_binders = refl
bare_binders (more_binders {ts = ts} {us = us} {b = b} {bs = bs} d ds) = two ts us (binder_text b) (binders_text bs) (bare_binder d) (bare_binders ds)

mutual
  pub bare_tree : {l : ℕ} {e : Ends} {ts : List Token} {t : Tree} → Reads l e ts t → bare ts ≡ tree_text t
  bare_tree (looser d) = bare_tree d
  bare_tree (infixed {ts = ts} {us = us} {t = t} {u = u} o d d2) = two ts (sign o ∷ us) (tree_text t) (sign o ∷ tree_text u) (bare_tree d) (ap (λ (w : List Token). sign o ∷ w) (bare_tree d2))
  bare_tree (application {ts = ts} {us = us} {f = f} {vs = vs} d ds) = two ts us (tree_text f) (args_text (trees_of vs)) (bare_tree d) (bare_args ds)
  bare_tree (pi_applied {ts = ts} {t = t} p d) = ap (λ (w : List Token). word (112 ∷ 105 ∷ []) p ∷ w) (bare_pi d ∙ sym (append-nil (tree_text t)))
  bare_tree (named x p) = refl
  bare_tree (true_or_false x p) = refl
  bare_tree (grouped {ts = ts} {t = t} d) = in_parens ts (tree_text t) (bare_tree d)
  bare_tree (abstracted x p d) = ap (λ (w : List Token). word x p ∷ backslash ∷ w) (bare_tree d)
  bare_tree (quantified {ts = ts} {us = us} {t = t} {b = b} {bs = bs} q p ds d) = ap (λ (w : List Token). quantifier q p ∷ w) (two ts (comma ∷ us) (binders_text (b ∷ bs)) (comma ∷ tree_text t) (bare_binders ds) (ap (λ (w : List Token). comma ∷ w) (bare_tree d)))
  bare_tree (judged {ts = ts} {g = g} p d) = ap (λ (w : List Token). left_brace p ∷ w) (two ts (right_brace ∷ []) (tree_text g) (right_brace ∷ []) (bare_tree d) refl)
  bare_tree (judged_from {ts = ts} {us = us} {cs = cs} {f = f} {g = g} p d d2) =
      ap (λ (w : List Token). left_brace p ∷ w)
      ((let e : (ts ++ turnstile ∷ us) ++ right_brace ∷ [] ≡ (ts ++ turnstile ∷ []) ++ (us ++ right_brace ∷ []) = simp append_assoc in ap bare e)
      ∙ two (ts ++ turnstile ∷ []) (us ++ right_brace ∷ []) (front_text (trees_of cs) f) (tree_text g ++ right_brace ∷ [])
      (bare_front d)
      (two us (right_brace ∷ []) (tree_text g) (right_brace ∷ []) (bare_tree d2) refl)
      ∙ sym (append_assoc (front_text (trees_of cs) f) (tree_text g) (right_brace ∷ [])))
      ∙ sym (judge_text (trees_of cs) f g p)

  bare_args : {e : Ends} {ts : List Token} {vs : List Tree} → Args e ts vs → bare ts ≡ args_text (trees_of vs)
  bare_args (last_arg {t = t} d) = bare_tree d ∙ sym (append-nil (tree_text t))
  bare_args (more_args {ts = ts} {us = us} {t = t} {vs = vs} d ds) = two ts us (tree_text t) (args_text (trees_of vs)) (bare_tree d) (bare_args ds)

  bare_pi : {e : Ends} {ts : List Token} {t : Tree} → Abs e ts t → bare ts ≡ tree_text t
  bare_pi (bare_abs x p d) = ap (λ (w : List Token). word x p ∷ backslash ∷ w) (bare_tree d)
  bare_pi (grouped_abs {ts = ts} {t = t} d) = in_parens ts (tree_text t) (bare_pi d)

  bare_front : {ts : List Token} {cs : List Tree} {f : Option Tree} → Front ts cs f → bare (ts ++ turnstile ∷ []) ≡ front_text (trees_of cs) f
  bare_front (listed {ts = ts} {us = us} {c = c} {cs = cs} ds d) =
      two (ts ++ us) (turnstile ∷ []) (items_text (trees_of cs) ++ tree_text c) (turnstile ∷ []) (two ts us (items_text (trees_of cs)) (tree_text c) (bare_items ds) (bare_tree d)) refl
      ∙ sym (front_listed cs c)
  bare_front (with_focus {ts = ts} {us = us} {f = f} {cs = cs} ds d) =
      (let e : ((ts ++ left_bracket ∷ us) ++ right_bracket ∷ []) ++ turnstile ∷ [] ≡ ts ++ (left_bracket ∷ us ++ right_bracket ∷ turnstile ∷ []) = simp append_assoc in ap bare e)
      ∙ two ts (left_bracket ∷ us ++ right_bracket ∷ turnstile ∷ []) (items_text (trees_of cs)) (left_bracket ∷ tree_text f ++ right_bracket ∷ turnstile ∷ []) (bare_items ds)
      (ap (λ (w : List Token). left_bracket ∷ w) (two us (right_bracket ∷ turnstile ∷ []) (tree_text f) (right_bracket ∷ turnstile ∷ []) (bare_tree d) refl))
      ∙ (let e : items_text (trees_of cs) ++ (left_bracket ∷ tree_text f ++ right_bracket ∷ turnstile ∷ []) ≡ items_text (trees_of cs) ++ left_bracket ∷ tree_text f ++ right_bracket ∷ turnstile ∷ [] = simp append_assoc in e)

  bare_items : {ts : List Token} {cs : List Tree} → Items ts cs → bare ts ≡ items_text (trees_of cs)
  bare_items no_items = refl
  bare_items (more_items {ts = ts} {us = us} {c = c} {cs = cs} ds d) =
      (let e : (ts ++ us) ++ comma ∷ [] ≡ ts ++ (us ++ comma ∷ []) = simp append_assoc in ap bare e)
      ∙ two ts (us ++ comma ∷ []) (items_text (trees_of cs)) (tree_text c ++ comma ∷ []) (bare_items ds) (two us (comma ∷ []) (tree_text c) (comma ∷ []) (bare_tree d) refl)
      ∙ (let e : items_text (trees_of cs) ++ (tree_text c ++ comma ∷ []) ≡ items_text (trees_of cs) ++ tree_text c ++ comma ∷ [] = simp append_assoc in e)
      ∙ sym (items_snoc cs c)

pub one_text : (ts us : List Token) (t : Tree) → Text ts t → Text us t → bare ts ≡ bare us
one_text ts us t (e, d) (f, d2) = bare_tree d ∙ sym (bare_tree d2)
