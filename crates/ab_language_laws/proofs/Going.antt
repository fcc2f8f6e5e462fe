-- A text goes from what is open before it to the same behind it, by the marks and by the tokens alone.
use Rattle.std.proofs.Common.{◌≡◌, ℕ, suc, List, [], ◌∷◌, ◌++◌, map, Bool, true, false, Option, refl}
use Rattle.ab_grammar.specs.Token.{Token, word, truth, quantifier, pi_word, sign, left_paren, right_paren, left_brace, right_brace, left_bracket, right_bracket, turnstile, backslash, comma, colon}
use Rattle.ab_grammar.specs.Tree.{Ty, Tree, Binder}
use Rattle.ab_grammar.specs.declared.Infix.{Infix}
use Rattle.ab_grammar.specs.declared.Infix.TheVariants.{Arrow}
use Rattle.ab_grammar.specs.declared.Quant.{Quant}
use Rattle.ab_grammar.specs.Nesting.{Layer, nest, begins_with_backslash}
use Rattle.ab_grammar.specs.Grammar.{ReadsType, named_type, grouped_type, arrow_type, looser_type, ReadsBinder, plain_binder, typed_binder, ReadsBinders, no_binders, more_binders, Ends, Reads, looser, infixed, application, pi_applied, named, true_or_false, grouped, abstracted, quantified, judged, judged_from, Args, last_arg, more_args, Abs, bare_abs, grouped_abs, Front, listed, with_focus, Items, no_items, more_items}
use Rattle.ab_language_laws.specs.NestingMarks.{Marked, counted, free, type_marks, binder_marks, binders_marks, marks, args_marks, abs_marks, front_marks, items_marks, behind}

abbrev pub layer : ℕ → Bool → Layer
layer n b = record { count = n; naming = b }

abbrev pub counts : List Layer → List ℕ
counts = map (λ l. l.count)

-- token by token the marks say what the tokens alone say, but at an abstraction's name and its backslash together
pub data Goes : List Layer → List Marked → List Layer → Type 0 where
  stays : {ls : List Layer} → Goes ls [] ls
  step : {ls ms : List Layer} {ps : List Marked} → (m : Marked) → counts (nest ls m.token) ≡ behind (counts ls) m.token m.counts → begins_with_backslash (m.token ∷ []) ≡ false → Goes (nest ls m.token) ps ms → Goes ls (m ∷ ps) ms
  abstraction : {ls ms : List Layer} {ps : List Marked} → (x : List ℕ) (p n : ℕ) → Goes (layer (suc n) false ∷ ls) ps ms → Goes (layer n false ∷ ls) (counted (word x p) ∷ free backslash ∷ ps) ms

pub then : {ls ms ns : List Layer} {ps qs : List Marked} → Goes ls ps ms → Goes ms qs ns → Goes ls (ps ++ qs) ns
then stays h = h
then (step m e n g) h = step m e n (then g h)
then (abstraction x p n g) h = abstraction x p n (then g h)

-- from any count, with any brackets around, to another count
abbrev pub Passes : Bool → List Marked → Type 0
Passes b ps = (n : ℕ) (ls : List Layer) → (m : ℕ) × Goes (layer n b ∷ ls) ps (layer m b ∷ ls)

pub after : {b : Bool} {ps qs : List Marked} → Passes b ps → Passes b qs → Passes b (ps ++ qs)
after f g n ls = let p = f n ls in let q = g p.0 ls in (q.0, then p.1 q.1)

nothing : {b : Bool} → Passes b []
nothing n ls = (n, stays)

sign_first : {ps : List Marked} → (o : Infix) → Passes false ps → Passes false (counted (sign o) ∷ ps)
sign_first o f n ls = let p = f (suc n) ls in (p.0, step (counted (sign o)) refl refl p.1)

in_parens : {ps : List Marked} → Passes false ps → Passes false (free left_paren ∷ ps ++ free right_paren ∷ [])
in_parens f n ls = let p = f 0 (layer n false ∷ ls) in (n, step (free left_paren) refl refl (then p.1 (step (free right_paren) refl refl stays)))

in_braces : {ps : List Marked} → (r : ℕ) → Passes false ps → Passes false (free (left_brace r) ∷ ps ++ free right_brace ∷ [])
in_braces r f n ls = let p = f 0 (layer n false ∷ ls) in (n, step (free (left_brace r)) refl refl (then p.1 (step (free right_brace) refl refl stays)))

abstracts : {ps : List Marked} → (x : List ℕ) (r : ℕ) → Passes false ps → Passes false (counted (word x r) ∷ free backslash ∷ ps)
abstracts x r f n ls = let p = f (suc n) ls in (p.0, abstraction x r n p.1)

judges : {ps qs : List Marked} → (r : ℕ) → Passes false ps → Passes false qs → Passes false (free (left_brace r) ∷ ps ++ free turnstile ∷ qs ++ free right_brace ∷ [])
judges r f g n ls =
    let a = f 0 (layer n false ∷ ls) in
    let b = g a.0 (layer n false ∷ ls) in
    (n, then (then (step (free (left_brace r)) refl refl a.1) (step (free turnstile) refl refl b.1)) (step (free right_brace) refl refl stays))

focuses : {ps qs : List Marked} → Passes false ps → Passes false qs → Passes false (ps ++ free left_bracket ∷ qs ++ free right_bracket ∷ [])
focuses f g n ls =
    let a = f n ls in
    let b = g 0 (layer a.0 false ∷ ls) in
    (a.0, then (then a.1 (step (free left_bracket) refl refl b.1)) (step (free right_bracket) refl refl stays))

pub type_passes : {n : ℕ} {ts : List Token} {A : Ty} → (d : ReadsType n ts A) → Passes false (type_marks d)
type_passes (named_type x p) = λ n ls. (n, step (free (word x p)) refl refl stays)
type_passes (grouped_type d) = in_parens (type_passes d)
type_passes (arrow_type d e) = after (type_passes d) (sign_first Arrow (type_passes e))
type_passes (looser_type d) = type_passes d

binder_passes : {ts : List Token} {b : Binder} → (d : ReadsBinder ts b) → Passes true (binder_marks d)
binder_passes (plain_binder x p) = λ n ls. (suc n, step (counted (word x p)) refl refl stays)
binder_passes (typed_binder x p d) = λ n ls.
    let q = type_passes d 1 (layer n true ∷ ls) in
    (n, step (free left_paren) refl refl (step (counted (word x p)) refl refl (step (free colon) refl refl (then q.1 (step (free right_paren) refl refl stays)))))

binders_pass : {ts : List Token} {bs : List Binder} → (d : ReadsBinders ts bs) → Passes true (binders_marks d)
binders_pass no_binders = nothing
binders_pass (more_binders d ds) = after (binder_passes d) (binders_pass ds)

quantifies : {ps qs : List Marked} → (q : Quant) (r : ℕ) → Passes true ps → Passes false qs → Passes false (free (quantifier q r) ∷ ps ++ free comma ∷ qs)
quantifies q r f g n ls = let p = f n ls in let b = g p.0 ls in (b.0, step (free (quantifier q r)) refl refl (then p.1 (step (free comma) refl refl b.1)))

mutual
  pub passes : {n : ℕ} {e : Ends} {ts : List Token} {t : Tree} → (d : Reads n e ts t) → Passes false (marks d)
  passes (looser d) = passes d
  passes (infixed o d e) = after (passes d) (sign_first o (passes e))
  passes (application d vs) = after (passes d) (args_pass vs)
  passes (pi_applied p d) = λ n ls. let q = abs_passes d n ls in (q.0, step (free (pi_word p)) refl refl q.1)
  passes (named x p) = λ n ls. (n, step (free (word x p)) refl refl stays)
  passes (true_or_false x p) = λ n ls. (n, step (free (truth x p)) refl refl stays)
  passes (grouped d) = in_parens (passes d)
  passes (abstracted x p d) = abstracts x p (passes d)
  passes (quantified q p bs d) = quantifies q p (binders_pass bs) (passes d)
  passes (judged p d) = in_braces p (passes d)
  passes (judged_from p f d) = judges p (front_passes f) (passes d)

  pub args_pass : {e : Ends} {ts : List Token} {vs : List Tree} → (d : Args e ts vs) → Passes false (args_marks d)
  args_pass (last_arg d) = passes d
  args_pass (more_args d vs) = after (passes d) (args_pass vs)

  pub abs_passes : {e : Ends} {ts : List Token} {t : Tree} → (d : Abs e ts t) → Passes false (abs_marks d)
  abs_passes (bare_abs x p d) = abstracts x p (passes d)
  abs_passes (grouped_abs d) = in_parens (abs_passes d)

  pub front_passes : {ts : List Token} {cs : List Tree} {f : Option Tree} → (d : Front ts cs f) → Passes false (front_marks d)
  front_passes (listed is d) = after (items_pass is) (passes d)
  front_passes (with_focus is d) = focuses (items_pass is) (passes d)

  pub items_pass : {ts : List Token} {cs : List Tree} → (d : Items ts cs) → Passes false (items_marks d)
  items_pass no_items = nothing
  items_pass (more_items is d) = after (after (items_pass is) (passes d)) (λ n ls. (n, step (free comma) refl refl stays))
