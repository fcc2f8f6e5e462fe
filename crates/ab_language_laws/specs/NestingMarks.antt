-- Nesting, by the grammar: which tokens of a text count is said by the forms that it is made of. What counts is the name of a
-- binder or of an abstraction, a sign between operands, and an arrow of a type. The nesting at a token is the number of what
-- counts up to it in the open brackets and outside all, and of these brackets.
use Rattle.std.specs.Prelude.{◌≡◌, ℕ, Option, suc, ◌+◌, List, [], ◌∷◌, ◌++◌, map, Bool, true, false, cond}
use Rattle.ab_grammar.specs.declared.Infix.TheVariants.{Arrow}
use Rattle.ab_grammar.specs.Token.{Token, word, truth, quantifier, pi_word, sign, left_paren, right_paren, left_brace, right_brace, left_bracket, right_bracket, turnstile, backslash, comma, colon}
use Rattle.ab_grammar.specs.Tree.{Ty, Tree, Binder}
use Rattle.ab_grammar.specs.Grammar.{ReadsType, named_type, grouped_type, arrow_type, looser_type, ReadsBinder, plain_binder, typed_binder, ReadsBinders, no_binders, more_binders, Ends, Reads, looser, infixed, application, pi_applied, named, true_or_false, grouped, abstracted, quantified, judged, judged_from, Args, last_arg, more_args, Abs, bare_abs, grouped_abs, Front, listed, with_focus, Items, no_items, more_items}

-- a token, and whether it counts
pub record Marked : Type 0 where
  pub token : Token
  pub counts : Bool

abbrev pub tokens_of : List Marked → List Token
tokens_of = map (λ m. m.token)

abbrev pub counted : Token → Marked
counted k = record { token = k; counts = true }

abbrev pub free : Token → Marked
free k = record { token = k; counts = false }

abbrev pub type_marks : {n : ℕ} {ts : List Token} {A : Ty} → ReadsType n ts A → List Marked
type_marks (named_type x p) = free (word x p) ∷ []
type_marks (grouped_type d) = free left_paren ∷ type_marks d ++ free right_paren ∷ []
type_marks (arrow_type d e) = type_marks d ++ counted (sign Arrow) ∷ type_marks e
type_marks (looser_type d) = type_marks d

abbrev pub binder_marks : {ts : List Token} {b : Binder} → ReadsBinder ts b → List Marked
binder_marks (plain_binder x p) = counted (word x p) ∷ []
binder_marks (typed_binder x p d) = free left_paren ∷ counted (word x p) ∷ free colon ∷ type_marks d ++ free right_paren ∷ []

abbrev pub binders_marks : {ts : List Token} {bs : List Binder} → ReadsBinders ts bs → List Marked
binders_marks no_binders = []
binders_marks (more_binders d ds) = binder_marks d ++ binders_marks ds

abbrev mutual
  pub marks : {n : ℕ} {e : Ends} {ts : List Token} {t : Tree} → Reads n e ts t → List Marked
  marks (looser d) = marks d
  marks (infixed o d e) = marks d ++ counted (sign o) ∷ marks e
  marks (application d vs) = marks d ++ args_marks vs
  marks (pi_applied p d) = free (pi_word p) ∷ abs_marks d
  marks (named x p) = free (word x p) ∷ []
  marks (true_or_false x p) = free (truth x p) ∷ []
  marks (grouped d) = free left_paren ∷ marks d ++ free right_paren ∷ []
  marks (abstracted x p d) = counted (word x p) ∷ free backslash ∷ marks d
  marks (quantified q p bs d) = free (quantifier q p) ∷ binders_marks bs ++ free comma ∷ marks d
  marks (judged p d) = free (left_brace p) ∷ marks d ++ free right_brace ∷ []
  marks (judged_from p f d) = free (left_brace p) ∷ front_marks f ++ free turnstile ∷ marks d ++ free right_brace ∷ []

  pub args_marks : {e : Ends} {ts : List Token} {vs : List Tree} → Args e ts vs → List Marked
  args_marks (last_arg d) = marks d
  args_marks (more_args d vs) = marks d ++ args_marks vs

  pub abs_marks : {e : Ends} {ts : List Token} {t : Tree} → Abs e ts t → List Marked
  abs_marks (bare_abs x p d) = counted (word x p) ∷ free backslash ∷ marks d
  abs_marks (grouped_abs d) = free left_paren ∷ abs_marks d ++ free right_paren ∷ []

  pub front_marks : {ts : List Token} {cs : List Tree} {f : Option Tree} → Front ts cs f → List Marked
  front_marks (listed is d) = items_marks is ++ marks d
  front_marks (with_focus is d) = items_marks is ++ free left_bracket ∷ marks d ++ free right_bracket ∷ []

  pub items_marks : {ts : List Token} {cs : List Tree} → Items ts cs → List Marked
  items_marks no_items = []
  items_marks (more_items is d) = items_marks is ++ marks d ++ free comma ∷ []

-- what counts so far in each open bracket, the innermost first, and outside all; behind a token
abbrev pub closing : List ℕ → List ℕ
closing (n ∷ m ∷ ns) = m ∷ ns
closing ns = ns

abbrev pub behind : List ℕ → Token → Bool → List ℕ
behind [] k b = []
behind (n ∷ ns) left_paren b = 0 ∷ n ∷ ns
behind (n ∷ ns) (left_brace p) b = 0 ∷ n ∷ ns
behind (n ∷ ns) left_bracket b = 0 ∷ n ∷ ns
behind (n ∷ ns) right_paren b = closing (n ∷ ns)
behind (n ∷ ns) right_brace b = closing (n ∷ ns)
behind (n ∷ ns) right_bracket b = closing (n ∷ ns)
behind (n ∷ ns) k b = cond b (suc n) n ∷ ns

-- with one for each open bracket
abbrev pub nesting : List ℕ → ℕ
nesting [] = 0
nesting (n ∷ []) = n
nesting (n ∷ m ∷ ns) = suc (n + nesting (m ∷ ns))

abbrev pub nestings_from : List ℕ → List Marked → List ℕ
nestings_from ns [] = []
nestings_from ns (m ∷ ms) = nesting (behind ns m.token m.counts) ∷ nestings_from (behind ns m.token m.counts) ms

-- the nesting at each token
abbrev pub nestings : List Marked → List ℕ
nestings = nestings_from (0 ∷ [])

-- two lists of nestings of some tokens, alike but at the names of abstractions: there the first has what both have at the backslash,
-- and the second one less. No other token is a backslash.
pub data Alike : List Token → List ℕ → List ℕ → Type 0 where
  none : Alike [] [] []
  same : {k : Token} {ks : List Token} {ns ms : List ℕ} → (n : ℕ) → (k ≡ backslash → ⊥) → Alike ks ns ms → Alike (k ∷ ks) (n ∷ ns) (n ∷ ms)
  abstraction : {ks : List Token} {ns ms : List ℕ} → (x : List ℕ) (p n : ℕ) → Alike ks ns ms → Alike (word x p ∷ backslash ∷ ks) (suc n ∷ suc n ∷ ns) (n ∷ suc n ∷ ms)
