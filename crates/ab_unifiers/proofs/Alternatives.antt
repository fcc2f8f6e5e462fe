-- The alternatives of an atom, with other numbers.
use Rattle.std.proofs.Common.{◌≡◌, ℕ, suc, ◌+◌, ◌≤◌, List, [], ◌∷◌, ◌++◌, map, length, true, Some, refl, sym, ◌∙◌, ap, subst, arith, append_assoc, append-nil, length-append}
use Rattle.std.proofs.lemmas.List.{length-map}
use Rattle.ab_term.specs.Types.{Ty, kind, arrow}
use Rattle.ab_term.specs.Terms.{Nominal, Variable, constant, nominal, variable, Term, lam, spine, Terms, no_terms, term}
use Rattle.ab_term.specs.Expansion.{expansion_of, expansion}
use Rattle.ab_term.specs.Translation.{translate_variable, translate, translate_all}
use Rattle.ab_term.specs.Names.{support_of_all}
use Rattle.ab_term.specs.Variables.{Substitution, variables, variables_of_all, value_in, image, image_all}
use Rattle.ab_term.specs.Sameness.{same_number}
use Rattle.ab_term.specs.Abstraction.{over, name_terms, given_names}
use Rattle.ab_term.proofs.Lists.{All-from_contains}
use Rattle.ab_term.proofs.Translations.{map-append, translate-expansion, translate-expansion_of, support-translate}
use Rattle.ab_term.proofs.ImageTranslations.{translate-image}
use Rattle.ab_unifiers.specs.Replacements.{Cell, made, holds}
use Rattle.ab_unifiers.specs.Unifiers.{keys}
use Rattle.ab_unifiers.proofs.Agreeing.{contains_holds, holds_front}
use Rattle.ab_unifiers.specs.Clauses.{Clause, numbered, clause_variables, clause_names, put_together, name_term, filled, Within}
use Rattle.ab_unifiers.specs.Choices.{in_order, outside}
use Rattle.ab_unifiers.specs.Alternatives.{Scope, Alternative, cells_over, made_over, made_terms, arguments_equal, cells_of, atom_constants, unchosen, alternative_with, analysed, Side, on_left, on_right, alternative}
use Rattle.ab_unifiers.specs.Renumbering.{renumbered_equation, renumbered_pairs, IsRenumbering}
use Rattle.ab_unifiers.proofs.Changes.{agreeing, extended, made_moved}
use Rattle.ab_unifiers.proofs.RenumberedAnswers.{values_renumbered, put_moved, all_put_moved, value_given}

-- the clause's head and body hold its own variables, and this is a constant for each of its names
pub record IsChosen {Hint : Type 0} (c : Clause Hint) (ns : List Nominal) : Type 0 where
  pub head : Within (variables_of_all c.arguments) (clause_variables c ++ clause_names c)
  pub body : Within (variables c.body) (clause_variables c)
  pub names : length ns ≡ length c.names

module _ {Hint : Type 0} where
  arguments_of : Term ℕ Hint → Terms ℕ Hint
  arguments_of (lam A x t) = no_terms
  arguments_of (spine h ts) = ts

  arguments_are : (ts : Terms ℕ Hint) → arguments_of (spine (constant []) ts) ≡ ts
  unfolding arguments_of
  arguments_are ts = refl

  numbered_length : (n : ℕ) (cs : List (Cell Hint)) → length (numbered n cs) ≡ length cs
  numbered_length n [] = refl
  numbered_length n (c ∷ cs) = ap suc (numbered_length (suc n) cs)

  made_length : (x : Hint) (n : ℕ) (ns : List Nominal) (cs : List (Cell Hint)) → length (made_terms x n ns cs) ≡ length cs
  made_length x n ns [] = refl
  made_length x n ns (c ∷ cs) = ap suc (made_length x (suc n) ns cs)

  keys_together : (ys : List (Variable ℕ)) (ts : List (Term ℕ Hint)) → length ts ≡ length ys → keys (put_together ys ts) ≡ ys
  keys_together [] ts e = refl
  keys_together (y ∷ ys) [] e = absurd (cc)
  keys_together (y ∷ ys) (t ∷ ts) e =
      let rest : length ts ≡ length ys = omega (arith, e) in
      ap (λ l. y ∷ l) (keys_together ys ts rest)

  names_length : (x : Hint) (ns : List Nominal) → length (map (name_term {Hint = Hint} x) ns) ≡ length ns
  names_length x [] = refl
  names_length x (a ∷ ns) = ap suc (names_length x ns)

  keys_filled : (x : Hint) (c : Clause Hint) (us : List (Term ℕ Hint)) (ns : List Nominal) → length us ≡ length c.variables → length ns ≡ length c.names → keys (filled x c us ns) ≡ clause_variables c ++ clause_names c
  keys_filled x c us ns e d =
      map-append (λ p. p.0) (put_together (clause_variables c) us) (put_together (clause_names c) (map (name_term x) ns))
      ∙ ap (λ l. l ++ keys (put_together (clause_names c) (map (name_term x) ns))) (keys_together (clause_variables c) us (e ∙ sym (numbered_length 0 c.variables)))
      ∙ ap (λ l. clause_variables c ++ l)
      (keys_together (clause_names c) (map (name_term x) ns) (names_length x ns ∙ d ∙ sym (numbered_length (length c.variables) c.names)))

module _ (f : ℕ → ℕ) {Hint : Type 0} (x : Hint) where
  abbrev V : Variable ℕ → Variable ℕ
  V = translate_variable f

  abbrev T : Term ℕ Hint → Term ℕ Hint
  T = translate f (λ x. x)

  abbrev Ts : Terms ℕ Hint → Terms ℕ Hint
  Ts = translate_all f (λ x. x)

  -- the numbers from n on become those from m on
  abbrev GoOn : ℕ → ℕ → Type 0
  GoOn n m = (k : ℕ) → f (n + k) ≡ m + k

  at_once : (n m : ℕ) → GoOn n m → f n ≡ m
  at_once n m on =
      let before : n ≡ n + 0 = omega arith in
      let behind : m + 0 ≡ m = omega arith in
      ap f before ∙ on 0 ∙ behind

  one_on : (n m : ℕ) → GoOn n m → GoOn (suc n) (suc m)
  one_on n m on k =
      let before : suc n + k ≡ n + (1 + k) = omega arith in
      let behind : m + (1 + k) ≡ suc m + k = omega arith in
      ap f before ∙ on (1 + k) ∙ behind

  numbered_moved : (n m : ℕ) (cs : List (Cell Hint)) → GoOn n m → map V (numbered n cs) ≡ numbered m cs
  numbered_moved n m [] on = refl
  numbered_moved n m (c ∷ cs) on =
      ap (λ i. record { name = i; type = c.type } ∷ map V (numbered (suc n) cs)) (at_once n m on)
      ∙ ap (λ l. record { name = m; type = c.type } ∷ l) (numbered_moved (suc n) (suc m) cs (one_on n m on))

  name_terms_moved : (A : Ty) (ns : List Nominal) → Ts (name_terms x A (map nominal ns)) ≡ name_terms x A (map nominal ns)
  name_terms_moved A [] = refl
  name_terms_moved (kind k) (a ∷ ns) = refl
  name_terms_moved (arrow A B) (a ∷ ns) =
      ap (λ t. term t (Ts (name_terms x B (map nominal ns)))) (translate-expansion f (λ x. x) x A (nominal a))
      ∙ ap (term (expansion x A (nominal a))) (name_terms_moved B ns)

  given_moved : (z : Variable ℕ) (ns : List Nominal) (A : Ty) → T (given_names x z ns A) ≡ given_names x (V z) ns A
  given_moved z ns A =
      translate-expansion_of f (λ x. x) x A (variable z) (name_terms x z.type (map nominal ns))
      ∙ ap (expansion_of x A (variable (V z))) (name_terms_moved z.type ns)

  made_terms_moved : (n m : ℕ) (ns : List Nominal) (cs : List (Cell Hint)) → GoOn n m → map T (made_terms x n ns cs) ≡ made_terms x m ns cs
  made_terms_moved n m ns [] on = refl
  made_terms_moved n m ns (c ∷ cs) on =
      ap (λ t. t ∷ map T (made_terms x (suc n) ns cs)) (given_moved (record { name = n; type = over ns c.type }) ns c.type)
      ∙ ap (λ i. given_names x (record { name = i; type = over ns c.type }) ns c.type ∷ map T (made_terms x (suc n) ns cs)) (at_once n m on)
      ∙ ap (λ l. given_names x (record { name = m; type = over ns c.type }) ns c.type ∷ l) (made_terms_moved (suc n) (suc m) ns cs (one_on n m on))

  equal_moved : (p : ℕ) (ts us : Terms ℕ Hint) → map (renumbered_equation f) (arguments_equal x p ts us) ≡ arguments_equal x p (Ts ts) (Ts us)
  equal_moved p no_terms us = refl
  equal_moved p (term t ts) no_terms = refl
  equal_moved p (term t ts) (term u us) = ap (λ l. record { place = p; left = T t; right = T u } ∷ l) (equal_moved (suc p) ts us)

  together_moved : (ys : List (Variable ℕ)) (ts : List (Term ℕ Hint)) → renumbered_pairs f (put_together ys ts) ≡ put_together (map V ys) (map T ts)
  together_moved [] ts = refl
  together_moved (y ∷ ys) [] = refl
  together_moved (y ∷ ys) (t ∷ ts) = ap (λ l. (V y, T t) ∷ l) (together_moved ys ts)

  values_together : (ys : List (Variable ℕ)) (ts : List (Term ℕ Hint)) → values_renumbered f (put_together ys ts) ≡ put_together ys (map T ts)
  values_together [] ts = refl
  values_together (y ∷ ys) [] = refl
  values_together (y ∷ ys) (t ∷ ts) = ap (λ l. (y, T t) ∷ l) (values_together ys ts)

  names_moved : (ns : List Nominal) → map T (map (name_term x) ns) ≡ map (name_term x) ns
  names_moved [] = refl
  names_moved (a ∷ ns) = ap (λ t. t ∷ map T (map (name_term x) ns)) (translate-expansion f (λ x. x) x a.type (nominal a)) ∙ ap (λ l. name_term x a ∷ l) (names_moved ns)

  filled_moved : (c : Clause Hint) (us : List (Term ℕ Hint)) (ns : List Nominal) → values_renumbered f (filled x c us ns) ≡ filled x c (map T us) ns
  filled_moved c us ns =
      map-append (λ p. (p.0, T p.1)) (put_together (clause_variables c) us) (put_together (clause_names c) (map (name_term x) ns))
      ∙ ap (λ l. l ++ values_renumbered f (put_together (clause_names c) (map (name_term x) ns))) (values_together (clause_variables c) us)
      ∙ ap (λ l. put_together (clause_variables c) (map T us) ++ l)
      (values_together (clause_names c) (map (name_term x) ns) ∙ ap (put_together (clause_names c)) (names_moved ns))

  -- WHAT IS PUT IN FOR A CLAUSE
  module _ (c : Clause Hint) (us : List (Term ℕ Hint)) (ns : List Nominal) (long : length us ≡ length c.variables) (well : IsChosen c ns) where
    abbrev S : Substitution ℕ Hint
    S = filled x c us ns

    abbrev R : Substitution ℕ Hint
    R = filled x c (map T us) ns

    abbrev IsGiven : Variable ℕ → Type 0
    IsGiven y = (u : Term ℕ Hint) × (value_in same_number S y ≡ Some u) × (value_in same_number R y ≡ Some (T u))

    is_given : (y : Variable ℕ) → holds (clause_variables c ++ clause_names c) y ≡ true → IsGiven y
    is_given y h =
        let w = value_given f S y (ap (λ l. holds l y) (keys_filled x c us ns long well.names) ∙ h) in
        (w.0, w.1, ap (λ s. value_in same_number s y) (sym (filled_moved c us ns)) ∙ w.2)

    arguments_put : Ts (image_all same_number S c.arguments) ≡ image_all same_number R c.arguments
    arguments_put =
        all_put_moved f (value_in same_number S) (value_in same_number R) c.arguments
        (All-from_contains IsGiven (variables_of_all c.arguments) (λ y m. is_given y (well.head y (contains_holds (variables_of_all c.arguments) y m))))

    body_put : T (image same_number S c.body) ≡ image same_number R c.body
    body_put =
        put_moved f (value_in same_number S) (value_in same_number R) c.body
        (All-from_contains IsGiven (variables c.body)
        (λ y m. is_given y (holds_front (clause_variables c) (clause_names c) y (well.body y (contains_holds (variables c.body) y m)))))

-- the second alternative is the first, with other numbers: behind the cells that there were stand the same new ones, at
-- least this many
pub record Moves (f : ℕ → ℕ) {Hint : Type 0} (cells others : List (Cell Hint)) (n : ℕ) (a b : Alternative Hint) : Type 0 where
  pub new : List (Cell Hint)
  pub long : n ≤ length new
  pub cells_first : a.cells ≡ cells ++ new
  pub cells_second : b.cells ≡ others ++ new
  pub raised : renumbered_pairs f a.raised ≡ b.raised
  pub flexible : map (translate_variable f) a.flexible ≡ b.flexible
  pub equations : map (renumbered_equation f) a.equations ≡ b.equations
  pub body : translate f (λ x. x) a.body ≡ b.body

module _ (f : ℕ → ℕ) {Hint : Type 0} (x : Hint) (first second : Scope Hint) (args : Terms ℕ Hint) (c : Clause Hint) (ns : List Nominal) (well : IsChosen c ns) where
  abbrev others_args : Terms ℕ Hint
  others_args = translate_all f (λ x. x) args

  same_constants : support_of_all others_args ≡ support_of_all args
  same_constants = support-translate f (λ (h : Hint). h) (spine (constant []) args)

  abbrev Left : List Nominal
  Left = unchosen x first args c ns

  left_same : unchosen x second others_args c ns ≡ Left
  left_same = ap (λ l. outside (in_order l) ns) same_constants

  all_image : (cells others : List (Cell Hint)) → IsRenumbering f cells others → (s : Substitution ℕ Hint) → translate_all f (λ x. x) (image_all same_number s args) ≡ image_all same_number (renumbered_pairs f s) others_args
  all_image cells others r s =
      sym (arguments_are (translate_all f (λ x. x) (image_all same_number s args)))
      ∙ ap arguments_of (translate-image f (λ x. x) same_number same_number (agreeing f r.different) s (spine (constant []) args))
      ∙ arguments_are (image_all same_number (renumbered_pairs f s) others_args)

  module _ (cells others : List (Cell Hint)) (r : IsRenumbering f cells others) (fresh : List Nominal) (old : List (Variable ℕ)) (raised : Substitution ℕ Hint) where
    abbrev Us : List (Term ℕ Hint)
    Us = made_terms x (length cells) Left c.variables

    abbrev Ws : List (Term ℕ Hint)
    Ws = made_terms x (length others) (unchosen x second others_args c ns) c.variables

    terms_same : map (translate f (λ x. x)) Us ≡ Ws
    terms_same = made_terms_moved f x (length cells) (length others) Left c.variables r.behind ∙ ap (λ l. made_terms x (length others) l c.variables) (sym left_same)

    long : length Us ≡ length c.variables
    long = made_length x (length cells) Left c.variables

    over_long : length c.variables ≤ length (cells_over x Left c.variables)
    over_long =
        let all : length (cells_over x Left c.variables) ≡ length c.variables = length-map c.variables (λ k. record { hint = k.hint; type = over Left k.type }) in
        omega (arith, all)

    pub moves_with : Moves f cells others (length c.variables) (alternative_with x first args c ns fresh cells old raised)
        (alternative_with x second others_args c ns fresh others (map (translate_variable f) old) (renumbered_pairs f raised))
    moves_with = record {
      new = cells_over x Left c.variables;
      long = over_long;
      cells_first = refl;
      cells_second = ap (λ l. others ++ cells_over x l c.variables) left_same;
      raised = refl;
      flexible =
          map-append (translate_variable f) old (made_over x (length cells) Left c.variables)
          ∙ ap (λ l. map (translate_variable f) old ++ l)
          (numbered_moved f x (length cells) (length others) (cells_over x Left c.variables) r.behind
          ∙ ap (λ l. numbered (length others) (cells_over x l c.variables)) (sym left_same));
      equations =
          equal_moved f x 0 (image_all same_number raised args) (image_all same_number (filled x c Us ns) c.arguments)
          ∙ ap (λ l. arguments_equal x 0 l (translate_all f (λ x. x) (image_all same_number (filled x c Us ns) c.arguments))) (all_image cells others r raised)
          ∙ ap (arguments_equal x 0 (image_all same_number (renumbered_pairs f raised) others_args))
          (arguments_put f x c Us ns long well ∙ ap (λ us. image_all same_number (filled x c us ns) c.arguments) terms_same);
      body = body_put f x c Us ns long well ∙ ap (λ us. image same_number (filled x c us ns) c.body) terms_same;
    }

    moves_so : (now : List (Variable ℕ)) (raised_now : Substitution ℕ Hint) → map (translate_variable f) old ≡ now → renumbered_pairs f raised ≡ raised_now
        → Moves f cells others (length c.variables) (alternative_with x first args c ns fresh cells old raised) (alternative_with x second others_args c ns fresh others now raised_now)
    moves_so now raised_now e d =
        subst (λ q. Moves f cells others (length c.variables) (alternative_with x first args c ns fresh cells old raised) (alternative_with x second others_args c ns fresh others now q)) d
        (subst (λ l. Moves f cells others (length c.variables) (alternative_with x first args c ns fresh cells old raised) (alternative_with x second others_args c ns fresh others l (renumbered_pairs f raised))) e moves_with)

-- behind further cells it is the same behind those before them
before_more : (f : ℕ → ℕ) {Hint : Type 0} (cells others more : List (Cell Hint)) (n : ℕ) (a b : Alternative Hint) → Moves f (cells ++ more) (others ++ more) n a b → Moves f cells others n a b
before_more f cells others more n a b m = record {
  new = more ++ m.new;
  long = let all = length-append more m.new in omega (arith, m.long, all);
  cells_first = m.cells_first ∙ append_assoc cells more m.new;
  cells_second = m.cells_second ∙ append_assoc others more m.new;
  raised = m.raised;
  flexible = m.flexible;
  equations = m.equations;
  body = m.body;
}

-- THE ALTERNATIVE with other numbers
module _ (f : ℕ → ℕ) {Hint : Type 0} (x : Hint) (first : Scope Hint) (others : List (Cell Hint)) (r : IsRenumbering f first.cells others) (args : Terms ℕ Hint) (c : Clause Hint) (ns : List Nominal) (well : IsChosen c ns) where
  abbrev pub second : Scope Hint
  second = record { cells = others; variables = map (translate_variable f) first.variables; constants = first.constants }

  abbrev pub args_moved : Terms ℕ Hint
  args_moved = translate_all f (λ x. x) args

  constants_same : atom_constants x second args_moved c ns ≡ atom_constants x first args c ns
  constants_same = ap in_order (same_constants f x first second args c ns well)

  cells_same : (ys : List (Variable ℕ)) → cells_of x others (map (translate_variable f) ys) ≡ cells_of x first.cells ys
  cells_same [] = refl
  cells_same (y ∷ ys) =
      ap (λ k. k ∷ cells_of x others (map (translate_variable f) ys)) (made_moved f x first.cells others r first.cells others ([], sym (append-nil first.cells), sym (append-nil others)) y y.type)
      ∙ ap (λ l. made x first.cells y y.type ∷ l) (cells_same ys)

  moves_analysed : (fresh : List Nominal) → Moves f first.cells others (length c.variables) (analysed x first args c ns fresh) (analysed x second args_moved c ns fresh)
  moves_analysed [] = moves_with f x first second args c ns well first.cells others r [] first.variables []
  moves_analysed (a ∷ bs) =
      let old = cells_of x first.cells first.variables in
      let more = cells_over x (a ∷ bs) old in
      let numbers = numbered_moved f x (length first.cells) (length others) more r.behind in
      let terms =
      together_moved f x first.variables (made_terms x (length first.cells) (a ∷ bs) old)
      ∙ ap (put_together (map (translate_variable f) first.variables)) (made_terms_moved f x (length first.cells) (length others) (a ∷ bs) old r.behind) in
      let moved =
      moves_so f x first second args c ns well (first.cells ++ more) (others ++ more) (extended f first.cells others more r) (a ∷ bs)
      (numbered (length first.cells) more) (put_together first.variables (made_terms x (length first.cells) (a ∷ bs) old))
      (numbered (length others) more) (put_together (map (translate_variable f) first.variables) (made_terms x (length others) (a ∷ bs) old)) numbers terms in
      subst
      (λ o. Moves f first.cells others (length c.variables) (analysed x first args c ns (a ∷ bs))
      (alternative_with x second args_moved c ns (a ∷ bs) (others ++ cells_over x (a ∷ bs) o) (numbered (length others) (cells_over x (a ∷ bs) o)) (put_together (map (translate_variable f) first.variables) (made_terms x (length others) (a ∷ bs) o))))
      (sym (cells_same first.variables))
      (before_more f first.cells others more (length c.variables) _ _ moved)

  pub alternative_moved : (side : Side) → Moves f first.cells others (length c.variables) (alternative x first args c ns side) (alternative x second args_moved c ns side)
  alternative_moved on_left =
      subst (λ l. Moves f first.cells others (length c.variables) (alternative x first args c ns on_left) (analysed x second args_moved c ns (outside ns l))) (sym constants_same)
      (moves_analysed (outside ns (atom_constants x first args c ns)))
  alternative_moved on_right =
      subst (λ l. Moves f first.cells others (length c.variables) (alternative x first args c ns on_right) (alternative_with x second args_moved c ns (outside ns l) others [] [])) (sym constants_same)
      (moves_with f x first second args c ns well first.cells others r (outside ns (atom_constants x first args c ns)) [] [])
