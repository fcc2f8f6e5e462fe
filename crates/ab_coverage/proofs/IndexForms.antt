-- WHAT A RULE DEMANDS is what the clause of its goals and its atom, under binders, demands: the names that stand in goals alone are
-- closed, the others become new variables. Past hints.
use Rattle.std.proofs.Common.{◌≡◌, ℕ, zero, suc, ◌+◌, ◌≤◌, List, [], ◌∷◌, map, length, filter, Bool, true, false, ◌&&◌, ◌||◌, not, cond, codes, Option, Some, None, refl, sym, ◌∙◌, ap, subst, arith}
use Rattle.std.specs.List.{list_any}
use Rattle.std.specs.Prelude.{All, Contains}
use Rattle.std.proofs.lemmas.Bool.{or_parts, false≢true, false_from_ne_true}
use Rattle.ab_term.specs.Types.{Ty, prop, o, olist, arrows}
use Rattle.ab_term.specs.Logical.{spec_universal, spec_implication, spec_conjunction, nabla, judgement}
use Rattle.ab_term.specs.Terms.{Nominal, Variable, Head, constant, logical, nominal, variable, index, Term, lam, spine, Terms, no_terms, term, Read}
use Rattle.ab_term.specs.Typing.{Signature, HasType}
use Rattle.ab_term.specs.Substitution.{shift, lower_head}
use Rattle.ab_term.specs.Reach.{raise}
use Rattle.ab_term.specs.Translation.{translate_head, forget, forget_all, EqualPastHints}
use Rattle.ab_term.specs.Variables.{Substitution, variables, value_in, image, image_by, IsTyped}
use Rattle.ab_term.specs.Sameness.{same_number, same_numbered}
use Rattle.ab_term.specs.Abstraction.{close}
use Rattle.ab_term.proofs.Closed.{closed_reach}
use Rattle.ab_term.proofs.Closing.{forget-close}
use Rattle.ab_term.proofs.Compositions.{image_typed}
use Rattle.ab_term.proofs.Depends.{image_unmoved}
use Rattle.ab_term.proofs.Expansions.{expansion_typed}
use Rattle.ab_term.proofs.PastHints.{variables-forget}
use Rattle.ab_term.proofs.Reaching.{shift-short}
use Rattle.ab_term.proofs.Translations.{translate_typed}
use Rattle.ab_unifiers.specs.Replacements.{Cell, holds, occurs}
use Rattle.ab_unifiers.specs.Unifiers.{AreDifferent}
use Rattle.ab_unifiers.specs.Clauses.{Each, put_together}
use Rattle.ab_unifiers.specs.Alternatives.{made_terms}
use Rattle.ab_unifiers.proofs.Agreeing.{contains_holds, holds_behind}
use Rattle.ab_unifiers.proofs.Lifting.{OfCells, made_terms_typed, own_value}
use Rattle.ab_unifiers.proofs.Past.{bare, bare_typed, own, forget-own, forget-image}
use Rattle.ab_unifiers.proofs.Rows.{each_any, found_each, together_typed, numbered_within, numbered_different}
use Rattle.ab_formulas.specs.Marks.{plain}
use Rattle.ab_formulas.specs.Sequents as sequents
use Rattle.ab_formulas.specs.Sequents.{in_terms}
use Rattle.ab_theory.specs.Equations.{variables_from}
use Rattle.ab_theory.specs.Splits.{cell_for}
use Rattle.ab_theory.specs.Opening as theory
use Rattle.ab_theory.specs.Opening.{conjunction_of, conjunction_from}
use Rattle.ab_theory.specs.SpecRules.{stands_in_goals_alone}
use Rattle.ab_theory.specs.Unfolding.{exists_all}
use Rattle.ab_theory.proofs.Putting.{numbered_from}
use Rattle.ab_coverage.specs.OpenedFormulas as opened
use Rattle.ab_coverage.specs.VacuousNames.{without_vacuous}
use Rattle.ab_coverage.proofs.IndexedGoals as indexed
use Rattle.ab_coverage.proofs.IndexedCovering as covering
use Rattle.ab_coverage.proofs.IndexedGoals.{in_front, both, for_some, open_goal}
use Rattle.ab_coverage.proofs.IndexedSpecClauses.{SpecClause, and_also, conjoined, context_of, closed_in, left_open, spread, atom_with, body_with}
use Rattle.ab_coverage.proofs.Conjoined.{asked, asked-forget, asked_typed}
use Rattle.ab_coverage.proofs.Filling.{Drops, drops, AllTyped, all_unmoved, Met, met-closed}
use Rattle.ab_coverage.proofs.Clausal.{Free, closed_free}
use Rattle.ab_coverage.proofs.Parts.{raise_typed, raise-closed}
use Rattle.ab_coverage.proofs.Entering.{entered_head, enter, enter_all, enter-shifted}
use Rattle.ab_coverage.proofs.Entered.{entered, Matches, AreFresh, asked-entered, tests, in_goals, chosen, exists_over_all, exists_chosen, openings, owns, filled_mixed, filled_entered}

-- without hints
same_head : (h : Head ℕ) → translate_head (λ v. v) h ≡ h
same_head (constant c) = refl
same_head (logical l) = refl
same_head (nominal a) = refl
same_head (variable y) = refl
same_head (index i) = refl

module _ {Hint : Type 0} where
  mutual
    forget-enter : (k : ℕ) (y : Variable ℕ) (t : Term ℕ Hint) → forget (enter k y t) ≡ enter k y (forget t)
    forget-enter k y (lam A x t) = ap (lam A tt) (forget-enter (suc k) y t)
    forget-enter k y (spine h ts) =
        ap (λ g. spine g (forget_all (enter_all k y ts))) (same_head (entered_head y (lower_head k h)) ∙ ap (λ g. entered_head y (lower_head k g)) (sym (same_head h)))
        ∙ ap (spine (entered_head y (lower_head k (translate_head (λ v. v) h)))) (forget_all-enter k y ts)

    forget_all-enter : (k : ℕ) (y : Variable ℕ) (ts : Terms ℕ Hint) → forget_all (enter_all k y ts) ≡ enter_all k y (forget_all ts)
    forget_all-enter k y no_terms = refl
    forget_all-enter k y (term t ts) = ap (λ u. term u (forget_all (enter_all k y ts))) (forget-enter k y t) ∙ ap (term (enter k y (forget t))) (forget_all-enter k y ts)

  pub forget-entered : (ys : List (Variable ℕ)) (t : Term ℕ Hint) → forget (entered ys t) ≡ entered ys (forget t)
  forget-entered [] t = refl
  forget-entered (y ∷ ys) t = forget-enter zero y (entered ys t) ∙ ap (enter zero y) (forget-entered ys t)

  -- a closed term stays
  pub closed-entered : (sg : Signature) (A : Ty) (ys : List (Variable ℕ)) (t : Term ℕ Hint) → HasType sg [] t A → entered ys t ≡ t
  closed-entered sg A [] t d = refl
  closed-entered sg A (y ∷ ys) t d =
      let short = closed_reach sg d in
      ap (enter zero y) (closed-entered sg A ys t d ∙ sym (shift-short t zero (omega (arith, short)))) ∙ enter-shifted zero y t

-- goals are opened as the index form opens them
pub open_same : (L g : Read) → theory.open_goal plain L g ≡ open_goal L g
open_same L (spine (logical (spec_universal A)) (term (lam B x g) no_terms)) = ap (λ F. spine (logical (nabla A)) (term (lam A x F) no_terms)) (open_same (shift zero L) g)
open_same L (spine (logical spec_implication) (term F (term g no_terms))) = open_same (in_front F L) g
open_same L (spine (logical spec_conjunction) (term F (term g no_terms))) = ap (λ H. both H (theory.open_goal plain L g)) (open_same L F) ∙ ap (both (open_goal L F)) (open_same L g)
open_same L g = refl

joined_same : (F : Read) (Fs : List Read) → conjunction_from F Fs ≡ and_also F Fs
joined_same F [] = refl
joined_same F (G ∷ Gs) = joined_same (both F G) Gs

conjoined_same : (Fs : List Read) → conjunction_of Fs ≡ conjoined Fs
conjoined_same [] = refl
conjoined_same (F ∷ Fs) = joined_same F Fs

all_opened : (L : Read) (Gs : List Read) → map (theory.open_goal plain L) Gs ≡ map (open_goal L) Gs
all_opened L [] = refl
all_opened L (g ∷ Gs) = ap (λ F. F ∷ map (theory.open_goal plain L) Gs) (open_same L g) ∙ ap (λ l. open_goal L g ∷ l) (all_opened L Gs)

pub asked_same : (L : Read) (Gs : List Read) → conjunction_of (map (theory.open_goal plain L) Gs) ≡ asked L Gs
asked_same L Gs = conjoined_same (map (theory.open_goal plain L) Gs) ∙ ap conjoined (all_opened L Gs)

-- formulas are fully opened as the index form does it
mutual
  pub full_same : (t : Read) → opened.full t ≡ indexed.full t
  full_same (lam A x t) = ap (lam A x) (full_same t)
  full_same (spine (logical judgement) (term L (term G no_terms))) = open_same L G
  full_same (spine (logical judgement) no_terms) = refl
  full_same (spine (logical judgement) (term L no_terms)) = ap (λ M. spine (logical judgement) (term M no_terms)) (full_same L)
  full_same (spine (logical judgement) (term L (term G (term M ts)))) = ap (spine (logical judgement)) (full_all_same (term L (term G (term M ts))))
  full_same (spine (logical l) ts) = ap (spine (logical l)) (full_all_same ts)
  full_same (spine (constant c) ts) = refl
  full_same (spine (nominal a) ts) = refl
  full_same (spine (variable y) ts) = refl
  full_same (spine (index i) ts) = refl

  full_all_same : (ts : Terms ℕ (List ℕ)) → opened.full_all ts ≡ indexed.full_all ts
  full_all_same no_terms = refl
  full_all_same (term t ts) = ap (λ u. term u (opened.full_all ts)) (full_same t) ∙ ap (term (indexed.full t)) (full_all_same ts)

pub fully_equal : (t u : Read) → covering.FullyEqual t u → opened.FullyEqual t u
fully_equal t u e = ap forget (full_same t) ∙ e ∙ ap forget (sym (full_same u))

pub nearly_equal : (t u : Read) → covering.NearlyEqual t u → opened.NearlyEqual t u
nearly_equal t u e = ap (λ v. without_vacuous (forget v)) (full_same t) ∙ e ∙ ap (λ v. without_vacuous (forget v)) (sym (full_same u))

-- ROWS OF VARIABLES
abbrev pub of_cells : ℕ → List (Cell (List ℕ)) → List (Variable ℕ)
of_cells n bs = map in_terms (variables_from n bs)

pub cells_match : (n : ℕ) (bs : List (Cell (List ℕ))) → Matches bs (of_cells n bs)
cells_match n [] = tt
cells_match n (b ∷ bs) = (refl, cells_match (n + 1) bs)

pub cells_differ : (n : ℕ) (bs : List (Cell (List ℕ))) → AreDifferent (of_cells n bs)
cells_differ n bs = subst AreDifferent (sym (numbered_from n bs)) (numbered_different n bs)

pub cells_within : (n : ℕ) (bs : List (Cell (List ℕ))) (y : Variable ℕ) → holds (of_cells n bs) y ≡ true → n ≤ y.name
cells_within n bs y h = (numbered_within n bs y (ap (λ l. holds l y) (sym (numbered_from n bs)) ∙ h)).0

-- those that are left open
abbrev pub rest_of : List Bool → List (Variable ℕ) → List (Variable ℕ)
rest_of (true ∷ fs) (y ∷ ys) = rest_of fs ys
rest_of (false ∷ fs) (y ∷ ys) = y ∷ rest_of fs ys
rest_of _ _ = []

pub rest_held : (fs : List Bool) (ys : List (Variable ℕ)) (z : Variable ℕ) → holds (rest_of fs ys) z ≡ true → holds ys z ≡ true
rest_held [] ys z h = absurd (false≢true h)
rest_held (true ∷ fs) [] z h = h
rest_held (false ∷ fs) [] z h = h
rest_held (true ∷ fs) (y ∷ ys) z h = holds_behind (y ∷ []) ys z (rest_held fs ys z h)
rest_held (false ∷ fs) (y ∷ ys) z h = go (same_numbered y z) h (rest_held fs ys z)
  where
    go : (b : Bool) → (b || holds (rest_of fs ys) z) ≡ true → (holds (rest_of fs ys) z ≡ true → holds ys z ≡ true) → (b || holds ys z) ≡ true
    go true e r = refl
    go false e r = r e

rest_differ : (fs : List Bool) (ys : List (Variable ℕ)) → AreDifferent ys → AreDifferent (rest_of fs ys)
rest_differ [] ys d = tt
rest_differ (true ∷ fs) [] d = tt
rest_differ (false ∷ fs) [] d = tt
rest_differ (true ∷ fs) (y ∷ ys) d = rest_differ fs ys d.1
rest_differ (false ∷ fs) (y ∷ ys) d = (false_from_ne_true (holds (rest_of fs ys) y) (λ h. false≢true (sym d.0 ∙ rest_held fs ys y h)), rest_differ fs ys d.1)

pub value_none : {Hint : Type 0} (ys : List (Variable ℕ)) (ts : List (Term ℕ Hint)) (z : Variable ℕ) → holds ys z ≡ false → value_in same_number (put_together ys ts) z ≡ None
value_none [] ts z h = refl
value_none (y ∷ ys) [] z h = refl
value_none (y ∷ ys) (t ∷ ts) z h =
    let parts = or_parts (same_numbered y z) (holds ys z) h in
    ap (λ b. cond b (Some t) (value_in same_number (put_together ys ts) z)) parts.0 ∙ value_none ys ts z parts.1

-- what is said of the variables of cells, by the test that closes some
module _ (p : sequents.Variable → Bool) where
  pub exists_filtered : (vs : List sequents.Variable) (F : Read) → forget (exists_all (filter p vs) F) ≡ exists_over_all (chosen (map p vs) (map in_terms vs)) (forget F)
  exists_filtered [] F = refl
  exists_filtered (v ∷ vs) F = go (p v) (exists_filtered vs F)
    where
      go : (b : Bool) → forget (exists_all (filter p vs) F) ≡ exists_over_all (chosen (map p vs) (map in_terms vs)) (forget F)
          → forget (exists_all (cond b (v ∷ filter p vs) (filter p vs)) F) ≡ exists_over_all (chosen (b ∷ map p vs) (in_terms v ∷ map in_terms vs)) (forget F)
      go true e = ap (for_some v.type tt) (forget-close zero (variable (in_terms v)) (exists_all (filter p vs) F) ∙ ap (close zero (variable (in_terms v))) e)
      go false e = e

  pub own_cells : (n : ℕ) (bs : List (Cell (List ℕ))) → map cell_for (filter (λ y. not (p y)) (variables_from n bs)) ≡ left_open (map p (variables_from n bs)) bs
  own_cells n [] = refl
  own_cells n (b ∷ bs) = go (p (record { number = n; type = b.type; name = b.hint })) (own_cells (n + 1) bs)
    where
      v : sequents.Variable
      v = record { number = n; type = b.type; name = b.hint }

      go : (c : Bool) → map cell_for (filter (λ y. not (p y)) (variables_from (n + 1) bs)) ≡ left_open (map p (variables_from (n + 1) bs)) bs
          → map cell_for (cond (not c) (record { number = n; type = b.type; name = b.hint } ∷ filter (λ y. not (p y)) (variables_from (n + 1) bs)) (filter (λ y. not (p y)) (variables_from (n + 1) bs))) ≡ left_open (c ∷ map p (variables_from (n + 1) bs)) (b ∷ bs)
      go true e = e
      go false e = ap (λ l. b ∷ l) e

  pub own_variables : (vs : List sequents.Variable) → map in_terms (filter (λ y. not (p y)) vs) ≡ rest_of (map p vs) (map in_terms vs)
  own_variables [] = refl
  own_variables (v ∷ vs) = go (p v) (own_variables vs)
    where
      go : (c : Bool) → map in_terms (filter (λ y. not (p y)) vs) ≡ rest_of (map p vs) (map in_terms vs) → map in_terms (cond (not c) (v ∷ filter (λ y. not (p y)) vs) (filter (λ y. not (p y)) vs)) ≡ rest_of (c ∷ map p vs) (in_terms v ∷ map in_terms vs)
      go true e = e
      go false e = ap (λ l. in_terms v ∷ l) e

  pub bits_length : (n : ℕ) (bs : List (Cell (List ℕ))) → length (map p (variables_from n bs)) ≡ length (of_cells n bs)
  bits_length n [] = refl
  bits_length n (b ∷ bs) = ap suc (bits_length (n + 1) bs)

bits_mapped : (p q : Variable ℕ → Bool) (vs : List sequents.Variable) → map (λ (y : sequents.Variable). p (in_terms y) && not (q (in_terms y))) vs ≡ tests p q (map in_terms vs)
bits_mapped p q [] = refl
bits_mapped p q (v ∷ vs) = ap (λ l. (p (in_terms v) && not (q (in_terms v))) ∷ l) (bits_mapped p q vs)

any_mapped : {X Y : Type 0} (p : X → Bool) (q : Y → Bool) (xs : List X) (ys : List Y) → map p xs ≡ map q ys → list_any p xs ≡ list_any q ys
any_mapped p q [] [] e = refl
any_mapped p q [] (y ∷ ys) e = absurd (cc)
any_mapped p q (x ∷ xs) [] e = absurd (cc)
any_mapped p q (x ∷ xs) (y ∷ ys) e =
    let one : p x ≡ q y = cc in
    let rest : map p xs ≡ map q ys = cc in
    ap (λ b. b || list_any p xs) one ∙ ap (λ b. q y || b) (any_mapped p q xs ys rest)

two_maps : {X Y Z : Type 0} (f : X → Y) (g : Y → Z) (xs : List X) → map g (map f xs) ≡ map (λ x. g (f x)) xs
two_maps f g [] = refl
two_maps f g (x ∷ xs) = ap (λ l. g (f x) ∷ l) (two_maps f g xs)

maps_same : {X Y : Type 0} (f g : X → Y) (xs : List X) → ((x : X) → f x ≡ g x) → map f xs ≡ map g xs
maps_same f g [] e = refl
maps_same f g (x ∷ xs) e = ap (λ l. l ∷ map f xs) (e x) ∙ ap (λ l. g x ∷ l) (maps_same f g xs e)

-- what a rule puts in for the names, and what it asks before
abbrev pub rule_put : ℕ → ℕ → List Nominal → List (Cell (List ℕ)) → Read → List Read → Substitution ℕ (List ℕ)
rule_put n first S bs A Gs =
    let own = filter (λ y. not (stands_in_goals_alone A Gs y)) (variables_from n bs) in
    put_together (map in_terms own) (made_terms (codes "x") first S (map cell_for own))

abbrev pub rule_body : ℕ → Read → List (Cell (List ℕ)) → Read → List Read → Read
rule_body n L bs A Gs = exists_all (filter (stands_in_goals_alone A Gs) (variables_from n bs)) (conjunction_of (map (theory.open_goal plain L) Gs))

abbrev pub matrix_of : Read → SpecClause (List ℕ) → Read
matrix_of L c = asked (raise (length c.binders) zero L) c.goals

-- ONE CLAUSE under binders, and its atom and goals with variables for the binders' names
module _ (sg : Signature) (cons : sg (codes "::") ≡ Some (arrows (o ∷ olist ∷ []) olist)) (n first : ℕ) (S : List Nominal) (L : Read) (L_typed : HasType sg [] L olist)
    (c : SpecClause (List ℕ)) (atom_typed : HasType sg (context_of c.binders []) c.atom o) (goals_typed : All (λ G. HasType sg (context_of c.binders []) G o) c.goals)
    (atom_below : (y : Variable ℕ) → holds (of_cells n c.binders) y ≡ true → occurs y c.atom ≡ false)
    (goals_below : (y : Variable ℕ) → holds (of_cells n c.binders) y ≡ true → (G : Read) → Contains c.goals G → occurs y G ≡ false)
    (list_below : (y : Variable ℕ) → holds (of_cells n c.binders) y ≡ true → occurs y L ≡ false)
    (A : Read) (Gs : List Read) (A_is : forget A ≡ entered (of_cells n c.binders) (forget c.atom)) (Gs_are : map forget Gs ≡ map (entered (of_cells n c.binders)) (map forget c.goals)) where
  abbrev x : List ℕ
  x = codes "x"

  abbrev bs : List (Cell (List ℕ))
  bs = c.binders

  abbrev zs : List (Variable ℕ)
  zs = of_cells n bs

  abbrev vs : List sequents.Variable
  vs = variables_from n bs

  abbrev test : sequents.Variable → Bool
  test = stands_in_goals_alone A Gs

  -- the bits
  occurs_forgotten : (z : Variable ℕ) (t : Read) → occurs z (forget t) ≡ occurs z t
  occurs_forgotten z t = ap (λ l. holds l z) (variables-forget t)

  in_atom : (z : Variable ℕ) → occurs z A ≡ occurs z (entered zs c.atom)
  in_atom z = sym (occurs_forgotten z A) ∙ ap (occurs z) (A_is ∙ sym (forget-entered zs c.atom)) ∙ occurs_forgotten z (entered zs c.atom)

  in_the_goals : (z : Variable ℕ) → list_any (occurs z) Gs ≡ list_any (λ G. occurs z (entered zs G)) c.goals
  in_the_goals z = any_mapped (occurs z) (λ G. occurs z (entered zs G)) Gs c.goals (
      maps_same (occurs z) (λ G. occurs z (forget G)) Gs (λ G. sym (occurs_forgotten z G))
      ∙ sym (two_maps forget (occurs z) Gs)
      ∙ ap (map (occurs z)) (Gs_are ∙ two_maps forget (entered zs) c.goals)
      ∙ two_maps (λ G. entered zs (forget G)) (occurs z) c.goals
      ∙ maps_same (λ G. occurs z (entered zs (forget G))) (λ G. occurs z (entered zs G)) c.goals (λ G. ap (occurs z) (sym (forget-entered zs G)) ∙ occurs_forgotten z (entered zs G)))

  pub bits_are : map test vs ≡ closed_in c
  bits_are = bits_mapped (λ z. list_any (occurs z) Gs) (λ z. occurs z A) vs
      ∙ in_goals bs zs (cells_match n bs) (cells_differ n bs) c.goals c.atom (λ z h. (atom_below z h, λ G m. goals_below z h G m)) (λ z. list_any (occurs z) Gs) (λ z. occurs z A) (λ z h. (in_the_goals z, in_atom z))

  abbrev fs : List Bool
  fs = closed_in c

  fs_length : length fs ≡ length zs
  fs_length = ap length (sym bits_are) ∙ bits_length test n bs

  -- the new variables
  abbrev pub made : List Read
  made = made_terms x first S (left_open fs bs)

  abbrev put : Substitution ℕ (List ℕ)
  put = put_together (rest_of fs zs) made

  pub demanded_cells : map cell_for (filter (λ y. not (test y)) vs) ≡ left_open fs bs
  demanded_cells = own_cells test n bs ∙ ap (λ l. left_open l bs) bits_are

  pub demanded_put : put_together (map in_terms (filter (λ y. not (test y)) vs)) (made_terms x first S (map cell_for (filter (λ y. not (test y)) vs))) ≡ put
  demanded_put =
      ap (λ l. put_together l (made_terms x first S (map cell_for (filter (λ y. not (test y)) vs)))) (own_variables test vs ∙ ap (λ l. rest_of l zs) bits_are)
      ∙ ap (λ l. put_together (rest_of fs zs) (made_terms x first S l)) demanded_cells

  rest_typed : (gs : List Bool) (cs : List (Cell (List ℕ))) (ys : List (Variable ℕ)) → Matches cs ys → length gs ≡ length ys → (ms : List Read) → OfCells sg x (left_open gs cs) ms → Each (λ y t. HasType sg [] t y.type) (rest_of gs ys) ms
  rest_typed [] [] [] m l ms e = e
  rest_typed [] [] (y ∷ ys) m l ms e = absurd m
  rest_typed [] (b ∷ cs) [] m l ms e = absurd m
  rest_typed [] (b ∷ cs) (y ∷ ys) m l ms e = absurd (omega (arith, l))
  rest_typed (g ∷ gs) [] [] m l ms e = absurd (omega (arith, l))
  rest_typed (g ∷ gs) [] (y ∷ ys) m l ms e = absurd m
  rest_typed (g ∷ gs) (b ∷ cs) [] m l ms e = absurd m
  rest_typed (true ∷ gs) (b ∷ cs) (y ∷ ys) m l ms e = rest_typed gs cs ys m.1 (omega (arith, l)) ms e
  rest_typed (false ∷ gs) (b ∷ cs) (y ∷ ys) m l [] e = absurd e
  rest_typed (false ∷ gs) (b ∷ cs) (y ∷ ys) m l (t ∷ ms) e = (subst (HasType sg [] t) (sym m.0) e.0, rest_typed gs cs ys m.1 (omega (arith, l)) ms e.1)

  made_typed : OfCells sg x (left_open fs bs) made
  made_typed = made_terms_typed sg x first S (left_open fs bs)

  each_typed : Each (λ y t. HasType sg [] t y.type) (rest_of fs zs) made
  each_typed = rest_typed fs bs zs (cells_match n bs) fs_length made made_typed

  pub put_typed : IsTyped sg put
  put_typed = together_typed sg (rest_of fs zs) made each_typed

  found : Each (λ y t. value_in same_number put y ≡ Some t) (rest_of fs zs) made
  found = found_each put (rest_of fs zs) made (rest_differ fs zs (cells_differ n bs)) (λ y h t e. e) (each_any (λ y t. HasType sg [] t y.type) (rest_of fs zs) made each_typed)

  -- what is below stays
  stays : (t : Read) → ((y : Variable ℕ) → holds zs y ≡ true → occurs y t ≡ false) → image same_number put t ≡ t
  stays t below = image_unmoved (value_in same_number put) t (λ y m. value_none (rest_of fs zs) made y
      (false_from_ne_true (holds (rest_of fs zs) y) (λ h. false≢true (sym (below y (rest_held fs zs y h)) ∙ contains_holds (variables t) y m))))

  bare_stays : (t : Read) → ((y : Variable ℕ) → holds zs y ≡ true → occurs y t ≡ false) → image_by (bare put) (forget t) ≡ forget t
  bare_stays t below = sym (forget-image put t) ∙ ap forget (stays t below)

  fresh : (t : Read) → ((y : Variable ℕ) → holds zs y ≡ true → occurs y t ≡ false) → AreFresh zs (forget t)
  fresh t below y h = occurs_forgotten y t ∙ below y h

  -- THE ATOM
  abbrev afters : List Bool → List (Variable ℕ) → List Read → List (Option Read)
  afters (true ∷ gs) (y ∷ ys) ms = Some (image same_number put (own x y)) ∷ afters gs ys ms
  afters (false ∷ gs) (y ∷ ys) (m ∷ ms) = Some m ∷ afters gs ys ms
  afters _ _ _ = []

  owns_typed : (D : Ty) (cs : List (Cell (List ℕ))) (ys : List (Variable ℕ)) → Matches cs ys → AllTyped sg D cs (owns x ys)
  owns_typed D [] [] m = tt
  owns_typed D [] (y ∷ ys) m = absurd m
  owns_typed D (b ∷ cs) [] m = absurd m
  owns_typed D (b ∷ cs) (y ∷ ys) m = (subst (HasType sg [] (own x y)) m.0 (expansion_typed sg x y.type [] (variable y) refl), owns_typed D cs ys m.1)

  afters_typed : (D : Ty) (gs : List Bool) (cs : List (Cell (List ℕ))) (ys : List (Variable ℕ)) → Matches cs ys → length gs ≡ length ys → (ms : List Read) → OfCells sg x (left_open gs cs) ms → AllTyped sg D cs (afters gs ys ms)
  afters_typed D [] [] [] m l ms e = tt
  afters_typed D [] [] (y ∷ ys) m l ms e = absurd m
  afters_typed D [] (b ∷ cs) [] m l ms e = absurd m
  afters_typed D [] (b ∷ cs) (y ∷ ys) m l ms e = absurd (omega (arith, l))
  afters_typed D (g ∷ gs) [] [] m l ms e = absurd (omega (arith, l))
  afters_typed D (g ∷ gs) [] (y ∷ ys) m l ms e = absurd m
  afters_typed D (g ∷ gs) (b ∷ cs) [] m l ms e = absurd m
  afters_typed D (true ∷ gs) (b ∷ cs) (y ∷ ys) m l ms e =
      (image_typed sg same_number put put_typed (subst (HasType sg [] (own x y)) m.0 (expansion_typed sg x y.type [] (variable y) refl)), afters_typed D gs cs ys m.1 (omega (arith, l)) ms e)
  afters_typed D (false ∷ gs) (b ∷ cs) (y ∷ ys) m l [] e = absurd e
  afters_typed D (false ∷ gs) (b ∷ cs) (y ∷ ys) m l (t ∷ ms) e = (e.0, afters_typed D gs cs ys m.1 (omega (arith, l)) ms e.1)

  atoms_met : (gs : List Bool) (ys : List (Variable ℕ)) → length gs ≡ length ys → (ms : List Read) → Each (λ y t. value_in same_number put y ≡ Some t) (rest_of gs ys) ms → Met sg (bare put) (bare_typed sg put put_typed) (owns x ys) (afters gs ys ms)
  atoms_met [] [] l ms e = tt
  atoms_met [] (y ∷ ys) l ms e = absurd (omega (arith, l))
  atoms_met (g ∷ gs) [] l ms e = absurd (omega (arith, l))
  atoms_met (true ∷ gs) (y ∷ ys) l ms e = (sym (forget-image put (own x y)), atoms_met gs ys (omega (arith, l)) ms e)
  atoms_met (false ∷ gs) (y ∷ ys) l [] e = absurd e
  atoms_met (false ∷ gs) (y ∷ ys) l (t ∷ ms) e = (ap (image_by (bare put)) (forget-own x y) ∙ own_value sg put put_typed y t e.0, atoms_met gs ys (omega (arith, l)) ms e.1)

  atom_drops : (gs : List Bool) (cs : List (Cell (List ℕ))) (ys : List (Variable ℕ)) → Matches cs ys → (ms : List Read) (t : Read) → Free gs cs t → OfCells sg x (left_open gs cs) ms → Drops t cs (spread gs ms) (afters gs ys ms)
  atom_drops [] [] [] m ms t f e = tt
  atom_drops [] [] (y ∷ ys) m ms t f e = absurd m
  atom_drops [] (b ∷ cs) ys m ms t f e = absurd f
  atom_drops (g ∷ gs) [] ys m ms t f e = absurd (no_free g f)
    where
      no_free : (g : Bool) → Free (g ∷ gs) [] t → ⊥
      no_free true f = f
      no_free false f = f
  atom_drops (g ∷ gs) (b ∷ cs) [] m ms t f e = absurd m
  atom_drops (true ∷ gs) (b ∷ cs) (y ∷ ys) m ms t f e = (f.0, atom_drops gs cs ys m.1 ms t f.1 e)
  atom_drops (false ∷ gs) (b ∷ cs) (y ∷ ys) m [] t f e = absurd e
  atom_drops (false ∷ gs) (b ∷ cs) (y ∷ ys) m (u ∷ ms) t f e = (refl, atom_drops gs cs ys m.1 ms t f e.1)

  pub atom_tied : EqualPastHints (image same_number put A) (atom_with c (spread fs made))
  atom_tied =
      let ends = afters_typed o fs bs zs (cells_match n bs) fs_length made made_typed in
      forget-image put A
      ∙ ap (image_by (bare put)) (A_is ∙ sym (filled_entered sg x bs zs (cells_match n bs) (cells_differ n bs) c.atom atom_typed (fresh c.atom atom_below)).1)
      ∙ met-closed sg (bare put) (bare_typed sg put put_typed) o [] bs (owns x zs) (afters fs zs made) c.atom c.atom (owns_typed o bs zs (cells_match n bs)) (atoms_met fs zs fs_length made found) atom_typed (bare_stays c.atom atom_below)
      ∙ ap forget (sym (drops bs (spread fs made) (afters fs zs made) c.atom (atom_drops fs bs zs (cells_match n bs) made c.atom (closed_free bs c.goals c.atom) made_typed) (all_unmoved sg o bs (afters fs zs made) ends)))

  -- THE BODY
  abbrev raised : Read
  raised = raise (length bs) zero L

  abbrev matrix : Read
  matrix = asked raised c.goals

  matrix_typed : HasType sg (context_of bs []) matrix prop
  matrix_typed = asked_typed sg cons raised (raise_typed sg olist bs [] L L_typed) c.goals goals_typed

  abbrev body_before : Read
  body_before = conjunction_of (map (theory.open_goal plain L) Gs)

  opened_is : forget body_before ≡ entered zs (forget matrix)
  opened_is =
      ap forget (asked_same L Gs)
      ∙ asked-forget L Gs
      ∙ ap (λ K. asked K (map forget Gs)) (ap forget (sym (raise-closed sg olist (length bs) L L_typed)) ∙ sym (closed-entered sg olist zs (forget raised) (translate_typed sg (λ v. v) (λ h. tt) (subst (λ t. HasType sg [] t olist) (sym (raise-closed sg olist (length bs) L L_typed)) L_typed))))
      ∙ ap (asked (entered zs (forget raised))) Gs_are
      ∙ asked-entered zs (forget raised) (map forget c.goals)
      ∙ ap (entered zs) (sym (asked-forget raised c.goals))

  bodies_met : (gs : List Bool) (ys : List (Variable ℕ)) → length gs ≡ length ys → (ms : List Read) → Each (λ y t. value_in same_number put y ≡ Some t) (rest_of gs ys) ms → Met sg (bare put) (bare_typed sg put put_typed) (openings x gs ys) (spread gs ms)
  bodies_met [] [] l ms e = tt
  bodies_met [] (y ∷ ys) l ms e = absurd (omega (arith, l))
  bodies_met (g ∷ gs) [] l ms e = absurd (omega (arith, l))
  bodies_met (true ∷ gs) (y ∷ ys) l ms e = (tt, bodies_met gs ys (omega (arith, l)) ms e)
  bodies_met (false ∷ gs) (y ∷ ys) l [] e = absurd e
  bodies_met (false ∷ gs) (y ∷ ys) l (t ∷ ms) e = (ap (image_by (bare put)) (forget-own x y) ∙ own_value sg put put_typed y t e.0, bodies_met gs ys (omega (arith, l)) ms e.1)

  openings_typed : (gs : List Bool) (cs : List (Cell (List ℕ))) (ys : List (Variable ℕ)) → Matches cs ys → length gs ≡ length ys → AllTyped sg prop cs (openings x gs ys)
  openings_typed [] [] [] m l = tt
  openings_typed [] [] (y ∷ ys) m l = absurd m
  openings_typed [] (b ∷ cs) [] m l = absurd m
  openings_typed [] (b ∷ cs) (y ∷ ys) m l = absurd (omega (arith, l))
  openings_typed (g ∷ gs) [] [] m l = absurd (omega (arith, l))
  openings_typed (g ∷ gs) [] (y ∷ ys) m l = absurd m
  openings_typed (g ∷ gs) (b ∷ cs) [] m l = absurd m
  openings_typed (true ∷ gs) (b ∷ cs) (y ∷ ys) m l = (refl, openings_typed gs cs ys m.1 (omega (arith, l)))
  openings_typed (false ∷ gs) (b ∷ cs) (y ∷ ys) m l = (subst (HasType sg [] (own x y)) m.0 (expansion_typed sg x y.type [] (variable y) refl), openings_typed gs cs ys m.1 (omega (arith, l)))

  -- no variable of the row stands in the matrix
  module _ (matrix_below : (y : Variable ℕ) → holds zs y ≡ true → occurs y matrix ≡ false) where
    pub body_tied : EqualPastHints (image same_number put (exists_all (filter test vs) body_before)) (body_with L c (spread fs made))
    body_tied =
        forget-image put (exists_all (filter test vs) body_before)
        ∙ ap (image_by (bare put)) (
        exists_filtered test vs body_before
        ∙ ap (λ l. exists_over_all (chosen l zs) (forget body_before)) bits_are
        ∙ ap (exists_over_all (chosen fs zs)) opened_is
        ∙ exists_chosen fs zs (forget matrix) (cells_differ n bs) (fresh matrix matrix_below) fs_length
        ∙ sym (filled_mixed sg x bs zs (cells_match n bs) (cells_differ n bs) fs fs_length matrix matrix_typed (fresh matrix matrix_below)).1)
        ∙ met-closed sg (bare put) (bare_typed sg put put_typed) prop [] bs (openings x fs zs) (spread fs made) matrix matrix (openings_typed fs bs zs (cells_match n bs) fs_length) (bodies_met fs zs fs_length made found) matrix_typed (bare_stays matrix matrix_below)
