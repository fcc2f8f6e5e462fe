-- What a part of a formula in focus, and a clause of the program, demand: the words of the rule, and those of the clause by indices.
use Rattle.std.proofs.Common.{◌≡◌, ℕ, zero, suc, ◌+◌, ◌<◌, inl, inr, List, [], ◌∷◌, ◌++◌, map, length, true, false, codes, Some, refl, sym, ◌∙◌, ap, subst, arith}
use Rattle.std.specs.Prelude.{All, Contains}
use Rattle.std.proofs.lemmas.Bool.{false_from_ne_true}
use Rattle.std.proofs.lemmas.List.Elements.{All-nil, All-cons, All-head, All-tail, All-contains, All-weaker}
use Rattle.ab_term.specs.Types.{Ty, o, olist, arrows}
use Rattle.ab_term.specs.Logical.{spec_universal, spec_implication, spec_conjunction, truth}
use Rattle.ab_term.specs.Terms.{Nominal, Variable, Head, constant, logical, variable, lam, spine, Terms, no_terms, term, Read}
use Rattle.ab_term.specs.Typing.{Signature, HasType}
use Rattle.ab_term.specs.Reach.{raise}
use Rattle.ab_term.specs.Substitution.{instance_by_all}
use Rattle.ab_term.specs.Translation.{forget, EqualPastHints}
use Rattle.ab_term.specs.Names.{support}
use Rattle.ab_term.specs.Variables.{Substitution, variables, value_in, image, image_by, IsTyped}
use Rattle.ab_term.specs.Sameness.{same_number}
use Rattle.ab_term.specs.Abstraction.{close, close_all}
use Rattle.ab_term.proofs.Closing.{close_typed}
use Rattle.ab_term.proofs.ClosingImages.{support-close, variables-close}
use Rattle.ab_term.proofs.Depends.{image_rigid}
use Rattle.ab_term.proofs.Expansions.{expansion_typed}
use Rattle.ab_term.proofs.Lists.{Contains-none, Contains-here, Contains-cases, All-from_contains}
use Rattle.ab_term.proofs.PastHints.{variables-forget}
use Rattle.ab_term.proofs.Preservation.{here}
use Rattle.ab_term.proofs.Standing as standing
use Rattle.ab_term.proofs.Stands.{Either, either}
use Rattle.ab_unifiers.specs.Replacements.{Cell, holds, occurs}
use Rattle.ab_unifiers.specs.Clauses.{Clause, Each, Within, clause_variables, head_of, numbered, put_together}
use Rattle.ab_unifiers.specs.Alternatives.{cells_over, made_terms}
use Rattle.ab_unifiers.specs.Prefixes.{own_terms}
use Rattle.ab_unifiers.proofs.Agreeing.{contains_holds}
use Rattle.ab_unifiers.proofs.Lifting.{own_value}
use Rattle.ab_unifiers.proofs.Past.{bare, bare_typed, own, forget-own, forget-image}
use Rattle.ab_unifiers.proofs.Rows.{each_any, found_each, together_typed, numbered_different}
use Rattle.ab_unifiers.proofs.Variables as over
use Rattle.ab_unifiers.proofs.Variables.{holds_contains}
use Rattle.ab_formulas.specs.Marks.{plain}
use Rattle.ab_formulas.specs.Programs as programs
use Rattle.ab_formulas.specs.Programs.{goals_in}
use Rattle.ab_theory.specs.Judgements.{Judgement, constants_of}
use Rattle.ab_theory.specs.Parts.{Part, parts_of, under_name, under_all, put_under}
use Rattle.ab_theory.specs.Parts as theory
use Rattle.ab_theory.specs.SpecRules.{Demand, demand_of, by_clause, by_part}
use Rattle.ab_coverage.specs.TakenNames.{closes}
use Rattle.ab_coverage.proofs.IndexedSpecClauses.{SpecClause, under_binder, with_goal, taken_apart, context_of, closed_in, left_open, spread, atom_with, body_with}
use Rattle.ab_coverage.proofs.IndexedInstances as indexed
use Rattle.ab_coverage.proofs.Conjoined.{asked_has}
use Rattle.ab_coverage.proofs.Filling.{AllTyped, Met, met-closed}
use Rattle.ab_coverage.proofs.Parts.{raise_has, IsPart}
use Rattle.ab_coverage.proofs.Entering.{enter, enter-close}
use Rattle.ab_coverage.proofs.Entered.{entered, Matches, AreFresh, owns, under_binders, put_in_turn, filled_entered}
use Rattle.ab_coverage.proofs.IndexForms.{forget-entered, of_cells, cells_match, cells_differ, cells_within}
use Rattle.ab_coverage.proofs.IndexForms as tie

abbrev pub x : List ℕ
x = codes "x"

-- the variables of a term are numbered below this
abbrev pub IsBelow : ℕ → Read → Type 0
IsBelow n t = over.Has (λ y. y.name < n) t

abbrev pub Low : ℕ → Head ℕ → Type 0
Low n = Either over.Any (λ (y : Variable ℕ). y.name < n)

pub below_fresh : (n : ℕ) (bs : List (Cell (List ℕ))) (t : Read) → IsBelow n t → (y : Variable ℕ) → holds (of_cells n bs) y ≡ true → occurs y t ≡ false
below_fresh n bs t b y h = false_from_ne_true (occurs y t) (λ e. let low = over.has_held (λ y. y.name < n) t b y e in let high = cells_within n bs y h in omega (arith, low, high))

-- A CLAUSE'S DEMAND, in both words: S are the constants, `first` the number of the first own variable, A the atom
pub record Ties (S : List Nominal) (first : ℕ) (L : Read) (c : SpecClause (List ℕ)) (A : Read) (d : Demand) : Type 0 where
  pub own : d.own ≡ cells_over x S (left_open (closed_in c) c.binders)
  pub atom : EqualPastHints A (atom_with c (spread (closed_in c) (made_terms x first S (left_open (closed_in c) c.binders))))
  pub body : EqualPastHints d.body (body_with L c (spread (closed_in c) (made_terms x first S (left_open (closed_in c) c.binders))))

-- PARTS
abbrev pub part_clause : Part → SpecClause (List ℕ)
part_clause p = record { binders = p.names; goals = p.goals; atom = p.atom }

map-append : {X Y : Type 0} (f : X → Y) (xs ys : List X) → map f (xs ++ ys) ≡ map f xs ++ map f ys
map-append f [] ys = refl
map-append f (x ∷ xs) ys = ap (λ l. f x ∷ l) (map-append f xs ys)

names_mapped : (c : Cell (List ℕ)) (ps : List Part) → map (under_binder c.hint c.type) (map part_clause ps) ≡ map part_clause (map (under_name c) ps)
names_mapped c [] = refl
names_mapped c (p ∷ ps) = ap (λ l. part_clause (under_name c p) ∷ l) (names_mapped c ps)

goals_mapped : (G : Read) (ps : List Part) → map (with_goal G) (map part_clause ps) ≡ map part_clause (map (theory.with_goal G) ps)
goals_mapped G [] = refl
goals_mapped G (p ∷ ps) = ap (λ l. part_clause (theory.with_goal G p) ∷ l) (goals_mapped G ps)

pub parts_same : (F : Read) → taken_apart F ≡ map part_clause (parts_of F)
parts_same (spine (logical (spec_universal A)) (term (lam B x F) no_terms)) = ap (map (under_binder x A)) (parts_same F) ∙ names_mapped (record { hint = x; type = A }) (parts_of F)
parts_same (spine (logical spec_implication) (term G (term F no_terms))) = ap (map (with_goal G)) (parts_same F) ∙ goals_mapped G (parts_of F)
parts_same (spine (logical spec_conjunction) (term F (term G no_terms))) =
    ap (λ l. l ++ taken_apart G) (parts_same F) ∙ ap (λ l. map part_clause (parts_of F) ++ l) (parts_same G) ∙ sym (map-append part_clause (parts_of F) (parts_of G))
parts_same F = refl

under_same : (cs : List (Cell (List ℕ))) (t : Read) (sg : Signature) → under_all cs t ≡ under_binders sg x cs t
under_same [] t sg = refl
under_same (c ∷ cs) t sg = ap (lam c.type c.hint) (under_same cs t sg)

module _ (sg : Signature) (cons : sg (codes "::") ≡ Some (arrows (o ∷ olist ∷ []) olist)) (n : ℕ) (j : Judgement) (L_typed : HasType sg [] j.context olist) (L_below : IsBelow n j.context) where
  -- no variable of the row stands in what is asked
  matrix_below : (c : SpecClause (List ℕ)) → IsPart sg (Low n) [] c → (y : Variable ℕ) → holds (of_cells n c.binders) y ≡ true → occurs y (tie.matrix_of j.context c) ≡ false
  matrix_below c part = below_fresh n c.binders (tie.matrix_of j.context c)
      (asked_has (Low n) (λ l. tt) (λ c. tt) (raise (length c.binders) zero j.context) (raise_has (Low n) (length c.binders) j.context L_below) c.goals part.goals_have)

  goals_fresh : (c : SpecClause (List ℕ)) → IsPart sg (Low n) [] c → (y : Variable ℕ) → holds (of_cells n c.binders) y ≡ true → (G : Read) → Contains c.goals G → occurs y G ≡ false
  goals_fresh c part y h G m = below_fresh n c.binders G (All-contains (standing.Has (Low n)) c.goals G part.goals_have m) y h

  module _ (p : Part) (part : IsPart sg (Low n) [] (part_clause p)) where
    abbrev us : List Read
    us = own_terms x (of_cells n p.names)

    one_put : (t : Read) {D : Ty} → HasType sg (context_of p.names []) t D → IsBelow n t → forget (put_under p.names us t) ≡ entered (of_cells n p.names) (forget t)
    one_put t d b =
        ap (λ w. forget (instance_by_all w us)) (under_same p.names t sg)
        ∙ put_in_turn sg x p.names (of_cells n p.names) (cells_match n p.names) (cells_differ n p.names) [] t d (λ y h. ap (λ l. holds l y) (variables-forget t) ∙ below_fresh n p.names t b y h)

    all_put : (gs : List Read) → All (λ G. HasType sg (context_of p.names []) G o) gs → All (standing.Has (Low n)) gs → map forget (map (put_under p.names us) gs) ≡ map (entered (of_cells n p.names)) (map forget gs)
    all_put [] d b = refl
    all_put (G ∷ gs) d b =
        ap (λ t. t ∷ map forget (map (put_under p.names us) gs)) (one_put G (All-head (λ G. HasType sg (context_of p.names []) G o) G gs d) (All-head (standing.Has (Low n)) G gs b))
        ∙ ap (λ l. entered (of_cells n p.names) (forget G) ∷ l) (all_put gs (All-tail (λ G. HasType sg (context_of p.names []) G o) G gs d) (All-tail (standing.Has (Low n)) G gs b))

    abbrev atom_there : Read
    atom_there = put_under p.names us p.atom

    abbrev goals_there : List Read
    goals_there = map (put_under p.names us) p.goals

    pub part_bits : closes n p ≡ closed_in (part_clause p)
    part_bits =
        let c = part_clause p in
        let fresh = below_fresh n p.names in
        tie.bits_are sg cons n (n + length p.names) (constants_of j) j.context L_typed c part.atom part.goals (fresh p.atom part.atom_has) (goals_fresh c part) (fresh j.context L_below) atom_there goals_there
        (one_put p.atom part.atom part.atom_has) (all_put p.goals part.goals part.goals_have)

    -- the terms for the names, in the rule's words
    abbrev pub part_put : Substitution ℕ (List ℕ)
    part_put = tie.rule_put n (n + length p.names) (constants_of j) p.names atom_there goals_there

    abbrev pub part_atom : Read
    part_atom = image same_number part_put atom_there

    pub part_ties : Ties (constants_of j) (n + length p.names) j.context (part_clause p) (image same_number part_put atom_there) (demand_of n plain j (by_part p))
    part_ties =
        let c = part_clause p in
        let fresh = below_fresh n p.names in
        let A_is = one_put p.atom part.atom part.atom_has in
        let Gs_are = all_put p.goals part.goals part.goals_have in record {
          own = ap (cells_over x (constants_of j)) (tie.demanded_cells sg cons n (n + length p.names) (constants_of j) j.context L_typed c part.atom part.goals (fresh p.atom part.atom_has) (goals_fresh c part) (fresh j.context L_below) atom_there goals_there A_is Gs_are);
          atom = ap (λ s. forget (image same_number s atom_there)) (tie.demanded_put sg cons n (n + length p.names) (constants_of j) j.context L_typed c part.atom part.goals (fresh p.atom part.atom_has) (goals_fresh c part) (fresh j.context L_below) atom_there goals_there A_is Gs_are)
              ∙ tie.atom_tied sg cons n (n + length p.names) (constants_of j) j.context L_typed c part.atom part.goals (fresh p.atom part.atom_has) (goals_fresh c part) (fresh j.context L_below) atom_there goals_there A_is Gs_are;
          body = ap (λ s. forget (image same_number s (tie.rule_body n j.context p.names atom_there goals_there))) (tie.demanded_put sg cons n (n + length p.names) (constants_of j) j.context L_typed c part.atom part.goals (fresh p.atom part.atom_has) (goals_fresh c part) (fresh j.context L_below) atom_there goals_there A_is Gs_are)
              ∙ tie.body_tied sg cons n (n + length p.names) (constants_of j) j.context L_typed c part.atom part.goals (fresh p.atom part.atom_has) (goals_fresh c part) (fresh j.context L_below) atom_there goals_there A_is Gs_are (matrix_below c part);
        }

-- CLAUSES OF THE PROGRAM
abbrev pub bound_over : List (Variable ℕ) → Read → Read
bound_over [] t = t
bound_over (y ∷ ys) t = bound_over ys (close zero (variable y) t)

abbrev pub clause_index : Clause (List ℕ) → SpecClause (List ℕ)
clause_index c = record { binders = c.variables; goals = map (bound_over (clause_variables c)) (goals_in c.body); atom = bound_over (clause_variables c) (head_of c) }

entered_bound : (ys : List (Variable ℕ)) (t : Read) → entered ys (bound_over ys t) ≡ t
entered_bound [] t = refl
entered_bound (y ∷ ys) t = ap (enter zero y) (entered_bound ys (close zero (variable y) t)) ∙ enter-close zero y t

none_there : {X : Type 0} (xs : List X) → ((a : X) → Contains xs a → ⊥) → xs ≡ []
none_there [] f = refl
none_there (a ∷ xs) f = absurd (f a (Contains-here a xs))

bound_names : (ys : List (Variable ℕ)) (t : Read) (a : Nominal) → Contains (support (bound_over ys t)) a → Contains (support t) a
bound_names [] t a m = m
bound_names (y ∷ ys) t a m = (support-close zero (variable y) t a (bound_names ys (close zero (variable y) t) a m)).0

bound_variables : (ys : List (Variable ℕ)) (t : Read) (z : Variable ℕ) → Contains (variables (bound_over ys t)) z → Contains (variables t) z × ¬ (Contains ys z)
bound_variables [] t z m = (m, λ k. Contains-none z k)
bound_variables (y ∷ ys) t z m =
    let rest = bound_variables ys (close zero (variable y) t) z m in
    let one = variables-close zero (variable y) t z rest.0 in
    (one.0, λ k. either (λ e. one.1 (ap variable (sym e))) rest.1 (Contains-cases y ys z k))

bound_closed : (ys : List (Variable ℕ)) (t : Read) → Within (variables t) ys → support t ≡ [] → (variables (bound_over ys t) ≡ []) × (support (bound_over ys t) ≡ [])
bound_closed ys t w s = (
  none_there (variables (bound_over ys t)) (λ z m. let k = bound_variables ys t z m in k.1 (holds_contains ys z (w z (contains_holds (variables t) z k.0)))),
  none_there (support (bound_over ys t)) (λ a m. Contains-none a (subst (λ l. Contains l a) s (bound_names ys t a m))),
)

bound_head : (ys : List (Variable ℕ)) (p : List ℕ) (ts : Terms ℕ (List ℕ)) → (us : Terms ℕ (List ℕ)) × (bound_over ys (spine (constant p) ts) ≡ spine (constant p) us)
bound_head [] p ts = (ts, refl)
bound_head (y ∷ ys) p ts = bound_head ys p (close_all zero (variable y) ts)

module _ (sg : Signature) where
  bound_typed : (n : ℕ) (bs : List (Cell (List ℕ))) (G : List Ty) (t : Read) → HasType sg G t o → HasType sg (context_of bs G) (bound_over (numbered n bs) t) o
  bound_typed n [] G t d = d
  bound_typed n (b ∷ bs) G t d = bound_typed (suc n) bs (b.type ∷ G) (close zero (variable (record { name = n; type = b.type })) t) (close_typed sg (variable (record { name = n; type = b.type })) here refl d)

  -- the goals of a clause
  goals_typed : (t : Read) → programs.IsGoalOrNone sg t → All (λ G. HasType sg [] G o) (goals_in t)
  goals_typed t is = go t is
    where
      alone : (t : Read) → HasType sg [] t o → All (λ G. HasType sg [] G o) (t ∷ [])
      alone t d = All-cons (λ G. HasType sg [] G o) t [] d (All-nil (λ G. HasType sg [] G o))

      go : (t : Read) → programs.IsGoalOrNone sg t → All (λ G. HasType sg [] G o) (goals_in t)
      go (spine (logical truth) no_terms) is = All-nil (λ G. HasType sg [] G o)
      go t (inl d) = alone t d
      go t (inr e) = subst (λ u. All (λ G. HasType sg [] G o) (goals_in u)) (sym e) (All-nil (λ G. HasType sg [] G o))

  goals_within : (t : Read) (P : Read → Type 0) → P t → All P (goals_in t)
  goals_within (spine (logical truth) no_terms) P p = All-nil P
  goals_within t P p = All-cons P t [] p (All-nil P)

  all_mapped : {X Y : Type 0} (P : Y → Type 0) (f : X → Y) (xs : List X) → All (λ x. P (f x)) xs → All P (map f xs)
  all_mapped P f [] all = All-nil P
  all_mapped P f (x ∷ xs) all = All-cons P (f x) (map f xs) (All-head (λ x. P (f x)) x xs all) (all_mapped P f xs (All-tail (λ x. P (f x)) x xs all))

  pub clause_right : (c : Clause (List ℕ)) → programs.IsProgramClause sg c → indexed.IsProgramClause sg (clause_index c)
  clause_right c w = record {
    head = let r = bound_head (clause_variables c) c.predicate c.arguments in (c.predicate, r.0, r.1);
    atom = bound_typed 0 c.variables [] (head_of c) w.head;
    goals = all_mapped (λ G. HasType sg (context_of c.variables []) G o) (bound_over (clause_variables c)) (goals_in c.body)
        (All-weaker (λ G. HasType sg [] G o) (λ G. HasType sg (context_of c.variables []) (bound_over (clause_variables c) G) o) (λ G d. bound_typed 0 c.variables [] G d) (goals_in c.body) (goals_typed c.body w.body));
    atom_closed = bound_closed (clause_variables c) (head_of c) w.head_variables w.head_without_constants;
    goals_closed = all_mapped (λ G. (variables G ≡ []) × (support G ≡ [])) (bound_over (clause_variables c)) (goals_in c.body)
        (goals_within c.body (λ G. (variables (bound_over (clause_variables c) G) ≡ []) × (support (bound_over (clause_variables c) G) ≡ [])) (bound_closed (clause_variables c) c.body w.body_variables w.body_without_constants));
  }

  -- closed terms are below any number
  pub closed_below : (n : ℕ) (t : Read) → variables t ≡ [] → IsBelow n t
  closed_below n t e = over.held_has (λ y. y.name < n) t (λ y h. absurd (Contains-none y (subst (λ l. Contains l y) e (holds_contains (variables t) y h))))

  pub clause_part : (n : ℕ) (c : SpecClause (List ℕ)) → indexed.IsProgramClause sg c → IsPart sg (Low n) [] c
  clause_part n c w = record {
    atom = w.atom;
    goals = w.goals;
    atom_has = closed_below n c.atom w.atom_closed.0;
    goals_have = All-from_contains (standing.Has (Low n)) c.goals (λ G m. closed_below n G (All-contains (λ G. (variables G ≡ []) × (support G ≡ [])) c.goals G w.goals_closed m).0);
  }

  -- the clause's variables with other numbers
  module _ (n : ℕ) (bs : List (Cell (List ℕ))) where
    abbrev named : Substitution ℕ (List ℕ)
    named = put_together (numbered 0 bs) (own_terms x (of_cells n bs))

    rows_typed : (k m : ℕ) (cs : List (Cell (List ℕ))) → Each (λ y t. HasType sg [] t y.type) (numbered k cs) (own_terms x (of_cells m cs))
    rows_typed k m [] = tt
    rows_typed k m (c ∷ cs) = (expansion_typed sg x c.type [] (variable (record { name = m; type = c.type })) refl, rows_typed (suc k) (m + 1) cs)

    named_typed : IsTyped sg named
    named_typed = together_typed sg (numbered 0 bs) (own_terms x (of_cells n bs)) (rows_typed 0 n bs)

    found : Each (λ y t. value_in same_number named y ≡ Some t) (numbered 0 bs) (own_terms x (of_cells n bs))
    found = found_each named (numbered 0 bs) (own_terms x (of_cells n bs)) (numbered_different 0 bs) (λ y h t e. e) (each_any (λ y t. HasType sg [] t y.type) (numbered 0 bs) (own_terms x (of_cells n bs)) (rows_typed 0 n bs))

    rows_match : (k : ℕ) (cs : List (Cell (List ℕ))) → Matches cs (numbered k cs)
    rows_match k [] = tt
    rows_match k (c ∷ cs) = (refl, rows_match (suc k) cs)

    owns_typed : (D : Ty) (cs : List (Cell (List ℕ))) (ys : List (Variable ℕ)) → Matches cs ys → AllTyped sg D cs (owns x ys)
    owns_typed D [] [] m = tt
    owns_typed D [] (y ∷ ys) m = absurd m
    owns_typed D (b ∷ cs) [] m = absurd m
    owns_typed D (b ∷ cs) (y ∷ ys) m = (subst (HasType sg [] (own x y)) m.0 (expansion_typed sg x y.type [] (variable y) refl), owns_typed D cs ys m.1)

    rows_met : (k m : ℕ) (cs : List (Cell (List ℕ))) → Each (λ y t. value_in same_number named y ≡ Some t) (numbered k cs) (own_terms x (of_cells m cs)) → Met sg (bare named) (bare_typed sg named named_typed) (owns x (numbered k cs)) (owns x (of_cells m cs))
    rows_met k m [] e = tt
    rows_met k m (c ∷ cs) e =
        (ap (image_by (bare named)) (forget-own x (record { name = k; type = c.type })) ∙ own_value sg named named_typed (record { name = k; type = c.type }) (own x (record { name = m; type = c.type })) e.0, rows_met (suc k) (m + 1) cs e.1)

    pub renumbered : (t : Read) → HasType sg [] t o → Within (variables t) (numbered 0 bs) → support t ≡ [] → forget (image same_number named t) ≡ entered (of_cells n bs) (forget (bound_over (numbered 0 bs) t))
    renumbered t d w s =
        let M = bound_over (numbered 0 bs) t in
        let M_typed = bound_typed 0 bs [] t d in
        let M_closed = (bound_closed (numbered 0 bs) t w s).0 in
        let fresh : (ys : List (Variable ℕ)) → AreFresh ys (forget M) = λ ys y h. ap (λ l. holds l y) (variables-forget M ∙ M_closed) in
        ap (λ u. forget (image same_number named u)) (sym (entered_bound (numbered 0 bs) t))
        ∙ forget-image named (entered (numbered 0 bs) M)
        ∙ ap (image_by (bare named)) (forget-entered (numbered 0 bs) M ∙ sym (filled_entered sg x bs (numbered 0 bs) (rows_match 0 bs) (numbered_different 0 bs) {G = []} M M_typed (fresh (numbered 0 bs))).1)
        ∙ met-closed sg (bare named) (bare_typed sg named named_typed) o [] bs (owns x (numbered 0 bs)) (owns x (of_cells n bs)) M M (owns_typed o bs (numbered 0 bs) (rows_match 0 bs)) (rows_met 0 n bs found) M_typed
        (sym (forget-image named M) ∙ ap forget (image_rigid (value_in same_number named) M M_closed))
        ∙ (filled_entered sg x bs (of_cells n bs) (cells_match n bs) (cells_differ n bs) {G = []} M M_typed (fresh (of_cells n bs))).1

module _ (sg : Signature) (cons : sg (codes "::") ≡ Some (arrows (o ∷ olist ∷ []) olist)) (n : ℕ) (j : Judgement) (L_typed : HasType sg [] j.context olist) (L_below : IsBelow n j.context) (c : Clause (List ℕ)) (w : programs.IsProgramClause sg c) where
  abbrev clause_named : Substitution ℕ (List ℕ)
  clause_named = put_together (clause_variables c) (own_terms x (of_cells n c.variables))

  abbrev pub clause_atom : Read
  clause_atom = image same_number clause_named (head_of c)

  abbrev pub clause_goals : List Read
  clause_goals = map (image same_number clause_named) (goals_in c.body)

  abbrev pub clause_put : Substitution ℕ (List ℕ)
  clause_put = tie.rule_put n n (constants_of j) c.variables clause_atom clause_goals

  goals_are : (gs : List Read) → All (λ G. HasType sg [] G o) gs → All (λ G. Within (variables G) (clause_variables c) × (support G ≡ [])) gs
      → map forget (map (image same_number clause_named) gs) ≡ map (entered (of_cells n c.variables)) (map forget (map (bound_over (clause_variables c)) gs))
  goals_are [] d k = refl
  goals_are (G ∷ gs) d k =
      let its = All-head (λ G. Within (variables G) (clause_variables c) × (support G ≡ [])) G gs k in
      ap (λ t. t ∷ map forget (map (image same_number clause_named) gs)) (renumbered sg n c.variables G (All-head (λ G. HasType sg [] G o) G gs d) its.0 its.1)
      ∙ ap (λ l. entered (of_cells n c.variables) (forget (bound_over (clause_variables c) G)) ∷ l) (goals_are gs (All-tail (λ G. HasType sg [] G o) G gs d) (All-tail (λ G. Within (variables G) (clause_variables c) × (support G ≡ [])) G gs k))

  pub clause_ties : Ties (constants_of j) n j.context (clause_index c) (image same_number clause_put clause_atom) (demand_of n plain j (by_clause c))
  clause_ties =
      let k = clause_index c in
      let part = clause_part sg n k (clause_right sg c w) in
      let fresh = below_fresh n c.variables in
      let A_is = renumbered sg n c.variables (head_of c) w.head w.head_variables w.head_without_constants in
      let Gs_are = goals_are (goals_in c.body) (goals_typed sg c.body w.body) (goals_within sg c.body (λ G. Within (variables G) (clause_variables c) × (support G ≡ [])) (w.body_variables, w.body_without_constants)) in
      let below = matrix_below sg cons n j L_typed L_below k part in
      let goals_low = goals_fresh sg cons n j L_typed L_below k part in record {
        own = ap (cells_over x (constants_of j)) (tie.demanded_cells sg cons n n (constants_of j) j.context L_typed k part.atom part.goals (fresh k.atom part.atom_has) goals_low (fresh j.context L_below) clause_atom clause_goals A_is Gs_are);
        atom = ap (λ s. forget (image same_number s clause_atom)) (tie.demanded_put sg cons n n (constants_of j) j.context L_typed k part.atom part.goals (fresh k.atom part.atom_has) goals_low (fresh j.context L_below) clause_atom clause_goals A_is Gs_are)
            ∙ tie.atom_tied sg cons n n (constants_of j) j.context L_typed k part.atom part.goals (fresh k.atom part.atom_has) goals_low (fresh j.context L_below) clause_atom clause_goals A_is Gs_are;
        body = ap (λ s. forget (image same_number s (tie.rule_body n j.context c.variables clause_atom clause_goals))) (tie.demanded_put sg cons n n (constants_of j) j.context L_typed k part.atom part.goals (fresh k.atom part.atom_has) goals_low (fresh j.context L_below) clause_atom clause_goals A_is Gs_are)
            ∙ tie.body_tied sg cons n n (constants_of j) j.context L_typed k part.atom part.goals (fresh k.atom part.atom_has) goals_low (fresh j.context L_below) clause_atom clause_goals A_is Gs_are below;
      }
