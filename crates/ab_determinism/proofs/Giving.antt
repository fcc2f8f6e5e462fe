-- Terms that are given for a formula's names, in goals that are one but for the numbers: they are read alike, or refused for one
-- cause.
use Rattle.std.specs.Prelude.{All, Contains, ◌||◌, if◌then◌else◌, bytes_eq}
use Rattle.std.specs.List.{list_any}
use Rattle.std.proofs.Common.{◌≡◌, ℕ, List, [], ◌∷◌, ◌++◌, map, Bool, true, false, Option, Some, None, option_map, refl, sym, ◌∙◌, ap, subst, append-nil, append_assoc}
use Rattle.std.proofs.lemmas.List.Elements.{All-nil, All-cons, All-map, All-weaker}
use Rattle.ab_term.specs.Types.{Ty}
use Rattle.ab_term.specs.Terms as tree
use Rattle.ab_term.specs.Terms.{Nominal, constant, nominal, spine, Terms, no_terms, term, Read}
use Rattle.ab_term.specs.Typing.{HasType}
use Rattle.ab_term.specs.Names.{support, support_of_all, HasOneTypeEach}
use Rattle.ab_term.specs.Translation.{translate_variable}
use Rattle.ab_term.specs.Variables.{variables}
use Rattle.ab_term.proofs.Lists.{Contains-map, Contains-from_map}
use Rattle.ab_term.proofs.Translations.{support-translate, variables-translate, translate_typed}
use Rattle.ab_grammar.specs.CommandTrees.{Instance}
use Rattle.ab_unifiers.specs.Clauses.{Each}
use Rattle.ab_formulas.specs.Declarations.{Declarations, signature_in}
use Rattle.ab_formulas.specs.Sequents.{Variable, Hypothesis, Sequent, IsSequent, HoldsOnly, in_terms, goal_names, names_of, formulas}
use Rattle.ab_formulas.specs.NamedGoals.{named}
use Rattle.ab_theory.specs.Pieces.{Piece, Given, type_named}
use Rattle.ab_infer.specs.Lists.{HasLists}
use Rattle.ab_infer.proofs.FittingMeanings.{fits}
use Rattle.ab_effects.specs.ProofCommands.{reading_each, giving}
use Rattle.ab_meaning.specs.Refusals.{Refusal, unknown, wrong_shape}
use Rattle.ab_effects.specs.Row.{Row, unless}
use Rattle.ab_meaning.specs.Terms.{scope_of, MeansIn, MeansNothingIn, Means}
use Rattle.ab_effects.specs.FormulaUses.{strange, unknown_unless, given_twice, scope_with}
use Rattle.ab_determinism.proofs.Namings.{same_constants}
use Rattle.ab_determinism.proofs.Renumbered.{Renumbering, renumber, renumber_variable, renumbered}
use Rattle.ab_determinism.proofs.Retold.{KeepsNames, goal_named}
use Rattle.ab_determinism.proofs.Reread.{meaning_or_not_with, not_or_meaning_with, cause_alike_with, same_meaning_with}
use Rattle.ab_determinism.proofs.Pieces.{piece_moved, type_named_moved, given_moved}
use Rattle.ab_determinism.proofs.Rows.{AreOnce, once_unless, once_unless_then, once_finds, once_makes}

-- A GOAL THAT HOLDS FURTHER CONSTANTS

abbrev holding_all : List Nominal → Terms ℕ (List ℕ)
holding_all [] = no_terms
holding_all (a ∷ ns) = term (spine (nominal a) no_terms) (holding_all ns)

holding_support : (ns : List Nominal) → support_of_all (holding_all ns) ≡ ns
holding_support [] = refl
holding_support (a ∷ ns) = ap (λ l. a ∷ l) (holding_support ns)

abbrev beside : List Nominal → Sequent → Sequent
beside ns s = record s { hypotheses = s.hypotheses ++ record { name = []; formula = spine (constant []) (holding_all ns) } ∷ [] }

hypotheses_beside : (ns : List Nominal) (hs : List Hypothesis) → names_of (formulas (hs ++ record { name = []; formula = spine (constant []) (holding_all ns) } ∷ [])) ≡ names_of (formulas hs) ++ ns
hypotheses_beside ns [] = append-nil (support_of_all (holding_all ns)) ∙ holding_support ns
hypotheses_beside ns (h ∷ hs) = ap (λ l. support h.formula ++ l) (hypotheses_beside ns hs) ∙ sym (append_assoc (support h.formula) (names_of (formulas hs)) ns)

names_beside : (ns : List Nominal) (s : Sequent) → goal_names (beside ns s) ≡ goal_names s ++ ns
names_beside ns s = ap (λ l. support s.conclusion ++ l) (hypotheses_beside ns s.hypotheses) ∙ sym (append_assoc (support s.conclusion) (names_of (formulas s.hypotheses)) ns)

-- a term that is read there holds the goal's variables alone, and gives no constant a second type
module _ (D : Declarations) (lists : HasLists D) (s : Sequent) (ns : List Nominal) (one : HasOneTypeEach (goal_names s ++ ns)) where
  term_fits : (i : Instance) (A : Ty) (t : Read) → MeansIn D (scope_with D s ns) i.term A t → HoldsOnly s.variables t × HasOneTypeEach (goal_names s ++ (ns ++ support t)) × HasType (signature_in D) [] t A
  term_fits i A t m =
      let there : Means D (beside ns s) i.term A t = subst (λ l. MeansIn D (record (scope_of D s) { nominals = l }) i.term A t) (sym (names_beside ns s)) m in
      let fit = fits D (beside ns s) lists i.term A t there (subst HasOneTypeEach (sym (names_beside ns s)) one) in
      (fit.closed, subst HasOneTypeEach (ap (λ l. l ++ support t) (names_beside ns s) ∙ append_assoc (goal_names s) ns (support t)) fit.one_type, fit.typed)

-- a term over the goal's variables, with other numbers
pub closed_moved : (f : ℕ → ℕ) (xs : List Variable) (t : Read) → HoldsOnly xs t → HoldsOnly (map (renumber_variable f) xs) (renumber f t)
closed_moved f xs t closed =
    subst (All (Contains (map in_terms (map (renumber_variable f) xs)))) (sym (variables-translate f (λ (h : List ℕ). h) t))
    (All-map (Contains (map in_terms (map (renumber_variable f) xs))) (translate_variable f) (variables t)
    (All-weaker (Contains (map in_terms xs)) (λ y. Contains (map in_terms (map (renumber_variable f) xs)) (translate_variable f y)) still (variables t) closed))
  where
    still : (y : tree.Variable ℕ) → Contains (map in_terms xs) y → Contains (map in_terms (map (renumber_variable f) xs)) (translate_variable f y)
    still y c =
        let x = Contains-from_map in_terms xs y c in
        subst (Contains (map in_terms (map (renumber_variable f) xs))) (ap (translate_variable f) x.2)
        (Contains-map in_terms (map (renumber_variable f) xs) (renumber_variable f x.0) (Contains-map (renumber_variable f) xs x.0 x.1))

-- WHAT IS KNOWN OF THE TERMS THAT ARE READ

abbrev pub AreClosed : Sequent → List Given → Type 0
AreClosed s = All (λ (g : Given). HoldsOnly s.variables g.value)

abbrev pub constants_of : List Given → List Nominal
constants_of [] = []
constants_of (g ∷ gs) = support g.value ++ constants_of gs

-- each is given for another name
abbrev pub AreApart : List Given → Type 0
AreApart [] = Unit {0}
AreApart (g ∷ gs) = All (λ (h : Given). bytes_eq h.name g.name ≡ false) gs × AreApart gs

-- the term may be put for the name that it is given for
pub record MayGive (D : Declarations) (s : Sequent) (ps : List Piece) (g : Given) : Type 0 where
  pub typed : HasType (signature_in D) [] g.value g.type
  pub closed : HoldsOnly s.variables g.value
  pub named : type_named g.name ps ≡ Some g.type

pub record AreGiven (D : Declarations) (s : Sequent) (ps : List Piece) (gs : List Given) : Type 0 where
  pub each : All (MayGive D s ps) gs
  pub one_type : HasOneTypeEach (goal_names s ++ constants_of gs)
  pub apart : AreApart gs

pub all_closed : (D : Declarations) (s : Sequent) (ps : List Piece) (gs : List Given) → AreGiven D s ps gs → AreClosed s gs
all_closed D s ps gs are = All-weaker (MayGive D s ps) (λ (g : Given). HoldsOnly s.variables g.value) (λ g m. m.closed) gs are.each

-- they have the names that were written
abbrev HaveNames : List Given → List Instance → Type 0
HaveNames = Each (λ (g : Given) (i : Instance). g.name ≡ i.name)

neither : (a b : Bool) → (a || b) ≡ false → (a ≡ false) × (b ≡ false)
neither true b e = absurd (cc)
neither false b e = (refl, e)

not_said : (b : Bool) → (if b then Some wrong_shape else None) ≡ None → b ≡ false
not_said true e = absurd (cc)
not_said false e = refl

others_apart : (gs : List Given) (es : List Instance) (x : List ℕ) → HaveNames gs es → list_any (λ (j : Instance). bytes_eq j.name x) es ≡ false → All (λ (h : Given). bytes_eq h.name x ≡ false) gs
others_apart [] [] x names none = All-nil (λ (h : Given). bytes_eq h.name x ≡ false)
others_apart [] (e ∷ es) x names none = absurd names
others_apart (g ∷ gs) [] x names none = absurd names
others_apart (g ∷ gs) (e ∷ es) x names none =
    let both = neither (bytes_eq e.name x) (list_any (λ (j : Instance). bytes_eq j.name x) es) none in
    All-cons (λ (h : Given). bytes_eq h.name x ≡ false) g gs (subst (λ y. bytes_eq y x ≡ false) (sym names.0) both.0) (others_apart gs es x names.1 both.1)

all_apart : (gs : List Given) (es : List Instance) → HaveNames gs es → given_twice es ≡ false → AreApart gs
all_apart [] [] names once = tt
all_apart [] (e ∷ es) names once = absurd names
all_apart (g ∷ gs) [] names once = absurd names
all_apart (g ∷ gs) (e ∷ es) names once =
    let both = neither (list_any (λ (j : Instance). bytes_eq j.name e.name) es) (given_twice es) once in
    (others_apart gs es g.name names.1 (subst (λ x. list_any (λ (j : Instance). bytes_eq j.name x) es ≡ false) (sym names.0) both.0), all_apart gs es names.1 both.1)

unknown_same : (x : List ℕ) (o p : Option Ty) (a b : Option Refusal) → o ≡ p → a ≡ b → unknown_unless x o a ≡ unknown_unless x p b
unknown_same x o p a b e h = ap (λ q. unknown_unless x q a) e ∙ ap (unknown_unless x p) h

same_type : (o : Option Ty) → o ≡ option_map (λ A. A) o
same_type None = refl
same_type (Some A) = refl

module _ (D : Declarations) (lists : HasLists D) (s : Sequent) (f : ℕ → ℕ) (is : IsSequent D s) (its : IsSequent D (renumbered f s)) (names : KeepsNames f s.variables) where
  abbrev u : Sequent
  u = renumbered f s

  same : named s ≡ named u
  same = goal_named f s names

  abbrev r : Renumbering s u
  r = record { by = f; is = refl; names = names }

  strange_moved : (ps : List Piece) (es : List Instance) → strange (map (piece_moved f) ps) es ≡ strange ps es
  strange_moved ps [] = refl
  strange_moved ps (e ∷ es) =
      unknown_same e.name (type_named e.name (map (piece_moved f) ps)) (type_named e.name ps) (strange (map (piece_moved f) ps) es) (strange ps es) (type_named_moved f e.name ps) (strange_moved ps es)

  once_each : (ns : List Nominal) → HasOneTypeEach (goal_names s ++ ns) → (ps : List Piece) (es : List Instance) (k j : List Given → Row)
      → ((gs : List Given) → All (MayGive D s ps) gs → HasOneTypeEach (goal_names s ++ (ns ++ constants_of gs)) → HaveNames gs es → AreOnce (k gs) (j (map (given_moved f) gs)))
      → AreOnce (reading_each D s ns ps es k) (reading_each D u ns (map (piece_moved f) ps) es j)
  once_each ns one ps [] k j once = once [] (All-nil (MayGive D s ps)) (subst (λ l. HasOneTypeEach (goal_names s ++ l)) (sym (append-nil ns)) one) tt
  once_each ns one ps (e ∷ es) k j once =
      once_finds (unknown e.name) (type_named e.name ps) (type_named e.name (map (piece_moved f) ps)) (λ A. A) (type_named_moved f e.name ps ∙ same_type (type_named e.name ps)) (here k s ps) (here j u (map (piece_moved f) ps))
      (λ A found.
      once_makes (MeansIn D (scope_with D s ns) e.term A) (MeansNothingIn (scope_with D s ns) e.term A) (MeansIn D (scope_with D u ns) e.term A) (MeansNothingIn (scope_with D u ns) e.term A) (next k s ps A) (next j u (map (piece_moved f) ps) A)
      (λ t c m n. meaning_or_not_with D s u is its same e.term ns A t c m n)
      (λ c t m n. not_or_meaning_with D s u is its same e.term ns A t c m n)
      (λ c d m n. cause_alike_with D s u is its same e.term ns A c d m n)
      (λ t v m n.
      let fit = term_fits D lists s ns one e A t m in
      let g : Given = record { name = e.name; type = A; value = t } in
      let value : v ≡ renumber f t = same_meaning_with D s u r same ns e.term A t v m n in
      let rest : AreOnce (next k s ps A t) (reading_each D u (ns ++ support t) (map (piece_moved f) ps) es (λ gs. j (given_moved f g ∷ gs))) =
      once_each (ns ++ support t) fit.1 ps es (λ gs. k (g ∷ gs)) (λ gs. j (given_moved f g ∷ gs))
      (λ gs all types names.
      once (g ∷ gs) (All-cons (MayGive D s ps) g gs (record { typed = fit.2; closed = fit.0; named = found }) all)
      (subst (λ l. HasOneTypeEach (goal_names s ++ l)) (append_assoc ns (support t) (constants_of gs)) types) (refl, names)) in
      subst (λ w. AreOnce (next k s ps A t) (next j u (map (piece_moved f) ps) A w)) (sym value)
      (subst (λ l. AreOnce (next k s ps A t) (reading_each D u (ns ++ l) (map (piece_moved f) ps) es (λ gs. j (given_moved f g ∷ gs)))) (sym (support-translate f (λ (h : List ℕ). h) t)) rest)))
    where
      next : (List Given → Row) → Sequent → List Piece → Ty → Read → Row
      next c q qs A t = reading_each D q (ns ++ support t) qs es (λ gs. c (record { name = e.name; type = A; value = t } ∷ gs))

      here : (List Given → Row) → Sequent → List Piece → Ty → Row
      here c q qs A = Row.makes {A = Read} (MeansIn D (scope_with D q ns) e.term A) (MeansNothingIn (scope_with D q ns) e.term A) (next c q qs A)

  -- THE TERMS ARE READ ALIKE
  pub once_giving : (ps : List Piece) (es : List Instance) (too_many : Bool) (k j : List Given → Row) → ((gs : List Given) → too_many ≡ false → AreGiven D s ps gs → AreOnce (k gs) (j (map (given_moved f) gs)))
      → AreOnce (giving D s ps es too_many k) (giving D u (map (piece_moved f) ps) es too_many j)
  once_giving ps es too_many k j once =
      let last : Option Refusal = if given_twice es || too_many then Some wrong_shape else None in
      once_unless (strange ps es) (strange (map (piece_moved f) ps) es) _ _ (sym (strange_moved ps es))
      (once_each [] (subst HasOneTypeEach (sym (append-nil (goal_names s))) is.one_type) ps es (λ gs. unless last (k gs)) (λ gs. unless last (j gs))
      (λ gs all types names.
      once_unless_then last last (k gs) (j (map (given_moved f) gs)) refl
      (λ e. let said = neither (given_twice es) too_many (not_said (given_twice es || too_many) e) in
      once gs said.1 (record { each = all; one_type = types; apart = all_apart gs es names said.0 }))))

  -- what is known of them is known there too

  pub constants_moved : (gs : List Given) → constants_of (map (given_moved f) gs) ≡ constants_of gs
  constants_moved [] = refl
  constants_moved (g ∷ gs) = ap (λ l. l ++ constants_of (map (given_moved f) gs)) (support-translate f (λ (h : List ℕ). h) g.value) ∙ ap (λ l. support g.value ++ l) (constants_moved gs)

  apart_moved : (gs : List Given) → AreApart gs → AreApart (map (given_moved f) gs)
  apart_moved [] all = tt
  apart_moved (g ∷ gs) all = (All-map (λ (h : Given). bytes_eq h.name g.name ≡ false) (given_moved f) gs all.0, apart_moved gs all.1)

  give_moved : (ps : List Piece) (g : Given) → MayGive D s ps g → MayGive D u (map (piece_moved f) ps) (given_moved f g)
  give_moved ps g m = record {
    typed = translate_typed (signature_in D) f (λ (h : List ℕ). h) m.typed;
    closed = closed_moved f s.variables g.value m.closed;
    named = type_named_moved f g.name ps ∙ m.named;
  }

  pub given_also : (ps : List Piece) (gs : List Given) → AreGiven D s ps gs → AreGiven D u (map (piece_moved f) ps) (map (given_moved f) gs)
  given_also ps gs are = record {
    each = All-map (MayGive D u (map (piece_moved f) ps)) (given_moved f) gs (All-weaker (MayGive D s ps) (λ g. MayGive D u (map (piece_moved f) ps) (given_moved f g)) (give_moved ps) gs are.each);
    one_type = subst HasOneTypeEach (ap (λ l. l ++ constants_of gs) (same_constants s u same) ∙ ap (λ l. goal_names u ++ l) (sym (constants_moved gs))) are.one_type;
    apart = apart_moved gs are.apart;
  }
