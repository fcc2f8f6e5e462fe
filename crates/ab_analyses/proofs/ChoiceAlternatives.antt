-- What is made for a choice stands for the alternative by it.
use Rattle.std.specs.Prelude.{All, AllPairs, Bool, true, false}
use Rattle.std.proofs.Common.{◌≡◌, ◌≢◌, ℕ, ◌<◌, ◌≤◌, List, [], ◌∷◌, ◌++◌, map, take, length, codes, refl, sym, ◌∙◌, ap, subst, arith, length-append}
use Rattle.std.proofs.lemmas.List.{length-map}
use Rattle.std.proofs.lemmas.List.Elements.{All-nil, All-cons, All-head, All-tail}
use Rattle.ab_term.proofs.Lists.{AllPairs-none}
use Rattle.ab_term.specs.Terms as tree
use Rattle.ab_term.specs.Terms.{Nominal, Read}
use Rattle.ab_term.specs.Typing.{Signature}
use Rattle.ab_term.specs.Variables.{Substitution, image, image_all}
use Rattle.ab_term.specs.Sameness.{same_number}
use Rattle.ab_norm.specs.ab_types.specs.Entries.{Table}
use Rattle.ab_norm.specs.ab_types.specs.Ids.{type_of}
use Rattle.ab_norm.specs.ab_store.specs.declared.node.CellId.{CellId}
use Rattle.ab_norm.specs.ab_store.specs.declared.node.TermId.{TermId}
use Rattle.ab_norm.specs.ab_store.specs.Naming.{IsTerm}
use Rattle.ab_norm.specs.ab_store.specs.Reading.{cell_variable}
use Rattle.ab_norm.specs.ab_store.specs.Trees.{Contents, cell_of}
use Rattle.ab_norm.specs.Nominals.{HoldsNominal}
use Rattle.ab_norm.specs.declared.nominal.Nominal.{Nominal as KeptNominal}
use Rattle.ab_unifiers.specs.Replacements.{Cell, holds}
use Rattle.ab_unifiers.specs.Choices.{outside}
use Rattle.ab_unifiers.specs.Clauses.{Each, put_together}
use Rattle.ab_unifiers.specs.Alternatives.{cells_of, arguments_equal}
use Rattle.ab_unify.specs.Problem.{cell_read, cells_read, variables_read, cells_at}
use Rattle.ab_unify.specs.StoreChanges.{Grows}
use Rattle.ab_unify.specs.UnifyAnswers.{IsTypedPair}
use Rattle.ab_unify.proofs.Growth.{grown_type}
use Rattle.ab_formulas.specs.BodyMarks.{mark_below, marked_in}
use Rattle.ab_formulas.specs.Declarations.{IsDefining, signature_in}
use Rattle.ab_formulas.specs.Marks.{plain}
use Rattle.ab_formulas.specs.Sequents.{in_terms}
use Rattle.ab_formulas.proofs.Untouched as untouched
use Rattle.ab_typing.specs.declared.definitions.ClauseTerm.{ClauseTerm}
use Rattle.ab_logic.specs.Worlds.{IsWorld, Holds, HoldsCell, read, variable_of, declarations_of}
use Rattle.ab_logic.specs.SequentReadings.{sequent_of}
use Rattle.ab_logic.specs.declared.world.World.{World}
use Rattle.ab_logic.specs.declared.sequent.Sequent.{Sequent}
use Rattle.ab_theory.specs.Analysis.{scope_of}
use Rattle.ab_theory.specs.Atoms.{Defined, Choice}
use Rattle.ab_theory.specs.RaisedAlternatives.{raised_cells, raised_terms}
use Rattle.ab_alternatives.specs.ab_instances.specs.ListReadings.{names_read, trees_at}
use Rattle.ab_alternatives.specs.ab_instances.proofs.Fitting.{variables_stay}
use Rattle.ab_alternatives.specs.ab_instances.proofs.Made.{names_held, names_stay}
use Rattle.ab_alternatives.specs.ab_sequents.proofs.MarkedAtoms.{marked_not}
use Rattle.ab_alternatives.specs.AtomReadings.{defined_read, choice_read}
use Rattle.ab_alternatives.specs.Choices.{read_choice, IsHeldFor}
use Rattle.ab_alternatives.specs.LeftAlternatives.{fresh_in, unchosen_in, base_in, own_in, filled_in, images_from, IsMade}
use Rattle.ab_alternatives.specs.declared.alternatives.Alternative.{Alternative as Made}
use Rattle.ab_alternatives.specs.declared.atoms.DefinedAtom.{DefinedAtom}
use Rattle.ab_alternatives.specs.declared.choice_counts.Choice.{Choice as KeptChoice}
use Rattle.ab_alternatives.proofs.Later.{defines}
use Rattle.ab_alternatives.proofs.Put.{in_terms_are, olds_are, below, put_same, both, images_are, equal_images}
use Rattle.ab_alternatives.proofs.Raised.{are_at}
use Rattle.ab_analyses.specs.Alternatives.{Alternative, by_choice, all_with, side_of}
use Rattle.ab_analyses.specs.AlternativeReadings.{raised_read, StandsFor, IsTypedRaise, HoldsAlternative}
use Rattle.ab_analyses.specs.AlternativeSteps.{raises_of, raised_cells_of, IsAtomReady}
use Rattle.ab_analyses.specs.declared.answers.Raise.{Raise}
use Rattle.ab_analyses.specs.declared.answers.Alternative.{Alternative as Kept}
use Rattle.ab_analyses.proofs.AlternativeParts.{parts, left_is, right_is}

abbrev x : List ℕ
x = codes "x"

-- the alternative as it is kept
abbrev pub kept_of : List KeptNominal → List Raise → Made → Kept → Type 0
kept_of fresh raised alt k = (k.fresh.items ≡ fresh) × (k.raised.items ≡ raised) × (k.made ≡ alt.own) × (k.equations ≡ alt.equations) × (k.body ≡ alt.body)

module _ (w v : World) (is : IsWorld w) (g : Grows w.types w.store v.types v.store)
    (ys : List CellId) (ys_held : All (HoldsCell w) ys) (d : DefinedAtom) (clause : ClauseTerm) (ns : List KeptNominal) (alt : Made)
    (unmarked : (defined_read w d).sign ≡ plain)
    (defining : (sg : Signature) × IsDefining sg (choice_read w clause ns).clause)
    (fit : map (λ a. a.type) (choice_read w clause ns).names ≡ map (λ z. z.type) (choice_read w clause ns).clause.names)
    (made : IsMade w.types w.store ys (defined_read w d).block.predicates (defined_read w d).sign (defined_read w d).arguments (choice_read w clause ns) v.types v.store alt) where
  abbrev T : Table
  T = w.types

  abbrev S : Contents
  S = w.store

  abbrev c : Choice
  c = choice_read w clause ns

  abbrev D : Defined
  D = defined_read w d

  abbrev cells : List (Cell (List ℕ))
  cells = cells_read T S

  abbrev olds : List (Cell (List ℕ))
  olds = cells_at T S ys

  abbrev fresh : List Nominal
  fresh = fresh_in D.arguments c

  abbrev unchosen : List Nominal
  unchosen = unchosen_in D.arguments c

  abbrev base : List (Cell (List ℕ))
  base = base_in cells olds D.arguments c

  abbrev own : List (Cell (List ℕ))
  own = own_in cells olds D.arguments c

  abbrev put : Substitution ℕ (List ℕ)
  put = filled_in cells olds D.arguments c

  abbrev zs : List (tree.Variable ℕ)
  zs = variables_read T S ys

  abbrev raised : Substitution ℕ (List ℕ)
  raised = put_together zs (raised_terms (length S.cells) fresh olds)

  -- THE ALTERNATIVE, part by part
  abbrev whole : Alternative
  whole = parts D c cells (length S.cells) olds zs

  abbrev us : List (tree.Variable ℕ)
  us = map in_terms (map (variable_of w) ys)

  whole_is : whole ≡ parts D c cells (length cells) (cells_of x cells us) us
  whole_is =
      ap (λ n. parts D c cells n olds zs) (sym (length-map S.cells (cell_read T)))
      ∙ ap (λ l. parts D c cells (length cells) l zs) (olds_are w ys ys_held)
      ∙ ap (parts D c cells (length cells) (cells_of x cells us)) (sym (in_terms_are w ys))

  -- what is put in for the goal's variables
  zipped : (cs : List CellId) (ts : List TermId) → raised_read v (raises_of cs ts) ≡ put_together (variables_read v.types v.store (take (length ts) cs)) (trees_at v.types v.store ts)
  zipped [] [] = refl
  zipped [] (t ∷ ts) = refl
  zipped (c ∷ cs) [] = refl
  zipped (c ∷ cs) (t ∷ ts) = ap (λ l. (cell_variable v.types v.store c, read v t) ∷ l) (zipped cs ts)

  raised_is : raised_read v (raises_of ys alt.raised.terms.items) ≡ raised
  raised_is =
      zipped ys alt.raised.terms.items
      ∙ put_same v.types v.store fresh (length S.cells) olds ys zs alt.raised.terms.items made.raised.terms (length-map ys _) (variables_stay T v.types S v.store g is.typed ys ys_held)

  -- the equations
  base_long : length S.cells ≤ length base
  base_long = let a = length-append cells (raised_cells fresh olds) in let b = length-map S.cells (cell_read T) in omega (arith, a, b)

  low : (y : tree.Variable ℕ) → holds zs y ≡ true → y.name < length base
  low y h = let l = below T S ys ys_held y h in omega (arith, l, base_long)

  equations_are : images_from v.types v.store raised 0 alt.equations.items ≡ whole.equations
  equations_are =
      let sg = defining.0 in
      let is_clause = defining.1.clause in
      images_are v.types v.store raised 0 alt.equations.items
      ∙ ap (map (both raised)) made.equations
      ∙ equal_images raised 0 D.arguments (image_all same_number put c.clause.arguments)
      ∙ ap (arguments_equal x 0 (image_all same_number raised D.arguments))
      (untouched.all_untouched sg c.clause is_clause (length base) unchosen c.names fit zs low (raised_terms (length S.cells) fresh olds) (image_all same_number put c.clause.arguments)
      (untouched.arguments_own sg c.clause is_clause (length base) unchosen c.names fit))

  -- the body
  body_is : read v alt.body ≡ whole.body
  body_is =
      made.body ∙ ap (λ m. marked_in D.block.predicates (mark_below m) (image same_number put c.clause.body)) unmarked
      ∙ marked_not D.block.predicates (image same_number put c.clause.body)

  -- the cells
  pub cells_are : cells_read v.types v.store ≡ all_with (parts D c cells (length cells) (cells_of x cells us) us)
  cells_are = made.cells ∙ ap all_with whole_is

  -- what is named is there
  terms_held : (cs : List CellId) (ts : List TermId) → All (HoldsCell w) cs → Each (λ c t. IsTerm v.types v.store [] t (type_of T (cell_of S c).ty)) (take (length ts) cs) ts → All (IsTypedRaise v) (raises_of cs ts)
  terms_held [] ts all e = All-nil (IsTypedRaise v)
  terms_held (c ∷ cs) [] all e = All-nil (IsTypedRaise v)
  terms_held (c ∷ cs) (t ∷ ts) all e =
      let here = All-head (HoldsCell w) c cs all in
      All-cons (IsTypedRaise v) (record { cell = c; to = t }) (raises_of cs ts)
      ((g.cells c here).0, subst (IsTerm v.types v.store [] t) (sym (grown_type T v.types S v.store g is.typed c here)) e.0)
      (terms_held cs ts (All-tail (HoldsCell w) c cs all) e.1)

  module _ (k : Kept) (news : List KeptNominal) (of : kept_of news (raises_of ys alt.raised.terms.items) alt k) (news_held : All (HoldsNominal w.types) news) (news_are : names_read v.types news ≡ fresh) where
    stands_whole : StandsFor v k whole
    stands_whole = record {
      fresh = ap (names_read v.types) of.0 ∙ news_are;
      raised = ap (raised_read v) of.1 ∙ raised_is;
      made = ap (λ l. variables_read v.types v.store l.items) of.2 ∙ made.own;
      equations = ap (λ l. images_from v.types v.store raised 0 l.items) of.3 ∙ equations_are;
      body = ap (read v) of.4 ∙ body_is;
    }

    pub stands : StandsFor v k (parts D c cells (length cells) (cells_of x cells us) us)
    stands = subst (StandsFor v k) whole_is stands_whole

    pub held : HoldsAlternative v k
    held = record {
      fresh = subst (All (HoldsNominal v.types)) (sym of.0) (names_held w.types v.types g.table news news_held);
      raised = subst (All (IsTypedRaise v)) (sym of.1) (terms_held ys alt.raised.terms.items ys_held made.raised.typed);
      made = subst (λ l. All (HoldsCell v) l.items) (sym of.2) (are_at v.types v.store (length base) base own alt.own.items refl made.cells made.own).held;
      equations = subst (λ l. All (IsTypedPair v.types v.store) l.items) (sym of.3) made.typed;
      body = subst (Holds v) (sym of.4) made.held;
    }

-- on either side
pub by_side : (w : World) (s : Sequent) (d : Defined) (c : Choice) (b : Bool) → let cells = cells_read w.types w.store in let us = map in_terms (map (variable_of w) (raised_cells_of b s.variables)) in
    parts d c cells (length cells) (cells_of x cells us) us ≡ by_choice (side_of b) (sequent_of w s) d c cells
by_side w s d c true = sym (left_is d c (scope_of (cells_read w.types w.store) (sequent_of w s)))
by_side w s d c false = sym (right_is d c (scope_of (cells_read w.types w.store) (sequent_of w s)))

-- the variables that are raised are there, and different
pub raised_held : (w : World) (b : Bool) (cs : List CellId) → All (HoldsCell w) cs → All (HoldsCell w) (raised_cells_of b cs)
raised_held w true cs all = all
raised_held w false cs all = All-nil (HoldsCell w)

pub raised_different : (b : Bool) (cs : List CellId) → AllPairs (λ c d. c ≢ d) cs → AllPairs (λ c d. c ≢ d) (raised_cells_of b cs)
raised_different true cs all = all
raised_different false cs all = AllPairs-none (λ c d. c ≢ d)

-- the raises that were put behind none
pub raises_are : (now before : List Raise) (ys : List CellId) (given ts : List TermId) → now ≡ before ++ raises_of ys given → before ≡ [] → given ≡ ts → now ≡ raises_of ys ts
raises_are now before ys given ts e none same = e ∙ ap (λ l. l ++ raises_of ys given) none ∙ ap (raises_of ys) same

-- WHAT IS MADE FOR A CHOICE of an atom of the goal
pub record IsMadeFor (w v : World) (s : Sequent) (d : DefinedAtom) (choice : KeptChoice) (b : Bool) (k : Kept) : Type 0 where
  pub stands : StandsFor v k (by_choice (side_of b) (sequent_of w s) (defined_read w d) (read_choice w choice) (cells_read w.types w.store))
  pub held : HoldsAlternative v k
  pub cells : cells_read v.types v.store ≡ all_with (by_choice (side_of b) (sequent_of w s) (defined_read w d) (read_choice w choice) (cells_read w.types w.store))

module _ (w v : World) (g : Grows w.types w.store v.types v.store) (s : Sequent) (d : DefinedAtom) (constants : List KeptNominal) (ready : IsAtomReady w s d constants) (choice : KeptChoice) (of : IsHeldFor w d choice) (b : Bool)
    (alt : Made) (ys : List CellId) (ys_are : ys ≡ raised_cells_of b s.variables) (ns : List KeptNominal) (ns_are : ns ≡ choice.names.items)
    (made : IsMade w.types w.store ys (defined_read w d).block.predicates (defined_read w d).sign (defined_read w d).arguments (choice_read w choice.clause.now ns) v.types v.store alt)
    (k : Kept) (news : List KeptNominal) (is : kept_of news (raises_of ys alt.raised.terms.items) alt k) (news_held : All (HoldsNominal w.types) news)
    (chosen : List KeptNominal) (chosen_are : chosen ≡ choice.names.items) (news_are : names_read w.types news ≡ outside (names_read w.types chosen) (names_read w.types constants)) where
  abbrev those : List CellId
  those = raised_cells_of b s.variables

  made_so : IsMade w.types w.store those (defined_read w d).block.predicates (defined_read w d).sign (defined_read w d).arguments (read_choice w choice) v.types v.store alt
  made_so =
      subst (λ (l : List CellId). IsMade w.types w.store l (defined_read w d).block.predicates (defined_read w d).sign (defined_read w d).arguments (read_choice w choice) v.types v.store alt) ys_are
      (subst (λ (l : List KeptNominal). IsMade w.types w.store ys (defined_read w d).block.predicates (defined_read w d).sign (defined_read w d).arguments (choice_read w choice.clause.now l) v.types v.store alt) ns_are made)

  is_so : kept_of news (raises_of those alt.raised.terms.items) alt k
  is_so = subst (λ (l : List CellId). kept_of news (raises_of l alt.raised.terms.items) alt k) ys_are is

  those_held : All (HoldsCell w) those
  those_held = raised_held w b s.variables ready.goal.variables

  defining : (sg : Signature) × IsDefining sg (read_choice w choice).clause
  defining = (signature_in (declarations_of w), defines w ready.world choice.clause.now of.kept)

  fresh_are : names_read v.types news ≡ fresh_in (defined_read w d).arguments (read_choice w choice)
  fresh_are =
      names_stay w.types v.types g.table news news_held ∙ news_are
      ∙ ap (λ (l : List KeptNominal). outside (names_read w.types l) (names_read w.types constants)) chosen_are
      ∙ ap (outside (names_read w.types choice.names.items)) ready.constants

  pub made_for : IsMadeFor w v s d choice b k
  made_for =
      let same = by_side w s (defined_read w d) (read_choice w choice) b in
      record {
        stands = subst (StandsFor v k) same (stands w v ready.world g those those_held d choice.clause.now choice.names.items alt ready.unmarked defining of.fit made_so k news is_so news_held fresh_are);
        held = held w v ready.world g those those_held d choice.clause.now choice.names.items alt ready.unmarked defining of.fit made_so k news is_so news_held fresh_are;
        cells = cells_are w v ready.world g those those_held d choice.clause.now choice.names.items alt ready.unmarked defining of.fit made_so ∙ ap all_with same;
      }
