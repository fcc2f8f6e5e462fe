-- THE SEARCH IS COMPLETE to its depth: where the first goal has a derivation by guesses and formulas in focus are firm, its tree has a leaf.
use Rattle.std.proofs.Common.{inl, inr, zero, sym, ◌∙◌, ap, subst, ◌≡◌, ◌≢◌, ℕ, List, [], ◌∷◌, ◌++◌, length, Bool, true, false, Some, None, refl}
use Rattle.std.proofs.lemmas.Bool.{false≢true}
use Rattle.ab_term.specs.Types.{Ty}
use Rattle.ab_term.specs.Terms.{lam, Read}
use Rattle.ab_term.specs.Typing.{HasType}
use Rattle.ab_term.specs.Names.{support, moved_by}
use Rattle.ab_term.specs.Substitution.{shift, substitute, instance}
use Rattle.ab_term.proofs.Shifts.{substitute_by-shift}
use Rattle.ab_unifiers.specs.Choices.{in_order}
use Rattle.ab_formulas.specs.Forms.{Form, truth, both, either, implies, equal, for_all, exists, nabla, other, form_of}
use Rattle.ab_formulas.specs.Marks.{erased}
use Rattle.ab_theory.specs.Atoms.{defined_atom}
use Rattle.ab_theory.specs.Judgements.{as_judgement}
use Rattle.ab_search_trees.specs.Maps.{mapping}
use Rattle.ab_term.specs.Translation.{forget}
use Rattle.ab_unifiers.specs.Member.{HasMember}
use Rattle.ab_unifiers.specs.Replacements.{Cell}
use Rattle.ab_unifiers.proofs.Following.{Put}
use Rattle.ab_unifiers.proofs.Ruling.{image_none}
use Rattle.ab_formulas.specs.Declarations.{Declarations, signature_in, HaveDefinitions}
use Rattle.ab_formulas.specs.Programs.{HavePrograms}
use Rattle.ab_formulas.specs.Sequents.{Sequent, formulas, IsSequent}
use Rattle.ab_theory.specs.Equations.{AreCells}
use Rattle.ab_search_trees.specs.Goals.{Goal, Now, asking, beginning, first_goal}
use Rattle.ab_search_trees.specs.Judgements.{is_blind}
use Rattle.ab_search_trees.specs.Ways.{demanded, in_turn}
use Rattle.ab_search_trees.specs.Tree.{Leaf}
use Rattle.ab_search_trees.specs.Outcomes.{not_found, Searched, ComesTo}
use Rattle.ab_search_trees.specs.Guesses.{HoldsOf, ruled_to, Guessed, by_truth, by_hypothesis, by_equality, by_both, by_left, by_right, by_assuming, by_constant, by_term, by_variable, by_layer, by_clause, by_rule}
use Rattle.ab_search_trees.proofs.Forms.{Makes}
use Rattle.ab_search_trees.proofs.Facts.{IsTask}
use Rattle.ab_search_trees.proofs.Against.{IsState, MakesEach, IsGuess}
use Rattle.ab_search_trees.proofs.Root.{task}
use Rattle.ab_search_trees.proofs.Telling.{none_left}
use Rattle.ab_search_completeness.specs.Places.{it_is, HasExistential, FocusIsFirm, FocusesAreFirm, SeesAll}
use Rattle.ab_coverage.proofs.IndexedGoals.{for_some}
use Rattle.ab_search_completeness.proofs.Going.{Goes, Finds, none_finds, going}
use Rattle.ab_search_completeness.proofs.Connectives.{goes_truth, goes_equal, goes_both, goes_left, goes_right, goes_assuming}
use Rattle.ab_search_completeness.proofs.Assumed.{goes_hypothesis}
use Rattle.ab_search_completeness.proofs.Opened.{goes_layer}
use Rattle.ab_search_completeness.proofs.Quantified.{goes_constant, goes_term, next_is_new, goes_variable}
use Rattle.ab_search_completeness.proofs.Defined.{goes_clause}
use Rattle.ab_search_completeness.proofs.Ruled.{goes_rule}
use Rattle.ab_search_completeness.proofs.Vacuous.{Fills, as_it_is, inside, besides, fills_under}
use Rattle.ab_search_completeness.proofs.Existential.{some_or_none, none_after, exists_renamed}

-- nothing is put in
abbrev nothing : Put
nothing y = None

itself : (t : Read) → Makes nothing t t
itself t = image_none (forget t)

each_itself : (ts : List Read) → MakesEach nothing ts ts
each_itself [] = tt
each_itself (t ∷ ts) = (itself t, each_itself ts)

module _ (D : Declarations) (defs : HaveDefinitions D) (programs : HavePrograms D) (has : HasMember (signature_in D)) where
  -- from the first goal, where its guess shows a way
  from_first : (h : Goal) (hs : List Goal) → ((now : Now) (f : Put) (g : Goal) (s : IsState (signature_in D) now f) (t : IsTask (signature_in D) now g) (a : IsGuess f g h) → is_blind now.flexible g.conclusion ≡ false → FocusIsFirm now g
      → (ks : List Goal) × Goes D now f g ks × Finds D (ks ++ hs)) → Finds D (h ∷ hs)
  from_first h hs step now f [] s t a firm ls l = absurd a
  from_first h hs step now f (g ∷ gs) s t a firm ls l = going D defs programs has now f g gs hs s t a.1 firm (λ sight. step now f g s t.0 a.0 sight (firm now g gs it_is)) ls l

  in_whatever_turn : (b : Bool) (k m : Goal) (hs : List Goal) → Finds D (k ∷ m ∷ hs) → Finds D (m ∷ k ∷ hs) → Finds D (in_turn b k m ++ hs)
  in_whatever_turn true k m hs c d = d
  in_whatever_turn false k m hs c d = c

  -- goals that are the same, past hints and whichever part comes first
  finds_alike : (h k : Goal) (hs : List Goal) → k.hypotheses ≡ h.hypotheses → forget k.conclusion ≡ forget h.conclusion → k.depth ≡ h.depth → k.constants ≡ h.constants → k.untouched ≡ h.untouched → k.layers ≡ h.layers
      → Finds D (h ∷ hs) → Finds D (k ∷ hs)
  finds_alike h k hs hyps concl deep consts un lay finds now f [] s t a firm ls l = absurd a
  finds_alike h k hs hyps concl deep consts un lay finds now f (g ∷ gs) s t a firm ls l =
      finds now f (g ∷ gs) s t (
        record {
          conclusion = (a.0).conclusion ∙ concl;
          hypotheses = subst (MakesEach f g.hypotheses) hyps (a.0).hypotheses;
          depth = sym deep ∙ (a.0).depth;
          constants = sym consts ∙ (a.0).constants;
          untouched = sym un ∙ (a.0).untouched;
          layers = sym lay ∙ (a.0).layers;
        },
        a.1,
      )
      firm ls l

  -- a term is guessed
  finds_term : (h : Goal) (A : Ty) (F u : Read) → form_of h.conclusion ≡ exists A F → HasType (signature_in D) [] u A → HoldsOf h.constants u → (hs : List Goal) → Finds D (record (asking (instance F u) h) { untouched = false } ∷ hs) → Finds D (h ∷ hs)
  finds_term h A F u e typed of hs c = from_first h hs (λ now f g s t a sight firm. (record (asking (instance F u) h) { untouched = false } ∷ [], goes_term D now f s g h t a A F u e typed of, c))

  abbrev Plainly : Goal → Type 0
  Plainly k = (hs : List Goal) → Finds D hs → Finds D (k ∷ hs)

  -- what is asked where both begin with `exists`
  abbrev Inner : Goal → Type 0
  Inner k = (A : Ty) (x : List ℕ) (t v : Read) → for_some A x v ≡ k.conclusion → Fills (signature_in D) (HoldsOf k.constants) t v → Plainly (asking (for_some A x t) k)

  -- with more `exists` in front whose names stand nowhere, where no hypothesis begins with `exists`
  abbrev Filled : Goal → Type 0
  Filled k = (HasExistential k.hypotheses → ⊥) → k.untouched ≡ false → (X Y : Read) → Y ≡ k.conclusion → Fills (signature_in D) (HoldsOf k.constants) X Y → Plainly (asking X k)

  fill : (k : Goal) → Plainly k → Inner k → k.untouched ≡ false → (X Y : Read) → Y ≡ k.conclusion → Fills (signature_in D) (HoldsOf k.constants) X Y → Plainly (asking X k)
  fill k first inner u X Y y as_it_is hs c = finds_alike k (asking Y k) hs refl (ap forget y) refl refl refl refl (first hs c)
  fill k first inner u X Y y (inside {A = A} {x = x} {t = t} {u = v} m) hs c = inner A x t v y m hs c
  fill k first inner u X Y y (besides {A = A} {x = x} {t = t} v d of m) hs c =
      finds_term (asking X k) A (lam A x (shift zero t)) v refl d of hs
      (finds_alike (asking t k) (record (asking (substitute A v zero (shift zero t)) k) { untouched = false }) hs refl (ap forget (substitute_by-shift t _ v zero)) refl refl (sym u) refl (fill k first inner u t Y y m hs c))

  abbrev IsNoExists : Form → Type 0
  IsNoExists (exists A F) = ⊥
  IsNoExists _ = Unit {0}

  never_inner : (k : Goal) (F : Form) → form_of k.conclusion ≡ F → IsNoExists F → Inner k
  never_inner k F e n A x t v y m = absurd (subst IsNoExists (sym (ap form_of y ∙ e)) n)

  never_fills : (k : Goal) (F : Form) → form_of k.conclusion ≡ F → IsNoExists F → Plainly k → Plainly k × Filled k
  never_fills k F e n first = (first, λ none u X Y y m. fill k first (never_inner k F e n) u X Y y m)

  both_find : {rules : Bool} {h : Goal} → Guessed D rules h → Plainly h × Filled h
  both_find (by_truth {g = h} e) = never_fills h truth e tt (λ hs c. from_first h hs (λ now f g s t a sight firm. ([], goes_truth D now f s g h t a e, c)))
  both_find (by_hypothesis {g = h} B ns there targets same serves) =
      let first : Plainly h = λ hs c. from_first h hs (λ now f g s t a sight firm. ([], goes_hypothesis D now f s g h t a B ns there targets same serves, c)) in (
        first,
        λ n u X Y y m. fill h first (λ A x t v z m.
            let found = exists_renamed (moved_by (mapping (in_order (support B)) ns)) (erased B) A (lam A tt (forget (erased v))) (same ∙ ap (λ t. forget (erased t)) (sym z)) in
            absurd (n (B, A, found.0, there, found.1))) u X Y y m,
      )
  both_find (by_equality {g = h} {A = A} {t = v} {u = w} e same) = never_fills h (equal A v w) e tt (λ hs c. from_first h hs (λ now f g s t a sight firm. ([], goes_equal D now f s g h t a A v w e same, c)))
  both_find (by_both {g = h} {A = A} {B = B} e p q) =
      never_fills h (both A B) e tt (λ hs c. from_first h hs (λ now f g s t a sight firm. (
        in_turn g.member_first (asking A h) (asking B h),
        goes_both D now f s g h t a A B e,
        in_whatever_turn g.member_first (asking A h) (asking B h) hs ((both_find p).0 (asking B h ∷ hs) ((both_find q).0 hs c)) ((both_find q).0 (asking A h ∷ hs) ((both_find p).0 hs c)),
      )))
  both_find (by_left {g = h} {A = A} {B = B} e p) = never_fills h (either A B) e tt (λ hs c. from_first h hs (λ now f g s t a sight firm. (_, goes_left D now f s g h t a A B e, (both_find p).0 hs c)))
  both_find (by_right {g = h} {A = A} {B = B} e p) = never_fills h (either A B) e tt (λ hs c. from_first h hs (λ now f g s t a sight firm. (_, goes_right D now f s g h t a A B e, (both_find p).0 hs c)))
  both_find (by_assuming {g = h} {A = A} {B = B} e p) = never_fills h (implies A B) e tt (λ hs c. from_first h hs (λ now f g s t a sight firm. (_, goes_assuming D now f s g h t a A B e, (both_find p).0 hs c)))
  both_find (by_constant {g = h} {A = A} {F = F} e p) = never_fills h (nabla A F) e tt (λ hs c. from_first h hs (λ now f g s t a sight firm. (_, goes_constant D now f s g h t a A F e, (both_find p).0 hs c)))
  both_find (by_term {g = h} {A = B} {F = F} w e typed of p) =
      let rest = both_find p in
      let first : Plainly h = λ hs c. finds_term h B F w e typed of hs (rest.0 hs c) in (
        first,
        λ n u X Y y m. fill h first (λ A x t v z m hs c.
            let forms : exists A (lam A x v) ≡ exists B F = ap form_of z ∙ e in
            let types : A ≡ B = cc in
            let scopes : lam A x v ≡ F = cc in
            let whole : substitute A w zero v ≡ instance F w = ap (λ G. instance G w) scopes in
            let next : Goal = record (asking (instance F w) h) { untouched = false } in
            finds_term (asking (for_some A x t) h) A (lam A x t) w refl (subst (HasType (signature_in D) [] w) (sym types) typed) of hs
            (finds_alike (asking (substitute A w zero t) next) (record (asking (substitute A w zero t) h) { untouched = false }) hs refl refl refl refl refl refl
            (rest.1 n refl (substitute A w zero t) (substitute A w zero v) whole (fills_under (signature_in D) (HoldsOf h.constants) A w zero m) hs c))) u X Y y m,
      )
  both_find (by_variable {g = h} {A = A} {F = F} e clean p) =
      never_fills h (for_all A F) e tt (λ hs c. from_first h hs (λ now f g s t a sight firm. (_, goes_variable D now f s g h t a clean A F e, (both_find (p (length now.cells) (next_is_new D now f s g h t a clean))).0 hs c)))
  both_find (by_layer {g = h} {n = n} {F = F} e o l p) = never_fills h other e tt (λ hs c. from_first h hs (λ now f g s t a sight firm. (_, goes_layer D has now f s g h t a n F sight e o l, (both_find p).0 hs c)))
  both_find (by_clause {g = h} {depth = depth} d k us e atom may there guess p) =
      let first : Plainly h = λ hs c. from_first h hs (λ now f g s t a sight firm. (_, goes_clause D defs now f s g h t a depth d k us e atom may there guess, (both_find p).0 hs c)) in
      (first, λ n u X Y y m. fill h first (λ A x t v z m. absurd (let bad : None ≡ Some d = ap (defined_atom D) z ∙ atom in cc)) u X Y y m)
  both_find (by_rule {g = h} {depth = depth} j r i us allowed deep is may one above meets p) =
      let first : Plainly h = λ hs c. from_first h hs (λ now f g s t a sight firm.
      let to = goes_rule D programs has now f s g h t a depth j r i us sight firm deep is may one above meets in
      let k = ruled_to depth h i (demanded i j r) us in (
        _,
        to.goes,
        elim (some_or_none g.hypotheses) [
          | inl e ↦ finds_alike k (asking to.shape k) hs refl (to.kept e) refl refl refl refl ((both_find p).0 hs c)
          | inr e ↦ (both_find p).1 (none_after (signature_in D) now g.constants g.untouched f g.hypotheses h.hypotheses t.hypotheses a.hypotheses e) refl to.shape k.conclusion refl to.fills hs c
        ],
      )) in
      (first, λ n u X Y y m. fill h first (λ A x t v z m. absurd (let bad : None ≡ Some j = ap as_judgement z ∙ is in cc)) u X Y y m)

  pub guessed_finds : {rules : Bool} {h : Goal} → Guessed D rules h → (hs : List Goal) → Finds D hs → Finds D (h ∷ hs)
  guessed_finds p = (both_find p).0

  module _ (depth : ℕ) (s : Sequent) (is : IsSequent D s) where
    -- A DERIVATION BY GUESSES leaves a leaf
    pub guessed_leaf : (cells : List (Cell (List ℕ))) → AreCells cells s → FocusesAreFirm D (beginning cells s) (first_goal depth s ∷ []) → {rules : Bool} → Guessed D rules (first_goal depth s) → (ls : List Leaf) → Searched D cells depth s ls → ls ≢ []
    guessed_leaf cells are firm d ls l =
        let state : IsState (signature_in D) (beginning cells s) nothing = record {
          cells = λ y h. absurd (false≢true h);
          fits = record { typed = λ y v e. absurd (let bad : None ≡ Some v = e in cc); has = λ y v e. absurd (let bad : None ≡ Some v = e in cc); some = λ y h. absurd (false≢true h); none = λ y h. refl };
        } in
        let guess : IsGuess nothing (first_goal depth s) (first_goal depth s) = record { conclusion = itself s.conclusion; hypotheses = each_itself (formulas s.hypotheses); depth = refl; constants = refl; untouched = refl; layers = refl } in
        guessed_finds d [] (none_finds D) (beginning cells s) nothing (first_goal depth s ∷ []) state (task D cells depth s is are, tt) (guess, tt) firm ls l

    -- NOTHING IS FOUND where the search sees all: no derivation is there
    pub none_guessed : ComesTo D depth s not_found → SeesAll D depth s → {rules : Bool} → Guessed D rules (first_goal depth s) → ⊥
    none_guessed comes sees d =
        let seen = sees comes.0 comes.1 in
        guessed_leaf comes.0 comes.1 seen.1 d comes.2 comes.3 (none_left comes.2 comes.4 (seen.0 comes.2 comes.3))
