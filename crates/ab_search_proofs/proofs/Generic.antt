-- The step at `forall`: the sequent's new variable stands in for the goal's.
use Rattle.std.proofs.Common.{◌≡◌, ◌≢◌, ℕ, List, [], ◌∷◌, map, length, codes, Some, refl, sym, ◌∙◌, ap, subst}
use Rattle.std.specs.Prelude.{All, Contains}
use Rattle.std.proofs.lemmas.List.Elements.{All-contains, All-weaker, All-cons, Contains-append_left, Contains-append_right}
use Rattle.std.proofs.lemmas.List.Kept.{AllPairs-cons}
use Rattle.ab_term.specs.Types.{Ty, arrow}
use Rattle.ab_term.specs.Terms as tree
use Rattle.ab_term.specs.Terms.{Nominal, Head, nominal, variable, Terms, no_terms, term, Read}
use Rattle.ab_term.specs.Typing.{Signature, HasType}
use Rattle.ab_term.specs.Names.{support, rename, rename_all, permute, moved_by, EqualUpToNames, IsPermutationTable, IsSupport}
use Rattle.ab_term.specs.Translation.{forget}
use Rattle.ab_term.specs.Substitution.{instance}
use Rattle.ab_term.specs.Expansion.{expansion_of, expansion}
use Rattle.ab_term.specs.Abstraction.{over, name_terms, given_names}
use Rattle.ab_term.specs.Variables.{value_in, variables, image}
use Rattle.ab_term.specs.Sameness.{same_number}
use Rattle.ab_term.proofs.Compositions.{image-instance}
use Rattle.ab_term.proofs.Depends.{image_agrees}
use Rattle.ab_term.proofs.Hinted.{given_typed, given-instances}
use Rattle.ab_term.proofs.Lists.{Contains-here, Contains-there, Contains-map, Contains-from_map, All-from_contains, AllPairs-map}
use Rattle.ab_term.proofs.PastHints.{support_past_hints}
use Rattle.ab_term.proofs.Permutations.{one_to_one, swapped, swapped_table}
use Rattle.ab_term.proofs.Permuting.{up_to_names-instance}
use Rattle.ab_term.proofs.Raising.{image-raised}
use Rattle.ab_term.proofs.Renamings.{rename-expansion_of, support-rename}
use Rattle.ab_term.proofs.Translations.{translate-rename}
use Rattle.ab_unifiers.specs.Clauses.{Each}
use Rattle.ab_unifiers.specs.Choices.{in_order}
use Rattle.ab_unifiers.proofs.Choosing.{ordered_pairs, ordered_contains, contains_ordered}
use Rattle.ab_unifiers.proofs.Ordered.{ordered_sorted}
use Rattle.ab_formulas.specs.Declarations.{Declarations, signature_in}
use Rattle.ab_formulas.specs.Forms.{for_all, form_of, as_for_all, for_all_in}
use Rattle.ab_formulas.specs.GoalTerms.{HoldsOnly}
use Rattle.ab_formulas.specs.Sequents.{Variable, Sequent, formulas, in_terms, proving, over as with_variable}
use Rattle.ab_theory.specs.Steps.{for_all_right}
use Rattle.ab_theory.specs.Rules as rules
use Rattle.ab_theory.specs.Rules.{raised, applied}
use Rattle.ab_theory.proofs.NewNumbers.{new_number}
use Rattle.ab_theory.proofs.One.{some_name}
use Rattle.ab_search_trees.specs.Guesses.{a_variable}
use Rattle.ab_search_trees.proofs.Quantifiers.{given_variables}
use Rattle.ab_search_proofs.specs.Likeness.{StandIn, replaced, put_in, replacing, IsStandIn, AreStandIns, IsLike, IsLikeGoal, AreLike}
use Rattle.ab_search_proofs.specs.Taking.{LeadsTo}
use Rattle.ab_search_proofs.proofs.Parts.{IsScope, instance_part}
use Rattle.ab_search_proofs.proofs.Alike.{like_for_all, for_all_known}
use Rattle.ab_search_proofs.proofs.StandIns.{stand_ins_typed, stand_ins_nameless, under_support}
use Rattle.ab_search_proofs.proofs.Extending.{sent_once, comes_from}
use Rattle.ab_search_proofs.proofs.Back.{found_first, found_later, kept_support}
use Rattle.ab_search_proofs.proofs.Taken.{leads_to}
use Rattle.ab_search_proofs.proofs.Connectives.{kept_stand_ins, same_option}

-- permuted constants are given in the place of constants
renamed_names : (m : Nominal → Nominal) → ((a : Nominal) → (m a).type ≡ a.type) → (ns : List Nominal) (A : Ty) → rename_all m (name_terms (codes "x") (over ns A) (map nominal ns)) ≡ name_terms (codes "x") (over (map m ns) A) (map nominal (map m ns))
renamed_names m keeps [] A = refl
renamed_names m keeps (a ∷ ns) A =
    ap (λ t. term t (rename_all m (name_terms (codes "x") (over ns A) (map nominal ns)))) (rename-expansion_of m (codes "x") a.type (nominal a) no_terms ∙ ap (λ B. expansion (codes "x") B (nominal (m a))) (sym (keeps a)))
    ∙ ap (term (expansion (codes "x") (m a).type (nominal (m a)))) (renamed_names m keeps ns A)

types_kept : (m : Nominal → Nominal) → ((a : Nominal) → (m a).type ≡ a.type) → (ns : List Nominal) (A : Ty) → over (map m ns) A ≡ over ns A
types_kept m keeps [] A = refl
types_kept m keeps (a ∷ ns) A = ap (λ B. arrow B (over (map m ns) A)) (keeps a) ∙ ap (arrow a.type) (types_kept m keeps ns A)

renamed_given : (m : Nominal → Nominal) → ((a : Nominal) → (m a).type ≡ a.type) → (z : tree.Variable ℕ) (ns : List Nominal) (A : Ty) → z.type ≡ over ns A → rename m (given_names (codes "x") z ns A) ≡ given_names (codes "x") z (map m ns) A
renamed_given m keeps z ns A e =
    rename-expansion_of m (codes "x") A (variable z) (name_terms (codes "x") z.type (map nominal ns))
    ∙ ap (expansion_of (codes "x") A (variable z))
    (ap (λ B. rename_all m (name_terms (codes "x") B (map nominal ns))) e ∙ renamed_names m keeps ns A ∙ ap (λ B. name_terms (codes "x") B (map nominal (map m ns))) (types_kept m keeps ns A ∙ sym e))

module _ (D : Declarations) (vs : List StandIn) (v : StandIn) (new : All (λ (y : tree.Variable ℕ). y.name ≢ v.number) (map replaced vs)) where
  -- one stand-in more changes nothing
  more_known : (t : Read) → HoldsOnly (map replaced vs) t → HoldsOnly (map replaced (v ∷ vs)) t
  more_known t k = All-weaker (Contains (map replaced vs)) (Contains (map replaced (v ∷ vs))) (λ y m. Contains-there (replaced v) (map replaced vs) y m) (variables t) k

  same_image : (t : Read) → HoldsOnly (map replaced vs) t → image same_number (replacing (v ∷ vs)) t ≡ image same_number (replacing vs) t
  same_image t k = image_agrees (value_in same_number (replacing (v ∷ vs))) (value_in same_number (replacing vs)) t (λ y m.
      found_later (replaced v) y (put_in v) (replacing vs) (λ e. All-contains (λ (z : tree.Variable ℕ). z.name ≢ v.number) (map replaced vs) y new (All-contains (Contains (map replaced vs)) (variables t) y k m) (sym (ap (λ (z : tree.Variable ℕ). z.name) e))))

  pub more_like : (F G : Read) → IsLike D vs F G → IsLike D (v ∷ vs) F G
  more_like F G l = record { formula = l.formula; known = more_known F l.known; same = subst (λ t. EqualUpToNames t G) (sym (same_image F l.known)) l.same }

  pub all_more_like : (Hs Gs : List Read) → Each (IsLike D vs) Hs Gs → Each (IsLike D (v ∷ vs)) Hs Gs
  all_more_like [] [] e = tt
  all_more_like [] (G ∷ Gs) e = absurd e
  all_more_like (B ∷ Hs) [] e = absurd e
  all_more_like (B ∷ Hs) (G ∷ Gs) e = (more_like B G e.0, all_more_like Hs Gs e.1)

module _ (D : Declarations) (vs : List StandIn) (Hs : List Read) (C : Read) (s : Sequent) (l : IsLikeGoal D vs Hs C s) (A : Ty) (F : Read) (n : ℕ) (scope : IsScope (signature_in D) (map replaced vs) A F) (new : All (λ (y : tree.Variable ℕ). y.name ≢ n) (map replaced vs)) where
  abbrev sg : Signature
  sg = signature_in D

  abbrev ps : List (Nominal × Nominal)
  ps = (l.conclusion.same).0

  abbrev table : IsPermutationTable ps
  table = (l.conclusion.same).1

  abbrev there : Read
  there = image same_number (replacing vs) C

  abbrev ns : List Nominal
  ns = in_order (support C)

  abbrev back_to : Nominal → Nominal
  back_to = moved_by (swapped ps)

  -- where the rule takes a variable of this number and name over these constants
  module _ (number : ℕ) (name : List ℕ) (names : List Nominal) (is : IsSupport s.conclusion names) (other : All (λ (x : Variable). x.number ≢ number) s.variables) where
    abbrev x : Variable
    x = raised number name A names

    abbrev pub stand_in : StandIn
    stand_in = record { number = n; constants = ns; variable = x; reordered = map back_to names; type = A }

    keeps_back : (a : Nominal) → (back_to a).type ≡ a.type
    keeps_back = (one_to_one (swapped ps) (swapped_table ps table)).keeps

    x_typed : x.type ≡ over (map back_to names) A
    x_typed = sym (types_kept back_to keeps_back names A)

    to_reordered : (a : Nominal) → Contains ns a → Contains (map back_to names) a
    to_reordered a m =
        let held = kept_support sg s vs l.variables l.conclusion.formula.typed l.conclusion.known a (contains_ordered (support C) a m) in
        let moved = subst (λ z. Contains z (moved_by ps a)) (sym (support-rename (moved_by ps) there) ∙ support_past_hints (permute ps there) s.conclusion (l.conclusion.same).2) (Contains-map (moved_by ps) (support there) a held) in
        subst (Contains (map back_to names)) ((one_to_one ps table).back a) (Contains-map back_to names (moved_by ps a) ((is.same (moved_by ps a)).1 moved))

    from_reordered : (a : Nominal) → Contains (map back_to names) a → Contains ns a
    from_reordered a m =
        let k = Contains-from_map back_to names a m in
        let c = comes_from ps table there s.conclusion (l.conclusion.same).2 k.0 ((is.same k.0).0 k.1) in
        subst (Contains ns) (sym ((one_to_one ps table).back c.0) ∙ ap back_to c.2 ∙ k.2) (ordered_contains (support C) c.0 (under_support (replacing vs) (stand_ins_nameless s vs l.variables) C c.0 c.1))

    stands : IsStandIn (with_variable x s) stand_in
    stands = record {
      there = Contains-append_right s.variables (x ∷ []) x (Contains-here x []);
      typed = x_typed;
      same = λ a. (to_reordered a, from_reordered a);
      once = ordered_pairs (support C);
      once_reordered = AllPairs-map back_to (λ a b. a ≢ b) names (λ i j d m k q. is.once i j d m k (sent_once (swapped ps) (swapped_table ps table) _ _ q));
    }

    are : AreStandIns (with_variable x s) (stand_in ∷ vs)
    are =
        let old = kept_stand_ins vs s (with_variable x s) (λ y m. Contains-append_left s.variables (x ∷ []) y m) l.variables in
        record {
          all = All-cons (IsStandIn (with_variable x s)) stand_in vs stands old.all;
          numbers_differ = AllPairs-cons (λ (v w : StandIn). v.number ≢ w.number) stand_in vs
              (All-from_contains (λ (w : StandIn). n ≢ w.number) vs (λ w m q. All-contains (λ (y : tree.Variable ℕ). y.name ≢ n) (map replaced vs) (replaced w) new (Contains-map replaced vs w m) (sym q))) old.numbers_differ;
          variables_differ = AllPairs-cons (λ (v w : StandIn). v.variable.number ≢ w.variable.number) stand_in vs
              (All-from_contains (λ (w : StandIn). number ≢ w.variable.number) vs (λ w m q. All-contains (λ (y : Variable). y.number ≢ number) s.variables w.variable other ((All-contains (IsStandIn s) vs w l.variables.all m).there) (sym q))) old.variables_differ;
        }

    abbrev asked : Read
    asked = a_variable n ns A

    asked_known : HoldsOnly (map replaced (stand_in ∷ vs)) asked
    asked_known = All-from_contains (Contains (map replaced (stand_in ∷ vs))) (variables asked) (λ y m. subst (Contains (map replaced (stand_in ∷ vs))) (sym (given_variables (codes "x") (replaced stand_in) ns A y m)) (Contains-here (replaced stand_in) (map replaced vs)))

    asked_typed : HasType sg [] asked A
    asked_typed = given_typed sg (codes "x") [] (replaced stand_in) ns A refl

    -- the sequent's variable, given its constants, is the goal's, once constants and variables are replaced
    given_same : forget (permute ps (image same_number (replacing (stand_in ∷ vs)) asked)) ≡ forget (applied x names)
    given_same =
        translate-rename (λ k. k) (λ k. tt) (moved_by ps) (image same_number (replacing (stand_in ∷ vs)) asked)
        ∙ ap (rename (moved_by ps)) (image-raised sg (codes "x") (replacing (stand_in ∷ vs)) (stand_ins_typed (with_variable x s) (stand_in ∷ vs) are sg) (replaced stand_in) ns A
        (given_names (codes "x") (in_terms x) (map back_to names) A) refl (given_typed sg (codes "x") [] (in_terms x) (map back_to names) A x_typed) (found_first (replaced stand_in) (replaced stand_in) (put_in stand_in) (replacing vs) refl))
        ∙ sym (translate-rename (λ k. k) (λ k. tt) (moved_by ps) (given_names (codes "x") (in_terms x) (map back_to names) A))
        ∙ ap forget (renamed_given (moved_by ps) (one_to_one ps table).keeps (in_terms x) (map back_to names) A x_typed
        ∙ ap (λ k. given_names (codes "x") (in_terms x) k A) (there_again names)
        ∙ sym (given-instances sg (codes "x") number names A))
      where
        there_again : (ks : List Nominal) → map (moved_by ps) (map back_to ks) ≡ ks
        there_again [] = refl
        there_again (k ∷ ks) = ap (λ z. z ∷ map (moved_by ps) (map back_to ks)) ((one_to_one ps table).forth k) ∙ ap (λ z. k ∷ z) (there_again ks)

    pub generic_like : (H : Read) → forget (permute ps (image same_number (replacing vs) F)) ≡ forget H → IsLikeGoal D (stand_in ∷ vs) Hs (instance F asked) (proving (instance H (applied x names)) (with_variable x s))
    generic_like H same =
        let wide : IsScope sg (map replaced (stand_in ∷ vs)) A F = record { typed = scope.typed; stands = scope.stands; known = more_known D vs stand_in new F scope.known } in
        let part = instance_part sg (map replaced (stand_in ∷ vs)) wide asked_typed asked_known in
        record {
          variables = kept_stand_ins (stand_in ∷ vs) (with_variable x s) (proving (instance H (applied x names)) (with_variable x s)) (λ y m. m) are;
          hypotheses = all_more_like D vs stand_in new Hs (formulas s.hypotheses) l.hypotheses;
          conclusion = record {
            formula = part.formula;
            known = part.known;
            same = (
              ps,
              table,
              ap (λ k. forget (permute ps k)) (image-instance sg same_number (replacing (stand_in ∷ vs)) (stand_ins_typed (with_variable x s) (stand_in ∷ vs) are sg) scope.typed asked_typed
                  ∙ ap (λ k. instance k (image same_number (replacing (stand_in ∷ vs)) asked)) (same_image D vs stand_in new F scope.known))
                  ∙ up_to_names-instance ps (image same_number (replacing vs) F) (image same_number (replacing (stand_in ∷ vs)) asked) H (applied x names) same given_same,
            );
          };
        }

  -- WHERE IT LEADS
  abbrev pub Generic : List Sequent → Type 0
  Generic qs = (v : StandIn) × (replaced v ≡ record { name = n; type = over ns A }) × AreLike D (v ∷ vs) Hs (instance F (a_variable n ns A) ∷ []) qs

pub variable_step : (D : Declarations) (vs : List StandIn) (Hs : List Read) (C : Read) (s : Sequent) (l : IsLikeGoal D vs Hs C s) (A : Ty) (F : Read) (n : ℕ) (e : form_of C ≡ for_all A F) (new : All (λ (y : tree.Variable ℕ). y.name ≢ n) (map replaced vs))
    → LeadsTo D for_all_right s (Generic D vs Hs C s l A F n (for_all_known D vs C s.conclusion A F l.conclusion e) new)
variable_step D vs Hs C s l A F n e new =
    let scope = for_all_known D vs C s.conclusion A F l.conclusion e in
    let k = like_for_all D vs C s.conclusion A F l.conclusion e in
    let q : as_for_all s.conclusion ≡ Some (A, k.0) = ap for_all_in k.1 in
    let held = in_order (support s.conclusion) in
    let is : IsSupport s.conclusion held = record { same = λ a. (contains_ordered (support s.conclusion) a, ordered_contains (support s.conclusion) a); once = ordered_pairs (support s.conclusion); order = ordered_sorted (support s.conclusion) } in
    let free = some_name s (rules.hint_of k.0) in
    leads_to D for_all_right s (Generic D vs Hs C s l A F n scope new)
    (λ cells are. (proving (instance k.0 (applied (raised (length cells) free.0 A held) held)) (with_variable (raised (length cells) free.0 A held) s) ∷ [], ((A, k.0), q, ((held, free.0), (is, free.1), refl))))
    (λ cells are i f. f.2)
    (λ cells are qs h.
    let p : h.0 ≡ (A, k.0) = same_option (sym h.1 ∙ q) in
    let names = ((h.2).0).0 in
    let name = ((h.2).0).1 in
    let w = stand_in D vs Hs C s l A F n scope new (length cells) name names (((h.2).1).0) (new_number cells s are) in (
      w,
      refl,
      subst (AreLike D (w ∷ vs) Hs (instance F (a_variable n (in_order (support C)) A) ∷ []))
          (sym ((h.2).2 ∙ ap (λ (z : Ty × Read). proving (instance z.1 (applied (raised (length cells) name z.0 names) names)) (with_variable (raised (length cells) name z.0 names) s) ∷ []) p))
          (generic_like D vs Hs C s l A F n scope new (length cells) name names (((h.2).1).0) (new_number cells s are) k.0 k.2, tt),
    ))
