-- CUT, INSTANCE AND MONOTONICITY of judgements: what they make of lists is typed, over the same variables and constants.
use Rattle.std.proofs.Common.{◌≡◌, inl, inr, ℕ, zero, suc, List, [], ◌∷◌, ◌++◌, map, Bool, true, false, bytes_eq, codes, Option, Some, None, refl, sym, ◌∙◌, ap, subst, append-nil, append_assoc}
use Rattle.std.specs.Prelude.{Contains, if◌then◌else◌}
use Rattle.std.specs.Option.{option_map, option_and_then}
use Rattle.std.proofs.lemmas.List.Elements.{All-contains, Contains-append_left, Contains-append_right, Contains-append_cases}
use Rattle.std.proofs.lemmas.Slice.Eq.{bytes_eq-Decides}
use Rattle.ab_term.specs.Types.{arrow, prop, o, olist}
use Rattle.ab_term.specs.Logical as logic
use Rattle.ab_term.specs.Terms as tree
use Rattle.ab_term.specs.Terms.{Nominal, Head, constant, logical, nominal, variable, index, lam, spine, Terms, no_terms, term, terms_of, Read}
use Rattle.ab_term.specs.Typing.{Signature, HasType, TakeType, typed_lam, typed_spine, take_none, take_term}
use Rattle.ab_term.specs.Names.{support}
use Rattle.ab_term.specs.Variables.{variables}
use Rattle.ab_term.specs.Substitution.{shift, substitute_by, reduce, instance, instance_by_all}
use Rattle.ab_term.specs.Abstraction.{over, close, abstracted}
use Rattle.ab_term.specs.Sameness.{same_term}
use Rattle.ab_term.proofs.Lists.{Contains-none, Contains-cases, Contains-here, Contains-there}
use Rattle.ab_term.proofs.Closing.{abstracted_typed}
use Rattle.ab_term.proofs.ClosingImages.{support-close, variables-close}
use Rattle.ab_term.proofs.Hinted.{named_over}
use Rattle.ab_term.proofs.Preservation.{here, shift_typed, instance_by_all_typed}
use Rattle.ab_unifiers.specs.Member.{HasMember, before, in_the_list}
use Rattle.ab_formulas.specs.Formulas.{IsFormula, HasOneTypeEach, a_formula, StandsIn}
use Rattle.ab_formulas.specs.Declarations.{Declarations, signature_in}
use Rattle.ab_formulas.specs.Marks.{plain as unmarked}
use Rattle.ab_formulas.specs.Sequents.{Sequent, formulas_of, names_of, in_terms}
use Rattle.ab_formulas.proofs.OneType.{fewer}
use Rattle.ab_theory.specs.Contexts.{without_item, list_if_same, cut_list, replace_constants, AllFit, is_within}
use Rattle.ab_theory.specs.Judgements.{marked_judgement}
use Rattle.ab_theory.proofs.Known.{Known, AllKnown, known_one, known_two, known_given, known_under, known_index, known_shift, known_by_all}
use Rattle.ab_theory.proofs.Demanded.{IsKnown}
use Rattle.ab_theory.proofs.Sequents.{formula_names, names_within}

-- CUT

module _ (sg : Signature) (has : HasMember sg) (P : tree.Variable ℕ → Type 0) (M : List Nominal) where
  abbrev IsList : Read → Type 0
  IsList = IsKnown sg P M olist

  -- an item, and the list behind it
  item_and_list : (c : List ℕ) (F L : Read) → bytes_eq c (codes "::") ≡ true → IsList (spine (constant c) (term F (term L no_terms))) → IsKnown sg P M o F × IsList L
  item_and_list c F L is k = go k.typed
    where
      go : HasType sg [] (spine (constant c) (term F (term L no_terms))) olist → IsKnown sg P M o F × IsList L
      go (typed_spine {A = A} e (take_term {A = B} d (take_term {A = C} f take_none))) =
          let whole : Some (arrow B (arrow C olist)) ≡ Some (arrow o (arrow olist olist)) = sym e ∙ ap sg ((bytes_eq-Decides c (codes "::")).0 is) ∙ has.cons in
          let one : B ≡ o = cc in
          let two : C ≡ olist = cc in (
            record {
              typed = subst (HasType sg [] F) one d;
              known = record {
                over = λ y m. k.known.over y (Contains-append_left (variables F) (variables L ++ []) y m);
                names = λ a m. k.known.names a (Contains-append_left (support F) (support L ++ []) a m);
              };
            },
            record {
              typed = subst (HasType sg [] L) two f;
              known = record {
                over = λ y m. k.known.over y (Contains-append_right (variables F) (variables L ++ []) y (Contains-append_left (variables L) [] y m));
                names = λ a m. k.known.names a (Contains-append_right (support F) (support L ++ []) a (Contains-append_left (support L) [] a m));
              };
            },
          )

  behind_item : (F L : Read) → IsKnown sg P M o F → IsList L → IsList (before F L)
  behind_item F L f l = record { typed = typed_spine has.cons (take_term f.typed (take_term l.typed take_none)); known = known_given P M (codes "::") F L f.known l.known }

  abbrev Shorter : Read → Read → Type 0
  Shorter L G = (N : Read) → without_item L G ≡ Some N → IsList L → IsList N

  without_list : (L G K : Read) → without_item L G ≡ Some K → IsList L → IsList K
  without_list (spine (constant c) (term F (term L no_terms))) G K e k = go (without_list L G) (bytes_eq c (codes "::")) refl e
    where
      there : Shorter L G → IsKnown sg P M o F × IsList L → (b : Option Read) → without_item L G ≡ b → option_map (before F) b ≡ Some K → IsList K
      there shorter w None q f = absurd (cc)
      there shorter w (Some N) q f = let same : before F N ≡ K = cc in subst IsList same (behind_item F N w.0 (shorter N q w.1))

      either_way : Shorter L G → IsKnown sg P M o F × IsList L → (b : Bool) → (if b then Some L else option_map (before F) (without_item L G)) ≡ Some K → IsList K
      either_way shorter w true f = let same : L ≡ K = cc in subst IsList same w.1
      either_way shorter w false f = there shorter w (without_item L G) refl f

      go : Shorter L G → (b : Bool) → bytes_eq c (codes "::") ≡ b → (if b then (if same_term F G then Some L else option_map (before F) (without_item L G)) else None) ≡ Some K → IsList K
      go shorter true q f = either_way shorter (item_and_list c F L q k) (same_term F G) f
      go shorter false q f = absurd (cc)
  without_list _ G K e k = absurd (cc)

  pub cut_known : (L G N K : Read) → cut_list L G N ≡ Some K → IsList L → IsList K
  cut_known L G N K e k = go (without_item L G) refl e
    where
      if_same : (b : Bool) (R : Read) → (if b then Some R else None) ≡ Some K → IsList R → IsList K
      if_same true R f r = let same : R ≡ K = cc in subst IsList same r
      if_same false R f r = absurd (cc)

      go : (b : Option Read) → without_item L G ≡ b → option_and_then (list_if_same N) b ≡ Some K → IsList K
      go None q f = absurd (cc)
      go (Some R) q f = if_same (same_term R N) R f (without_list L G R q k)

-- MONOTONICITY

within_typed : (sg : Signature) → HasMember sg → (L K : Read) → HasType sg [] L olist → HasType sg [] K olist → HasType sg [] (is_within L K) prop
within_typed sg has L K d e =
    let X : HasType sg {Var = ℕ} {Hint = List ℕ} (o ∷ []) (spine (index zero) no_terms) o = typed_spine refl take_none in
    let given : (N : Read) → HasType sg [] N olist → HasType sg (o ∷ []) (spine (constant (codes "member")) (in_the_list (spine (index zero) no_terms) (shift zero N))) prop =
    λ N f. typed_spine has.member (take_term X (take_term (shift_typed sg here f) take_none)) in
    typed_spine refl (take_term (typed_lam (typed_spine refl (take_term (given L d) (take_term (given K e) take_none)))) take_none)

pub within_formula : (sg : Signature) → HasMember sg → (L K : Read) → HasType sg [] L olist → HasType sg [] K olist → IsFormula sg (is_within L K)
within_formula sg has L K d e = record { typed = within_typed sg has L K d e; stands = (tt, ((tt, ((tt, (tt, (tt, tt))), ((tt, (tt, (tt, tt))), tt))), tt)) }

pub within_known : (P : tree.Variable ℕ → Type 0) (M : List Nominal) (L K : Read) → Known P M L → Known P M K → Known P M (is_within L K)
within_known P M L K a b =
    let X = spine (index zero) no_terms in
    let given = λ (N : Read) (k : Known P M N). known_given P M (codes "member") X (shift zero N) (known_index P M zero) (known_shift P M zero N k) in
    let l = spine (constant (codes "member")) (in_the_list X (shift zero L)) in
    let r = spine (constant (codes "member")) (in_the_list X (shift zero K)) in
    let body = spine (logical logic.implication) (term l (term r no_terms)) in
    known_one P M (logic.universal o) (lam o (codes "X") body) (known_under P M o (codes "X") body (known_two P M logic.implication l r (given L a) (given K b)))

-- INSTANCE

-- a judgement under so many binders
abbrev IsJudged : ℕ → Read → Type 0
IsJudged zero (spine (logical logic.judgement) (term L (term G no_terms))) = Unit {0}
IsJudged (suc n) (lam A x t) = IsJudged n t
IsJudged _ t = ⊥

close_judged : (a : Nominal) (n k : ℕ) (t : Read) → IsJudged n t → IsJudged n (close k (nominal a) t)
close_judged a zero k (spine (logical logic.judgement) (term L (term G no_terms))) s = tt
close_judged a (suc n) k (lam A x t) s = close_judged a n (suc k) t s
close_judged a _ k t s = absurd s

abbrev Apply : Type 0
Apply = Read → Terms ℕ (List ℕ) → Read

substitute_judged : (apply : Apply) (n k : ℕ) (u t : Read) → IsJudged n t → IsJudged n (substitute_by apply u k t)
substitute_judged apply zero k u (spine (logical logic.judgement) (term L (term G no_terms))) s = tt
substitute_judged apply (suc n) k u (lam A x t) s = substitute_judged apply n (suc k) (shift zero u) t s
substitute_judged apply _ k u t s = absurd s

abbrev count : List (Nominal × Read) → ℕ
count [] = zero
count (r ∷ rs) = suc (count rs)

abbrev names_in : List (Nominal × Read) → List Nominal
names_in rs = map (λ (r : Nominal × Read). r.0) rs

abbrev terms_in : List (Nominal × Read) → List Read
terms_in rs = map (λ (r : Nominal × Read). r.1) rs

abstracted_judged : (rs : List (Nominal × Read)) (t : Read) → IsJudged zero t → IsJudged (count rs) (abstracted (codes "x") (over (names_in rs) prop) (map nominal (names_in rs)) t)
abstracted_judged [] t s = s
abstracted_judged (r ∷ rs) t s = close_judged r.0 (count rs) zero (abstracted (codes "x") (over (names_in rs) prop) (map nominal (names_in rs)) t) (abstracted_judged rs t s)

instance_judged : (n : ℕ) (t u : Read) → IsJudged (suc n) t → IsJudged n (instance t u)
instance_judged n (lam A x t) u s = substitute_judged (reduce A) n zero u t s
instance_judged n (spine h ts) u s = absurd s

all_judged : (rs : List (Nominal × Read)) (t : Read) → IsJudged (count rs) t → IsJudged zero (instance_by_all t (terms_in rs))
all_judged [] t s = s
all_judged (r ∷ rs) t s = all_judged rs (instance t r.1) (instance_judged (count rs) t r.1 s)

judged_stands : (t : Read) → IsJudged zero t → StandsIn a_formula t
judged_stands (spine (logical logic.judgement) (term L (term G no_terms))) s = (tt, (tt, (tt, tt)))
judged_stands t s = absurd s

close_known : (P : tree.Variable ℕ → Type 0) (M : List Nominal) (k : ℕ) (h : Head ℕ) (t : Read) → Known P M t → Known P M (close k h t)
close_known P M k h t a = record { over = λ y m. a.over y (variables-close k h t y m).0; names = λ n m. a.names n (support-close k h t n m).0 }

abstracted_known : (P : tree.Variable ℕ → Type 0) (M : List Nominal) (ns : List Nominal) (t : Read) → Known P M t → Known P M (abstracted (codes "x") (over ns prop) (map nominal ns) t)
abstracted_known P M [] t k = k
abstracted_known P M (a ∷ ns) t k =
    let u = abstracted (codes "x") (over ns prop) (map nominal ns) t in
    known_under P M a.type (codes "x") (close zero (nominal a) u) (close_known P M zero (nominal a) u (abstracted_known P M ns t k))

module _ (D : Declarations) (s : Sequent) where
  abbrev sg : Signature
  sg = signature_in D

  -- the constants of the goal and of the terms
  abbrev pub AllNames : List (Nominal × Read) → List Nominal
  AllNames rs = names_of (formulas_of s ++ terms_in rs)

  terms_taken : (rs : List (Nominal × Read)) (front : List Read) → AllFit D s front rs → TakeType sg [] (terms_of (terms_in rs)) (over (names_in rs) prop) prop
  terms_taken [] front f = take_none
  terms_taken (r ∷ rs) front f = take_term (f.0).typed (terms_taken rs (front ++ r.1 ∷ []) f.1)

  terms_known : (M : List Nominal) (rs : List (Nominal × Read)) (front : List Read) → AllFit D s front rs → ((u : Read) → Contains (terms_in rs) u → (a : Nominal) → Contains (support u) a → Contains M a)
      → AllKnown (Contains (map in_terms s.variables)) M (terms_in rs)
  terms_known M [] front f within = tt
  terms_known M (r ∷ rs) front f within = (
    record {
      over = λ y c. All-contains (Contains (map in_terms s.variables)) (variables r.1) y (f.0).closed c;
      names = within r.1 (Contains-here r.1 (terms_in rs));
    },
    terms_known M rs (front ++ r.1 ∷ []) f.1 (λ u c. within u (Contains-there r.1 (terms_in rs) u c)),
  )

  -- they have one type each
  one_type_from : (rs : List (Nominal × Read)) (front : List Read) → AllFit D s front rs → HasOneTypeEach (names_of (formulas_of s ++ front)) → HasOneTypeEach (names_of (formulas_of s ++ (front ++ terms_in rs)))
  one_type_from [] front f one = subst (λ l. HasOneTypeEach (names_of (formulas_of s ++ l))) (sym (append-nil front)) one
  one_type_from (r ∷ rs) front f one =
      let all = formulas_of s ++ front in
      let within : (a : Nominal) → Contains (names_of (formulas_of s ++ (front ++ r.1 ∷ []))) a → Contains (names_of all ++ support r.1) a =
      λ a c. names_within (names_of all ++ support r.1) (all ++ r.1 ∷ [])
      (λ F there b k. elim (Contains-append_cases all (r.1 ∷ []) F there) [
        | inl m ↦ Contains-append_left (names_of all) (support r.1) b (formula_names all F b m k)
        | inr m ↦ elim (Contains-cases r.1 [] F m) [ inl e ↦ Contains-append_right (names_of all) (support r.1) b (subst (λ t. Contains (support t) b) (sym e) k) | inr n ↦ absurd (Contains-none F n) ]
      ]) a (subst (λ l. Contains (names_of l) a) (sym (append_assoc (formulas_of s) front (r.1 ∷ []))) c) in
      subst (λ l. HasOneTypeEach (names_of (formulas_of s ++ l))) (append_assoc front (r.1 ∷ []) (terms_in rs))
      (one_type_from rs (front ++ r.1 ∷ []) f.1 (fewer (names_of (formulas_of s ++ (front ++ r.1 ∷ []))) (names_of all ++ support r.1) within (f.0).one_type))

  pub instance_one_type : (rs : List (Nominal × Read)) → AllFit D s [] rs → HasOneTypeEach (names_of (formulas_of s)) → HasOneTypeEach (AllNames rs)
  instance_one_type rs f one = one_type_from rs [] f (subst (λ l. HasOneTypeEach (names_of l)) (sym (append-nil (formulas_of s))) one)

  pub goal_within : (rs : List (Nominal × Read)) (a : Nominal) → Contains (names_of (formulas_of s)) a → Contains (AllNames rs) a
  goal_within rs = names_within (AllNames rs) (formulas_of s) (λ F there a c. formula_names (formulas_of s ++ terms_in rs) F a (Contains-append_left (formulas_of s) (terms_in rs) F there) c)

  pub instance_formula : (rs : List (Nominal × Read)) → AllFit D s [] rs → (L G : Read) → HasType sg [] (marked_judgement unmarked L G) prop → IsFormula sg (replace_constants rs (marked_judgement unmarked L G))
  instance_formula rs f L G d =
      let t = abstracted (codes "x") (over (names_in rs) prop) (map nominal (names_in rs)) (marked_judgement unmarked L G) in
      record {
        typed = instance_by_all_typed sg (terms_in rs) (abstracted_typed sg (codes "x") (named_over sg [] (names_in rs) prop) d) (terms_taken rs [] f);
        stands = judged_stands (instance_by_all t (terms_in rs)) (all_judged rs t (abstracted_judged rs (marked_judgement unmarked L G) tt));
      }

  pub instance_known : (rs : List (Nominal × Read)) → AllFit D s [] rs → (F : Read) → Known (Contains (map in_terms s.variables)) (names_of (formulas_of s)) F → Known (Contains (map in_terms s.variables)) (AllNames rs) (replace_constants rs F)
  instance_known rs f F k =
      let P = Contains (map in_terms s.variables) in
      let M = AllNames rs in
      known_by_all P M (terms_in rs) (abstracted (codes "x") (over (names_in rs) prop) (map nominal (names_in rs)) F)
      (abstracted_known P M (names_in rs) F (record { over = k.over; names = λ a c. goal_within rs a (k.names a c) }))
      (terms_known M rs [] f (λ u c a m. formula_names (formulas_of s ++ terms_in rs) u a (Contains-append_right (formulas_of s) (terms_in rs) u c) m))
