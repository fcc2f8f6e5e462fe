-- THE MARKS THAT INDUCTION AND COINDUCTION PUT go when the formula is erased.
use Rattle.std.specs.Prelude.{Option, Some, None, false, All, drop, length}
use Rattle.std.proofs.Common.{◌≡◌, ℕ, zero, suc, List, [], ◌∷◌, ◌++◌, map, refl, sym, ◌∙◌, ap}
use Rattle.ab_term.specs.Logical as logical_word
use Rattle.ab_term.specs.Logical.{universal, nabla, implication, conjunction}
use Rattle.ab_term.specs.Terms.{Head, constant, logical, nominal, variable, index, lam, spine, Terms, no_terms, term, Read}
use Rattle.ab_formulas.specs.BodyMarks.{with_mark}
use Rattle.ab_formulas.specs.Declarations.{Declarations}
use Rattle.ab_formulas.specs.Formulas.{IsAtomic}
use Rattle.ab_formulas.specs.Marks.{Sign, plain, star_of, at_of, plus_of, hash_of, by_head, making_of, unmarked, erased, erased_all}
use Rattle.ab_theory.specs.Conjuncts.{conjuncts, with_parts}
use Rattle.ab_theory.specs.Induction.{matrix, antecedent, consequent, sign_in, inductive_at, coinductive_in, inductive_signs, coinductive_signs, in_matrix, in_antecedent, in_consequent, marked_antecedent, marked_consequent, marked_antecedents, marked_consequents}
use Rattle.ab_theory.proofs.PartSigns.{AllInductive, AllCoinductive, all_inductive, all_coinductive}
use Rattle.ab_theory.proofs.Sized.{IsUnmarked, unmarked_so, unmarked_in}

-- an atom or a judgement that is marked, without the mark
mark_gone : (m : Sign) (h : Head ℕ) (ts : Terms ℕ (List ℕ)) → making_of h ≡ by_head → erased (with_mark m (spine h ts)) ≡ erased (spine h ts)
mark_gone plain h ts e = refl
mark_gone (star_of i) h ts e = sym (ap (λ k. unmarked k h ts (erased_all ts)) e)
mark_gone (at_of i) h ts e = sym (ap (λ k. unmarked k h ts (erased_all ts)) e)
mark_gone (plus_of i) h ts e = sym (ap (λ k. unmarked k h ts (erased_all ts)) e)
mark_gone (hash_of i) h ts e = sym (ap (λ k. unmarked k h ts (erased_all ts)) e)

atomic_head : (h : Head ℕ) → IsAtomic h → making_of h ≡ by_head
atomic_head (constant c) a = refl
atomic_head (nominal x) a = refl
atomic_head (logical logical_word.judgement) a = refl
atomic_head (logical logical_word.focused_judgement) a = refl
atomic_head (logical l) a = absurd a
atomic_head (variable x) a = absurd a
atomic_head (index i) a = absurd a

unmarked_same : (m : Sign) (A : Read) → IsUnmarked A → erased (with_mark m A) ≡ erased A
unmarked_same m A (h, ts, atomic, is) = ap (λ B. erased (with_mark m B)) is ∙ mark_gone m h ts (atomic_head h atomic) ∙ ap erased (sym is)

-- UNDER THE PREFIX, AT AN ANTECEDENT, BEHIND ALL

under_prefix : (f : Read → Read) (F : Read) → erased (f (matrix F)) ≡ erased (matrix F) → erased (in_matrix f F) ≡ erased F
under_prefix f (spine (logical (universal A)) (term (lam B x t) no_terms)) e = ap (λ u. spine (logical (universal A)) (term (lam B x u) no_terms)) (under_prefix f t e)
under_prefix f (spine (logical (nabla A)) (term (lam B x t) no_terms)) e = ap (λ u. spine (logical (nabla A)) (term (lam B x u) no_terms)) (under_prefix f t e)
under_prefix f F e = e

at_antecedent : (f : Read → Read) (n : ℕ) (F A : Read) → antecedent n F ≡ Some A → erased (f A) ≡ erased A → erased (in_antecedent f n F) ≡ erased F
at_antecedent f (suc zero) (spine (logical implication) (term C (term B no_terms))) A e same =
    let here : C ≡ A = cc in
    ap (λ u. spine (logical implication) (term u (term (erased B) no_terms))) (ap (λ z. erased (f z)) here ∙ same ∙ ap erased (sym here))
at_antecedent f (suc (suc n)) (spine (logical implication) (term C (term B no_terms))) A e same =
    ap (λ u. spine (logical implication) (term (erased C) (term u no_terms))) (at_antecedent f (suc n) B A e same)
at_antecedent f n F A e same = absurd (cc)

behind_all : (f : Read → Read) (F : Read) → erased (f (consequent F)) ≡ erased (consequent F) → erased (in_consequent f F) ≡ erased F
behind_all f (spine (logical implication) (term C (term B no_terms))) e = ap (λ u. spine (logical implication) (term (erased C) (term u no_terms))) (behind_all f B e)
behind_all f F e = e

-- ONE PART

antecedent_same : (D : Declarations) (n : ℕ) (m : Sign) (F : Read) → inductive_at D n F ≡ Some plain → erased (marked_antecedent n m F) ≡ erased F
antecedent_same D n m F e = by_place (antecedent n (matrix F)) refl e
  where
    by_place : (o : Option Read) → antecedent n (matrix F) ≡ o → sign_in D o ≡ Some plain → erased (marked_antecedent n m F) ≡ erased F
    by_place None is f = absurd (cc)
    by_place (Some A) is f = under_prefix (in_antecedent (with_mark m) n) F (at_antecedent (with_mark m) n (matrix F) A is (unmarked_same m A (unmarked_in D A f)))

consequent_same : (D : Declarations) (m : Sign) (F : Read) → coinductive_in D F ≡ Some plain → erased (marked_consequent m F) ≡ erased F
consequent_same D m F e = under_prefix (in_consequent (with_mark m)) F (behind_all (with_mark m) (matrix F) (unmarked_same m (consequent (matrix F)) (unmarked_so D false (consequent (matrix F)) e)))

-- EACH PART

antecedents_same : (D : Declarations) (m : Sign) (ns : List ℕ) (Fs : List Read) → AllInductive D ns Fs → map erased (marked_antecedents ns m Fs) ≡ map erased Fs
antecedents_same D m [] [] is = refl
antecedents_same D m (n ∷ ns) (F ∷ Fs) is =
    ap (λ G. G ∷ map erased (marked_antecedents ns m Fs)) (antecedent_same D n m F is.0) ∙ ap (λ Gs. erased F ∷ Gs) (antecedents_same D m ns Fs is.1)
antecedents_same D m [] (F ∷ Fs) is = absurd is
antecedents_same D m (n ∷ ns) [] is = absurd is

consequents_same : (D : Declarations) (m : Sign) (Fs : List Read) → AllCoinductive D Fs → map erased (marked_consequents m Fs) ≡ map erased Fs
consequents_same D m [] is = refl
consequents_same D m (F ∷ Fs) is =
    ap (λ G. G ∷ map erased (marked_consequents m Fs)) (consequent_same D m F is.0) ∙ ap (λ Gs. erased F ∷ Gs) (consequents_same D m Fs is.1)

pub parts_of_induction : (D : Declarations) (ns : List ℕ) (m : Sign) (Fs : List Read) (ms : List Sign) → inductive_signs D ns Fs ≡ Some ms → All (λ k. k ≡ plain) ms → map erased (marked_antecedents ns m Fs) ≡ map erased Fs
parts_of_induction D ns m Fs ms e unmarked = antecedents_same D m ns Fs (all_inductive D ns Fs ms e unmarked)

pub parts_of_coinduction : (D : Declarations) (m : Sign) (Fs : List Read) (ms : List Sign) → coinductive_signs D Fs ≡ Some ms → All (λ k. k ≡ plain) ms → map erased (marked_consequents m Fs) ≡ map erased Fs
parts_of_coinduction D m Fs ms e unmarked = consequents_same D m Fs (all_coinductive D Fs ms e unmarked)

-- THE WHOLE FORMULA, with parts that are the same past their marks

-- the second list begins with such parts
abbrev BeginsSo : List Read → List Read → Type 0
BeginsSo [] Gs = Unit {0}
BeginsSo (F ∷ Fs) [] = ⊥
BeginsSo (F ∷ Fs) (G ∷ Gs) = (erased G ≡ erased F) × BeginsSo Fs Gs

begins_so : (Fs Gs : List Read) → map erased Gs ≡ map erased Fs → BeginsSo Fs Gs
begins_so [] Gs e = tt
begins_so (F ∷ Fs) [] e = absurd (cc)
begins_so (F ∷ Fs) (G ∷ Gs) e = (cc, begins_so Fs Gs (cc))

first_so : (Fs Hs Gs : List Read) → BeginsSo (Fs ++ Hs) Gs → BeginsSo Fs Gs
first_so [] Hs Gs b = tt
first_so (F ∷ Fs) Hs (G ∷ Gs) b = (b.0, first_so Fs Hs Gs b.1)
first_so (F ∷ Fs) Hs [] b = absurd b

rest_so : (Fs Hs Gs : List Read) → BeginsSo (Fs ++ Hs) Gs → BeginsSo Hs (drop (length Fs) Gs)
rest_so [] Hs Gs b = b
rest_so (F ∷ Fs) Hs (G ∷ Gs) b = rest_so Fs Hs Gs b.1
rest_so (F ∷ Fs) Hs [] b = absurd b

whole_so : (Gs : List Read) (F : Read) → BeginsSo (conjuncts F) Gs → erased (with_parts Gs F) ≡ erased F
whole_so Gs (spine (logical conjunction) (term A (term B no_terms))) b =
    let rest = drop (length (conjuncts A)) Gs in
    ap (λ C. spine (logical conjunction) (term C (term (erased (with_parts rest B)) no_terms))) (whole_so Gs A (first_so (conjuncts A) (conjuncts B) Gs b))
    ∙ ap (λ C. spine (logical conjunction) (term (erased A) (term C no_terms))) (whole_so rest B (rest_so (conjuncts A) (conjuncts B) Gs b))
whole_so (G ∷ Gs) F b = b.0
whole_so [] F b = absurd b

pub induction_whole : (D : Declarations) (ns : List ℕ) (m : Sign) (F : Read) (ms : List Sign) → inductive_signs D ns (conjuncts F) ≡ Some ms → All (λ k. k ≡ plain) ms
    → erased (with_parts (marked_antecedents ns m (conjuncts F)) F) ≡ erased F
induction_whole D ns m F ms e unmarked =
    let Gs = marked_antecedents ns m (conjuncts F) in
    whole_so Gs F (begins_so (conjuncts F) Gs (parts_of_induction D ns m (conjuncts F) ms e unmarked))

pub coinduction_whole : (D : Declarations) (m : Sign) (F : Read) (ms : List Sign) → coinductive_signs D (conjuncts F) ≡ Some ms → All (λ k. k ≡ plain) ms
    → erased (with_parts (marked_consequents m (conjuncts F)) F) ≡ erased F
coinduction_whole D m F ms e unmarked =
    let Gs = marked_consequents m (conjuncts F) in
    whole_so Gs F (begins_so (conjuncts F) Gs (parts_of_coinduction D m (conjuncts F) ms e unmarked))
