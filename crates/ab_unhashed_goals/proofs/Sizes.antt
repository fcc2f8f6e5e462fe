-- INDUCTION AND COINDUCTION mark no judgement `#`: coinduction goes on an atom.
use Rattle.std.proofs.Common.{◌≡◌, ℕ, zero, suc, false, List, [], ◌∷◌, length, drop, Option, Some, None, refl}
use Rattle.std.specs.Prelude.{All}
use Rattle.std.proofs.lemmas.List.Elements.{All-nil, All-cons, All-head, All-tail, All-append, All-drop}
use Rattle.ab_term.specs.Logical as plain
use Rattle.ab_term.specs.Terms.{logical, lam, spine, no_terms, term, Read}
use Rattle.ab_formulas.specs.BodyMarks.{with_mark}
use Rattle.ab_formulas.specs.Declarations.{Declarations}
use Rattle.ab_formulas.specs.Marks as signs
use Rattle.ab_formulas.specs.Marks.{Sign, hash_of, marked}
use Rattle.ab_formulas.specs.NewNames.{Label, auto}
use Rattle.ab_formulas.specs.Sequents.{Sequent, assuming}
use Rattle.ab_theory.specs.Atoms.{Defined, defined_atom}
use Rattle.ab_theory.specs.Conjuncts.{conjuncts, with_parts}
use Rattle.ab_theory.specs.Induction.{consequent, defined_so, coinductive_in, coinductive_signs, in_matrix, in_antecedent, in_consequent, marked_antecedent, marked_consequent, marked_antecedents, marked_consequents}
use Rattle.ab_theory.proofs.PartSigns.{first_and_rest}
use Rattle.ab_theory.proofs.Sequents.{AllFormulas}
use Rattle.ab_effects.specs.ProofCommands.{hypotheses_named}
use Rattle.ab_effects.specs.Row.{Row, Leads}
use Rattle.ab_search_answers.specs.Unmarked.{HoldNoHash, HasNoHash}
use Rattle.ab_unhashed_goals.specs.Unhashed.{NoJudgementIsHashed}
use Rattle.ab_search_answers.proofs.OtherNames.{IsNoHash, mark_none}
use Rattle.ab_unhashed_goals.proofs.Goals.{and_hypothesis}

-- PARTS

pub conjuncts_none : (F : Read) → HasNoHash F → All HasNoHash (conjuncts F)
conjuncts_none (spine (logical plain.conjunction) (term A (term B no_terms))) n = All-append HasNoHash (conjuncts A) (conjuncts B) (conjuncts_none A n.0) (conjuncts_none B n.1)
conjuncts_none F n = All-cons HasNoHash F [] n (All-nil HasNoHash)

pub with_parts_none : (Gs : List Read) (F : Read) → All HasNoHash Gs → HasNoHash F → HasNoHash (with_parts Gs F)
with_parts_none Gs (spine (logical plain.conjunction) (term A (term B no_terms))) all n =
    (with_parts_none Gs A all n.0, with_parts_none (drop (length (conjuncts A)) Gs) B (All-drop HasNoHash (length (conjuncts A)) Gs all) n.1)
with_parts_none (G ∷ Gs) F all n = All-head HasNoHash G Gs all
with_parts_none [] F all n = n

-- A MARK THAT ISN'T `#`
module _ (m : Sign) (is : IsNoHash m) where
  marked_none : (F : Read) → HasNoHash F → HasNoHash (with_mark m F)
  marked_none F n = go m is
    where
      go : (m : Sign) → IsNoHash m → HasNoHash (with_mark m F)
      go signs.plain i = n
      go (signs.star_of k) i = mark_none (signs.star_of k) tt F
      go (signs.at_of k) i = mark_none (signs.at_of k) tt F
      go (signs.plus_of k) i = mark_none (signs.plus_of k) tt F
      go (signs.hash_of k) i = absurd i

  in_antecedent_none : (k : ℕ) (F : Read) → HasNoHash F → HasNoHash (in_antecedent (with_mark m) k F)
  in_antecedent_none (suc zero) (spine (logical plain.implication) (term A (term B no_terms))) n = (marked_none A n.0, n.1)
  in_antecedent_none (suc (suc k)) (spine (logical plain.implication) (term A (term B no_terms))) n = (n.0, in_antecedent_none (suc k) B n.1)
  in_antecedent_none k F n = n

  in_consequent_none : (F : Read) → HasNoHash F → HasNoHash (in_consequent (with_mark m) F)
  in_consequent_none (spine (logical plain.implication) (term A (term B no_terms))) n = (n.0, in_consequent_none B n.1)
  in_consequent_none F n = marked_none F n

  matrix_none : (f : Read → Read) → ((G : Read) → HasNoHash G → HasNoHash (f G)) → (F : Read) → HasNoHash F → HasNoHash (in_matrix f F)
  matrix_none f keeps (spine (logical (plain.universal A)) (term (lam B x t) no_terms)) n = matrix_none f keeps t n
  matrix_none f keeps (spine (logical (plain.nabla A)) (term (lam B x t) no_terms)) n = matrix_none f keeps t n
  matrix_none f keeps F n = keeps F n

  pub antecedents_none : (ns : List ℕ) (Fs : List Read) → All HasNoHash Fs → All HasNoHash (marked_antecedents ns m Fs)
  antecedents_none [] [] all = All-nil HasNoHash
  antecedents_none [] (F ∷ Fs) all = All-nil HasNoHash
  antecedents_none (k ∷ ns) [] all = All-nil HasNoHash
  antecedents_none (k ∷ ns) (F ∷ Fs) all =
      All-cons HasNoHash (marked_antecedent k m F) (marked_antecedents ns m Fs) (matrix_none (in_antecedent (with_mark m) k) (in_antecedent_none k) F (All-head HasNoHash F Fs all)) (antecedents_none ns Fs (All-tail HasNoHash F Fs all))

  pub consequents_none : (Fs : List Read) → All HasNoHash Fs → All HasNoHash (marked_consequents m Fs)
  consequents_none [] all = All-nil HasNoHash
  consequents_none (F ∷ Fs) all =
      All-cons HasNoHash (marked_consequent m F) (marked_consequents m Fs) (matrix_none (in_consequent (with_mark m)) in_consequent_none F (All-head HasNoHash F Fs all)) (consequents_none Fs (All-tail HasNoHash F Fs all))

-- `#` ON AN ATOM
module _ (D : Declarations) (i : ℕ) where
  on_atom : (F : Read) (d : Defined) → defined_atom D F ≡ Some d → HoldNoHash (marked (hash_of i) F)
  on_atom (lam A x t) d e = tt
  on_atom (spine (logical plain.judgement) no_terms) d e = absurd (cc)
  on_atom (spine (logical plain.judgement) (term t no_terms)) d e = absurd (cc)
  on_atom (spine (logical plain.judgement) (term t (term u no_terms))) d e = absurd (cc)
  on_atom (spine (logical plain.judgement) (term t (term u (term v ts)))) d e = absurd (cc)
  on_atom (spine (logical plain.focused_judgement) no_terms) d e = absurd (cc)
  on_atom (spine (logical plain.focused_judgement) (term t no_terms)) d e = absurd (cc)
  on_atom (spine (logical plain.focused_judgement) (term t (term u no_terms))) d e = absurd (cc)
  on_atom (spine (logical plain.focused_judgement) (term t (term u (term v ts)))) d e = absurd (cc)
  on_atom (spine h ts) d e = tt

  on_defined : (F : Read) (m : Sign) → defined_so false (defined_atom D F) ≡ Some m → HoldNoHash (marked (hash_of i) F)
  on_defined F m e = go (defined_atom D F) refl e
    where
      go : (o : Option Defined) → defined_atom D F ≡ o → defined_so false o ≡ Some m → HoldNoHash (marked (hash_of i) F)
      go None is e = absurd (cc)
      go (Some d) is e = on_atom F d is

  behind_none : (F : Read) (m : Sign) → defined_so false (defined_atom D (consequent F)) ≡ Some m → HasNoHash F → HasNoHash (in_consequent (with_mark (hash_of i)) F)
  behind_none (spine (logical plain.implication) (term A (term B no_terms))) m e n = (n.0, behind_none B m e n.1)
  behind_none F m e n = on_defined F m e

  inside_none : (F : Read) (m : Sign) → coinductive_in D F ≡ Some m → HasNoHash F → HasNoHash (marked_consequent (hash_of i) F)
  inside_none (spine (logical (plain.universal A)) (term (lam B x t) no_terms)) m e n = inside_none t m e n
  inside_none (spine (logical (plain.nabla A)) (term (lam B x t) no_terms)) m e n = inside_none t m e n
  inside_none F m e n = behind_none F m e n

  pub hashed_none : (Fs : List Read) (ms : List Sign) → coinductive_signs D Fs ≡ Some ms → All HasNoHash Fs → All HasNoHash (marked_consequents (hash_of i) Fs)
  hashed_none [] ms e all = All-nil HasNoHash
  hashed_none (F ∷ Fs) ms e all =
      let so = first_and_rest (coinductive_in D F) (coinductive_signs D Fs) ms e in
      All-cons HasNoHash (marked_consequent (hash_of i) F) (marked_consequents (hash_of i) Fs) (inside_none F so.first so.first_is (All-head HasNoHash F Fs all)) (hashed_none Fs so.rest so.rest_is (All-tail HasNoHash F Fs all))

-- HYPOTHESES OF INDUCTION get their names: what follows speaks of a goal that has them
pub named_none : (word : List ℕ) (l : Label) (Fs : List Read) (s : Sequent) (k : Sequent → Row) (ps : List Sequent) → AllFormulas HasNoHash s.hypotheses → All HasNoHash Fs
    → ((t : Sequent) → AllFormulas HasNoHash t.hypotheses → Leads (k t) ps → All NoJudgementIsHashed ps) → Leads (hypotheses_named word l Fs s k) ps → All NoJudgementIsHashed ps
named_none word l [] s k ps hs all goes h = goes s hs h
named_none word l (F ∷ Fs) s k ps hs all goes (name, is, h) =
    named_none word auto Fs (assuming name F s) k ps (and_hypothesis HasNoHash name F s hs (All-head HasNoHash F Fs all)) (All-tail HasNoHash F Fs all) goes h
