-- A proof in progress goes on by what is derived of its current goal, whatever numbers the goal's variables are given.
use Rattle.std.specs.Prelude.{All}
use Rattle.std.proofs.Common.{◌≡◌, ℕ, List, [], ◌∷◌, ◌++◌, map, refl, sym, ◌∙◌, ap, subst}
use Rattle.std.proofs.lemmas.List.{map-append}
use Rattle.std.proofs.lemmas.List.Elements.{All-nil, All-cons, All-head, All-tail}
use Rattle.ab_term.specs.Names.{support, HasOneTypeEach}
use Rattle.ab_term.specs.Terms.{Read}
use Rattle.ab_term.proofs.Lists.{Contains-none}
use Rattle.ab_formulas.specs.Declarations.{Declarations, signature_in}
use Rattle.ab_formulas.specs.Formulas.{IsSentence}
use Rattle.ab_formulas.specs.NamedGoals.{Goal, named, IsNumbered}
use Rattle.ab_formulas.specs.Sequents.{Sequent, IsSequent}
use Rattle.ab_theory.specs.Assumptions.{with_debts}
use Rattle.ab_theory.specs.Derivations.{Derivation, goal, open_goals, proves, Debt, IsTreeOf}
use Rattle.ab_theory.proofs.Assuming.{assumed_begun, assumed_more}
use Rattle.ab_theory.proofs.Rooted.{first_sequent, open_are_sequents}
use Rattle.ab_derived_goals.specs.Derived.{AreSound, IsDerived, IsDerivedAlike}
use Rattle.ab_derived_goals.specs.Extended.{IsExtended}
use Rattle.ab_derived_goals.proofs.Extending.{extended}
use Rattle.ab_renumbered_derivations.proofs.Derivations.{also}
use Rattle.ab_command_derivations.specs.OpenProofs.{IsProofOf, HasProof}

-- the goal that a proof begins with is a sequent
sentence_sequent : (D : Declarations) (F : Read) → IsSentence (signature_in D) F → IsSequent D (proves F 0)
sentence_sequent D F is =
    let one : HasOneTypeEach (support F) = subst HasOneTypeEach (sym is.nameless) (λ a b m k e. absurd (Contains-none a m)) in
    first_sequent D F 0 is.formula is.closed one

pub begun : (D : Declarations) (F : Read) → IsSentence (signature_in D) F → HasProof D F (named (proves F 0) ∷ []) []
begun D F is = (goal (proves F 0), record { sentence = is; derives = refl; valid = tt; leaves = refl; assumes = sym (assumed_begun D (proves F 0)) })

pub ended : (D : Declarations) (F : Read) (js : List ℕ) (d : Derivation) → IsProofOf D F [] js d → IsTreeOf D F d
ended D F js d p = record { sentence = p.sentence; valid = p.valid; closed = none_left (open_goals d) p.leaves; derives = p.derives }
  where
    none_left : (ss : List Sequent) → map named ss ≡ [] → ss ≡ []
    none_left [] e = refl
    none_left (s ∷ ss) e = absurd (cc)

-- the current goal, as it is open
record IsCurrent (d : Derivation) (g : Goal) (gs : List Goal) : Type 0 where
  first : Sequent
  rest : List Sequent
  opened : open_goals d ≡ first ∷ rest
  is : named first ≡ g
  behind : map named rest ≡ gs

current : (d : Derivation) (g : Goal) (gs : List Goal) → map named (open_goals d) ≡ g ∷ gs → IsCurrent d g gs
current d g gs e = go (open_goals d) refl e
  where
    go : (ss : List Sequent) → open_goals d ≡ ss → map named ss ≡ g ∷ gs → IsCurrent d g gs
    go [] is e = absurd (cc)
    go (s ∷ ss) is e =
        let first : named s ≡ g = cc in
        let rest : map named ss ≡ gs = cc in
        record { first = s; rest = ss; opened = is; is = first; behind = rest }

module _ (D : Declarations) (sound : AreSound D) where
  pub sequents_left : (F : Read) (gs : List Goal) (js : List ℕ) → HasProof D F gs js → All (λ (g : Goal). (t : Sequent) × IsNumbered D g t) gs
  sequents_left F gs js (d, p) =
      let are = open_are_sequents D sound.sentences sound.definitions sound.programs sound.member d p.valid (subst (IsSequent D) (sym p.derives) (sentence_sequent D F p.sentence)) in
      subst (All (λ (g : Goal). (t : Sequent) × IsNumbered D g t)) p.leaves (each (open_goals d) are)
    where
      each : (ss : List Sequent) → All (IsSequent D) ss → All (λ (g : Goal). (t : Sequent) × IsNumbered D g t) (map named ss)
      each [] all = All-nil (λ (g : Goal). (t : Sequent) × IsNumbered D g t)
      each (s ∷ ss) all =
          All-cons (λ (g : Goal). (t : Sequent) × IsNumbered D g t) (named s) (map named ss) (s, record { is = refl; sequent = All-head (IsSequent D) s ss all }) (each ss (All-tail (IsSequent D) s ss all))

  -- AN EXTENDED DERIVATION is one of the formula
  extended_proof : (F : Read) (gs hs : List Goal) (js : List ℕ) (d x : Derivation) (rs rest : List Sequent) (g : Goal) (owed : List Debt) → IsProofOf D F (g ∷ gs) js d → IsExtended D d rs rest owed x → map named rs ≡ hs → map named rest ≡ gs
      → IsProofOf D F (hs ++ gs) (with_debts D owed js) x
  extended_proof F gs hs js d x rs rest g owed p v first behind = record {
    sentence = p.sentence;
    derives = v.derives ∙ p.derives;
    valid = v.valid;
    leaves = ap (map named) v.leaves ∙ map-append named rs rest ∙ ap (λ l. l ++ map named rest) first ∙ ap (λ l. hs ++ l) behind;
    assumes = ap (with_debts D owed) p.assumes ∙ sym (assumed_more D owed d x v.owes);
  }

  -- what is derived of one sequent is so of another that is the same with names for numbers
  derived_also : (t s : Sequent) (ps : List Sequent) (owed : List Debt) → IsSequent D t → IsSequent D s → named t ≡ named s → IsDerivedAlike D t ps owed → IsDerivedAlike D s ps owed
  derived_also t s ps owed is its same (qs, (e, w), goals) =
      let (rs, derived, other) = also D sound e s w.valid (subst (IsSequent D) (sym w.derives) is) its (ap named w.derives ∙ same) in
      (rs, subst (IsDerived D s rs) w.owes derived, other ∙ ap (map named) w.leaves ∙ goals)

  -- IT GOES ON
  pub goes_on : (F : Read) (g : Goal) (gs : List Goal) (js : List ℕ) (t : Sequent) (ps : List Sequent) (owed : List Debt) → HasProof D F (g ∷ gs) js → IsNumbered D g t → IsDerivedAlike D t ps owed
      → HasProof D F (map named ps ++ gs) (with_debts D owed js)
  goes_on F g gs js t ps owed (d, p) numbered derived =
      let c = current d g gs p.leaves in
      let are = open_are_sequents D sound.sentences sound.definitions sound.programs sound.member d p.valid (subst (IsSequent D) (sym p.derives) (sentence_sequent D F p.sentence)) in
      let is = All-head (IsSequent D) c.first c.rest (subst (All (IsSequent D)) c.opened are) in
      let (rs, there, same) = derived_also t c.first ps owed numbered.sequent is (sym numbered.is ∙ sym c.is) derived in
      let (x, v) = extended D c.first rs owed there d c.rest p.valid c.opened in
      (x, extended_proof F gs (map named ps) js d x rs c.rest g owed p v same c.behind)
